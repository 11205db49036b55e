-- `decoder::decode_lanes` meets its contract. Assumes nothing.
use Prim.Native.Nat.{◌+◌}
use mathlib.Core.List.{List}
use lib.IntN.{ℤ}
use Rattle.decoder.specs.Loops.{Decoding}
use Rattle.decoder.proofs.Lanes.{Taken}
use Rattle.decoder.proofs.decode_lanes.Given as goal

abbrev pub invariant-loop-k : goal.invariant-loop-k
invariant-loop-k g l = Taken l.player.stream.header.channels l.p g.row.N l.k l.states l.state-items

abbrev pub invariant-loop-k-2 : goal.invariant-loop-k-2
invariant-loop-k-2 g l =
    let stream = l.player.stream in
    (o : List ℤ) → Decoding stream.header stream.file.now o l.p l.initial.out l.initial.states → Decoding stream.header stream.file.now o (l.p + l.k) l.out l.states
