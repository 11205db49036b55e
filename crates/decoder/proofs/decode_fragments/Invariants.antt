-- `decoder::decode_fragments` meets its contract. Assumes nothing.
use Prim.Native.Nat.{◌*◌}
use Rattle.decoder.specs.Loops.{Decoding}
use Rattle.decoder.proofs.decode_fragments.Given as goal

abbrev pub invariant-loop-i : goal.invariant-loop-i
invariant-loop-i l = Decoding l.player.stream.header l.player.stream.file.now l.fn.out (2 * l.i) l.out l.states

abbrev pub invariant-loop-p : goal.invariant-loop-p
invariant-loop-p l = Decoding l.player.stream.header l.player.stream.file.now l.fn.out l.p l.out l.states
