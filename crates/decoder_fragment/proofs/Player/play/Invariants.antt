-- `decoder_fragment::Player::play` meets its contract. The invariants: the first k fragments are unpacked, and their lanes stand at their
-- starts; and then the first k are played. Assumes nothing.
use Prim.Native.Nat.{◌+◌, ◌/◌}
use lib.ListN.{get_or}
use Rattle.sqv4_format.specs.Layout.{count, fragment_at_place}
use Rattle.sqv4_format.specs.declared.Reached.{Reached}
use Rattle.decoder_fragment.specs.Play.{Started, Played}
use Rattle.decoder_fragment.proofs.Lanes.{EachOf}
use Rattle.decoder_fragment.proofs.Player.play.Given as goal

abbrev pub invariant-loop-k : goal.invariant-loop-k
invariant-loop-k g l =
    EachOf (λ j codes lane. (d : Reached) → Started l.self.tables.coding.version l.self.tables.coding.variant (fragment_at_place l.self.stream.header l.self.stream.file.now (l.p + j)) (get_or l.states j d).state codes lane)
    g.row.N l.k l.codes l.lanes

abbrev pub invariant-loop-k-2 : goal.invariant-loop-k-2
invariant-loop-k-2 g l =
    let h = l.self.stream.header in
    EachOf (λ j (r : Reached) xs. (d : Reached) → Played h l.self.stream.file.now (l.p + j) (count h (l.p / h.channels)) (get_or l.states j d).state r.state xs)
    g.row.N l.k l.after l.samples
