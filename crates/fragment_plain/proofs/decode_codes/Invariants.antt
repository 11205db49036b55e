-- `fragment_plain::decode_codes` meets its contract: the invariant is the record `Decoded` of proofs/Run. Assumes nothing.
use Rattle.fragment_plain.proofs.Run.{Decoded}
use Rattle.fragment_plain.proofs.decode_codes.Given as goal

abbrev pub invariant-loop-i : goal.invariant-loop-i
invariant-loop-i l = Decoded l.coding.version l.coding.variant l.codes l.initial.state.state l.volume l.initial.out l.i l.out l.state.state
