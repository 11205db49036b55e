-- `fragment_plain::apply_gain` meets its contract: the invariant is the record `Gained` of proofs/Run. Assumes nothing.
use Rattle.sqv4_format.specs.Gain.{output_gain}
use Rattle.fragment_plain.proofs.Run.{Gained}
use Rattle.fragment_plain.proofs.apply_gain.Given as goal

abbrev pub invariant-loop-sample : goal.invariant-loop-sample
invariant-loop-sample l = Gained (output_gain l.coding.version l.volume) l.initial.samples l.sample-index l.samples
