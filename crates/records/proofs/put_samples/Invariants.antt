-- `records::put_samples` meets its contract. The loop's invariant: the samples so far are printed. Assumes nothing.
use lib.IntN.{pos}
use lib.ListN.{get_or}
use Rattle.lists.specs.Lists.{joined}
use Rattle.digits.specs.Digits.{stored}
use Rattle.signed.specs.Signed.{to_twos}
use Rattle.text.specs.Printer.{Printed}
use Rattle.records.proofs.put_samples.Given as goal

abbrev pub invariant-loop-sample : goal.invariant-loop-sample
invariant-loop-sample l = Printed l.initial.answer (joined (λ i. stored 2 (to_twos (get_or l.samples i (pos 0)))) l.sample-index) l.answer
