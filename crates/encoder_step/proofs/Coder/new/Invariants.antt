-- `encoder_step::Coder::new` meets its contract: the loop fills the table of sizes. Assumes nothing.
use Rattle.lists.proofs.ByIndex.{Filled}
use Rattle.encoder_step.specs.Advance.{size_entry}
use Rattle.encoder_step.proofs.Coder.new.Given as goal

abbrev pub invariant-loop-k : goal.invariant-loop-k
invariant-loop-k l = Filled (size_entry l.settings.variant) 356 l.k l.size-items
