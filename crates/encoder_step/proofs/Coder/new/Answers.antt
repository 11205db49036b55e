-- `encoder_step::Coder::new` meets its contract. Assumes nothing.
use Rattle.std.proofs.Common.{refl, arith}
use Rattle.lists.proofs.ByIndex.{filled_none, filled_more}
use Rattle.encoder_step.proofs.Coder.new.Goals as goal

pub loop-k-init : goal.loop-k-init
loop-k-init c = filled_none _ _ refl

pub loop-k-preserved : goal.loop-k-preserved
loop-k-preserved c = filled_more _ _ c.loop-k.invariant (omega arith) (rw (c.l_size.ensures.0, c.level-level.ensures.0, c.written-coding.ensures, c.step_size-step.ensures.value))
