-- `decoder_fragment::run` meets its contract. Assumes nothing.
use native.Mathlib.Omega.{arith}
use mathlib.Core.Path.{refl, ◌∙◌}
use Rattle.decoder_fragment.proofs.Running.{ran_none, turning_none, turning_more, turning_all}
use Rattle.decoder_fragment.proofs.run.Goals as goal

pub loop-i-init : goal.loop-i-init
loop-i-init g c = record { depths_long = c.told-depths; lanes_long = c.told-lanes; each = λ k l d. ran_none (c.requires.long k l) (c.requires.same k l d) refl }

pub loop-k-init : goal.loop-k-init
loop-k-init g c = turning_none c.loop-i.invariant

pub loop-k-preserved : goal.loop-k-preserved
loop-k-preserved g c =
    turning_more _ _ c.loop-k.invariant c.loop-k-test.true (omega (arith, c.loop-i-test.true, c.requires.few)) c.index-lanes-k.is c.step-next.ensures.0 c.step-next.ensures.1 (c.depth.ensures ∙ rw c.step-next.ensures.0)

pub loop-i-preserved : goal.loop-i-preserved
loop-i-preserved g c = turning_all c.loop-k.invariant (omega arith)
