-- `decoder_fragment::apply_gain` meets its contract. Assumes nothing.
use native.Mathlib.Omega.{arith}
use mathlib.Core.Path.{◌∙◌}
use Rattle.signed.proofs.Laws.{back16}
use Rattle.lists.proofs.ByIndex.{filled_none, filled_more}
use Rattle.decoder_fragment.proofs.apply_gain.Goals as goal

pub loop-i-init : goal.loop-i-init
loop-i-init c = filled_none _ _ c.told-samples

pub loop-i-preserved : goal.loop-i-preserved
loop-i-preserved c =
    filled_more _ _ c.loop-i.invariant (omega arith)
    (back16 c.output_gain.result c.output_gain.type_inv ∙ c.output_gain.ensures ∙ rw (back16 c.at_depth.result c.at_depth.type_inv, c.at_depth.ensures))
