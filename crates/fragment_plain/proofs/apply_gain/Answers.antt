-- `fragment_plain::apply_gain` meets its contract. Assumes nothing.
use native.Mathlib.Omega.{arith}
use mathlib.Core.Path.{◌∙◌}
use lib.IntN.{pos}
use lib.ListN.{get_or}
use Rattle.signed.proofs.Laws.{back16}
use Rattle.fragment_plain.proofs.Run.{gained_none, gained_more, gained_all}
use Rattle.fragment_plain.proofs.apply_gain.Goals as goal

pub loop-sample-init : goal.loop-sample-init
loop-sample-init c = gained_none _ _

pub loop-sample-preserved : goal.loop-sample-preserved
loop-sample-preserved c = gained_more _ _ c.loop-sample.invariant (omega arith)
    (back16 c.output_gain.result c.output_gain.type_inv ∙ c.output_gain.ensures ∙ rw (back16 (get_or c.loop-sample.samples c.loop-sample.sample-index (pos 0)) (omega arith)))

pub returns : goal.returns
returns c = gained_all _ _ c.loop-sample.invariant (omega arith)
