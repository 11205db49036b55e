use mathlib.Core.Path.{◌≡◌, sym, ◌∙◌}
use native.Mathlib.Numerals.{add-one}
use native.Mathlib.Omega.{arith}
use Rattle.outcome.proofs.Laws.{order_next, order_refused}
use Rattle.outcome.proofs.Table.{passed_on}
use Rattle.outcome.specs.Table.{answered}
use Rattle.inspect.proofs.Laws.{check_at, same-header}
use Rattle.inspect.proofs.check_fragments.Goals as goal
use Rattle.inspect.proofs.check_fragments.Goals.{After-fragment_checks}

-- this turn's checks are those of place p
here : (c : After-fragment_checks) → answered c.fragment_checks.result ≡ check_at c.args.stream.now.header c.args.stream.now.file.now c.loop-p.p
here c = rw (c.place.ensures.0, c.place.ensures.1, c.fragment.ensures) at c.fragment_checks.ensures

pub returns-in_err-fragment_checks : goal.returns-in_err-fragment_checks
returns-in_err-fragment_checks c =
    let refused = rw c.in_err-fragment_checks.was at (here (goal.at.returns-in_err-fragment_checks c).After-fragment_checks) in
    passed_on _ _ _ c.from_residual.ensures.1 (sym (order_refused _ _ _ _ c.loop-p.invariant (sym refused) (omega arith)))

pub loop-p-preserved : goal.loop-p-preserved
loop-p-preserved c =
    let passed = rw c.in_ok-fragment_checks.was at (here (goal.at.loop-p-preserved c).After-fragment_checks) in
    rw add-one (order_next _ _ _ c.loop-p.invariant ∙ same-header _ _ _ passed)
