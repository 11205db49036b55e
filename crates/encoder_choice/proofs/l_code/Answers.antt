-- `encoder_choice::l_code` meets its contract. Assumes nothing.
use mathlib.Core.Path.{◌≡◌, sym, ap}
use Prim.Native.Nat.{◌-◌}
use native.Mathlib.Omega.{arith}
use mir.Syntax.{w16}
use mir.Val.{to_z, of_z}
use mir.Facts.{to_z-of_z}
use Rattle.sqv4_format.specs.Encode.{Choice, choice, l_code}
use Rattle.encoder_choice.proofs.Nearest.{first, better, as_good}
use Rattle.encoder_choice.proofs.l_code.Goals as goal
use Rattle.encoder_choice.proofs.l_code.Goals.{then-error-best_error, else-error-best_error}

pub loop-code-init : goal.loop-code-init
loop-code-init c =
    let a = c.args in
    let f = choice a.variant a.state.state (to_z w16 (of_z w16 a.input)) in
    (omega arith, rw c.error_of-best_error.ensures (first f))

pub loop-code-preserved : goal.loop-code-preserved
loop-code-preserved c =
    let l = c.loop-code in
    let e = c.error_of-error.ensures in
    let a = c.args in
    let f = choice a.variant a.state.state (to_z w16 (of_z w16 a.input)) in
    elim c.if-error-best_error.branch [
      | then-error-best_error w ↦ (
        omega arith,
        rw (w.best_code-is, w.best_error-is, e) (better f l.code l.best_code l.best_error l.auto.code l.invariant.1 (omega (arith, w.if-error-best_error.true))),
      )
      | else-error-best_error w ↦ (
        omega arith,
        rw (w.best_code-is, w.best_error-is) (as_good f l.code l.best_code l.best_error l.auto.code l.invariant.1 (omega (arith, w.if-error-best_error.false))),
      )
    ]

pub returns : goal.returns
unfolding l_code
returns c =
    let l = c.loop-code in
    let e : l.code - 1 ≡ 7 = omega (arith, c.loop-code-test.false) in
    (sym (ap (λ (b : Choice). b.code) (rw (e, to_z-of_z c.ranges.input) at l.invariant.1.is)), l.invariant.0)
