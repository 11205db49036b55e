use mathlib.Core.Path.{refl}
use Prim.Native.Nat.{◌-◌}
use native.Mathlib.Omega.{arith}
use Rattle.digits.specs.Digits.{number, digits}
use Rattle.digits.proofs.Laws.{small_drop}
use Rattle.digits.proofs.Regrouping.{held_none, held_digit, held_low, held_high, next_or_zero, written_more}
use Rattle.digits.proofs.regroup.Goals as goal

pub loop-digit-init : goal.loop-digit-init
unfolding digits
loop-digit-init c = rw c.iter-digits.ensures.rest (refl, c.args.src.small, held_none c.args.src.bits c.args.bits c.args.src.codes.now)

pub loop-have-preserved : goal.loop-have-preserved
loop-have-preserved c =
    let (small, held) = c.loop-have.invariant in
    let (digit, after) = next_or_zero c.loop-have.digits c.next.new.self c.next.result c.next.ensures.steps in
    rw (after, c.unwrap_or.ensures, c.copied.ensures, digit, c.pow2.ensures.0)
    (small_drop c.args.src.bits c.loop-have.digits.rest.now small 1, held_digit held small refl)

pub loop-digit-preserved : goal.loop-digit-preserved
loop-digit-preserved c =
    let (small, held) = c.loop-have.invariant in
    rw (c.pow2-in-loop-digit.ensures.0, c.pow2-acc.ensures.0) (
      written_more c.args.bits (number c.args.src.bits c.args.src.codes.now) c.loop-digit.out c.loop-digit.invariant.0 (omega arith) (held_low held (c.loop-have.have - c.args.bits) (omega arith)),
      small,
      held_high held (c.loop-have.have - c.args.bits) (omega arith) refl,
    )
