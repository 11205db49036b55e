-- Numbers of 16 bits, raised to 0..65535: the order, the distance and the clamped sum as facts on ℕ, which omega reads. Assumes
-- nothing.
use mathlib.Core.Path.{◌≡◌, refl}
use mathlib.Core.Bool.{true, false}
use Prim.Native.Nat.{ℕ, ◌+◌, ◌-◌, ◌≤◌, min}
use native.Mathlib.Omega.{arith}
use lib.Dec.{ltb}
use lib.IntN.{ℤ, pos, negsuc, neg_ℤ, nat_abs, ◌+ℤ◌, ◌-ℤ◌}
use lib.Signed.{mag, lt_z}
use Rattle.std.proofs.lemmas.Int.{ints, clamps}
use Rattle.std.proofs.lemmas.Bool.Decides.{nat_tests}
use Rattle.signed.specs.Signed.{with_sign, clamp16, raised}
use Rattle.signed.proofs.Laws.{clamp16_is, clamp_fits}

-- to and from
pub raise_is : (z : ℤ) → mag z ≤ 32767 → z +ℤ pos 32768 ≡ pos (raised z)
unfolding raised
raise_is (pos n) h = refl
raise_is (negsuc n) h = omega (arith, ints)

pub raised_high : (z : ℤ) → mag z ≤ 32767 → raised z ≤ 65535
raised_high z h = omega (arith, ints, raise_is z h)

pub lower_is : (u : ℕ) → u ≤ 65535 → (raised (pos u -ℤ pos 32768) ≡ u) × (mag (pos u -ℤ pos 32768) ≤ 32767)
unfolding raised
lower_is u h = at (pos u -ℤ pos 32768) refl
  where
    at : (z : ℤ) → z ≡ pos u -ℤ pos 32768 → (raised z ≡ u) × (mag z ≤ 32767)
    at (pos n) e = (omega (arith, ints), omega (arith, ints))
    at (negsuc n) e = (omega (arith, ints), omega (arith, ints))

-- the order and the distance of two
module _ (x y : ℤ) (h : mag x ≤ 32767) (k : mag y ≤ 32767) where
  pub raised-same : raised x ≡ raised y → x ≡ y
  raised-same e = omega (arith, ints, raise_is x h, raise_is y k)

  pub raised_less : lt_z x y ≡ ltb (raised x) (raised y)
  raised_less =
      let e = raise_is x h in
      let f = raise_is y k in
      grind (arith, ints, nat_tests)

  pub raised-apart : nat_abs (x -ℤ y) ≡ raised x - raised y + (raised y - raised x)
  raised-apart = omega (arith, ints, raise_is x h, raise_is y k)

-- the clamped sum
pub raised_down : (z : ℤ) (m : ℕ) → mag z ≤ 32767 → raised (clamp16 (z +ℤ with_sign true m)) ≡ raised z - m
unfolding with_sign
raised_down z m h =
    let s = z +ℤ neg_ℤ (pos m) in
    omega (arith, ints, clamps, raise_is z h, clamp16_is s, raise_is (clamp16 s) (clamp_fits s))

pub raised_up : (z : ℤ) (m : ℕ) → mag z ≤ 32767 → raised (clamp16 (z +ℤ with_sign false m)) ≡ min (raised z + m) 65535
unfolding with_sign
raised_up z m h =
    let s = z +ℤ pos m in
    omega (arith, ints, clamps, raise_is z h, clamp16_is s, raise_is (clamp16 s) (clamp_fits s))
