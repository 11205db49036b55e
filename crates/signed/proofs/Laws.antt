-- The laws of signed numbers: they turn a test or a bound on ℤ into a fact on ℕ, which omega reads. Assumes nothing.
use mathlib.Core.Path.{◌≡◌, refl}
use mathlib.Core.Bool.{Bool, true, false}
use native.Mathlib.Nat.{zero-div}
use Prim.Native.Nat.{ℕ, zero, suc, ◌*◌, ◌/◌, ◌<◌, ◌≤◌, ◌^◌, min}
use native.Mathlib.Omega.{arith}
use lib.IntN.{ℤ, pos, negsuc, neg_ℤ, nat_abs, ◌-ℤ◌, ◌*ℤ◌}
use lib.Signed.{mag, lt_z, quot_z}
use mir.Syntax.{w16, w32}
use mir.Val.{SFits, to_z, of_z}
use mir.Facts.{to_z-of_z}
use Rattle.std.specs.Int.{int_min, int_max, saturate_unsigned}
use Rattle.std.proofs.lemmas.Int.{ints, clamps}
use Rattle.signed.specs.Signed.{is_neg, with_sign, on_magnitude, clamp16, clamp_to, depth}

-- std's test of the sign
pub is_neg_is : (z : ℤ) → lt_z z (pos 0) ≡ is_neg z
unfolding is_neg
is_neg_is (pos n) = grind (arith, ints)
is_neg_is (negsuc n) = refl

-- ---- bounds
mag_le : (z : ℤ) → mag z ≤ nat_abs z
mag_le (pos n) = omega arith
mag_le (negsuc n) = omega arith

-- ---- what a local of a signed type holds is read back: of a parameter x, `to_z-of_z c.fits.x`; of a call's result, `back32 c.f.result c.f.ok`
pub back32 : (z : ℤ) → mag z < 2 ^ 31 → to_z w32 (of_z w32 z) ≡ z
back32 z h = omega (arith, ints)

pub back16 : (z : ℤ) → mag z < 2 ^ 15 → to_z w16 (of_z w16 z) ≡ z
back16 z h = omega (arith, ints)

-- of a number of 16 bits in a local of 32
pub read16 : (z : ℤ) → mag z ≤ 32767 → to_z w32 (of_z w32 z) ≡ z
read16 z h = omega (arith, ints)

pub sample_read : {z : ℤ} → SFits w16 z → to_z w32 (of_z w32 (to_z w16 (of_z w16 z))) ≡ z
sample_read {z} h = rw (to_z-of_z h) (read16 z (omega (arith, h.sfits)))

-- of a cast from an unsigned type
pub up32 : (n : ℕ) → n < 2 ^ 31 → to_z w32 n ≡ pos n
up32 n h = omega (arith, ints)

-- a signed result, with its bound
abbrev pub Read : ℤ → ℤ → ℕ → Type 0
Read z a m = (to_z w32 (of_z w32 z) ≡ a) × (nat_abs (to_z w32 (of_z w32 z)) ≤ m)

pub small_read : (z a : ℤ) (m : ℕ) → z ≡ a → nat_abs a ≤ m → m < 2 ^ 31 → Read z a m
small_read z a m e h k =
    let b : to_z w32 (of_z w32 z) ≡ a = rw e (back32 a (omega (arith, mag_le a))) in
    (b, rw b h)

-- ---- sign and magnitude
pub nat_abs-with_sign : (b : Bool) (m : ℕ) → nat_abs (with_sign b m) ≡ m
unfolding with_sign
nat_abs-with_sign true m = omega (arith, ints)
nat_abs-with_sign false m = refl

-- a number of the same sign and no larger magnitude lies in no larger range
pub mag_with_sign : (z : ℤ) (q : ℕ) → q ≤ nat_abs z → mag (with_sign (is_neg z) q) ≤ mag z
unfolding is_neg with_sign
mag_with_sign (pos n) q h = h
mag_with_sign (negsuc n) q h = omega (arith, ints)

pub on_pos : (f : ℕ → ℕ) (n : ℕ) → on_magnitude f (pos n) ≡ pos (f n)
unfolding on_magnitude is_neg with_sign
on_pos f n = refl

pub on_neg : (f : ℕ → ℕ) (n : ℕ) → on_magnitude f (negsuc n) ≡ neg_ℤ (pos (f (suc n)))
unfolding on_magnitude is_neg with_sign
on_neg f n = refl

pub mag_on : (f : ℕ → ℕ) (z : ℤ) → f (nat_abs z) ≤ nat_abs z → mag (on_magnitude f z) ≤ mag z
unfolding on_magnitude
mag_on f z h = mag_with_sign z (f (nat_abs z)) h

-- x × g / d of signed numbers, cut toward zero, acts on the magnitude
pub quot_on : (x : ℤ) (g d : ℕ) → quot_z (x *ℤ pos g) (pos d) ≡ on_magnitude (λ m. m * g / d) x
unfolding on_magnitude is_neg with_sign
quot_on (pos n) g d = refl
quot_on (negsuc n) g d = neg-quot (suc n * g) d
  where
    neg-quot : (m d : ℕ) → quot_z (neg_ℤ (pos m)) (pos d) ≡ neg_ℤ (pos (m / d))
    neg-quot zero d = rw zero-div
    neg-quot (suc m) d = refl

-- ---- the clamps, which are std's
pub clamp16_is : (z : ℤ) → int_max (negsuc 32767) (int_min z (pos 32767)) ≡ clamp16 z
unfolding clamp16
clamp16_is (pos n) = omega (arith, ints, clamps)
clamp16_is (negsuc n) = omega (arith, ints, clamps)

pub clamp_to_is : (top : ℕ) (z : ℤ) → int_max (pos 0) (int_min z (pos top)) ≡ pos (clamp_to top z)
unfolding clamp_to
clamp_to_is top (pos n) = omega (arith, ints, clamps)
clamp_to_is top (negsuc n) = refl

pub saturated_to : (top : ℕ) (z : ℤ) → top < 2 ^ 32 → min (saturate_unsigned w32 z) top ≡ clamp_to top z
unfolding clamp_to
saturated_to top (pos n) h = omega arith
saturated_to top (negsuc n) h = omega arith

pub clamp_fits : (z : ℤ) → mag (clamp16 z) ≤ 32767
unfolding clamp16
clamp_fits (pos n) = omega arith
clamp_fits (negsuc n) = omega arith

pub clamp_to_le : (top : ℕ) (z : ℤ) → clamp_to top z ≤ top
unfolding clamp_to
clamp_to_le top (pos n) = omega arith
clamp_to_le top (negsuc n) = omega arith

-- a number in the range stays
pub clamp_pos : (n : ℕ) → n ≤ 32767 → clamp16 (pos n) ≡ pos n
clamp_pos n h = omega (arith, ints, clamps, clamp16_is (pos n))

pub clamp_neg : (n : ℕ) → n ≤ 32768 → clamp16 (neg_ℤ (pos n)) ≡ neg_ℤ (pos n)
clamp_neg n h = omega (arith, ints, clamps, clamp16_is (neg_ℤ (pos n)))

-- ---- the depth of a 16-bit number below 32767
pub depth_is : (z : ℤ) → mag z ≤ 32767 → pos 32767 -ℤ z ≡ pos (depth z)
unfolding depth
depth_is (pos n) h = omega (arith, ints)
depth_is (negsuc n) h = omega (arith, ints)

pub depth_le : (z : ℤ) → mag z ≤ 32767 → depth z ≤ 65535
depth_le z h = omega (arith, ints, depth_is z h)

-- the number at a depth
pub depth_back : (z : ℤ) → mag z ≤ 32767 → pos 32767 -ℤ pos (depth z) ≡ z
depth_back z h = omega (arith, ints, depth_is z h)
