-- Normalising and output gain keep 16 bits. Assumes nothing.
use Rattle.std.proofs.Common.{◌≡◌, ℕ, ◌+◌, ◌*◌, ◌/◌, ◌≤◌, Bool, true, false, cond, ℤ, nat_abs, refl, ap, mul-le-mul_left, arith}
use lib.Signed.{mag}
use Rattle.signed.specs.Signed.{is_neg, with_sign, on_magnitude}
use Rattle.signed.proofs.Laws.{mag_with_sign, clamp_fits}
use Rattle.sqv4_format.specs.Layout.{anew}
use Rattle.sqv4_format.specs.Gain.{nearest, normalised, output_gain}
use Rattle.gain.specs.Rounding.{rounding}

-- a gain of at most 1, cut or to nearest, does not raise a magnitude
gain_le : (m g half : ℕ) → g ≤ 255 → half ≤ 127 → (m * g + half) / 255 ≤ m
gain_le m g half hg hh = omega (arith, mul-le-mul_left m hg)

pub scaled_fits : (g half : ℕ) (x : ℤ) → g ≤ 255 → half ≤ 127 → mag (with_sign (is_neg x) ((nat_abs x * g + half) / 255)) ≤ mag x
scaled_fits g half x hg hh = mag_with_sign x _ (gain_le (nat_abs x) g half hg hh)

pub normalised_fits : (v : ℕ) (x : ℤ) → mag (normalised v x) ≤ 32767
unfolding normalised
normalised_fits v x = clamp_fits (on_magnitude (λ m. nearest (m * 255) v) x)

-- the output gain is one division, with the version's rounding
pub output_scaled : (version v : ℕ) (x : ℤ) → with_sign (is_neg x) ((nat_abs x * v + rounding version) / 255) ≡ output_gain version v x
unfolding output_gain on_magnitude
output_scaled version v x = go (anew version)
  where
    go : (b : Bool) → with_sign (is_neg x) ((nat_abs x * v + cond b 127 0) / 255) ≡ with_sign (is_neg x) (cond b (nearest (nat_abs x * v) 255) (nat_abs x * v / 255))
    go true = refl
    go false = ap (with_sign (is_neg x)) (omega arith)
