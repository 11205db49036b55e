-- The output gain of version 3 on raised numbers: one division for both signs. Assumes nothing.
use Rattle.std.proofs.Common.{◌≡◌, ℕ, zero, suc, ◌+◌, ◌-◌, ◌*◌, ◌/◌, ◌≤◌, true, ℤ, pos, negsuc, sym, refl, ap, ◌∙◌, add-mul, mul-le-mul_left, arith}
use lib.Signed.{mag}
use Rattle.signed.specs.Signed.{is_neg, with_sign, raised}
use Rattle.sqv4_format.specs.Layout.{encoder_version}
use Rattle.sqv4_format.specs.Gain.{output_gain}
use Rattle.gain.proofs.Laws.{scaled_fits, output_scaled}

raised_negated : (q : ℕ) → raised (with_sign true q) ≡ 32768 - q
unfolding raised with_sign
raised_negated zero = refl
raised_negated (suc k) = omega arith

module _ (v : ℕ) (hv : v ≤ 255) where
  above : (z : ℕ) → (z + 32768 * v + 32768 * (255 - v) + 127) / 255 ≡ (z + 127) / 255 + 32768
  above z = omega arith

  below : (z u : ℕ) → z ≤ 8355840 → u + z ≡ 32768 * v → (u + 32768 * (255 - v) + 127) / 255 ≡ 32768 - (z + 127) / 255
  below z u h e = omega arith

  pub raised_gain : (x : ℤ) → mag x ≤ 32767 → (raised x * v + 32768 * (255 - v) + 127) / 255 ≡ raised (output_gain encoder_version v x)
  unfolding raised is_neg with_sign
  raised_gain (pos a) h =
      ap (λ n. (n + 32768 * (255 - v) + 127) / 255) (add-mul a 32768 v) ∙ above (a * v) ∙ ap raised (output_scaled encoder_version v (pos a))
  raised_gain (negsuc n) h =
      let e : 32767 - n + suc n ≡ 32768 = omega arith in
      let u = ap (◌* v) e in
      let w = add-mul (32767 - n) (suc n) v in
      below (suc n * v) ((32767 - n) * v) (omega (arith, mul-le-mul_left (suc n) hv)) (omega arith)
      ∙ sym (raised_negated ((suc n * v + 127) / 255))
      ∙ ap raised (output_scaled encoder_version v (negsuc n))

  pub output_fits : (x : ℤ) → mag x ≤ 32767 → mag (output_gain encoder_version v x) ≤ 32767
  output_fits x h = rw (← output_scaled encoder_version v x) (omega (arith, scaled_fits v 127 x hv (omega arith)))
