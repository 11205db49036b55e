-- A fragment's bytes, of silence and of the best trial. Assumes nothing.
use mathlib.Core.Path.{◌≡◌, refl, ◌∙◌, ap}
use mathlib.Core.List.{List, ◌∷◌, map}
use Prim.Native.Nat.{ℕ, zero, suc, ◌+◌, ◌≤◌}
use native.Mathlib.Nat.{le_refl}
use native.Mathlib.Omega.{arith}
use lib.IntN.{ℤ, pos, negsuc, nat_abs}
use lib.ListN.{length, get_or, replicate, length-map}
use borrow.Author.Tests.{ne_eqb}
use Rattle.std.proofs.lemmas.List.{get_or-map}
use Rattle.digits.specs.Digits.{number, digits}
use Rattle.sqv4_format.specs.Layout.{encoder_version, payload_bytes, fragment_size}
use Rattle.signed.specs.Signed.{is_neg, with_sign, on_magnitude}
use Rattle.sqv4_format.specs.Gain.{pregained, peak, own_volume}
use Rattle.sqv4_format.specs.Encode.{best_trial, fragment_bytes, encoded_fragment}
use Rattle.sqv4_format.specs.declared.Settings.{Settings}

-- ---- zeros

zeros : (n : ℕ) → replicate n 0 ≡ digits 8 n 0
unfolding digits
zeros zero = refl
zeros (suc n) = cc (zeros n)

-- ---- silence

-- samples that are all 0 stay so
module _ (g : ℕ) (samples : List ℤ) where
  still : (z : ℤ) → nat_abs z ≡ 0 → nat_abs (pregained g z) ≡ 0
  unfolding pregained on_magnitude is_neg with_sign
  still (pos n) e = let z : n ≡ 0 = e in rw z (omega arith)
  still (negsuc n) e = let z : ⊥ = omega arith in absurd z

  peak_still : (n : ℕ) → n ≤ length samples → peak samples n ≡ 0 → peak (map (pregained g) samples) n ≡ 0
  unfolding peak
  peak_still zero l e = refl
  peak_still (suc n) l e =
      let here : nat_abs (get_or (map (pregained g) samples) n (pos 0)) ≡ 0 =
      ap nat_abs (get_or-map (pregained g) samples n (pos 0) (pos 0) l) ∙ still (get_or samples n (pos 0)) (omega arith) in
      omega (arith, peak_still n (omega arith) (omega arith), here)

  pub silent_volume : peak samples (length samples) ≡ 0 → own_volume (map (pregained g) samples) ≡ 0
  silent_volume e = rw (length-map, peak_still (length samples) (le_refl _) e)

-- ---- the bytes of a fragment

two_zeros : (n : ℕ) → digits 8 (2 + n) 0 ≡ 0 ∷ 0 ∷ digits 8 n 0
unfolding digits
two_zeros n = let e : 2 + n ≡ suc (suc n) = omega arith in rw e

module _ (k : Settings) (samples xs : List ℤ) (v : ℕ) (ex : xs ≡ map (pregained k.gain) samples) (ev : v ≡ own_volume xs) where
  pub silent_bytes : (n : ℕ) {out : List ℕ} → out ≡ replicate n 0 → n ≡ fragment_size encoder_version k.variant → v ≡ 0 → out ≡ encoded_fragment k samples
  unfolding encoded_fragment fragment_bytes digits number
  silent_bytes n eo en e0 =
      let z : own_volume xs ≡ 0 = rw (← ev) e0 in
      rw (eo, zeros, en, ← ex, z) (two_zeros (payload_bytes k.variant))

  pub best_bytes : {out : List ℕ} → out ≡ fragment_bytes k.variant v (best_trial k v xs) → (v ≡ 0 → ⊥) → out ≡ encoded_fragment k samples
  unfolding encoded_fragment
  best_bytes eo h =
      let z = ne_eqb v 0 h in
      rw (eo, ← ex, ← ev, z)
