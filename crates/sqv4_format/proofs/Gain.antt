-- What rounding means, when the volume is 0, and what the gain stage does to a sample. Assumes nothing.
use mathlib.Core.Path.{◌≡◌, refl, sym, ◌∙◌, ap, subst}
use mathlib.Core.List.{List, map}
use Prim.Native.Nat.{ℕ, zero, suc, ◌+◌, ◌*◌, ◌/◌, ◌%◌, ◌≤◌, ◌<◌, max}
use native.Mathlib.Omega.{arith}
use native.Mathlib.Nat.{div-add-mod', mod-lt, mul-le-mul_left, zero-mul, zero-div, lt_of_mul-lt-mul_right}
use native.Mathlib.Decide.{dec_lt}
use lib.IntN.{ℤ, pos, negsuc, neg_ℤ, nat_abs, ◌-ℤ◌, +ℤ_invr}
use lib.Signed.{mag}
use lib.ListN.{length, get_or, length-map, get_or-map}
use Rattle.signed.specs.Signed.{is_neg, with_sign, on_magnitude, clamp16}
use Rattle.signed.proofs.Laws.{on_pos, on_neg, mag_on, clamp_pos, clamp_neg}
use Rattle.sqv4_format.specs.Layout.{encoder_version}
use Rattle.sqv4_format.specs.Gain.{nearest, Nearest, Cut, pregained, peak, volume_of, own_volume, normalised, output_gain}

-- ---- rounding, of magnitudes

pub nearest_is : (a b : ℕ) → 0 < b → Nearest (nearest a b) a b
nearest_is a b h =
    let s : nearest a b * b + (a + b / 2) % b ≡ a + b / 2 = div-add-mod' (a + b / 2) b in
    let r : (a + b / 2) % b < b = mod-lt (a + b / 2) h in
    record { above = omega arith; below = omega arith }

-- and no other number is
pub nearest_only : (n a b : ℕ) → 0 < b → Nearest n a b → n ≡ nearest a b
nearest_only n a b h r =
    let q = nearest_is a b h in
    omega (arith, close n (nearest a b) r.above q.below, close (nearest a b) n q.above r.below)
  where
    close : (x y : ℕ) → 2 * (x * b) ≤ 2 * a + b → 2 * a < 2 * (y * b) + b → x < suc y
    close x y u v = lt_of_mul-lt-mul_right b {m = x} {n = suc y} (omega arith)

pub cut_is : (a b : ℕ) → 0 < b → Cut (a / b) a b
cut_is a b h =
    let s : a / b * b + a % b ≡ a = div-add-mod' a b in
    let r : a % b < b = mod-lt a h in
    record { above = omega arith; below = omega arith }

-- ---- the volume

-- volume is 0 only for silence
pub volume_zero : (top : ℕ) → volume_of top ≡ 0 → top ≡ 0
volume_zero top e = omega arith

pub peak_covers : (xs : List ℤ) (n i : ℕ) → i < n → nat_abs (get_or xs i (pos 0)) ≤ peak xs n
unfolding peak
peak_covers xs zero i h = let z : ⊥ = omega arith in absurd z
peak_covers xs (suc n) i h = go (dec_lt i n) (peak_covers xs n i)
  where
    go : Dec (i < n) → (i < n → nat_abs (get_or xs i (pos 0)) ≤ peak xs n) → nat_abs (get_or xs i (pos 0)) ≤ max (peak xs n) (nat_abs (get_or xs n (pos 0)))
    go (yes l) ih = omega (arith, ih l)
    go (no l) ih = let e : i ≡ n = omega arith in rw e (omega arith)

silent_sample : (x : ℤ) → nat_abs x ≤ 0 → x ≡ pos 0
silent_sample (pos n) h = ap pos (omega arith)
silent_sample (negsuc n) h = let z : ⊥ = omega arith in absurd z

pub silence : (xs : List ℤ) (i : ℕ) → i < length xs → own_volume xs ≡ 0 → get_or xs i (pos 0) ≡ pos 0
silence xs i h e =
    silent_sample (get_or xs i (pos 0)) (omega (arith, volume_zero (peak xs (length xs)) e, peak_covers xs (length xs) i h))

-- ---- normalising and output gain together, for any rule that lands within half a unit

-- n is a / b to within a half
record Near (n a b : ℕ) : Type 0 where
  above : 2 * (n * b) ≤ 2 * a + b
  below : 2 * a ≤ 2 * (n * b) + b

-- output gain undoes it
near_back : (n m v : ℕ) → v ≤ 255 → Near n (m * 255) v → nearest (n * v) 255 ≡ m
near_back n m v hv r = omega (arith, r.above, r.below)

-- the volume covers each magnitude up to the peak; full volume covers 32768 by a unit less
volume_covers : (top m : ℕ) → m ≤ top → m ≤ 32767 → m * 255 ≤ volume_of top * 32767
volume_covers top m h k = omega arith

full_volume : (top : ℕ) → 32768 ≤ top → volume_of top ≡ 255
full_volume top h = omega arith

-- such a magnitude normalises to at most full scale
near_small : (n m v : ℕ) → 0 < v → m * 255 ≤ v * 32767 → Near n (m * 255) v → n ≤ 32767
near_small n m v hv h r = omega (arith, lt_of_mul-lt-mul_right v {m = n} {n = 32768} (step r.above))
  where
    step : 2 * (n * v) ≤ 2 * (m * 255) + v → n * v < 32768 * v
    step k = omega arith

near_full : (n m : ℕ) → Near n (m * 255) 255 → n ≡ m
near_full n m r = omega (arith, r.above, r.below)

-- output gain of a negative number whose magnitude comes back as m
gain_neg : (v n m : ℕ) → nearest (n * v) 255 ≡ suc m → output_gain encoder_version v (neg_ℤ (pos n)) ≡ negsuc m
unfolding output_gain
gain_neg v zero m e = let z : ⊥ = omega arith in absurd z
gain_neg v (suc n) m e = on_neg (λ m. nearest (m * v) 255) n ∙ ap (λ x. neg_ℤ (pos x)) e

module _ (rule : ℕ → ℕ → ℕ) (near : (a b : ℕ) → 0 < b → Near (rule a b) a b) where
  gain_exact : (top : ℕ) (x : ℤ) → nat_abs x ≤ top → mag x ≤ 32767 → 0 < volume_of top
      → output_gain encoder_version (volume_of top) (clamp16 (on_magnitude (λ m. rule (m * 255) (volume_of top)) x)) ≡ x
  unfolding output_gain
  gain_exact top (pos m) h k hv =
      let v : ℕ = volume_of top in
      let n : ℕ = rule (m * 255) v in
      let r : Near n (m * 255) v = near (m * 255) v hv in
      rw (on_pos (λ m. rule (m * 255) v) m, clamp_pos n (near_small n m v hv (volume_covers top m h k) r))
      (on_pos (λ m. nearest (m * v) 255) n ∙ ap pos (near_back n m v (omega arith) r))
  gain_exact top (negsuc j) h k hv =
      let v : ℕ = volume_of top in
      let m : ℕ = suc j in
      let n : ℕ = rule (m * 255) v in
      let r : Near n (m * 255) v = near (m * 255) v hv in
      rw (on_neg (λ m. rule (m * 255) v) j, clamp_neg n (small j h k n r (dec_lt j 32767))) (gain_neg v n j (near_back n m v (omega arith) r))
    where
      small : (j : ℕ) → suc j ≤ top → j ≤ 32767 → (n : ℕ) → Near n (suc j * 255) (volume_of top) → Dec (j < 32767) → n ≤ 32768
      small j h k n r (yes l) = omega (arith, near_small n (suc j) (volume_of top) hv (volume_covers top (suc j) h l) r)
      small j h k n r (no l) =
          let e : volume_of top ≡ 255 = full_volume top (omega arith) in
          omega (arith, near_full n (suc j) (subst (λ v. Near n (suc j * 255) v) e r))

-- 01's rule, on a fragment's own samples and volume
own_exact : (xs : List ℤ) (i : ℕ) → i < length xs → mag (get_or xs i (pos 0)) ≤ 32767
    → output_gain encoder_version (own_volume xs) (normalised (own_volume xs) (get_or xs i (pos 0))) ≡ get_or xs i (pos 0)
unfolding normalised output_gain on_magnitude is_neg with_sign clamp16
own_exact xs i h k = go (dec_lt 0 (own_volume xs))
  where
    go : Dec (0 < own_volume xs) → output_gain encoder_version (own_volume xs) (normalised (own_volume xs) (get_or xs i (pos 0))) ≡ get_or xs i (pos 0)
    go (yes l) =
        gain_exact nearest (λ a b hb. let n = nearest_is a b hb in record { above = n.above; below = omega (arith, n.below) })
        (peak xs (length xs)) (get_or xs i (pos 0)) (peak_covers xs (length xs) i h) k l
    go (no l) =
        let e : own_volume xs ≡ 0 = omega arith in
        rw (silence xs i h e, e) refl

-- pre-gain keeps 16 bits
pub pregained-fits : (g : ℕ) (x : ℤ) → g ≤ 255 → mag x ≤ 32767 → mag (pregained g x) ≤ 32767
unfolding pregained
pregained-fits g x hg hx = omega (arith, mag_on (λ m. m * g / 255) x (omega (arith, mul-le-mul_left (nat_abs x) hg)))

pregained_zero : (g : ℕ) → pregained g (pos 0) ≡ pos 0
unfolding pregained
pregained_zero g = on_pos (λ m. m * g / 255) 0 ∙ rw (zero-mul, zero-div)

-- 01's sentence: normalising and output gain together, without the codes, move a pre-gained sample of that fragment by at most 1
pub gain_stage : (g : ℕ) (samples : List ℤ) (i : ℕ) → g ≤ 255 → ((j : ℕ) → mag (get_or samples j (pos 0)) ≤ 32767) → i < length samples
    → nat_abs (output_gain encoder_version (own_volume (map (pregained g) samples)) (normalised (own_volume (map (pregained g) samples)) (pregained g (get_or samples i (pos 0))))
    -ℤ pregained g (get_or samples i (pos 0))) ≤ 1
gain_stage g samples i hg fit hi =
    let xs = map (pregained g) samples in
    let x = pregained g (get_or samples i (pos 0)) in
    let at : get_or xs i (pos 0) ≡ x = ap (get_or xs i) (sym (pregained_zero g)) ∙ get_or-map (pregained g) samples i (pos 0) in
    let exact : output_gain encoder_version (own_volume xs) (normalised (own_volume xs) x) ≡ x =
    rw at at (own_exact xs i (rw length-map hi) (rw at (pregained-fits g (get_or samples i (pos 0)) hg (fit i)))) in
    rw (exact, +ℤ_invr x) (omega arith)
