-- std's bytes of a number are its digits of 8 bits: what `to_le_bytes` and `from_le_bytes` give, at any width. Assumes nothing.
use mathlib.Core.Path.{◌≡◌, refl, sym, ap, ap₂, ◌∙◌}
use mathlib.Core.List.{List, [], ◌∷◌, ◌++◌}
use Prim.Native.Nat.{ℕ, zero, suc, ◌+◌, ◌-◌, ◌*◌, ◌/◌, ◌%◌, ◌^◌, ◌≤◌}
use native.Mathlib.Nat.{mul-zero, mul-add, mul_assoc, mul_comm, pow-suc, div-one, le_of_eq, add-sub_cancel_left}
use native.Mathlib.Omega.{arith}
use lib.ListN.{length, length-append, length-drop, get_or, take, drop, replicate}
use lib.Seq.{take_all, length-take-le}
use lib.Pow.{shr-shr}
use Rattle.std.specs.Int.{byte_at, byte_worth, bytes_low_first, sum_through}
use Rattle.std.proofs.lemmas.List.{drop-replicate}
use Rattle.digits.specs.Digits.{number, digits, field}
use Rattle.digits.proofs.Laws.{pow_place, take-digits}

-- a byte's place, as std writes it
pow_byte : (k : ℕ) → 256 ^ k ≡ 2 ^ (8 * k)
pow_byte zero = refl
pow_byte (suc k) = pow-suc 256 k ∙ ap (λ (p : ℕ). p * 256) (pow_byte k) ∙ sym (pow_place 8 k)

-- ---- `to_le_bytes`

byte_at-place : (i x : ℕ) → byte_at i x ≡ x / 2 ^ (8 * i) % 256
byte_at-place zero x = ap (λ (y : ℕ). y % 256) (sym (div-one x))
byte_at-place (suc i) x = ap (λ (p : ℕ). x / p % 256) (pow_byte (suc i))

digits_from : (i k x : ℕ) → bytes_low_first i k x ≡ digits 8 k (x / 2 ^ (8 * i))
unfolding digits
digits_from i zero x = refl
digits_from i (suc k) x =
    let up : 8 * suc i ≡ 8 * i + 8 = omega arith in
    ap₂ ◌∷◌ (byte_at-place i x)
    (digits_from (suc i) k x ∙ ap (digits 8 k) (ap (λ (e : ℕ). x / 2 ^ e) up ∙ sym (shr-shr x (8 * i) 8)))

pub bytes_digits : (k x : ℕ) → bytes_low_first 0 k x ≡ digits 8 k x
bytes_digits k x = digits_from 0 k x ∙ ap (digits 8 k) (div-one x)

-- ---- `from_le_bytes`

-- one digit more, above
number_snoc : (w k : ℕ) (ds : List ℕ) → number w (take (suc k) ds) ≡ number w (take k ds) + 2 ^ (w * k) * get_or ds k 0
unfolding number
number_snoc w zero [] = omega (arith, mul-zero (2 ^ (w * 0)))
number_snoc w (suc k) [] = omega (arith, mul-zero (2 ^ (w * suc k)))
number_snoc w zero (d ∷ ds) = rw (mul-zero w) (omega (arith, mul-zero (2 ^ w)))
number_snoc w (suc k) (d ∷ ds) =
    rw (number_snoc w k ds, pow_place w k)
    (omega (
      arith,
      mul-add (2 ^ w) (number w (take k ds)) (2 ^ (w * k) * get_or ds k 0),
      mul_assoc (2 ^ w) (2 ^ (w * k)) (get_or ds k 0),
      ap (◌* get_or ds k 0) (mul_comm (2 ^ w) (2 ^ (w * k))),
    ))

bytes_sum : (n : ℕ) (bytes : List ℕ) → sum_through (λ i. byte_worth i (get_or bytes i 0)) n ≡ number 8 (take (suc n) bytes)
unfolding number
bytes_sum zero bytes = sym (number_snoc 8 0 bytes ∙ omega arith)
bytes_sum (suc n) bytes =
    rw (bytes_sum n bytes, number_snoc 8 (suc n) bytes, pow_byte (suc n))
    (ap (λ (y : ℕ). number 8 (take (suc n) bytes) + y) (mul_comm (get_or bytes (suc n) 0) (2 ^ (8 * suc n))))

pub bytes_number : (n : ℕ) (bytes : List ℕ) → length bytes ≡ suc n → sum_through (λ i. byte_worth i (get_or bytes i 0)) n ≡ number 8 bytes
bytes_number n bytes e = bytes_sum n bytes ∙ ap (number 8) (take_all (suc n) bytes (le_of_eq e))

-- zero digits above add nothing
number_zeros : (w k : ℕ) → number w (replicate k 0) ≡ 0
unfolding number
number_zeros w zero = refl
number_zeros w (suc k) = omega (arith, ap (2 ^ w *◌) (number_zeros w k), mul-zero (2 ^ w))

number_padded : (w k : ℕ) (ds : List ℕ) → number w (ds ++ replicate k 0) ≡ number w ds
unfolding number
number_padded w k [] = number_zeros w k
number_padded w k (d ∷ ds) = ap (λ (y : ℕ). d + 2 ^ w * y) (number_padded w k ds)

-- n bytes at the front of eight, where the others are 0
pub front_number : (n at : ℕ) (bytes front : List ℕ) → n ≤ 8 → at + n ≤ length bytes → front ≡ take (at + n - at) (drop at bytes)
    → sum_through (λ i. byte_worth i (get_or (front ++ drop n (replicate 8 0)) i 0)) 7 ≡ field n at bytes
front_number n at bytes front small within e =
    let copied : front ≡ take n (drop at bytes) = rw add-sub_cancel_left at e in
    let long : length front ≡ n = ap length copied ∙ length-take-le n (drop at bytes) (simp length-drop (omega arith)) in
    bytes_number 7 (front ++ drop n (replicate 8 0)) (simp (length-append, length-drop) (omega arith))
    ∙ ap (λ (l : List ℕ). number 8 (front ++ l)) (drop-replicate n 8 0) ∙ number_padded 8 (8 - n) front
    ∙ ap (number 8) copied

-- the n low bytes of a number that is given by eight
pub low_digits : (n x : ℕ) → n ≤ 8 → take n (bytes_low_first 0 8 x) ≡ digits 8 n x
low_digits n x h = ap (take n) (bytes_digits 8 x) ∙ take-digits 8 n 8 x h
