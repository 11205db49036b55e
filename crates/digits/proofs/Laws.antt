-- The laws of numbers and their digits, of packed codes and of stored numbers, once for every width. Assumes nothing.
use mathlib.Core.Path.{◌≡◌, refl, sym, ap, ap₂, ◌∙◌}
use mathlib.Core.List.{List, [], ◌∷◌, ◌++◌}
use mathlib.Core.Bool.{true, false}
use Prim.Native.Nat.{ℕ, zero, suc, ◌+◌, ◌*◌, ◌/◌, ◌%◌, ◌^◌, ◌≤◌, ◌<◌, suc-le-suc}
use native.Mathlib.Nat.{add-zero, add_comm, mul_comm, mul-zero, mul-suc, div-one, zero-div, zero-mod, div-eq_of_lt, mod-eq_of_lt, mod-lt, mod-one, lt_of_lt_of_le, div-lt_iff_lt-mul, one-mul, zero-lt-suc, not-suc-le-zero, le_of_suc-le-suc}
use native.Mathlib.Omega.{arith}
use borrow.Author.Tests.{eq-eqb, eqb-true, ne_eqb}
use lib.ListN.{length, get_or, take, drop, length-drop}
use lib.Seq.{drop-nil, take-nil, drop-cons, get_or-drop, length-take-le}
use lib.Pow.{pow_pos, pow-add, pow_mono, shr-shr, mod-pow-add}
use lib.Arith.{digits_lt, digits_div, digits_mod}
use Rattle.digits.specs.Digits.{number, digits, bits_at, field, packed, unpacked, code_at, rest_zero}

-- every digit fits w bits
abbrev pub Small : ℕ → List ℕ → Type 0
Small w ds = (i : ℕ) → get_or ds i 0 < 2 ^ w

-- ---- the number of a list of digits

sum_swapped : (p d n : ℕ) → d + p * n ≡ n * p + d
sum_swapped p d n = add_comm d (p * n) ∙ ap (λ (y : ℕ). y + d) (mul_comm p n)

cons_div : (w n : ℕ) {d : ℕ} → d < 2 ^ w → (d + 2 ^ w * n) / 2 ^ w ≡ n
cons_div w n {d} h = ap (λ (y : ℕ). y / 2 ^ w) (sum_swapped (2 ^ w) d n) ∙ digits_div n h

cons_mod : (w n : ℕ) {d : ℕ} → d < 2 ^ w → (d + 2 ^ w * n) % 2 ^ w ≡ d
cons_mod w n {d} h = ap (λ (y : ℕ). y % 2 ^ w) (sum_swapped (2 ^ w) d n) ∙ digits_mod n h

-- one digit more, below: its place is w bits lower
place : (x w k : ℕ) → x / 2 ^ w / 2 ^ (w * k) ≡ x / 2 ^ (w * suc k)
place x w k = shr-shr x w (w * k) ∙ ap (λ (e : ℕ). x / 2 ^ e) (add_comm w (w * k) ∙ sym (mul-suc w k))

place_zero : (x w : ℕ) → x / 2 ^ (w * zero) ≡ x
place_zero x w = ap (λ (e : ℕ). x / 2 ^ e) (mul-zero w) ∙ div-one x

-- without its k lowest digits
pub number-drop : (w : ℕ) (ds : List ℕ) → Small w ds → (k : ℕ) → number w ds / 2 ^ (w * k) ≡ number w (drop k ds)
unfolding number
number-drop w [] h k = zero-div (2 ^ (w * k)) ∙ ap (number w) (sym (drop-nil k))
number-drop w (d ∷ ds) h zero = place_zero (d + 2 ^ w * number w ds) w
number-drop w (d ∷ ds) h (suc k) =
    sym (place (d + 2 ^ w * number w ds) w k)
    ∙ ap (λ (y : ℕ). y / 2 ^ (w * k)) (cons_div w (number w ds) (h zero))
    ∙ number-drop w ds (λ i. h (suc i)) k

-- the lowest digit
pub number-head : (w : ℕ) (ds : List ℕ) → Small w ds → number w ds % 2 ^ w ≡ get_or ds 0 0
unfolding number
number-head w [] h = zero-mod (2 ^ w)
number-head w (d ∷ ds) h = cons_mod w (number w ds) (h zero)

pub small_drop : (w : ℕ) (ds : List ℕ) → Small w ds → (k : ℕ) → Small w (drop k ds)
small_drop w ds h k i = rw get_or-drop (h (k + i))

-- a digit is the bits at its place
pub number_at : (w : ℕ) (ds : List ℕ) → Small w ds → (k : ℕ) → bits_at w (w * k) (number w ds) ≡ get_or ds k 0
number_at w ds h k =
    ap (λ (y : ℕ). y % 2 ^ w) (number-drop w ds h k) ∙ number-head w (drop k ds) (small_drop w ds h k)
    ∙ get_or-drop k ds 0 0 ∙ ap (λ (i : ℕ). get_or ds i 0) (add-zero k)

pub pow_place : (w k : ℕ) → 2 ^ (w * suc k) ≡ 2 ^ (w * k) * 2 ^ w
pow_place w k = ap (λ (e : ℕ). 2 ^ e) (mul-suc w k) ∙ pow-add 2 (w * k) w

-- a number is below the power of its length
pub number_lt : (w : ℕ) (ds : List ℕ) → Small w ds → number w ds < 2 ^ (w * length ds)
unfolding number
number_lt w [] h = pow_pos (w * 0)
number_lt w (d ∷ ds) h =
    rw (sum_swapped (2 ^ w) d (number w ds), pow_place w (length ds)) (digits_lt (number_lt w ds (λ i. h (suc i))) (h zero))

-- ---- the digits of a number

-- one digit more, above
pub digits_snoc : (w n x : ℕ) → digits w (suc n) x ≡ digits w n x ++ (bits_at w (w * n) x ∷ [])
unfolding digits
digits_snoc w zero x = ap (λ (y : ℕ). y % 2 ^ w ∷ []) (sym (place_zero x w))
digits_snoc w (suc n) x =
    ap (λ (l : List ℕ). x % 2 ^ w ∷ l)
    (digits_snoc w n (x / 2 ^ w) ∙ ap (λ (y : ℕ). digits w n (x / 2 ^ w) ++ (y % 2 ^ w ∷ [])) (place x w n))

pub length_digits : (w n x : ℕ) → length (digits w n x) ≡ n
unfolding digits
length_digits w zero x = refl
length_digits w (suc n) x = ap suc (length_digits w n (x / 2 ^ w))

pub small_digits : (w n x : ℕ) → Small w (digits w n x)
unfolding digits
small_digits w zero x i = pow_pos w
small_digits w (suc n) x zero = mod-lt x (pow_pos w)
small_digits w (suc n) x (suc i) = small_digits w n (x / 2 ^ w) i

-- fewer digits
pub take-digits : (w n m x : ℕ) → n ≤ m → take n (digits w m x) ≡ digits w n x
unfolding digits
take-digits w zero m x h = refl
take-digits w (suc n) zero x h = absurd (not-suc-le-zero h)
take-digits w (suc n) (suc m) x h = ap (λ (l : List ℕ). x % 2 ^ w ∷ l) (take-digits w n m (x / 2 ^ w) (le_of_suc-le-suc h))

-- the digit at place i
pub digits-at : (w n x i : ℕ) → i < n → get_or (digits w n x) i 0 ≡ bits_at w (w * i) x
unfolding digits
digits-at w zero x i h = absurd (not-suc-le-zero h)
digits-at w (suc n) x zero h = ap (λ (y : ℕ). y % 2 ^ w) (sym (place_zero x w))
digits-at w (suc n) x (suc i) h = digits-at w n (x / 2 ^ w) i (le_of_suc-le-suc h) ∙ ap (λ (y : ℕ). y % 2 ^ w) (place x w i)

-- ---- from a number to its digits, and from digits to their number

pub number_digits : (w n x : ℕ) → number w (digits w n x) ≡ x % 2 ^ (w * n)
unfolding number digits
number_digits w zero x = sym (ap (λ (e : ℕ). x % 2 ^ e) (mul-zero w) ∙ mod-one x)
number_digits w (suc n) x =
    ap (λ (y : ℕ). x % 2 ^ w + 2 ^ w * y) (number_digits w n (x / 2 ^ w))
    ∙ sum_swapped (2 ^ w) (x % 2 ^ w) (x / 2 ^ w % 2 ^ (w * n))
    ∙ sym (mod-pow-add x (w * n) w)
    ∙ ap (λ (e : ℕ). x % 2 ^ e) (sym (mul-suc w n))

pub digits_number : (w : ℕ) (ds : List ℕ) → Small w ds → digits w (length ds) (number w ds) ≡ ds
unfolding number digits
digits_number w [] h = refl
digits_number w (d ∷ ds) h =
    ap₂ ◌∷◌ (cons_mod w (number w ds) (h zero))
    (ap (digits w (length ds)) (cons_div w (number w ds) (h zero)) ∙ digits_number w ds (λ i. h (suc i)))

-- digits of a bits written as n digits of b bits, where these have the room, make the same number
pub number_regroup : (a b n : ℕ) (ds : List ℕ) → Small a ds → a * length ds ≤ b * n → number b (digits b n (number a ds)) ≡ number a ds
number_regroup a b n ds h room =
    number_digits b n (number a ds) ∙ mod-eq_of_lt (lt_of_lt_of_le (number_lt a ds h) (pow_mono room))

-- ---- packing, for every width

module _ (w n : ℕ) (codes : List ℕ) (small : Small w codes) (room : w * length codes ≤ 8 * n) where
  -- what is packed is unpacked, code by code and all at once
  pub code_packed : (i : ℕ) → code_at w i (packed w n codes) ≡ get_or codes i 0
  code_packed i = ap (bits_at w (w * i)) (number_regroup w 8 n codes small room) ∙ number_at w codes small i

  pub unpacked_packed : unpacked w (length codes) (packed w n codes) ≡ codes
  unpacked_packed = ap (digits w (length codes)) (number_regroup w 8 n codes small room) ∙ digits_number w codes small

  -- the bits past the codes are zero
  pub rest_packed : rest_zero (w * length codes) (packed w n codes) ≡ true
  rest_packed =
      eq-eqb _ _ (ap (λ (y : ℕ). y / 2 ^ (w * length codes)) (number_regroup w 8 n codes small room)
      ∙ div-eq_of_lt (number_lt w codes small))

-- a number with no bit set from k on
pub below_of_zero : (x k : ℕ) → x / 2 ^ k ≡ 0 → x < 2 ^ k
below_of_zero x k e = rw one-mul at ((div-lt_iff_lt-mul {k = 2 ^ k} {x = x} {y = 1} (pow_pos k)).0 (rw e (zero-lt-suc 0)))

-- bytes whose bits past the codes are zero are the packed codes that they hold
pub packed-unpacked : (w n : ℕ) (bytes : List ℕ) → Small 8 bytes → rest_zero (w * n) bytes ≡ true → packed w (length bytes) (unpacked w n bytes) ≡ bytes
packed-unpacked w n bytes small rest =
    ap (digits 8 (length bytes))
    (number_digits w n (number 8 bytes) ∙ mod-eq_of_lt (below_of_zero (number 8 bytes) (w * n) (eqb-true _ _ rest)))
    ∙ digits_number 8 bytes small

-- ---- the bits past a place

-- with no bit set past the byte k, what lies from it on is the byte
pub rest_last : (bytes : List ℕ) → Small 8 bytes → (k : ℕ) → number 8 bytes / 2 ^ (8 * (k + 1)) ≡ 0 → number 8 bytes / 2 ^ (8 * k) ≡ get_or bytes k 0
rest_last bytes small k e =
    let next : 8 * (k + 1) ≡ 8 * k + 8 = omega arith in
    omega (
      arith,
      number_at 8 bytes small k,
      shr-shr (number 8 bytes) (8 * k) 8 ∙ ap (λ (i : ℕ). number 8 bytes / 2 ^ i) (sym next) ∙ e,
    )

-- with no bit set from i on, none is set from a later j on
pub rest_less : (x : ℕ) {i j : ℕ} → i ≤ j → x / 2 ^ i ≡ 0 → x / 2 ^ j ≡ 0
rest_less x {i} le e = div-eq_of_lt (lt_of_lt_of_le (below_of_zero x i e) (pow_mono le))

-- a byte past the used bits that is not zero
pub rest_set : (bytes : List ℕ) → Small 8 bytes → (used k : ℕ) → used ≤ 8 * k → (get_or bytes k 0 ≡ 0 → ⊥) → rest_zero used bytes ≡ false
rest_set bytes small used k le ne =
    ne_eqb _ _
    (λ e. ne (sym (number_at 8 bytes small k) ∙ ap (λ (y : ℕ). y % 256) (rest_less (number 8 bytes) le e)))

-- bytes that are all 0
pub number_none : (w : ℕ) (ds : List ℕ) → ((i : ℕ) → i < length ds → get_or ds i 0 ≡ 0) → number w ds ≡ 0
unfolding number
number_none w [] h = refl
number_none w (d ∷ ds) h =
    omega (
      arith,
      h zero (zero-lt-suc (length ds)),
      ap (2 ^ w *◌) (number_none w ds (λ i l. h (suc i) (suc-le-suc l))),
      mul-zero (2 ^ w),
    )

-- no bit is set from byte k on where the bytes from it on are 0
pub rest_none : (bytes : List ℕ) → Small 8 bytes → (k : ℕ) → ((i : ℕ) → i < length (drop k bytes) → get_or (drop k bytes) i 0 ≡ 0) → number 8 bytes / 2 ^ (8 * k) ≡ 0
rest_none bytes small k h = number-drop 8 bytes small k ∙ number_none 8 (drop k bytes) h

-- ---- a part of the digits

-- the first n digits fit where each of them does
pub small_take : (w n : ℕ) (ds : List ℕ) → ((i : ℕ) → i < n → get_or ds i 0 < 2 ^ w) → Small w (take n ds)
small_take w zero ds h i = pow_pos w
small_take w (suc n) [] h i = pow_pos w
small_take w (suc n) (d ∷ ds) h zero = h zero (zero-lt-suc n)
small_take w (suc n) (d ∷ ds) h (suc i) = small_take w n ds (λ j l. h (suc j) (suc-le-suc l)) i

-- the m lowest digits
pub number-take : (w : ℕ) (ds : List ℕ) → Small w ds → (m : ℕ) → number w ds % 2 ^ (w * m) ≡ number w (take m ds)
unfolding number
number-take w [] h m = zero-mod (2 ^ (w * m)) ∙ ap (number w) (sym (take-nil m))
number-take w (d ∷ ds) h zero = ap (λ (e : ℕ). (d + 2 ^ w * number w ds) % 2 ^ e) (mul-zero w) ∙ mod-one (d + 2 ^ w * number w ds)
number-take w (d ∷ ds) h (suc m) =
    ap (λ (e : ℕ). (d + 2 ^ w * number w ds) % 2 ^ e) (mul-suc w m)
    ∙ mod-pow-add (d + 2 ^ w * number w ds) (w * m) w
    ∙ ap₂ (λ (x y : ℕ). x % 2 ^ (w * m) * 2 ^ w + y) (cons_div w (number w ds) (h zero)) (cons_mod w (number w ds) (h zero))
    ∙ sym (sum_swapped (2 ^ w) d (number w ds % 2 ^ (w * m)))
    ∙ ap (λ (x : ℕ). d + 2 ^ w * x) (number-take w ds (λ i. h (suc i)) m)

-- the number of the n + 1 digits from a place on
pub number-part : (w n : ℕ) (ds : List ℕ) (at : ℕ) → at < length ds
    → number w (take (suc n) (drop at ds)) ≡ get_or ds at 0 + 2 ^ w * number w (take n (drop (suc at) ds))
unfolding number
number-part w n ds at h = rw (drop-cons ds at 0 h)

-- ---- stored numbers

-- a field fits its n bytes
pub field_lt : (n at : ℕ) (bytes : List ℕ) → Small 8 bytes → at + n ≤ length bytes → field n at bytes < 2 ^ (8 * n)
field_lt n at bytes small h =
    let len : length (take n (drop at bytes)) ≡ n = length-take-le n (drop at bytes) (simp length-drop (omega arith)) in
    rw len at (number_lt 8 (take n (drop at bytes)) (small_take 8 n (drop at bytes) (λ i l. small_drop 8 bytes small at i)))
