-- Regrouping: a loop that reads digits of a bits and writes digits of b bits, once for all widths. Packing and unpacking, a digit or a
-- group of digits at a time, are its instances. Assumes nothing.
use mathlib.Core.Path.{◌≡◌, refl, sym, ap, ◌∙◌}
use mathlib.Core.List.{List, [], ◌∷◌}
use Prim.Native.Nat.{ℕ, zero, suc, ◌+◌, ◌*◌, ◌/◌, ◌%◌, ◌^◌, ◌≤◌, ◌<◌}
use native.Mathlib.Nat.{mul-zero, mul-one, mul-add, mul_assoc, mul_comm, add-mul, add_comm, div-one, mod-lt}
use native.Mathlib.Numerals.{add-one}
use native.Mathlib.Omega.{arith}
use lib.ListN.{length, get_or, take, drop, set, length-set}
use lib.Seq.{take-suc-set, drop-drop}
use lib.Pow.{pow_pos, pow-add, shr_lt, shr-shr, split, high, low}
use lib.Arith.{digits_lt}
use denote.Bor.{Bor}
use Rattle.std.proofs.Common.{Iter}
use Rattle.std.specs.Prelude.{Option, None, Some, MatchOption}
use Rattle.std.specs.Option.{unwrap_or, option_copied}
use Rattle.std.proofs.lemmas.List.{nil_from_length}
use Rattle.digits.specs.Digits.{number, digits, bits_at}
use Rattle.digits.proofs.Laws.{Small, small_drop, number-take, pow_place, digits_snoc}

-- ---- the bits that are held

-- the digits below place g, and those from it on
number_split : (w g : ℕ) (ds : List ℕ) → number w ds ≡ number w (take g ds) + 2 ^ (w * g) * number w (drop g ds)
unfolding number
number_split w zero ds = rw mul-zero (omega arith)
number_split w (suc g) [] = omega (arith, mul-zero (2 ^ (w * suc g)))
number_split w (suc g) (d ∷ ds) =
    rw (number_split w g ds, pow_place w g)
    (omega (
      arith,
      mul-add (2 ^ w) (number w (take g ds)) (2 ^ (w * g) * number w (drop g ds)),
      mul_assoc (2 ^ w) (2 ^ (w * g)) (number w (drop g ds)),
      ap (◌* number w (drop g ds)) (mul_comm (2 ^ w) (2 ^ (w * g))),
    ))

number_take_lt : (w g : ℕ) (ds : List ℕ) → Small w ds → number w (take g ds) < 2 ^ (w * g)
number_take_lt w g ds small = rw (sym (number-take w ds small g)) (mod-lt (number w ds) (pow_pos (w * g)))

-- a group of one digit
number_one : (w : ℕ) (ds : List ℕ) → number w (take 1 ds) ≡ get_or ds 0 0
unfolding number
number_one w [] = refl
number_one w (d ∷ ds) = omega (arith, mul-zero (2 ^ w))

-- Of the number of ds, acc holds the `have` bits that lie above the j digits of b bits which are written and below the digits of
-- a bits which are still to be read, rest.
pub record Held (a b : ℕ) (ds : List ℕ) (acc have j : ℕ) (rest : List ℕ) : Type 0 where
  pub fits : acc < 2 ^ have
  pub left : acc + 2 ^ have * number a rest ≡ number a ds / 2 ^ (b * j)

pub held_none : (a b : ℕ) (ds : List ℕ) → Held a b ds 0 0 0 ds
held_none a b ds = record {
  fits = omega arith;
  left = rw (mul-zero b, div-one) (omega arith);
}

module _ {a b : ℕ} {ds rest : List ℕ} {acc have j : ℕ} (h : Held a b ds acc have j rest) where
  -- the next g digits are read, as one number
  pub held_read : (g : ℕ) {x : ℕ} → Small a rest → x ≡ acc + number a (take g rest) * 2 ^ have → Held a b ds x (have + a * g) j (drop g rest)
  held_read g {x} small e =
      let d = number a (take g rest) in
      let r = number a (drop g rest) in
      let p = 2 ^ have in
      let q = 2 ^ (a * g) in
      let up : 2 ^ (have + a * g) ≡ q * p = pow-add 2 have (a * g) ∙ mul_comm p q in
      record {
        fits = rw (e, up, add_comm acc (d * p)) (digits_lt (number_take_lt a g rest small) h.fits);
        left =
            rw (e, up)
            (omega (
              arith,
              h.left,
              ap (p *◌) (number_split a g rest),
              mul-add p d (q * r),
              mul_comm p d,
              mul_assoc q p r,
              ap (◌* r) (mul_comm q p),
              mul_assoc p q r,
            ));
      }

  -- the next digit is read
  pub held_digit : {x : ℕ} → Small a rest → x ≡ acc + get_or rest 0 0 * 2 ^ have → Held a b ds x (have + a) j (drop 1 rest)
  held_digit {x} small e = rw mul-one at (held_read 1 {x = x} small (rw number_one e))

  -- a digit is written, and the bits above it are held
  module _ (k : ℕ) (e : have ≡ k + b) where
    whole : number a ds / 2 ^ (b * j) ≡ (acc / 2 ^ b + 2 ^ k * number a rest) * 2 ^ b + acc % 2 ^ b
    whole =
        let r = number a rest in
        let p = 2 ^ b in
        let q = 2 ^ k in
        omega (
          arith,
          h.left,
          split acc b,
          add-mul (acc / p) (q * r) p,
          ap (λ (m : ℕ). 2 ^ m * r) e ∙ ap (◌* r) (pow-add 2 k b) ∙ mul_assoc q p r ∙ ap (q *◌) (mul_comm p r) ∙ sym (mul_assoc q r p),
        )

    pub held_low : acc % 2 ^ b ≡ bits_at b (b * j) (number a ds)
    held_low = sym (ap (◌% 2 ^ b) whole ∙ low (acc / 2 ^ b + 2 ^ k * number a rest) b (mod-lt acc (pow_pos b)))

    pub held_high : {y : ℕ} → y ≡ acc / 2 ^ b → Held a b ds y k (j + 1) rest
    held_high {y} is =
        let next : b * j + b ≡ b * (j + 1) = omega (arith, mul-add b j 1, mul-one b) in
        record {
          fits = rw is (shr_lt k b (rw e at h.fits));
          left =
              rw is (sym (high (acc / 2 ^ b + 2 ^ k * number a rest) b (mod-lt acc (pow_pos b))) ∙ ap (◌/ 2 ^ b) (sym whole)
              ∙ shr-shr (number a ds) (b * j) b ∙ ap (λ (m : ℕ). number a ds / 2 ^ m) next);
        }

-- a call of `next`, with 0 for the end
pub next_or_zero : (s t : Iter ℕ) (r : Option (Bor ℕ)) → MatchOption r ((length s.rest.now ≡ 0) × (t ≡ s)) (λ x. s.rest.now ≡ x.now ∷ t.rest.now)
    → (unwrap_or (option_copied r) 0 ≡ get_or s.rest.now 0 0) × (t.rest.now ≡ drop 1 s.rest.now)
next_or_zero s t None e =
    let none : s.rest.now ≡ [] = nil_from_length s.rest.now e.0 in
    (rw none, rw (e.1, none))
next_or_zero s t (Some x) e = (rw e, rw e)

-- ---- the digits that are written

-- one digit more
pub written_more : (b x : ℕ) {j v : ℕ} (out : List ℕ) → take j out ≡ digits b j x → j < length out → v ≡ bits_at b (b * j) x
    → take (j + 1) (set out j v) ≡ digits b (j + 1) x
written_more b x {j} {v} out done within e = rw add-one (take-suc-set out j v within ∙ rw (done, e, digits_snoc))

-- ---- both, where the digits that are read are counted: i of a bits are read, and j of b bits are written to out, which has n places
pub record Regrouped (a b : ℕ) (ds : List ℕ) (n : ℕ) (out : List ℕ) (acc have i j : ℕ) : Type 0 where
  pub within : j ≤ n
  pub long : length out ≡ n
  pub written : take j out ≡ digits b j (number a ds)
  pub held : Held a b ds acc have j (drop i ds)
  pub place : b * j + have ≡ a * i

pub regrouped_none : (a b : ℕ) (ds : List ℕ) {n : ℕ} {out : List ℕ} → length out ≡ n → Regrouped a b ds n out 0 0 0 0
unfolding digits
regrouped_none a b ds e = record {
  within = omega arith;
  long = e;
  written = refl;
  held = held_none a b ds;
  place = omega (arith, mul-zero a, mul-zero b);
}

module _ {a b n : ℕ} {ds out : List ℕ} {acc have i j : ℕ} (r : Regrouped a b ds n out acc have i j) where
  -- a group of g digits is read, as one number
  pub regrouped_read : Small a ds → (g : ℕ) {x : ℕ} → x ≡ acc + number a (take g (drop i ds)) * 2 ^ have
      → Regrouped a b ds n out x (have + a * g) (i + g) j
  regrouped_read small g {x} e = record {
    within = r.within;
    long = r.long;
    written = r.written;
    held = rw (drop-drop g i ds) at (held_read r.held g (small_drop a ds small i) e);
    place = omega (arith, r.place, mul-add a i g);
  }

  -- a digit is written, and the rest is held
  pub regrouped_write : {rest x y : ℕ} → have ≡ rest + b → j < n → x ≡ acc % 2 ^ b → y ≡ acc / 2 ^ b
      → Regrouped a b ds n (set out j x) y rest i (j + 1)
  regrouped_write {rest} e h low high = record {
    within = omega arith;
    long = simp length-set r.long;
    written = written_more b (number a ds) out r.written (omega (arith, r.long)) (low ∙ held_low r.held rest e);
    held = held_high r.held rest e high;
    place = omega (arith, r.place, mul-add b j 1, mul-one b);
  }
