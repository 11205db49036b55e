-- Decimal numbers by their digits, and texts that are put one behind the other. Assumes nothing.
use mathlib.Core.Path.{◌≡◌, refl, sym, ap, ◌∙◌}
use mathlib.Core.List.{List, [], ◌∷◌, ◌++◌}
use Prim.Native.Nat.{ℕ, zero, suc, ◌+◌, ◌-◌, ◌/◌, ◌%◌, ◌^◌, ◌≤◌, ◌<◌, min}
use native.Mathlib.Nat.{sub-zero, zero-sub, add-zero, pow-suc}
use native.Mathlib.Omega.{arith}
use lib.ListN.{length, take, drop, length-append, length-take, length-drop}
use lib.Seq.{length-take-le, take-nil, take_all}
use Rattle.std.proofs.lemmas.List.{take_min}
use Rattle.lists.proofs.Parts.{part_put, written_none, then_written}
use Rattle.std.specs.Fmt as std
use Rattle.std.proofs.lemmas.Fmt.{decimal_from_appends, length-decimal-le}
use Rattle.lists.specs.Lists.{written}
use Rattle.text.specs.Text.{letters, digits_of, decimal, Put}
use Rattle.text.specs.Printer.{Printed}
use Rattle.text.specs.declared.Printer.{Printer}

-- ---- decimal numbers

-- a number of k + 1 digits is above k
many : (k : ℕ) → k < 10 ^ k
many zero = omega arith
many (suc k) = rw (pow-suc 10 k) (omega (arith, many k))

-- a number's digits by their count, of which 0 has one
by_count : ℕ → ℕ → List ℕ
by_count k zero = letters "0"
by_count k (suc n) = digits_of k (suc n)

none_left : (k : ℕ) → digits_of k 0 ≡ []
unfolding digits_of
none_left zero = refl
none_left (suc k) = refl

above_0 : (k n : ℕ) → 0 < n → by_count k n ≡ digits_of k n
unfolding by_count
above_0 k zero h = let z : ⊥ = omega arith in absurd z
above_0 k (suc n) h = refl

one_digit : (k n : ℕ) → n < 10 → by_count (suc k) n ≡ (48 + n) ∷ []
unfolding by_count digits_of letters
one_digit k zero h = refl
one_digit k (suc n) h =
    let front : suc n / 10 ≡ 0 = omega arith in
    let last : suc n % 10 ≡ suc n = omega arith in
    rw (front, last, none_left k) refl

more_digits : (k n : ℕ) → 10 ≤ n → by_count (suc k) n ≡ by_count k (n / 10) ++ ((48 + n % 10) ∷ [])
unfolding by_count digits_of
more_digits k zero h = let z : ⊥ = omega arith in absurd z
more_digits k (suc n) h = let some : 0 < suc n / 10 = omega arith in rw (above_0 k (suc n / 10) some) refl

-- what the library prints is the decimal number
pub spelled : (n : ℕ) → n < 2 ^ 64 → std.decimal n ≡ decimal n
unfolding decimal letters by_count std.digits
spelled zero h = refl
spelled (suc n) h =
    let short = length-decimal-le (suc n) (suc n) (omega arith) (many (suc n)) h in
    sym (decimal_from_appends by_count (record { one = one_digit; more = more_digits }) (suc n) (suc n) h short)

-- a number of 64 bits has at most 20 digits
pub decimal_few : (n : ℕ) → n < 2 ^ 64 → length (decimal n) ≤ 20
decimal_few n h = rw (← (spelled n h)) (length-decimal-le 20 n (omega arith) (omega arith) h)

-- ---- texts one behind the other

pub length-put : {out after text : List ℕ} {at next : ℕ} → Put out at text after next → next ≤ length out → length after ≡ length out
unfolding written
length-put p h = ap length p.output ∙ simp (length-append, length-take, length-drop) (omega (arith, p.place))

-- the text ends in an output that has kept its length
pub put_ends : {out after text : List ℕ} {next : ℕ} → Put out 0 text after next → length after ≡ length out → next ≤ length after
unfolding written
put_ends p e = omega (arith, p.place, simp (length-append, length-drop) at (ap length p.output))

module _ (out : List ℕ) (at : ℕ) (h : at ≤ length out) where
  pub put_none : Put out at [] out at
  put_none = record { place = sym (add-zero at); output = sym (written_none out at) }

  pub then_put : {x y one two : List ℕ} {a b : ℕ} → Put out at x one a → Put one a y two b → Put out at (x ++ y) two b
  then_put {x} {y} p q =
      record {
        place = q.place ∙ ap (λ (n : ℕ). n + length y) p.place ∙ simp length-append (omega arith);
        output = q.output ∙ rw (p.output, p.place) (then_written out at h x y);
      }

-- ---- what does not fit is left out

cut_append : (n : ℕ) (x y : List ℕ) → take n (x ++ y) ≡ take n x ++ take (n - length x) y
cut_append n [] y = rw (take-nil n, sub-zero n) refl
cut_append zero (c ∷ x) y = rw zero-sub refl
cut_append (suc n) (c ∷ x) y = ap (λ (l : List ℕ). c ∷ l) (cut_append n x y ∙ ap (λ (k : ℕ). take n x ++ take k y) (omega arith))

-- the code's way to print a piece: the letters of it that fit are copied
module _ (p : Printer) (piece : List ℕ) (size : ℕ) (fits : size ≡ min (length piece) (length p.out.now - p.at)) where
  pub copied : {part : List ℕ} → part ≡ take size piece
      → take p.at p.out.now ++ (part ++ drop (p.at + size - p.at) (drop p.at p.out.now)) ≡ written p.out.now p.at (take (length p.out.now - p.at) piece)
  unfolding written
  copied all =
      let whole : length (take size piece) ≡ size = length-take-le size piece (omega arith) in
      let least : size ≡ min (length p.out.now - p.at) (length piece) = omega arith in
      let front : take size piece ≡ take (length p.out.now - p.at) piece = ap (λ (n : ℕ). take n piece) least ∙ take_min (length p.out.now - p.at) piece in
      part_put p.at size p.out.now all ∙ rw (← front, whole) refl

pub printed_none : (p : Printer) → Printed p [] p
printed_none p = record { same_reference = refl; place = omega (arith, p.within); output = rw (take-nil (length p.out.now - p.at)) (put_none p.out.now p.at p.within).output }

module _ {p q : Printer} {x : List ℕ} (a : Printed p x q) where
  shown : List ℕ
  shown = take (length p.out.now - p.at) x

  place : q.at ≡ p.at + length shown
  unfolding shown
  place = simp length-take (omega (arith, a.place, p.within))

  kept : length q.out.now ≡ length p.out.now
  unfolding shown
  kept =
      let first : Put p.out.now p.at shown q.out.now q.at = record { place = place; output = a.output } in
      length-put first (omega (arith, a.place))

  pub then_printed : {r : Printer} {y : List ℕ} → Printed q y r → Printed p (x ++ y) r
  unfolding shown
  then_printed {r} {y} b =
      let room = length p.out.now - p.at in
      let first : Put p.out.now p.at shown q.out.now q.at = record { place = place; output = a.output } in
      let rest = take (length q.out.now - q.at) y in
      let second : Put q.out.now q.at rest r.out.now (q.at + length rest) = record { place = refl; output = b.output } in
      let counts : take (length q.out.now - q.at) y ≡ take (room - length x) y = ap (λ (k : ℕ). take k y) (omega (arith, a.place, kept, p.within)) in
      record {
        same_reference = b.same_reference ∙ a.same_reference;
        place = omega (arith, a.place, b.place, kept, length-append x y);
        output = (then_put p.out.now p.at p.within first second).output ∙ ap (written p.out.now p.at) (ap (λ (l : List ℕ). shown ++ l) counts ∙ sym (cut_append room x y));
      }

  -- a text that fits is put whole
  pub printed_whole : p.at + length x ≤ length p.out.now → Put p.out.now p.at x q.out.now q.at
  printed_whole fits =
      record {
        place = omega (arith, a.place);
        output = a.output ∙ ap (written p.out.now p.at) (take_all (length p.out.now - p.at) x (omega arith));
      }
