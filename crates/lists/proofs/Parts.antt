-- A part of a list that was lent, the list when the part is back, and lists written one behind the other. Assumes nothing.
use mathlib.Core.Path.{◌≡◌, refl, sym, ap, ◌∙◌}
use mathlib.Core.List.{List, [], ◌++◌, append_assoc, append-nil}
use Prim.Native.Nat.{ℕ, ◌+◌, ◌-◌, ◌≤◌}
use native.Mathlib.Omega.{arith}
use native.Mathlib.Nat.{add-zero, zero-add, add_assoc, le_of_eq, add-sub_cancel_left}
use lib.ListN.{length, get_or, take, drop, length-append, length-drop, take-append-drop, drop_of_length-le}
use lib.Seq.{take_at, drop-drop, drop-append-add, length-take-le, take_all}
use Rattle.std.proofs.lemmas.List.{get_or-take, get_or-drop, take-take, drop-take}
use Rattle.lists.specs.Lists.{written, SameBut}

-- the part from `at` to `at + len`, whose length a lent part has as its end less its start
module _ {A : Type 0} (at len : ℕ) (l : List A) where
  pub part_put : {v w : List A} → v ≡ w → take at l ++ (v ++ drop (at + len - at) (drop at l)) ≡ take at l ++ w ++ drop (at + len) l
  part_put {v} {w} e = rw (add-sub_cancel_left at len, drop-drop len at l, e) (sym (append_assoc (take at l) w (drop (at + len) l)))

-- the part from `at` to the end
module _ {A : Type 0} (at : ℕ) (l : List A) where
  pub tail_all : take (length l - at) (drop at l) ≡ drop at l
  tail_all = take_all (length l - at) (drop at l) (le_of_eq (length-drop at l))

  pub tail_length : length (take (length l - at) (drop at l)) ≡ length l - at
  tail_length = ap length tail_all ∙ length-drop at l

  pub tail_put : {v w : List A} → v ≡ w → take at l ++ (v ++ drop (length l - at) (drop at l)) ≡ take at l ++ w
  tail_put {v} {w} e = rw (drop_of_length-le (drop at l) (le_of_eq (length-drop at l)), append-nil, e)

-- ---- lists one behind the other

module _ {A : Type 0} (out : List A) where
  pub written_front : (x : List A) → written out 0 x ≡ x ++ drop (length x) out
  unfolding written
  written_front x = rw zero-add refl

  pub written_none : (at : ℕ) → written out at [] ≡ out
  unfolding written
  written_none at = rw (append-nil, add-zero) (take-append-drop at out)

module _ {A : Type 0} (out : List A) (at : ℕ) (h : at ≤ length out) where
  front : (x : List A) → length (take at out ++ x) ≡ at + length x
  front x = length-append (take at out) x ∙ ap (λ (n : ℕ). n + length x) (length-take-le at out h)

  pub then_written : (x y : List A) → written (written out at x) (at + length x) y ≡ written out at (x ++ y)
  unfolding written
  then_written x y =
      let before = take at out ++ x in
      let rest = drop (at + length x) out in
      let later : drop ((at + length x) + length y) (before ++ rest) ≡ drop ((at + length x) + length y) out =
      ap (λ (n : ℕ). drop (n + length y) (before ++ rest)) (sym (front x)) ∙ drop-append-add before rest (length y) ∙ drop-drop (length y) (at + length x) out in
      rw (take_at before rest (at + length x) (front x), later, append_assoc (take at out) x y, length-append x y, ← (add_assoc at (length x) (length y)))

  -- one more, in the part of the output behind those before it, as the part was lent: from its start to its end
  pub more_written : (x y : List A) {now v : List A} {from len : ℕ} → from ≡ at + length x → len ≡ length y → now ≡ written out at x → v ≡ y
      → take from now ++ (v ++ drop (from + len - from) (drop from now)) ≡ written out at (x ++ y)
  unfolding written
  more_written x y {now} {v} {from} {len} ef el en ev = part_put from len now ev ∙ rw (ef, el, en) (then_written x y)

-- ---- lists that differ only in a part

module _ {A : Type 0} {from to : ℕ} {l m : List A} (same : SameBut from to l m) where
  pub same_before : (at n : ℕ) → at + n ≤ from → take n (drop at m) ≡ take n (drop at l)
  same_before at n h = cut m ∙ ap (λ k. drop at (take (at + n) k)) same.before ∙ sym (cut l)
    where
      cut : (k : List A) → take n (drop at k) ≡ drop at (take (at + n) (take from k))
      cut k = sym (drop-take at n k) ∙ ap (drop at) (sym (take-take (at + n) from k h))

  pub same_behind : (at n : ℕ) → to ≤ at → take n (drop at m) ≡ take n (drop at l)
  same_behind at n h = ap (take n) (cut m ∙ ap (drop (at - to)) same.behind ∙ sym (cut l))
    where
      cut : (k : List A) → drop at k ≡ drop (at - to) (drop to k)
      cut k = sym (drop-drop (at - to) to k ∙ ap (λ i. drop i k) (omega arith))

-- a part of one place
pub same_place : {A : Type 0} (l m : List A) (at : ℕ) (d : A) → take 1 (drop at m) ≡ take 1 (drop at l) → get_or m at d ≡ get_or l at d
same_place {A = A} l m at d e = first m ∙ ap (λ k. get_or k 0 d) e ∙ sym (first l)
  where
    first : (k : List A) → get_or k at d ≡ get_or (take 1 (drop at k)) 0 d
    first k = sym (get_or-take 1 (drop at k) 0 d (omega arith) ∙ get_or-drop at k 0 d ∙ ap (λ i. get_or k i d) (omega arith))
