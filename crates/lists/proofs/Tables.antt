-- A rule of a table, of any type of entries, proved by one test that is computed over the whole table and carried to each index
-- by one law; and a signed entry's range as facts on natural numbers. Assumes nothing.
use mathlib.Core.Path.{◌≡◌, refl, ◌∙◌}
use mathlib.Core.Bool.{Bool, true, false, ◌&&◌}
use mathlib.Core.List.{List, [], ◌∷◌}
use Prim.Native.Nat.{ℕ, zero, suc, ◌+◌, ◌*◌, ◌/◌, ◌%◌, ◌≤◌, ◌<◌}
use native.Mathlib.Nat.{le_of_suc-le-suc, not-suc-le-zero, add-zero, zero-add, add-suc, suc-add}
use native.Mathlib.Omega.{arith}
use lib.Arith.{digits_div, digits_mod}
use lib.Dec.{T, leb, leb→le, eqb→eq}
use lib.IntN.{ℤ, pos, negsuc, nat_abs}
use lib.ListN.{length, get_or}
use Rattle.lists.specs.Tables.{every, every_at, in_row, inside}

-- both tests pass
pub left : (a b : Bool) → T (a && b) → T a
left true b t = tt
left false b t = t

pub right : (a b : Bool) → T (a && b) → T b
right true b t = t
right false b t = absurd t

module _ {A : Type 0} where
  pub at : (f : A → Bool) (xs : List A) (d : A) → T (every f xs) → (k : ℕ) → k < length xs → T (f (get_or xs k d))
  unfolding every
  at f [] d t k h = absurd (not-suc-le-zero h)
  at f (x ∷ xs) d t zero h = left (f x) (every f xs) t
  at f (x ∷ xs) d t (suc k) h = at f xs d (right (f x) (every f xs) t) k (le_of_suc-le-suc h)

  from : (f : ℕ → A → Bool) (xs : List A) (d : A) (i : ℕ) → T (every_at f i xs) → (k : ℕ) → k < length xs → T (f (i + k) (get_or xs k d))
  unfolding every_at
  from f [] d i t k h = absurd (not-suc-le-zero h)
  from f (x ∷ xs) d i t zero h = rw add-zero (left (f i x) (every_at f (suc i) xs) t)
  from f (x ∷ xs) d i t (suc k) h =
      rw (add-suc, ← (suc-add i k)) (from f xs d (suc i) (right (f i x) (every_at f (suc i) xs) t) k (le_of_suc-le-suc h))

  -- the same where the rule names the place
  pub at_place : (f : ℕ → A → Bool) (xs : List A) (d : A) → T (every_at f 0 xs) → (k : ℕ) → k < length xs → T (f k (get_or xs k d))
  at_place f xs d t k h = rw zero-add at (from f xs d 0 t k h)

-- the same of a table of rows
pub at_row : (w : ℕ) (rule : ℕ → ℕ → ℕ) (xs : List ℕ) → T (every_at (in_row w rule) 0 xs) → (i l : ℕ) → l < w → i * w + l < length xs
    → get_or xs (i * w + l) 0 ≡ rule i l
unfolding in_row
at_row w rule xs t i l h k =
    eqb→eq (get_or xs (i * w + l) 0) (rule ((i * w + l) / w) ((i * w + l) % w)) (at_place (in_row w rule) xs 0 t (i * w + l) k)
    ∙ rw (digits_div i h, digits_mod i h)

-- ---- a ≤ z ≤ b

pub inside_pos : (a b : ℕ) (z : ℤ) → T (inside (pos a) (pos b) z) → z ≡ pos (nat_abs z)
unfolding inside
inside_pos a b (pos n) t = refl
inside_pos a b (negsuc n) t = absurd t

pub inside_low : (a b : ℕ) (z : ℤ) → T (inside (pos a) (pos b) z) → a ≤ nat_abs z
unfolding inside
inside_low a b (pos n) t = leb→le a n (left (leb a n) (leb n b) t)
inside_low a b (negsuc n) t = absurd t

pub inside_high : (a b : ℕ) (z : ℤ) → T (inside (pos a) (pos b) z) → nat_abs z ≤ b
unfolding inside
inside_high a b (pos n) t = leb→le n b (right (leb a n) (leb n b) t)
inside_high a b (negsuc n) t = absurd t

-- ---- −(a + 1) ≤ z ≤ b

pub inside-abs : (a b : ℕ) (z : ℤ) → T (inside (negsuc a) (pos b) z) → nat_abs z ≤ suc (a + b)
unfolding inside
inside-abs a b (pos n) t = omega (arith, leb→le n b t)
inside-abs a b (negsuc n) t = omega (arith, leb→le n a (left (leb n a) true t))
