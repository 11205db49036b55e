-- The least of a numbered family: nothing costs less, and everything before it costs more. Assumes nothing.
use mathlib.Core.Path.{◌≡◌, refl, subst, ◌∙◌, ap}
use Prim.Native.Nat.{ℕ, zero, suc, ◌≤◌, ◌<◌}
use native.Mathlib.Omega.{arith}
use native.Mathlib.Decide.{dec_lt}
use mathlib.Core.Bool.{Bool, true, false, not, cond}
use borrow.Author.Tests.{lt-ltb, le-ltb}
use lib.Dec.{T, ltb, ltb→lt, nltb→le}
use Rattle.lists.specs.Lists.{least}

pub record Least {A : Type 0} (cost : A → ℕ) (f : ℕ → A) (n : ℕ) (a : A) : Type 0 where
  pub place : ℕ
  pub within : place ≤ n
  pub is : a ≡ f place
  pub lowest : (i : ℕ) → i ≤ n → cost a ≤ cost (f i)
  pub first : (i : ℕ) → i < place → cost a < cost (f i)

module _ {A : Type 0} (cost : A → ℕ) (f : ℕ → A) where
  -- one more: what holds of all before it, and of it, holds of all
  up_to : (n : ℕ) (a : A) → ((i : ℕ) → i ≤ n → cost a ≤ cost (f i)) → cost a ≤ cost (f (suc n)) → (i : ℕ) → i ≤ suc n → cost a ≤ cost (f i)
  up_to n a below here i h = go (dec_lt i (suc n))
    where
      go : Dec (i < suc n) → cost a ≤ cost (f i)
      go (yes k) = below i (omega arith)
      go (no k) = let e : i ≡ suc n = omega arith in rw e here

  pub least_is : (n : ℕ) → Least cost f n (least cost f n)
  unfolding least
  least_is zero =
      record {
        place = 0;
        within = omega arith;
        is = refl;
        lowest = λ i h. let e : 0 ≡ i = omega arith in subst (λ k. cost (f 0) ≤ cost (f k)) e (omega arith);
        first = λ i h. omega arith;
      }
  least_is (suc n) = go (least cost f n) (least_is n) (ltb (cost (f (suc n))) (cost (least cost f n))) (ltb→lt _ _) (nltb→le _ _)
    where
      go : (best : A) → Least cost f n best → (b : Bool) → (T b → cost (f (suc n)) < cost best) → (T (not b) → cost best ≤ cost (f (suc n)))
          → Least cost f (suc n) (cond b (f (suc n)) best)
      go best r true less more =
          record {
            place = suc n;
            within = omega arith;
            is = refl;
            lowest = up_to n (f (suc n)) (λ i h. omega (arith, less tt, r.lowest i h)) (omega arith);
            first = λ i h. omega (arith, less tt, r.lowest i (omega arith));
          }
      go best r false less more =
          record {
            place = r.place;
            within = omega (arith, r.within);
            is = r.is;
            lowest = up_to n best r.lowest (more tt);
            first = r.first;
          }

  -- there is one at most
  pub least_at : (n place : ℕ) → place ≤ n → ((i : ℕ) → i ≤ n → cost (f place) ≤ cost (f i)) → ((i : ℕ) → i < place → cost (f place) < cost (f i))
      → least cost f n ≡ f place
  least_at n place h lowest first = go (dec_lt l.place place) (dec_lt place l.place)
    where
      l : Least cost f n (least cost f n)
      l = least_is n

      go : Dec (l.place < place) → Dec (place < l.place) → least cost f n ≡ f place
      go (yes a) b = absurd (omega (arith, first l.place a, l.lowest place h, ap cost l.is))
      go (no a) (yes b) = absurd (omega (arith, l.first place b, lowest l.place l.within, ap cost l.is))
      go (no a) (no b) = let e : l.place ≡ place = omega arith in l.is ∙ ap f e

  -- one more, by the test that a loop makes
  pub least_taken : (n : ℕ) → cost (f (suc n)) < cost (least cost f n) → least cost f (suc n) ≡ f (suc n)
  unfolding least
  least_taken n h = rw (lt-ltb _ _ h)

  pub least_kept : (n : ℕ) → cost (least cost f n) ≤ cost (f (suc n)) → least cost f (suc n) ≡ least cost f n
  unfolding least
  least_kept n h = rw (le-ltb _ _ h)
