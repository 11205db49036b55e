-- Loops over lanes that write an element of each of two lists, and the lanes before and after their run. Assumes nothing.
use Prim.Native.Nat.{ℕ, ◌+◌, ◌<◌, ◌≤◌}
use native.Mathlib.Decide.{ℕ_discrete}
use native.Mathlib.Omega.{arith}
use mathlib.Core.Path.{◌≡◌}
use mathlib.Core.List.{List}
use lib.ListN.{length, get_or, set, length-set}
use lib.Seq.{get_or-set_same, get_or-set_other}

-- of n elements of each list the first k are written, and P holds of them
pub record EachOf {A B : Type 0} (P : ℕ → A → B → Type 0) (n k : ℕ) (xs : List A) (ys : List B) : Type 0 where
  pub xs_long : length xs ≡ n
  pub ys_long : length ys ≡ n
  pub each : (j : ℕ) → j < k → (a : A) (b : B) → P j (get_or xs j a) (get_or ys j b)

module _ {A B : Type 0} (P : ℕ → A → B → Type 0) {n : ℕ} {xs : List A} {ys : List B} where
  pub each_more : {k : ℕ} {x : A} {y : B} → EachOf P n k xs ys → k < n → P k x y → EachOf P n (k + 1) (set xs k x) (set ys k y)
  each_more {k} {x} {y} e l p =
      record {
        xs_long = simp length-set e.xs_long;
        ys_long = simp length-set e.ys_long;
        each = λ j m a b. go j a b (ℕ_discrete j k) (omega arith);
      }
    where
      go : (j : ℕ) (a : A) (b : B) → Dec (j ≡ k) → j ≤ k → P j (get_or (set xs k x) j a) (get_or (set ys k y) j b)
      go j a b (yes q) m = rw (q, get_or-set_same xs k x a (omega (arith, e.xs_long)), get_or-set_same ys k y b (omega (arith, e.ys_long))) p
      go j a b (no q) m = rw (get_or-set_other xs k j x a q, get_or-set_other ys k j y b q) (e.each j (omega arith) a b)
