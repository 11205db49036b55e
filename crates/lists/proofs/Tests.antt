-- What the tests of equality tell: where one passes, its two sides are the same. Assumes nothing.
use mathlib.Core.Path.{◌≡◌, refl, ap, ap₂}
use mathlib.Core.Bool.{Bool}
use mathlib.Core.List.{List, [], ◌∷◌}
use lib.Dec.{T, eqb, eqb→eq}
use Prim.Native.Nat.{ℕ}
use lib.IntN.{ℤ, pos, negsuc}
use Rattle.lists.specs.Tests.{eq_z, same_list, same_bytes, same_samples}
use Rattle.lists.proofs.Tables.{left, right}

pub eq_z_means : (a b : ℤ) → T (eq_z a b) → a ≡ b
unfolding eq_z
eq_z_means (pos a) (pos b) t = ap pos (eqb→eq a b t)
eq_z_means (pos a) (negsuc b) t = absurd t
eq_z_means (negsuc a) (pos b) t = absurd t
eq_z_means (negsuc a) (negsuc b) t = ap negsuc (eqb→eq a b t)

pub same_list_means : {A : Type 0} (eq : A → A → Bool) → ((a b : A) → T (eq a b) → a ≡ b) → (l m : List A) → T (same_list eq l m) → l ≡ m
unfolding same_list
same_list_means eq h [] [] t = refl
same_list_means eq h [] (b ∷ m) t = absurd t
same_list_means eq h (a ∷ l) [] t = absurd t
same_list_means eq h (a ∷ l) (b ∷ m) t = ap₂ ◌∷◌ (h a b (left (eq a b) (same_list eq l m) t)) (same_list_means eq h l m (right (eq a b) (same_list eq l m) t))

pub same_bytes_means : (l m : List ℕ) → T (same_bytes l m) → l ≡ m
same_bytes_means l m t = same_list_means eqb eqb→eq l m t

pub same_samples_means : (l m : List ℤ) → T (same_samples l m) → l ≡ m
same_samples_means l m t = same_list_means eq_z eq_z_means l m t
