-- Equality as a test that computes. Assumes nothing.
use Rattle.std.specs.Prelude.{ℕ, Bool, true, false, ◌&&◌, List, [], ◌∷◌, eqb, ℤ, pos, negsuc}

unfoldable pub eq_z : ℤ → ℤ → Bool
eq_z (pos a) (pos b) = eqb a b
eq_z (pos a) (negsuc b) = false
eq_z (negsuc a) (pos b) = false
eq_z (negsuc a) (negsuc b) = eqb a b

unfoldable pub same_list : {A : Type 0} → (A → A → Bool) → List A → List A → Bool
same_list eq [] [] = true
same_list eq [] (b ∷ m) = false
same_list eq (a ∷ l) [] = false
same_list eq (a ∷ l) (b ∷ m) = eq a b && same_list eq l m

abbrev pub same_bytes : List ℕ → List ℕ → Bool
same_bytes = same_list eqb

abbrev pub same_samples : List ℤ → List ℤ → Bool
same_samples = same_list eq_z
