-- Two stores at the front of a list, and the rest lent and come back. Assumes nothing.
use mathlib.Core.Path.{◌≡◌, refl, ◌∙◌, ap}
use mathlib.Core.List.{List, [], ◌∷◌, ◌++◌}
use Prim.Native.Nat.{ℕ, ◌-◌, ◌≤◌}
use native.Mathlib.Omega.{arith}
use lib.ListN.{length, take, drop, set, length-set}
use Rattle.lists.proofs.Parts.{tail_length, tail_put}

front : (l : List ℕ) (v i : ℕ) → 2 ≤ length l → take 2 (set (set l 0 v) 1 i) ≡ v ∷ i ∷ []
front [] v i h = let z : ⊥ = omega arith in absurd z
front (x ∷ []) v i h = let z : ⊥ = omega arith in absurd z
front (x ∷ y ∷ l) v i h = refl

module _ (l : List ℕ) (v i : ℕ) where
  abbrev stored : List ℕ
  stored = set (set l 0 v) 1 i

  length_stored : length stored ≡ length l
  length_stored = length-set (set l 0 v) 1 i ∙ length-set l 0 v

  pub rest_length : length (take (length stored - 2) (drop 2 stored)) ≡ length l - 2
  rest_length = tail_length 2 stored ∙ ap (◌- 2) length_stored

  pub rest_put : 2 ≤ length l → {y z : List ℕ} → y ≡ z → take 2 stored ++ (y ++ drop (length stored - 2) (drop 2 stored)) ≡ v ∷ i ∷ z
  rest_put h {y} {z} e = tail_put 2 stored e ∙ ap (◌++ z) (front l v i h)
