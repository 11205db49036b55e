-- Lists by index, a list written into another, lists that differ only in a part, and the least of a numbered family. Assumes nothing.
use Rattle.std.specs.Prelude.{◌≡◌, ℕ, zero, suc, ◌+◌, cond, List, [], ◌∷◌, ◌++◌, ltb, length, take, drop}

-- f 0, f 1, .., f (n − 1)
unfoldable pub tabulate {ℓ} : {A : Type ℓ} → (ℕ → A) → ℕ → List A
tabulate f zero = []
tabulate f (suc n) = tabulate f n ++ (f n ∷ [])

-- the lists f 0, f 1, .., f (n − 1), one after the other
unfoldable pub joined {ℓ} : {A : Type ℓ} → (ℕ → List A) → ℕ → List A
joined f zero = []
joined f (suc n) = joined f n ++ f n

-- an output with a list from a place on: the places before and behind it don't change
unfoldable pub written : {A : Type 0} → List A → ℕ → List A → List A
written out at xs = (take at out ++ xs) ++ drop (at + length xs) out

-- m is as long as l, and the same before place `from` and from place `to` on
pub record SameBut {A : Type 0} (from to : ℕ) (l m : List A) : Type 0 where
  pub long : length m ≡ length l
  pub before : take from m ≡ take from l
  pub behind : drop to m ≡ drop to l

-- of f 0, f 1, .., f n the one that costs least; the first of them where several do
unfoldable pub least : {A : Type 0} → (A → ℕ) → (ℕ → A) → ℕ → A
least cost f zero = f zero
least cost f (suc n) =
    let best = least cost f n in
    let next = f (suc n) in
    cond (ltb (cost next) (cost best)) next best
