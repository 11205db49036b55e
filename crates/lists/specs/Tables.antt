-- Tests over all entries of a table, to be computed once. Assumes nothing.
use Rattle.std.specs.Prelude.{ℕ, suc, ◌/◌, ◌%◌, Bool, true, ◌&&◌, List, [], ◌∷◌, eqb, ℤ}
use Rattle.std.specs.Int.Signed.{le_z}

-- the test passes at each entry
unfoldable pub every : {A : Type 0} → (A → Bool) → List A → Bool
every f [] = true
every f (x ∷ xs) = f x && every f xs

-- the test passes at each entry with its place, counted from i
unfoldable pub every_at : {A : Type 0} → (ℕ → A → Bool) → ℕ → List A → Bool
every_at f i [] = true
every_at f i (x ∷ xs) = f i x && every_at f (suc i) xs

-- the entry at place k of a table of rows of w is what the rule gives for its row and its place in it
unfoldable pub in_row : ℕ → (ℕ → ℕ → ℕ) → ℕ → ℕ → Bool
in_row w rule k x = eqb x (rule (k / w) (k % w))

-- a signed entry lies in lo..hi
unfoldable pub inside : ℤ → ℤ → ℤ → Bool
inside lo hi z = le_z lo z && le_z z hi
