-- Printed text: decimal numbers, lines of fields, and what a lent output holds. Assumes nothing.
use Rattle.std.specs.Prelude.{◌≡◌, ℕ, zero, suc, ◌+◌, ◌/◌, ◌%◌, List, [], ◌∷◌, ◌++◌, length}
use Rattle.lists.specs.Lists.{written}
use Prim.Native.Char.{code}
use Prim.Native.String.{String, [] as empty, ◌∷◌ as ◌then◌}

-- the ASCII codes of a text
unfoldable pub letters : String → List ℕ
letters empty = []
letters (c then s) = code c ∷ letters s

-- the last k decimal digits of a number above 0, the highest first: those of n / 10, then n % 10
unfoldable pub digits_of : ℕ → ℕ → List ℕ
digits_of zero n = []
digits_of (suc k) zero = []
digits_of (suc k) (suc n) = digits_of k (suc n / 10) ++ ((48 + suc n % 10) ∷ [])

-- a decimal field, without leading zeros: no number has more digits than itself
unfoldable pub decimal : ℕ → List ℕ
decimal zero = letters "0"
decimal (suc n) = digits_of (suc n) (suc n)

-- fields have one space between them
unfoldable pub spaced : List (List ℕ) → List ℕ
spaced [] = []
spaced (x ∷ []) = x
spaced (x ∷ y ∷ ys) = x ++ (letters " " ++ spaced (y ∷ ys))

-- a line ends in a newline
unfoldable pub line : List (List ℕ) → List ℕ
line fields = spaced fields ++ letters "\n"

-- an output with a text at a place
pub record Put (before : List ℕ) (at : ℕ) (text after : List ℕ) (next : ℕ) : Type 0 where
  pub place : next ≡ at + length text
  pub output : after ≡ written before at text
