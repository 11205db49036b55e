-- Numbers and their digits, once for every width. A list of numbers below 2 ^ w is the digits, of w bits each and the lowest
-- first, of one number. Bytes are digits of 8 bits, codes of 3 or 4. Packing writes the number of one list as the digits of
-- another width. Assumes nothing.
use Rattle.std.specs.Prelude.{ℕ, zero, suc, ◌+◌, ◌*◌, ◌/◌, ◌%◌, ◌^◌, List, [], ◌∷◌, Bool, eqb, take, drop}

-- the number whose digits of w bits are ds, the lowest first: Σ ds[k] × 2 ^ (w × k). At w = 8 it is the bytes' little-endian number
unfoldable pub number : ℕ → List ℕ → ℕ
number w [] = 0
number w (d ∷ ds) = d + 2 ^ w * number w ds

-- the w bits of x from bit i on
abbrev pub bits_at : ℕ → ℕ → ℕ → ℕ
bits_at w i x = x / 2 ^ i % 2 ^ w

-- the n lowest digits of w bits of x, the lowest first
unfoldable pub digits : ℕ → ℕ → ℕ → List ℕ
digits w zero x = []
digits w (suc n) x = x % 2 ^ w ∷ digits w n (x / 2 ^ w)

-- ---- stored numbers: unsigned, little-endian

-- x in n bytes
abbrev pub stored : ℕ → ℕ → List ℕ
stored n x = digits 8 n x

-- the number in the n bytes from byte `at` on
abbrev pub field : ℕ → ℕ → List ℕ → ℕ
field n at bytes = number 8 (take n (drop at bytes))

-- ---- packed codes: the least bit first, unused bits zero

-- codes of w bits in n bytes
abbrev pub packed : ℕ → ℕ → List ℕ → List ℕ
packed w n codes = digits 8 n (number w codes)

-- the first n codes of w bits that bytes hold, and the code at place i
abbrev pub unpacked : ℕ → ℕ → List ℕ → List ℕ
unpacked w n bytes = digits w n (number 8 bytes)

abbrev pub code_at : ℕ → ℕ → List ℕ → ℕ
code_at w i bytes = bits_at w (w * i) (number 8 bytes)

-- no bit of the bytes from bit `used` on is set: byte used / 8 is below 2 ^ (used % 8), and the bytes after it are 0
abbrev pub rest_zero : ℕ → List ℕ → Bool
rest_zero used bytes = eqb (number 8 bytes / 2 ^ used) 0
