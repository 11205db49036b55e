-- Signed numbers by sign and magnitude, the clamps, and 16-bit two's complement. `nat_abs z` is the magnitude; `pos n` is n and
-- `negsuc n` is −(n + 1). Cutting toward zero and rounding to nearest act on the magnitude and keep the sign. Assumes nothing.
use Rattle.std.specs.Prelude.{ℕ, ◌+◌, ◌-◌, min, Bool, true, false, cond, ltb, ℤ, pos, negsuc, neg_ℤ, nat_abs}

unfoldable pub is_neg : ℤ → Bool
is_neg (pos n) = false
is_neg (negsuc n) = true

-- the number with magnitude m, negated where the flag says so
unfoldable pub with_sign : Bool → ℕ → ℤ
with_sign true m = neg_ℤ (pos m)
with_sign false m = pos m

-- f of the magnitude, the sign kept
unfoldable pub on_magnitude : (ℕ → ℕ) → ℤ → ℤ
on_magnitude f z = with_sign (is_neg z) (f (nat_abs z))

-- to −32768..32767
unfoldable pub clamp16 : ℤ → ℤ
clamp16 (pos n) = pos (min n 32767)
clamp16 (negsuc n) = negsuc (min n 32767)

-- to 0..top
unfoldable pub clamp_to : ℕ → ℤ → ℕ
clamp_to top (pos n) = min n top
clamp_to top (negsuc n) = 0

-- −32768..32767 as 0..65535, in the same order
unfoldable pub raised : ℤ → ℕ
raised (pos n) = n + 32768
raised (negsuc n) = 32767 - n

-- how far a 16-bit number lies below 32767
unfoldable pub depth : ℤ → ℕ
depth (pos n) = 32767 - n
depth (negsuc n) = n + 32768

-- ---- 16-bit two's complement

-- the signed number that 16 bits state
unfoldable pub of_twos : ℕ → ℤ
of_twos n = cond (ltb n 32768) (pos n) (negsuc (65535 - n))

-- the 16 bits of a signed number
unfoldable pub to_twos : ℤ → ℕ
to_twos (pos n) = n
to_twos (negsuc n) = 65535 - n
