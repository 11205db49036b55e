-- Two's complement in 16 bits: it is std's, and its two directions undo each other. Assumes nothing.
use Prim.Native.Nat.{ℕ, ◌<◌, ◌≤◌}
use native.Mathlib.Omega.{arith}
use mathlib.Core.Path.{◌≡◌, refl}
use lib.IntN.{ℤ, pos, negsuc}
use lib.Signed.{mag}
use mir.Syntax.{w16}
use mir.Val.{to_z, of_z}
use mir.Facts.{of_z-to_z}
use Rattle.std.proofs.lemmas.Int.{ints}
use Rattle.std.proofs.lemmas.Bool.Decides.{nat_tests}
use Rattle.signed.specs.Signed.{of_twos, to_twos}

-- std's readings of 16 bits
pub signed_of : (n : ℕ) → to_z w16 n ≡ of_twos n
unfolding of_twos
signed_of n = grind (arith, ints, nat_tests)

pub bits_of : (z : ℤ) → of_z w16 z ≡ to_twos z
unfolding to_twos
bits_of (pos n) = refl
bits_of (negsuc n) = omega arith

-- the two directions
pub of_to : (z : ℤ) → mag z ≤ 32767 → of_twos (to_twos z) ≡ z
of_to z h = rw (← (signed_of (to_twos z)), ← (bits_of z)) (omega (arith, ints))

pub to_of : (n : ℕ) → n < 65536 → to_twos (of_twos n) ≡ n
to_of n h = rw (← (bits_of (of_twos n)), ← (signed_of n)) (of_z-to_z {w = w16} (record { fits = h }))

pub to_lt : (z : ℤ) → mag z ≤ 32767 → to_twos z < 65536
unfolding to_twos
to_lt (pos n) h = omega arith
to_lt (negsuc n) h = omega arith
