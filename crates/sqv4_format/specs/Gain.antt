-- Pre-gain, volume, normalising and output gain. Assumes nothing.
use Rattle.std.specs.Prelude.{ℕ, zero, suc, ◌+◌, ◌*◌, ◌/◌, ◌≤◌, ◌<◌, min, max, cond, List, ℤ, pos, nat_abs, get_or, length}
use Rattle.signed.specs.Signed.{on_magnitude, clamp16}
use Rattle.sqv4_format.specs.Layout.{anew, rounded_up}

-- a / b to nearest, a half upward: of a magnitude that is away from zero
abbrev pub nearest : ℕ → ℕ → ℕ
nearest a b = (a + b / 2) / b

-- what that means: n is within half a unit of a / b, and a half goes up
pub record Nearest (n a b : ℕ) : Type 0 where
  pub above : 2 * (n * b) ≤ 2 * a + b
  pub below : 2 * a < 2 * (n * b) + b

-- what cutting means: n is the greatest number that is not above a / b
pub record Cut (n a b : ℕ) : Type 0 where
  pub above : n * b ≤ a
  pub below : a < n * b + b

-- sample × g / 255, cut toward zero
unfoldable pub pregained : ℕ → ℤ → ℤ
pregained g = on_magnitude (λ m. m * g / 255)

-- the peak magnitude of the first n samples
unfoldable pub peak : List ℤ → ℕ → ℕ
peak xs zero = 0
peak xs (suc n) = max (peak xs n) (nat_abs (get_or xs n (pos 0)))

-- peak magnitude × 255 / 32767, rounded up, at most 255
abbrev pub volume_of : ℕ → ℕ
volume_of top = min 255 (rounded_up (top * 255) 32767)

-- the volume of a fragment's pre-gained samples
abbrev pub own_volume : List ℤ → ℕ
own_volume xs = volume_of (peak xs (length xs))

-- magnitude × 255 / v to nearest, half away from zero, sign kept, clamp to 16 bits
unfoldable pub normalised : ℕ → ℤ → ℤ
normalised v x = clamp16 (on_magnitude (λ m. nearest (m * 255) v) x)

-- predictor × v / 255: to nearest from version 3 on, cut toward zero in versions 1, 2
unfoldable pub output_gain : ℕ → ℕ → ℤ → ℤ
output_gain version v = on_magnitude (λ m. cond (anew version) (nearest (m * v) 255) (m * v / 255))
