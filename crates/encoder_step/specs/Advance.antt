-- The sizes of differences and where they land. Assumes nothing.
use Rattle.std.specs.Prelude.{◌≡◌, ℕ, ◌+◌, ◌-◌, ◌/◌, ◌%◌, ◌<◌, ◌≤◌, min}
use Rattle.sqv4_format.specs.Layout.{encoder_version}
use Rattle.sqv4_format.specs.Step.{step_at, l_size, level_of}
use Rattle.sqv4_format.specs.declared.Variant.{Variant}
use Rattle.encoder_step.specs.declared.Sizes.{Sizes}

-- the size of the difference of a code at a step, by the code's two low bits
abbrev pub size_at : Variant → ℕ → ℕ → ℕ
size_at variant step j = l_size (level_of encoder_version variant j) step

-- the sizes of a variant, a row of four for each index
abbrev pub size_entry : Variant → ℕ → ℕ
size_entry variant k = size_at variant (step_at (k / 4)) (k % 4)

pub record Sized (variant : Variant) (step : ℕ) (r : Sizes) : Type 0 where
  pub first : r.a ≡ size_at variant step 0
  pub second : r.b ≡ size_at variant step 1
  pub third : r.c ≡ size_at variant step 2
  pub fourth : r.d ≡ size_at variant step 3

-- no size is above the last
pub record Ordered (r : Sizes) : Type 0 where
  pub first : r.a ≤ r.d
  pub second : r.b ≤ r.d
  pub third : r.c ≤ r.d

-- the sizes cut off at a limit
pub record Within (s : Sizes) (limit : ℕ) (r : Sizes) : Type 0 where
  pub first : r.a ≡ min s.a limit
  pub second : r.b ≡ min s.b limit
  pub third : r.c ≡ min s.c limit
  pub fourth : r.d ≡ min s.d limit

-- from the raised predictor p to r: `offset` toward the raised sample x, or the limit behind p, where that is nearer
pub record Landed (x p twice offset r : ℕ) : Type 0 where
  pub down : x < p → offset < twice + (65535 - p) → r ≡ p - offset
  pub top : x < p → twice + (65535 - p) ≤ offset → r ≡ 65535
  pub up : p ≤ x → offset ≤ twice + p → r ≡ p + offset
  pub bottom : p ≤ x → twice + p < offset → r ≡ 0
  pub small : r ≤ 65535
