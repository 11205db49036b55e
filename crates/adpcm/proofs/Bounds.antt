-- The bounds of the tables' entries, each by one computed test, and what follows for a step, a level, a difference and an
-- adjustment; and what L and L+ share. Assumes nothing.
use mathlib.Core.Path.{◌≡◌, refl}
use mathlib.Core.Logic.{◌⊎◌, inl, inr}
use mathlib.Core.Bool.{Bool, true, false, cond}
use Prim.Native.Nat.{ℕ, ◌/◌, ◌%◌, ◌^◌, ◌≤◌, ◌<◌}
use native.Mathlib.Nat.{mul-le-mul}
use native.Mathlib.Omega.{arith}
use lib.Dec.{T, eqb}
use lib.IntN.{ℤ, pos, negsuc, nat_abs}
use lib.ListN.{get_or}
use mir.Syntax.{w32}
use mir.Val.{to_z, of_z}
use Rattle.lists.specs.Tables.{every, inside}
use Rattle.lists.proofs.Tables.{at, inside_pos, inside_low, inside_high, inside-abs}
use Rattle.signed.specs.Signed.{with_sign}
use Rattle.signed.proofs.Laws.{nat_abs-with_sign, Read, small_read, up32}
use Rattle.sqv4_format.specs.Tables.{steps, h_index_adjust, l_index_adjust, l_levels, l_plus_levels, legacy_l_plus_levels}
use Rattle.sqv4_format.specs.Layout.{bits}
use Rattle.sqv4_format.specs.Step.{step_at, bit_set, h_size, l_size, levels, level_of, difference, adjustment}
use Rattle.sqv4_format.specs.declared.Variant.{Variant}
use Rattle.sqv4_format.specs.declared.Variant.TheVariants.{H, L, LPlus}
use Rattle.sqv4_format.proofs.Sizes.{part_le}

-- ---- the steps, in 7..32767

steps_in : (index : ℕ) → index ≤ 88 → T (inside (pos 7) (pos 32767) (get_or steps index (pos 0)))
unfolding steps every inside
steps_in index h = at (inside (pos 7) (pos 32767)) steps (pos 0) tt index (omega arith)

module _ (index : ℕ) (h : index ≤ 88) where
  pub step_is : get_or steps index (pos 0) ≡ pos (step_at index)
  unfolding step_at
  step_is = inside_pos 7 32767 (get_or steps index (pos 0)) (steps_in index h)

  pub step_low : 7 ≤ step_at index
  unfolding step_at
  step_low = inside_low 7 32767 (get_or steps index (pos 0)) (steps_in index h)

  pub step_high : step_at index ≤ 32767
  unfolding step_at
  step_high = inside_high 7 32767 (get_or steps index (pos 0)) (steps_in index h)

  -- an entry as a local of 32 bits holds it
  pub step_entry : to_z w32 (of_z w32 (get_or steps index (pos 0))) ≡ pos (step_at index)
  step_entry = rw step_is (up32 (step_at index) (omega (arith, step_high)))

-- ---- the levels, in 0..14

levels_in : (version : ℕ) (variant : Variant) (code : ℕ) → T (inside (pos 0) (pos 14) (get_or (levels version variant) (code % 4) (pos 0)))
unfolding l_levels l_plus_levels legacy_l_plus_levels every inside
levels_in version H code = at (inside (pos 0) (pos 14)) (levels version H) (pos 0) tt (code % 4) (omega arith)
levels_in version L code = at (inside (pos 0) (pos 14)) l_levels (pos 0) tt (code % 4) (omega arith)
levels_in version LPlus code = go (eqb version 1)
  where
    go : (b : Bool) → T (inside (pos 0) (pos 14) (get_or (cond b legacy_l_plus_levels l_plus_levels) (code % 4) (pos 0)))
    go true = at (inside (pos 0) (pos 14)) legacy_l_plus_levels (pos 0) tt (code % 4) (omega arith)
    go false = at (inside (pos 0) (pos 14)) l_plus_levels (pos 0) tt (code % 4) (omega arith)

module _ (version : ℕ) (variant : Variant) (code : ℕ) where
  pub level_is : get_or (levels version variant) (code % 4) (pos 0) ≡ pos (level_of version variant code)
  unfolding level_of
  level_is = inside_pos 0 14 (get_or (levels version variant) (code % 4) (pos 0)) (levels_in version variant code)

  pub level_high : level_of version variant code ≤ 14
  unfolding level_of
  level_high = inside_high 0 14 (get_or (levels version variant) (code % 4) (pos 0)) (levels_in version variant code)

  pub level_entry : to_z w32 (of_z w32 (get_or (levels version variant) (code % 4) (pos 0))) ≡ pos (level_of version variant code)
  level_entry = rw level_is (up32 (level_of version variant code) (omega (arith, level_high)))

-- ---- the adjustments, in −1..8

h_adjustment : (code : ℕ) → code < 16 → nat_abs (get_or h_index_adjust code (pos 0)) ≤ 9
unfolding h_index_adjust every inside
h_adjustment code h =
    inside-abs 0 8 (get_or h_index_adjust code (pos 0)) (at (inside (negsuc 0) (pos 8)) h_index_adjust (pos 0) tt code (omega arith))

l_adjustment : (code : ℕ) → nat_abs (get_or l_index_adjust (code % 4) (pos 0)) ≤ 9
unfolding l_index_adjust every inside
l_adjustment code =
    inside-abs 0 8 (get_or l_index_adjust (code % 4) (pos 0)) (at (inside (negsuc 0) (pos 8)) l_index_adjust (pos 0) tt (code % 4) (omega arith))

pub adjustment_small : (variant : Variant) (code : ℕ) → code < 2 ^ bits variant → nat_abs (adjustment variant code) ≤ 9
adjustment_small H code h = h_adjustment code (omega arith)
adjustment_small L code h = l_adjustment code
adjustment_small LPlus code h = l_adjustment code

-- ---- the differences, at most 65535

module _ (step : ℕ) (h : step ≤ 32767) where
  h_size_lem : (code : ℕ) → h_size step code ≤ 65535
  unfolding h_size
  h_size_lem code =
      omega (arith, part_le (bit_set code 1) (step / 4), part_le (bit_set code 2) (step / 2), part_le (bit_set code 4) step)

  pub l_size_lem : (level : ℕ) → level ≤ 14 → l_size level step ≤ 65535
  unfolding l_size
  l_size_lem level k = omega (arith, mul-le-mul k h)

  pub difference_small : (version : ℕ) (variant : Variant) (code : ℕ) → nat_abs (difference version variant step code) ≤ 65535
  unfolding difference
  difference_small version H code = rw nat_abs-with_sign (h_size_lem code)
  difference_small version L code = rw nat_abs-with_sign (l_size_lem _ (level_high version L code))
  difference_small version LPlus code = rw nat_abs-with_sign (l_size_lem _ (level_high version LPlus code))

-- ---- a signed result, read back with its bound

pub adjustment_read : (variant : Variant) (code : ℕ) → code < 2 ^ bits variant
    → (z : ℤ) → z ≡ adjustment variant code → Read z (adjustment variant code) 9
adjustment_read variant code h z e = small_read z (adjustment variant code) 9 e (adjustment_small variant code h) (omega arith)

-- ---- L and L+, the variants of three bits

pub three : (variant : Variant) → (variant ≡ L) ⊎ (variant ≡ LPlus) → bits variant ≡ 3
three variant (inl e) = rw e
three variant (inr e) = rw e

pub difference_three : (version : ℕ) (variant : Variant) (step code : ℕ) → bits variant ≡ 3
    → difference version variant step code ≡ with_sign (bit_set code 4) (l_size (level_of version variant code) step)
unfolding difference
difference_three version H step code e = let z : ⊥ = omega arith in absurd z
difference_three version L step code e = refl
difference_three version LPlus step code e = refl

pub adjustment_three : (variant : Variant) (code : ℕ) → bits variant ≡ 3 → adjustment variant code ≡ get_or l_index_adjust (code % 4) (pos 0)
adjustment_three H code e = let z : ⊥ = omega arith in absurd z
adjustment_three L code e = refl
adjustment_three LPlus code e = refl
