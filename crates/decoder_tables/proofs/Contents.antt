-- What stands in each table: one test, computed over its entries. Assumes nothing.
use mathlib.Core.Path.{◌≡◌, refl}
use mathlib.Core.Bool.{false}
use Prim.Native.Nat.{ℕ}
use lib.Dec.{eqb}
use Rattle.lists.specs.Tables.{every_at, in_row}
use Rattle.signed.specs.Signed.{with_sign, clamp_to}
use Rattle.sqv4_format.specs.Tables.{steps, h_index_adjust, l_index_adjust, l_levels, l_plus_levels, legacy_l_plus_levels}
use Rattle.sqv4_format.specs.Step.{step_at, h_size, l_size, level_of, difference}
use Rattle.sqv4_format.specs.declared.Variant.TheVariants.{H, L, LPlus}
use Rattle.decoder_tables.specs.declared.entries.TheConstants.{H_DIFFERENCES, H_NEXTS, L_DIFFERENCES, L_NEXTS, L_PLUS_DIFFERENCES, LEGACY_L_PLUS_DIFFERENCES}
use Rattle.decoder_tables.specs.Lookup.{Rows, difference_rule, next_rule}
use Rattle.decoder_tables.proofs.Rows.{rows, other_versions}

pub h_differences : (version : ℕ) → Rows 16 (difference_rule version H) H_DIFFERENCES
unfolding every_at in_row step_at steps h_size difference with_sign
h_differences version = rows 16 (difference_rule version H) _ refl tt

pub l_differences : (version : ℕ) → Rows 8 (difference_rule version L) L_DIFFERENCES
unfolding every_at in_row step_at steps l_size level_of l_levels difference with_sign
l_differences version = rows 8 (difference_rule version L) _ refl tt

-- L+ but in version 1
pub l_plus_differences : (version : ℕ) → eqb version 1 ≡ false → Rows 8 (difference_rule version LPlus) L_PLUS_DIFFERENCES
unfolding every_at in_row step_at steps l_size level_of l_plus_levels difference with_sign
l_plus_differences version e = other_versions version e (rows 8 (difference_rule 2 LPlus) _ refl tt)

-- L+ in version 1
pub legacy_l_plus_differences : Rows 8 (difference_rule 1 LPlus) LEGACY_L_PLUS_DIFFERENCES
unfolding every_at in_row step_at steps l_size level_of legacy_l_plus_levels difference with_sign
legacy_l_plus_differences = rows 8 (difference_rule 1 LPlus) _ refl tt

pub h_nexts : Rows 16 (next_rule H) H_NEXTS
unfolding every_at in_row clamp_to h_index_adjust
h_nexts = rows 16 (next_rule H) _ refl tt

pub l_nexts : Rows 8 (next_rule L) L_NEXTS
unfolding every_at in_row clamp_to l_index_adjust
l_nexts = rows 8 (next_rule L) _ refl tt

pub l_plus_nexts : Rows 8 (next_rule LPlus) L_NEXTS
unfolding every_at in_row clamp_to l_index_adjust
l_plus_nexts = rows 8 (next_rule LPlus) _ refl tt
