-- A table's rule by one computed test over its rows. Assumes nothing.
use Prim.Native.Nat.{ℕ, ◌*◌}
use native.Mathlib.Omega.{arith}
use mathlib.Core.Path.{◌≡◌}
use mathlib.Core.Bool.{false}
use mathlib.Core.List.{List}
use lib.Arith.{digits_lt}
use lib.Dec.{T, eqb}
use lib.ListN.{length}
use Rattle.lists.specs.Tables.{every_at, in_row}
use Rattle.lists.proofs.Tables.{at_row}
use Rattle.sqv4_format.specs.Step.{level_of, difference}
use Rattle.sqv4_format.specs.declared.Variant.TheVariants.{LPlus}
use Rattle.decoder_tables.specs.Lookup.{Rows, difference_rule}

pub rows : (w : ℕ) (rule : ℕ → ℕ → ℕ) (table : List ℕ) → length table ≡ 89 * w → T (every_at (in_row w rule) 0 table) → Rows w rule table
rows w rule table e t =
    record { long = e; entry = λ i l hi hl. at_row w rule table t i l hl (rw e (digits_lt (omega arith) hl)) }

-- L+ has the same differences in every version but 1
pub other_versions : {table : List ℕ} (version : ℕ) → eqb version 1 ≡ false → Rows 8 (difference_rule 2 LPlus) table → Rows 8 (difference_rule version LPlus) table
unfolding difference level_of
other_versions version e r = record { long = r.long; entry = λ i l hi hl. rw e (r.entry i l hi hl) }
