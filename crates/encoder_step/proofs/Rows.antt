-- The table of sizes, read. Assumes nothing.
use Rattle.std.proofs.Common.{◌≡◌, ℕ, ◌+◌, ◌*◌, ◌/◌, ◌%◌, ◌<◌, ◌≤◌, List, get_or, ◌∙◌, arith}
use Rattle.lists.specs.Lists.{tabulate}
use Rattle.lists.proofs.ByIndex.{get_d_tabulate}
use Rattle.sqv4_format.specs.Step.{step_at}
use Rattle.sqv4_format.specs.declared.Variant.{Variant}
use Rattle.encoder_step.specs.Advance.{size_at, size_entry}

module _ (variant : Variant) where
  -- the size of code j in the row of index i
  pub row_at : {table : List ℕ} → table ≡ tabulate (size_entry variant) 356 → (i j : ℕ) → i ≤ 88 → j < 4
      → get_or table (4 * i + j) 0 ≡ size_at variant (step_at i) j
  row_at e i j hi hj =
      let a : (4 * i + j) % 4 ≡ j = omega arith in
      let b : (4 * i + j) / 4 ≡ i = omega arith in
      rw e (get_d_tabulate (size_entry variant) 356 (4 * i + j) 0 (omega arith) ∙ rw (a, b))
