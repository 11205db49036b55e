-- One code by tables: a row of entries for each index, with an entry for each code. Assumes nothing.
use Rattle.std.specs.Prelude.{ℕ, ◌+◌, ◌-◌, ◌*◌, ◌/◌, ◌^◌, ◌≤◌, ◌<◌, ◌≡◌, List, pos, nat_abs, ◌+ℤ◌, ◌-ℤ◌, length, get_or}
use Rattle.signed.specs.Signed.{clamp_to, depth}
use Rattle.sqv4_format.specs.Layout.{bits}
use Rattle.sqv4_format.specs.Step.{step_at, difference, adjustment}
use Rattle.sqv4_format.specs.Decode.{InRange}
use Rattle.sqv4_format.specs.declared.Variant.{Variant}
use Rattle.sqv4_format.specs.declared.State.{State}
use Rattle.decoder_tables.specs.declared.TableState.{TableState}

-- a table with a row of w entries for each index 0..88: the entry of index i at place l of its row is rule i l
pub record Rows (w : ℕ) (rule : ℕ → ℕ → ℕ) (table : List ℕ) : Type 0 where
  pub long : length table ≡ 89 * w
  pub entry : (i l : ℕ) → i ≤ 88 → l < w → get_or table (i * w + l) 0 ≡ rule i l

-- the difference that a code stands for at an index, raised by 131071 so that no entry is below a depth, and where the row of the
-- index after it begins
abbrev pub difference_rule : ℕ → Variant → ℕ → ℕ → ℕ
difference_rule version variant index code = nat_abs (pos 131071 +ℤ difference version variant (step_at index) code)

abbrev pub next_rule : Variant → ℕ → ℕ → ℕ
next_rule variant index code = clamp_to 88 (pos index +ℤ adjustment variant code) * 2 ^ bits variant

-- the two tables of a stream
pub record Lookup (version : ℕ) (variant : Variant) (differences nexts : List ℕ) : Type 0 where
  pub difference : Rows (2 ^ bits variant) (difference_rule version variant) differences
  pub next : Rows (2 ^ bits variant) (next_rule variant) nexts

-- a state as the tables take it: how far the predictor lies below 32767, and where the row of the index begins; and back
abbrev pub kept : Variant → State → TableState
kept variant s = record { depth = depth s.predictor; row = s.index * 2 ^ bits variant }

unfoldable pub state_of : Variant → TableState → State
state_of variant s = record { predictor = pos 32767 -ℤ pos s.depth; index = s.row / 2 ^ bits variant }

-- what the tables take is a state that a decoding reaches
pub record Held (variant : Variant) (s : TableState) : Type 0 where
  pub range : InRange (state_of variant s)
  pub same : s ≡ kept variant (state_of variant s)

-- a depth in 0..65535 after the difference of an entry: lower by it, cut at 0 and at 65535
abbrev pub lowered : ℕ → ℕ → ℕ
lowered d entry = 65535 - (entry - d - 65536)

-- the state after a code, as the tables give it
unfoldable pub looked : List ℕ → List ℕ → TableState → ℕ → TableState
looked differences nexts s code =
    record {
      depth = lowered s.depth (get_or differences (s.row + code) 0);
      row = get_or nexts (s.row + code) 0;
    }
