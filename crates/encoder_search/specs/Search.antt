-- What the parts of the search promise: a trial that may be given up, and which sums win. Assumes nothing.
use Rattle.std.specs.Prelude.{◌≡◌, ℕ, ◌+◌, ◌-◌, ◌*◌, ◌^◌, ◌≤◌, ◌<◌, List, cond, ltb, ℤ, length, take}
use Rattle.lists.specs.Lists.{tabulate}
use Rattle.signed.specs.Signed.{raised}
use Rattle.sqv4_format.specs.Encode.{Trial, trial_to}
use Rattle.sqv4_format.specs.declared.Settings.{Settings}
use Rattle.sqv4_format.specs.declared.State.{State}
use Rattle.encoder_search.specs.declared.Mark.{Mark}
use Rattle.encoder_search.specs.declared.Best.{Best}

-- a state of 16 bits and an index of at most 88 as one number, and what a trial marks at a sample: its sum so far, and its state
unfoldable pub key : State → ℕ
key s = 128 * raised s.predictor + s.index

abbrev pub mark_of : Trial → Mark
mark_of t = record { sum = t.sum; key = key t.state }

-- the marks of the trial from a start index, before each sample
abbrev pub marks_of : Settings → ℕ → List ℤ → ℕ → ℕ → List Mark
marks_of k v xs index n = tabulate (λ i. mark_of (trial_to k v xs index i)) n

-- a trial from its start index, run to its end
pub record Ran (k : Settings) (v : ℕ) (xs : List ℤ) (b : Best) : Type 0 where
  pub sum : b.found.sum ≡ (trial_to k v xs b.found.index (length xs)).sum
  pub small : b.found.sum < 2 ^ 38
  pub marked : take (length xs) b.marks ≡ marks_of k v xs b.found.index (length xs)

-- what is added to the best sum, so that the sums below it win: at a start below the best's an equal one wins too
abbrev pub equal_wins : ℕ → ℕ → ℕ
equal_wins index best = cond (ltb index best) 1 0

-- the trial from a start index does not win against the best
pub record Beaten (k : Settings) (v : ℕ) (xs : List ℤ) (index : ℕ) (b : Best) : Type 0 where
  pub over : b.found.sum + equal_wins index b.found.index ≤ (trial_to k v xs index (length xs)).sum

-- another trial wins
pub record Beats (k : Settings) (v : ℕ) (xs : List ℤ) (b other : Best) : Type 0 where
  pub ran : Ran k v xs other
  pub wins : other.found.sum < b.found.sum + equal_wins other.found.index b.found.index

-- the start of each attempt: four bounds, the loudest first, then all
unfoldable pub start_at : ℕ → ℕ
start_at attempt = cond (ltb attempt 4) (88 - 8 * attempt) (attempt - 4)

-- a start that an earlier attempt has
pub record Tried (attempt index : ℕ) : Type 0 where
  pub when : ℕ
  pub earlier : when < attempt
  pub same : start_at when ≡ index
