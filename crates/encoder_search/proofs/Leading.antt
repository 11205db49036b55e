-- The loop over the starts: the best of the starts of the attempts so far, and of all attempts; and a start that was tried before. Assumes
-- nothing.
use mathlib.Core.Path.{◌≡◌, refl, sym, ◌∙◌, ap}
use mathlib.Core.List.{List}
use Prim.Native.Nat.{ℕ, zero, suc, ◌+◌, ◌-◌, ◌/◌, ◌%◌, ◌≤◌, ◌<◌}
use native.Mathlib.Omega.{arith}
use borrow.Author.Tests.{le-ltb, lt-ltb}
use lib.IntN.{ℤ}
use lib.ListN.{length}
use Rattle.lists.proofs.Least.{least_at}
use Rattle.sqv4_format.specs.Encode.{Trial, trial_step, trial_to, best_trial}
use Rattle.sqv4_format.specs.declared.Settings.{Settings}
use Rattle.encoder_search.specs.Search.{Ran, start_at, Tried}
use Rattle.encoder_search.specs.declared.Best.{Best}

pub trial_start : (k : Settings) (v : ℕ) (xs : List ℤ) (index n : ℕ) → (trial_to k v xs index n).start ≡ index
unfolding trial_to trial_step
trial_start k v xs index zero = refl
trial_start k v xs index (suc n) = trial_start k v xs index n

-- ---- the start of an attempt

-- from attempt 4 on all starts have their attempt
start_late : (j : ℕ) → start_at (j + 4) ≡ j
unfolding start_at
start_late j = rw (le-ltb (j + 4) 4 (omega arith)) (omega arith)

-- a bound had its attempt before
pub bound_tried : (attempt index : ℕ) → 4 ≤ attempt → 64 ≤ index → index ≤ 88 → index % 8 ≡ 0 → Tried attempt index
unfolding start_at
bound_tried attempt index h low high e =
    let w : (88 - index) / 8 < 4 = omega arith in
    record { when = (88 - index) / 8; earlier = omega arith; same = rw (lt-ltb ((88 - index) / 8) 4 w) (omega arith) }

module _ (k : Settings) (v : ℕ) (xs : List ℤ) where
  -- the sum of the trial from a start
  abbrev sum_from : ℕ → ℕ
  sum_from index = (trial_to k v xs index (length xs)).sum

  -- the starts of the attempts before this one are tried; none of them beats b, and b is the lowest of the best
  pub record Leading (attempt : ℕ) (b : Best) : Type 0 where
    pub start : b.found.index ≤ 88
    pub ran : Ran k v xs b
    pub least : (t : ℕ) → t < attempt → b.found.sum ≤ sum_from (start_at t)
    pub lowest : (t : ℕ) → t < attempt → start_at t < b.found.index → b.found.sum < sum_from (start_at t)

  pub leading_all : {attempt : ℕ} {b : Best} → Leading attempt b → 93 ≤ attempt
      → (b.found.index ≡ (best_trial k v xs).start) × (b.found.sum ≡ (best_trial k v xs).sum)
  unfolding best_trial
  leading_all {attempt} {b} d h =
      (sym (ap (λ (t : Trial). t.start) e ∙ trial_start k v xs b.found.index (length xs)), d.ran.sum ∙ sym (ap (λ (t : Trial). t.sum) e))
    where
      least : (j : ℕ) → j ≤ 88 → b.found.sum ≤ sum_from j
      least j m = rw start_late at (d.least (j + 4) (omega arith))

      lowest : (j : ℕ) → j < b.found.index → b.found.sum < sum_from j
      lowest j m = rw start_late at (d.lowest (j + 4) (omega (arith, d.start)) (rw start_late m))

      e : best_trial k v xs ≡ trial_to k v xs b.found.index (length xs)
      e =
          least_at (λ (t : Trial). t.sum) (λ index. trial_to k v xs index (length xs)) 88 b.found.index d.start
          (λ j m. omega (arith, least j m, d.ran.sum))
          (λ j m. omega (arith, lowest j m, d.ran.sum))
