-- The loop of a trial: the first i samples are coded, and state and sum are the definition's. Assumes nothing.
use mathlib.Core.Path.{◌≡◌, refl}
use mathlib.Core.List.{List}
use Prim.Native.Nat.{ℕ, suc, ◌+◌, ◌*◌, ◌≤◌, ◌<◌}
use native.Mathlib.Numerals.{add-one}
use native.Mathlib.Omega.{arith}
use lib.IntN.{ℤ, pos, nat_abs, ◌-ℤ◌}
use lib.ListN.{length, get_or}
use Rattle.lists.proofs.ByIndex.{rises}
use Rattle.sqv4_format.specs.Layout.{encoder_version}
use Rattle.sqv4_format.specs.Step.{stepped}
use Rattle.sqv4_format.specs.Gain.{output_gain}
use Rattle.sqv4_format.specs.Decode.{fragment_start}
use Rattle.sqv4_format.specs.Encode.{target, square, code_for, trial_step, trial_to}
use Rattle.sqv4_format.specs.declared.State.{State}
use Rattle.sqv4_format.specs.declared.Settings.{Settings}

module _ (k : Settings) (v : ℕ) (xs : List ℤ) (index : ℕ) where
  -- i samples are coded
  pub record Summed (i : ℕ) (s : State) (sum : ℕ) : Type 0 where
    pub within : i ≤ length xs
    pub state : s ≡ (trial_to k v xs index i).state
    pub total : sum ≡ (trial_to k v xs index i).sum
    pub small : sum ≤ i * 4294967296

  pub summed_none : {s : State} → s ≡ fragment_start index → Summed 0 s 0
  unfolding trial_to
  summed_none e = record { within = omega arith; state = e; total = refl; small = omega arith }

  pub summed_more : {i : ℕ} {s t : State} {sum q : ℕ} {x y : ℤ} → Summed i s sum → i < length xs
      → x ≡ get_or xs i (pos 0) → y ≡ target k v x → t ≡ stepped encoder_version k.variant s (code_for k.variant s y)
      → q ≡ square (nat_abs (x -ℤ output_gain encoder_version v t.predictor)) → q ≤ 4294967296
      → Summed (i + 1) t (sum + q)
  unfolding trial_to trial_step
  summed_more {i} {s} {t} {sum} {q} {x} {y} d l ex ey et eq hq =
      let es : t ≡ (trial_to k v xs index (suc i)).state = rw (et, ey, ex, d.state) in
      record {
        within = omega arith;
        state = rw add-one es;
        total = rw (add-one, d.total, eq, es, ex);
        small = omega (arith, d.small);
      }

  -- sums do not fall
  no_less : (i : ℕ) → (trial_to k v xs index i).sum ≤ (trial_to k v xs index (suc i)).sum
  unfolding trial_to trial_step
  no_less i = omega arith

  pub over_limit : {i : ℕ} {sum : ℕ} {s : State} → Summed i s sum → sum ≤ (trial_to k v xs index (length xs)).sum
  over_limit d = omega (arith, d.total, rises (λ i. (trial_to k v xs index i).sum) no_less _ (length xs) d.within)
