-- The loop of a trial that keeps its codes: the first i samples are coded, and the codes are the definition's. Assumes nothing.
use mathlib.Core.Path.{◌≡◌, refl}
use mathlib.Core.List.{List}
use Prim.Native.Nat.{ℕ, ◌+◌, ◌<◌}
use native.Mathlib.Numerals.{add-one}
use native.Mathlib.Omega.{arith}
use lib.IntN.{ℤ, pos}
use lib.ListN.{length, get_or, set, take, length-set}
use lib.Seq.{take-suc-set}
use Rattle.sqv4_format.specs.Layout.{encoder_version}
use Rattle.sqv4_format.specs.Step.{stepped}
use Rattle.sqv4_format.specs.Decode.{fragment_start}
use Rattle.sqv4_format.specs.Encode.{target, code_for, trial_step, trial_to}
use Rattle.sqv4_format.specs.declared.State.{State}
use Rattle.sqv4_format.specs.declared.Settings.{Settings}

module _ (k : Settings) (v : ℕ) (xs : List ℤ) (index : ℕ) where
  -- i samples are coded
  pub record CodesSoFar (i : ℕ) (s : State) (codes : List ℕ) : Type 0 where
    pub state : s ≡ (trial_to k v xs index i).state
    pub long : length codes ≡ 63
    pub coded : take i codes ≡ (trial_to k v xs index i).codes

  pub codes_none : {s : State} {codes : List ℕ} → s ≡ fragment_start index → length codes ≡ 63 → CodesSoFar 0 s codes
  unfolding trial_to
  codes_none e h = record { state = e; long = h; coded = refl }

  pub codes_more : {i : ℕ} {s t : State} {codes : List ℕ} {code : ℕ} {y : ℤ} → CodesSoFar i s codes → i < 63
      → y ≡ target k v (get_or xs i (pos 0)) → code ≡ code_for k.variant s y → t ≡ stepped encoder_version k.variant s code
      → CodesSoFar (i + 1) t (set codes i code)
  unfolding trial_to trial_step
  codes_more {i} {s} {t} {codes} {code} {y} d l ey ec et =
      let ho : i < length codes = omega (arith, d.long) in
      record {
        state = rw (add-one, et, ec, ey, d.state);
        long = rw length-set d.long;
        coded = rw (add-one, take-suc-set codes i code, d.coded, ec, ey, d.state);
      }
