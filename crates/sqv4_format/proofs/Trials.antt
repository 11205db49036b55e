-- What a trial writes: a start of at most 88, and a code for each sample that fits the variant's bits. Assumes nothing.
use mathlib.Core.Path.{sym, ap, subst}
use mathlib.Core.Bool.{Bool, true, false, cond}
use mathlib.Core.List.{List, [], ◌∷◌, ◌++◌}
use Prim.Native.Nat.{ℕ, zero, suc, ◌+◌, ◌/◌, ◌^◌, ◌≤◌, ◌<◌}
use native.Mathlib.Omega.{arith}
use lib.Dec.{leb, eqb}
use lib.IntN.{ℤ, pos, nat_abs, ◌-ℤ◌}
use lib.Pow.{pow_pos}
use lib.Signed.{lt_z}
use lib.ListN.{length, get_or, length-append}
use Rattle.lists.proofs.Least.{least_is}
use Rattle.digits.proofs.Laws.{Small}
use Rattle.sqv4_format.proofs.Sizes.{part_le}
use Rattle.sqv4_format.specs.Layout.{bits}
use Rattle.sqv4_format.specs.Step.{step_at}
use Rattle.sqv4_format.specs.Encode.{target, take_off, h_code, Choice, choice, l_code, code_for, Trial, trial_step, trial_to, best_trial, silent_trial, best_or_silent}
use Rattle.sqv4_format.specs.declared.Variant.{Variant}
use Rattle.sqv4_format.specs.declared.Variant.TheVariants.{H, L, LPlus}
use Rattle.sqv4_format.specs.declared.State.{State}
use Rattle.sqv4_format.specs.declared.Settings.{Settings}

-- ---- a code fits its bits

h_code_lt : (s : State) (input : ℤ) → h_code s input < 16
unfolding h_code
h_code_lt s input =
    sum (leb step d) (leb (step / 2) e) (leb (step / 4) (take_off (step / 2) e)) (lt_z input s.predictor)
  where
    step : ℕ
    step = step_at s.index

    d : ℕ
    d = nat_abs (input -ℤ s.predictor)

    e : ℕ
    e = take_off step d

    sum : (a b c f : Bool) → cond a 4 0 + cond b 2 0 + cond c 1 0 + cond f 8 0 < 16
    sum a b c f = omega (arith, part_le a 4, part_le b 2, part_le c 1, part_le f 8)

l_code_lt : (variant : Variant) (s : State) (input : ℤ) → l_code variant s input < 8
unfolding l_code
l_code_lt variant s input =
    let l = least_is (λ (c : Choice). c.error) (choice variant s input) 7 in
    let e = ap (λ (c : Choice). c.code) l.is in
    omega (arith, l.within, e)

pub code_lt : (variant : Variant) (s : State) (input : ℤ) → code_for variant s input < 2 ^ bits variant
code_lt H s input = h_code_lt s input
code_lt L s input = l_code_lt L s input
code_lt LPlus s input = l_code_lt LPlus s input

small_snoc : (w : ℕ) (ds : List ℕ) (c : ℕ) → Small w ds → c < 2 ^ w → Small w (ds ++ (c ∷ []))
small_snoc w [] c h l zero = l
small_snoc w [] c h l (suc i) = pow_pos w
small_snoc w (d ∷ ds) c h l zero = h zero
small_snoc w (d ∷ ds) c h l (suc i) = small_snoc w ds c (λ j. h (suc j)) l i

-- ---- a trial of n samples

pub record Wrote (variant : Variant) (n : ℕ) (t : Trial) : Type 0 where
  pub start : t.start ≤ 88
  pub few : length t.codes ≤ n
  pub small : Small (bits variant) t.codes

module _ (k : Settings) (v : ℕ) (xs : List ℤ) where
  pub trial_wrote : (index : ℕ) → index ≤ 88 → (n : ℕ) → Wrote k.variant n (trial_to k v xs index n)
  unfolding trial_to trial_step
  trial_wrote index h zero = record { start = h; few = omega arith; small = λ i. pow_pos (bits k.variant) }
  trial_wrote index h (suc n) =
      let t = trial_to k v xs index n in
      let code = code_for k.variant t.state (target k v (get_or xs n (pos 0))) in
      let w = trial_wrote index h n in
      record {
        start = w.start;
        few = omega (arith, length-append t.codes (code ∷ []), w.few);
        small = small_snoc (bits k.variant) t.codes code w.small (code_lt k.variant t.state (target k v (get_or xs n (pos 0))));
      }

  pub best_wrote : Wrote k.variant (length xs) (best_trial k v xs)
  unfolding best_trial
  best_wrote =
      let l = least_is (λ (t : Trial). t.sum) (λ index. trial_to k v xs index (length xs)) 88 in
      subst (λ (t : Trial). Wrote k.variant (length xs) t) (sym l.is) (trial_wrote l.place l.within (length xs))

  pub best_or_silent_wrote : Wrote k.variant (length xs) (best_or_silent k v xs)
  best_or_silent_wrote = go (eqb v 0)
    where
      go : (b : Bool) → Wrote k.variant (length xs) (cond b silent_trial (best_trial k v xs))
      go true = record { start = omega arith; few = omega arith; small = λ i. pow_pos (bits k.variant) }
      go false = best_wrote
