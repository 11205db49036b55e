-- `gain::peak_of` meets its contract. Assumes nothing.
use Rattle.std.proofs.Common.{◌≡◌, ℕ, zero, suc, ◌≤◌, max, min, List, [], ◌∷◌, get_or, length, take, ℤ, pos, nat_abs, refl, ap, ◌∙◌, add-one, le_refl, arith, rules, tests}
use Rattle.std.specs.List.{fold}
use Rattle.std.proofs.Math.Seq.{take-length}
use Rattle.std.proofs.lemmas.Iterator.{YieldsList-from_slice, YieldsList-from_map}
use Rattle.std.proofs.lemmas.Iterator.Consumers.{reduce_from_yields_List}
use Rattle.std.proofs.lemmas.List.Folds.{max_of_map}
use Rattle.std.proofs.lemmas.List.Sums.{fold_more}
use Rattle.sqv4_format.specs.Gain.{peak}
use Rattle.gain.proofs.peak_of.Goals as goal

-- the peak as a fold over the list
peak_folded : (xs : List ℤ) (n : ℕ) → n ≤ length xs → fold (λ a x. max a (nat_abs x)) 0 (take n xs) ≡ peak xs n
unfolding peak
peak_folded xs zero h = refl
peak_folded xs (suc n) h = rw (← add-one) (fold_more (λ a x. max a (nat_abs x)) 0 xs n (pos 0) h ∙ ap (λ a. max a (nat_abs (get_or xs n (pos 0)))) (peak_folded xs n (omega arith)))

-- of magnitudes of 16 bits
low : (xs : List ℤ) (a : ℕ) → a ≤ 32768 → fold (λ a x. max a (min (nat_abs x) 32768)) a xs ≤ 32768
low [] a h = h
low (x ∷ xs) a h = low xs (max a (min (nat_abs x) 32768)) (omega arith)

pub returns : goal.returns
returns c =
    let s = c.args.samples.now in
    let cut = λ (x : ℤ). min (nat_abs x) 32768 in
    let picked = reduce_from_yields_List _ c.map.result _ c.max.ensures.ran (YieldsList-from_map _ nat_abs (YieldsList-from_slice s cc) c.map.ensures.closure (λ x b q k. search (rules, tests))) in
    let picked_cut = reduce_from_yields_List _ c.map.result _ c.max.ensures.ran (YieldsList-from_map _ cut (YieldsList-from_slice s cc) c.map.ensures.closure
    (λ x b q k. let e : b ≡ nat_abs x.now = search rules in let l : b ≤ 32768 = search rules in (search rules, omega arith))) in (
      rw (c.unwrap_or.ensures, picked, max_of_map nat_abs s, ← (peak_folded s (length s) (le_refl _)), take-length) refl,
      rw (c.unwrap_or.ensures, picked_cut, max_of_map cut s) (low s 0 (omega arith)),
    )
