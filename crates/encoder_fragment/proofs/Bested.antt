-- The best trial is the trial from the start that is found. Assumes nothing.
use mathlib.Core.Path.{◌≡◌, sym, ◌∙◌, ap}
use mathlib.Core.List.{List}
use Prim.Native.Nat.{ℕ}
use lib.IntN.{ℤ}
use lib.ListN.{length}
use Rattle.lists.proofs.Least.{least_is}
use Rattle.sqv4_format.specs.Encode.{Trial, trial_to, best_trial}
use Rattle.sqv4_format.specs.declared.Settings.{Settings}
use Rattle.encoder_search.proofs.Leading.{trial_start}

pub best_from : (k : Settings) (v : ℕ) (xs : List ℤ) (index : ℕ) → index ≡ (best_trial k v xs).start → trial_to k v xs index (length xs) ≡ best_trial k v xs
unfolding best_trial
best_from k v xs index h =
    let l = least_is (λ (t : Trial). t.sum) (λ index. trial_to k v xs index (length xs)) 88 in
    let e = ap (λ (t : Trial). t.start) l.is ∙ trial_start k v xs l.place (length xs) in
    ap (λ (j : ℕ). trial_to k v xs j (length xs)) (h ∙ e) ∙ sym l.is
