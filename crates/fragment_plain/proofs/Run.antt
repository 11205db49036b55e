-- The loop over a fragment's codes: what holds after i of them, and that codes which agree so far give the same state and samples.
-- Assumes nothing.
use mathlib.Core.Path.{◌≡◌, refl, ◌∙◌, ap}
use mathlib.Core.List.{List, [], ◌∷◌, ◌++◌, map}
use Prim.Native.Nat.{ℕ, zero, suc, ◌+◌, ◌<◌}
use native.Mathlib.Numerals.{add-one}
use native.Mathlib.Omega.{arith}
use lib.IntN.{ℤ, pos}
use lib.ListN.{length, get_or, set, take, drop, length-set}
use lib.Seq.{take-suc-set, take_all, drop-cons}
use Rattle.std.proofs.lemmas.List.{map-append, map_more, drop-set-lt}
use Rattle.lists.specs.Lists.{tabulate}
use Rattle.lists.proofs.ByIndex.{tabulate_ext}
use Rattle.sqv4_format.specs.Step.{stepped}
use Rattle.sqv4_format.specs.Gain.{output_gain}
use Rattle.sqv4_format.specs.Decode.{after}
use Rattle.sqv4_format.specs.declared.Variant.{Variant}
use Rattle.sqv4_format.specs.declared.State.{State}
use Rattle.fragment_plain.specs.Run.{sample_at}

-- what a number's function gives of each number of a list that is given by index
map_tabulate : (g : ℤ → ℤ) (f : ℕ → ℤ) (n : ℕ) → map g (tabulate f n) ≡ tabulate (λ i. g (f i)) n
unfolding tabulate
map_tabulate g f zero = refl
map_tabulate g f (suc n) = map-append g (tabulate f n) (f n ∷ []) ∙ ap (◌++ (g (f n) ∷ [])) (map_tabulate g f n)

-- ---- a loop that puts what g gives of each number in its place: it has done so with the first i, and the rest stands

pub record Gained (g : ℤ → ℤ) (out₀ : List ℤ) (i : ℕ) (out : List ℤ) : Type 0 where
  pub long : length out ≡ length out₀
  pub done : take i out ≡ map g (take i out₀)
  pub rest : drop i out ≡ drop i out₀

module _ (g : ℤ → ℤ) (out₀ : List ℤ) where
  pub gained_none : Gained g out₀ 0 out₀
  gained_none = record { long = refl; done = refl; rest = refl }

  pub gained_more : {i : ℕ} {out : List ℤ} {x : ℤ} → Gained g out₀ i out → i < length out₀ → x ≡ g (get_or out i (pos 0)) → Gained g out₀ (i + 1) (set out i x)
  gained_more {i} {out} {x} d h e =
      let l : i < length out = omega (arith, d.long) in
      let a = drop-cons out i (pos 0) l in
      let b = drop-cons out₀ i (pos 0) h in
      let same : get_or out i (pos 0) ≡ get_or out₀ i (pos 0) = cc (d.rest) in
      let behind : drop (suc i) out ≡ drop (suc i) out₀ = cc (d.rest) in
      record {
        long = simp length-set d.long;
        done = rw (map_more g out₀ i (pos 0) h, add-one) (take-suc-set out i x l ∙ rw (d.done, e, same));
        rest = rw add-one (drop-set-lt (suc i) out i x (omega arith) ∙ behind);
      }

  pub gained_all : {n : ℕ} {out : List ℤ} → Gained g out₀ n out → n ≡ length out₀ → out ≡ map g out₀
  gained_all {n} {out} d e =
      rw (take_all n out (omega (arith, d.long)), take_all n out₀ (omega arith)) at d.done

-- ---- the loop over the codes

module _ (version : ℕ) (variant : Variant) (codes : List ℕ) (s₀ : State) (volume : ℕ) (out₀ : List ℤ) where
  -- the predictor after code i
  abbrev predictor_at : ℕ → ℤ
  predictor_at i = (after version variant codes s₀ (suc i)).predictor

  -- the predictors after i codes stand in out, which was out₀, and s is the state after them
  pub record Decoded (i : ℕ) (out : List ℤ) (s : State) : Type 0 where
    pub long : length out ≡ length out₀
    pub done : take i out ≡ tabulate predictor_at i
    pub state : s ≡ after version variant codes s₀ i

  pub decoded_none : Decoded 0 out₀ s₀
  unfolding after tabulate
  decoded_none = record { long = refl; done = refl; state = refl }

  pub decoded_more : {i : ℕ} {out : List ℤ} {s t : State} {x : ℤ} → Decoded i out s → i < length out₀
      → t ≡ stepped version variant s (get_or codes i 0) → x ≡ t.predictor → Decoded (i + 1) (set out i x) t
  unfolding after tabulate
  decoded_more {i} {out} {s} {t} {x} d l et ex =
      let e : t ≡ after version variant codes s₀ (suc i) = cc in
      let f = take-suc-set out i x (omega (arith, d.long)) in
      record {
        long = simp length-set d.long;
        done = rw add-one (f ∙ rw (d.done, ex, e));
        state = rw add-one e;
      }

  -- once the output gain is on all of them, they are the samples
  pub decoded_all : {n : ℕ} {out xs : List ℤ} {s : State} → Decoded n out s → n ≡ length out₀ → xs ≡ map (output_gain version volume) out
      → xs ≡ tabulate (sample_at version variant codes s₀ volume) (length out₀)
  unfolding sample_at
  decoded_all {n} {out} d e ex =
      let all : out ≡ tabulate predictor_at n = rw (take_all n out (omega (arith, d.long))) at d.done in
      rw (ex, all, map_tabulate (output_gain version volume) predictor_at n, e)

-- codes that agree at the first n places give the same state after them, and the same samples
module _ (version : ℕ) (variant : Variant) (cs ds : List ℕ) (s : State) where
  pub after_same : (n : ℕ) → ((i : ℕ) → i < n → get_or cs i 0 ≡ get_or ds i 0) → after version variant cs s n ≡ after version variant ds s n
  unfolding after
  after_same zero h = refl
  after_same (suc n) h = cc (after_same n (λ i l. h i (omega arith)), h n (omega arith))

  pub samples_same : (volume n : ℕ) → ((i : ℕ) → i < n → get_or cs i 0 ≡ get_or ds i 0)
      → tabulate (sample_at version variant cs s volume) n ≡ tabulate (sample_at version variant ds s volume) n
  unfolding sample_at
  samples_same volume n h =
      tabulate_ext (sample_at version variant cs s volume) (sample_at version variant ds s volume) n
      (λ i l. rw (after_same (suc i) (λ j k. h j (omega arith))))
