-- What a refusal and a success of the fragment decoder promise. Assumes nothing.
use mathlib.Core.Path.{◌≡◌, refl, sym, ◌∙◌, ap}
use mathlib.Core.List.{List}
use Prim.Native.Nat.{ℕ}
use lib.IntN.{ℤ}
use lib.ListN.{length}
use Rattle.std.specs.declared.result.Result.TheVariants.{Ok, Err}
use Rattle.outcome.specs.Outcome.{result, on_result, output_after}
use Rattle.outcome.proofs.Laws.{output_whole}
use Rattle.sqv4_format.specs.Decode.{decoded_fragment, state_left, called}
use Rattle.sqv4_format.specs.Promises.{AsCalled}
use Rattle.sqv4_format.specs.declared.Variant.{Variant}
use Rattle.sqv4_format.specs.declared.State.{State}
use Rattle.outcome.specs.declared.Error.{Error}
use Rattle.sqv4_format.proofs.Range.{length-decoded}
use Rattle.fragment.specs.Tried.{Filled, Refused}

module _ {version : ℕ} {variant : Variant} {s : State} {fragment : List ℕ} {out new : List ℤ} where
  -- a refusal: the state and the output are as they were
  pub as_refused : {e : Error} → Refused version variant s fragment out new e → AsCalled version variant s fragment out (Err e) s new
  unfolding called on_result state_left output_after
  as_refused r = record { answered = rw (← r.refuses); state_after = rw (← r.refuses); output_left = rw (← r.refuses) r.output_left }

  -- a success: the output is the fragment's samples, and the state the one after them
  pub as_filled : {t : State} (n : ℕ) → n ≡ length out → Filled version variant s fragment out new t → AsCalled version variant s fragment out (Ok n) t new
  unfolding called on_result state_left
  as_filled n en f =
      let d = decoded_fragment version variant s fragment (length out) in
      let l : length d.samples ≡ length out = length-decoded version variant s fragment (length out) in
      record {
        answered = rw (← f.passed) (ap result (en ∙ sym l));
        state_after = rw (← f.passed) f.state_after;
        output_left = rw (← f.passed) (f.output_left ∙ sym (output_whole (result d.samples) d.samples out refl l));
      }
