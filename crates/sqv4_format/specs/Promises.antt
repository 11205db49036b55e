-- What the decoders promise: answer, state and every lent place are those of the call's definition. The encoder promises `Gives` of its
-- definition (outcome's specs/Table). Assumes nothing.
use Rattle.std.specs.Prelude.{◌≡◌, ℕ, List, ℤ, length}
use Rattle.std.specs.declared.result.Result.{Result}
use Rattle.outcome.specs.Outcome.{on_result, output_after}
use Rattle.outcome.specs.Table.{answered}
use Rattle.outcome.specs.declared.Error.{Error}
use Rattle.sqv4_format.specs.Decode.{DecodedFragment, called}
use Rattle.sqv4_format.specs.Inspect.{Sound, decode_call}
use Rattle.sqv4_format.specs.declared.Variant.{Variant}
use Rattle.sqv4_format.specs.declared.State.{State}
use Rattle.sqv4_format.specs.declared.Header.{Header}

-- the promise of the fragment decoder: answer, state and output are those of `called`
pub record AsCalled (version : ℕ) (variant : Variant) (s : State) (fragment : List ℕ) (out : List ℤ) (answer : Result ℕ Error) (state : State) (output : List ℤ) : Type 0 where
  pub answered : answered answer ≡ on_result (λ (r : DecodedFragment). length r.samples) (called version variant s fragment out).answer
  pub state_after : state ≡ (called version variant s fragment out).state
  pub output_left : output ≡ (called version variant s fragment out).output

-- the promise of the whole-stream decoder: answer and output are those of decode_call
pub record AsDecoded (d : List ℕ) (out : List ℤ) (answer : Result Header Error) (output : List ℤ) : Type 0 where
  pub answered : answered answer ≡ on_result (λ (s : Sound). s.header) (decode_call d (length out))
  pub output_left : output ≡ output_after (on_result (λ (s : Sound). s.samples) (decode_call d (length out))) out
