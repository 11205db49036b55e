-- A call of the fragment decoder, as it goes well and as it is refused. Assumes nothing.
use Rattle.std.specs.Prelude.{◌≡◌, ℕ, List, ℤ, length}
use Rattle.outcome.specs.Outcome.{result}
use Rattle.sqv4_format.specs.Decode.{decoded_fragment, fragment_call}
use Rattle.outcome.specs.Table.{refusal}
use Rattle.sqv4_format.specs.declared.Variant.{Variant}
use Rattle.sqv4_format.specs.declared.State.{State}
use Rattle.outcome.specs.declared.Error.{Error}

-- the output holds the fragment's samples, and the state is the one after them
pub record Filled (version : ℕ) (variant : Variant) (s : State) (fragment : List ℕ) (out new : List ℤ) (next : State) : Type 0 where
  pub passed : result (decoded_fragment version variant s fragment (length out)) ≡ fragment_call version variant s fragment (length out)
  pub state_after : next ≡ (decoded_fragment version variant s fragment (length out)).state
  pub output_left : new ≡ (decoded_fragment version variant s fragment (length out)).samples

-- the error is the call's, and the output is as it was
pub record Refused (version : ℕ) (variant : Variant) (s : State) (fragment : List ℕ) (out new : List ℤ) (error : Error) : Type 0 where
  pub refuses : refusal error ≡ fragment_call version variant s fragment (length out)
  pub output_left : new ≡ out
