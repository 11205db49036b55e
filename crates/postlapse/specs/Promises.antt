-- The calls for C, and what they promise: answer, state and every lent place are those of the call's outcome. Assumes nothing.
use Rattle.std.specs.Prelude.{◌≡◌, ℕ, List, ℤ, length}
use Rattle.outcome.specs.Outcome.{Outcome, and_then, on_result, output_after}
use Rattle.sqv4_format.specs.Layout.{variant_of}
use Rattle.sqv4_format.specs.Decode.{DecodedFragment, fragment_call, state_left}
use Rattle.sqv4_format.specs.Encode.{encode_call}
use Rattle.sqv4_format.specs.Inspect.{Sound}
use Rattle.sqv4_format.specs.declared.State.{State}
use Rattle.postlapse.specs.Answers.{answer_of, header_answer_of, with_state}
use Rattle.postlapse.specs.declared.Answer.{Answer}
use Rattle.postlapse.specs.declared.HeaderAnswer.{HeaderAnswer}
use Rattle.postlapse.specs.declared.FragmentAnswer.{FragmentAnswer}

-- ---- the variant comes as its byte: one above 2 gives 8, before every other check

unfoldable pub encode_for_c : ℕ → ℕ → List ℤ → ℕ → ℕ → ℕ → Outcome (List ℕ)
encode_for_c variant gain pcm channels rate room =
    and_then (variant_of variant) λ v. encode_call (record { variant = v; gain = gain }) pcm channels rate room

unfoldable pub fragment_for_c : ℕ → ℕ → State → List ℕ → ℕ → Outcome DecodedFragment
fragment_for_c version variant s fragment n =
    and_then (variant_of variant) λ v. fragment_call version v s fragment n

-- ---- promises

-- a call that fills a lent output, and answers how much it wrote
pub record Fills {A : Type 0} (o : Outcome (List A)) (out : List A) (answer : Answer) (output : List A) : Type 0 where
  pub answered : answer ≡ answer_of (on_result length o)
  pub output_left : output ≡ output_after o out

-- the whole-stream decoder
pub record Decodes (o : Outcome Sound) (out : List ℤ) (answer : HeaderAnswer) (output : List ℤ) : Type 0 where
  pub answered : answer ≡ header_answer_of (on_result (λ (s : Sound). s.header) o)
  pub output_left : output ≡ output_after (on_result (λ (s : Sound). s.samples) o) out

-- the fragment decoder, from the state s
pub record Plays (o : Outcome DecodedFragment) (s : State) (out : List ℤ) (answer : Answer) (state : State) (output : List ℤ) : Type 0 where
  pub answered : answer ≡ answer_of (on_result (λ (r : DecodedFragment). length r.samples) o)
  pub state_after : state ≡ state_left s o
  pub output_left : output ≡ output_after (on_result (λ (r : DecodedFragment). r.samples) o) out

-- the same before the answer is a struct
pub record PlaysAs (o : Outcome DecodedFragment) (s : State) (out : List ℤ) (answer : Outcome ℕ) (state : State) (output : List ℤ) : Type 0 where
  pub answered : answer ≡ on_result (λ (r : DecodedFragment). length r.samples) o
  pub state_after : state ≡ state_left s o
  pub output_left : output ≡ output_after (on_result (λ (r : DecodedFragment). r.samples) o) out

-- the same where one struct has the answer and the state
pub record PlaysByValue (o : Outcome DecodedFragment) (s : State) (out : List ℤ) (answer : FragmentAnswer) (output : List ℤ) : Type 0 where
  pub answered : answer ≡ with_state (answer_of (on_result (λ (r : DecodedFragment). length r.samples) o)) (state_left s o)
  pub output_left : output ≡ output_after (on_result (λ (r : DecodedFragment). r.samples) o) out
