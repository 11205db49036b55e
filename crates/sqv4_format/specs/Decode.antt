-- Samples: one fragment, a channel from its own fragments, a whole stream, and the public decoder for one fragment.
-- Assumes nothing.
use Rattle.std.specs.Prelude.{ℕ, zero, suc, ◌*◌, ◌/◌, ◌%◌, ◌≤◌, min, Bool, false, not, cond, ◌&&◌, ◌||◌, List, [], ◌∷◌, leb, eqb, ℤ, pos, length, get_or}
use Rattle.std.specs.Int.Signed.{mag}
use Rattle.outcome.specs.Outcome.{Outcome, result, refused, need, ◌⟫◌, on_result, output_after}
use Rattle.lists.specs.Lists.{tabulate}
use Rattle.digits.specs.Digits.{unpacked}
use Rattle.sqv4_format.specs.Layout.{known_version, anew, bits, payload, fragment_size, frame_samples, volume_byte, index_byte, whole_frame, count, fragment_at}
use Rattle.sqv4_format.specs.Step.{stepped}
use Rattle.sqv4_format.specs.Gain.{output_gain}
use Rattle.sqv4_format.specs.declared.Variant.{Variant}
use Rattle.sqv4_format.specs.declared.State.{State}
use Rattle.sqv4_format.specs.declared.Header.{Header}

-- ---- one fragment

-- predictor 0, index 0
abbrev pub zero_state : State
zero_state = record { predictor = pos 0; index = 0 }

-- predictor 0 and the stored index, of which a byte above 88 counts as 88
unfoldable pub fragment_start : ℕ → State
fragment_start index = record { predictor = pos 0; index = min index 88 }

-- the state before a fragment's first code: from version 3 on its own start, in versions 1, 2 the channel's state
abbrev pub start_state : ℕ → State → List ℕ → State
start_state version s fragment = cond (anew version) (fragment_start (index_byte fragment)) s

-- the codes of a fragment
unfoldable pub codes_of : ℕ → Variant → List ℕ → List ℕ
codes_of version variant fragment = unpacked (bits variant) (frame_samples version) (payload version fragment)

-- the state after the first n codes
unfoldable pub after : ℕ → Variant → List ℕ → State → ℕ → State
after version variant codes s zero = s
after version variant codes s (suc n) = stepped version variant (after version variant codes s n) (get_or codes n 0)

pub record DecodedFragment : Type 0 where
  pub samples : List ℤ
  pub state : State

-- the first n samples of a fragment, from a channel's state; the state after it is, in versions 1, 2, predictor and index after
-- the last sample, and from version 3 on the given state
unfoldable pub decoded_fragment : ℕ → Variant → State → List ℕ → ℕ → DecodedFragment
decoded_fragment version variant s fragment n =
    let codes = codes_of version variant fragment in
    let start = start_state version s fragment in
    record {
      samples = tabulate (λ i. output_gain version (volume_byte fragment) (after version variant codes start (suc i)).predictor) n;
      state = cond (anew version) s (after version variant codes start n);
    }

-- the predictor fits 16 bits (mag (negsuc n) is n, and negsuc n is −(n + 1)) and the index is at most 88: all states of a decoding
pub record InRange (s : State) : Type 0 where
  pub predictor : mag s.predictor ≤ 32767
  pub index : s.index ≤ 88

-- ---- a channel, from its own fragments: frags f is its fragment of frame f. This is 01's "demand 2's definition"

-- the state before frame f: the first starts at 0, 0 and the next where the one before ended
unfoldable pub state_before : Header → (ℕ → List ℕ) → ℕ → State
state_before h frags zero = zero_state
state_before h frags (suc f) =
    (decoded_fragment h.version h.variant (state_before h frags f) (frags f) (count h f)).state

-- frame f's samples, for its frame's count, and the state after it
abbrev pub frame_decoded : Header → (ℕ → List ℕ) → ℕ → DecodedFragment
frame_decoded h frags f = decoded_fragment h.version h.variant (state_before h frags f) (frags f) (count h f)

-- sample t of the channel
unfoldable pub channel_sample : Header → (ℕ → List ℕ) → ℕ → ℤ
channel_sample h frags t = get_or (frame_decoded h frags (t / whole_frame h)).samples (t % whole_frame h) (pos 0)

-- ---- a whole stream: sample t of channel c stands at t × channels + c

unfoldable pub decoded : Header → List ℕ → List ℤ
decoded h d =
    tabulate (λ j. channel_sample h (fragment_at h d (j % h.channels)) (j / h.channels)) (h.samples * h.channels)

-- ---- the public decoder for one fragment

-- a fragment of its exact size, and an output that is not too long for it
unfoldable pub fragment_fits : ℕ → Variant → List ℕ → ℕ → Bool
fragment_fits version variant fragment n = eqb (length fragment) (fragment_size version variant) && leb n (frame_samples version)

-- versions 1, 2: the predictor fits 16 bits, and the index is at most 88
unfoldable pub state_fits : ℕ → State → Bool
state_fits version s = anew version || (leb (mag s.predictor) 32767 && leb s.index 88)

-- a call with an output of n samples
unfoldable pub fragment_call : ℕ → Variant → State → List ℕ → ℕ → Outcome DecodedFragment
fragment_call version variant s fragment n =
    need (known_version version) 7 (version ∷ [])
    ⟫ need (fragment_fits version variant fragment n) 14 []
    ⟫ need (state_fits version s) 15 []
    ⟫ result (decoded_fragment version variant s fragment n)

-- the state as a call leaves it
unfoldable pub state_left : State → Outcome DecodedFragment → State
state_left s (result r) = r.state
state_left s (refused n vs) = s

-- whether a call changes the channel's state: a result of versions 1, 2. Else the state is not stored, not even with its own value
unfoldable pub moves : {A : Type 0} → ℕ → Outcome A → Bool
moves version (result r) = not (anew version)
moves version (refused n vs) = false

-- all that a call does: its answer, and its output and its state after it
pub record Called : Type 0 where
  pub answer : Outcome DecodedFragment
  pub output : List ℤ
  pub state : State

unfoldable pub called : ℕ → Variant → State → List ℕ → List ℤ → Called
called version variant s fragment out =
    let answer = fragment_call version variant s fragment (length out) in
    record {
      answer = answer;
      output = output_after (on_result (λ (r : DecodedFragment). r.samples) answer) out;
      state = state_left s answer;
    }
