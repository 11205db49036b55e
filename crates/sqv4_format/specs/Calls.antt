-- 01's lists of fragment decoder calls on one accepted stream, and what channel separation says of them. Assumes nothing.
use Rattle.std.specs.Prelude.{◌≡◌, ℕ, suc, ◌<◌, Bool, true, false, cond, List, [], ◌∷◌, eqb, ℤ, length}
use Rattle.outcome.specs.Outcome.{result, Refuses}
use Rattle.sqv4_format.specs.Layout.{anew, frames, count, fragment_at}
use Rattle.sqv4_format.specs.Decode.{zero_state, frame_decoded, fragment_call, Called, called}
use Rattle.sqv4_format.specs.declared.Variant.{Variant}
use Rattle.sqv4_format.specs.declared.State.{State}
use Rattle.sqv4_format.specs.declared.Header.{Header}

-- a call takes channel c's fragment of frame f, with the header's version and variant, into an output of its own;
-- or it is any other call on channel c's state: version, variant, fragment, output
pub data Call : Type 0 where
  takes : ℕ → ℕ → List ℤ → Call
  other : ℕ → ℕ → Variant → List ℕ → List ℤ → Call

unfoldable pub channel_of : Call → ℕ
channel_of (takes c f out) = c
channel_of (other c version variant fragment out) = c

-- ---- running a list. Nobody else writes meanwhile: the stream d is fixed, the states move only by calls, and each output is its
-- call's own

-- what a call does that finds its channel's state at s
unfoldable pub done : Header → List ℕ → State → Call → Called
done h d s (takes c f out) = called h.version h.variant s (fragment_at h d c f) out
done h d s (other c version variant fragment out) = called version variant s fragment out

-- a numbered family with x at k
abbrev pub put : {A : Type 0} → (ℕ → A) → ℕ → A → ℕ → A
put g k x j = cond (eqb j k) x (g j)

-- every channel's state after a call: the call's own channel has the state that the call left
abbrev pub states_next : Header → List ℕ → (ℕ → State) → Call → ℕ → State
states_next h d states k = put states (channel_of k) (done h d (states (channel_of k)) k).state

-- what each call of a list did, and every channel's state after the list
unfoldable pub run : Header → List ℕ → (ℕ → State) → List Call → List Called
run h d states [] = []
run h d states (k ∷ ks) = done h d (states (channel_of k)) k ∷ run h d (states_next h d states k) ks

unfoldable pub states_after : Header → List ℕ → (ℕ → State) → List Call → ℕ → State
states_after h d states [] = states
states_after h d states (k ∷ ks) = states_after h d (states_next h d states k) ks

-- ---- the lists that 01 means

-- frame f may be taken where the channel's first n frames have been: the next one; from version 3 on any one
unfoldable pub Due : Bool → ℕ → ℕ → Type 0
Due true n f = Unit {0}
Due false n f = f ≡ n

-- from channels at these states with so many of their fragments taken, each call takes a fragment of the stream that is due, into
-- an output as long as its frame's count, or is a call on a channel's state that the table refuses
unfoldable pub Listed : Header → List ℕ → (ℕ → State) → (ℕ → ℕ) → List Call → Type 0
Listed h d states taken [] = Unit {0}
Listed h d states taken (takes c f out ∷ ks) =
    (c < h.channels) × (f < frames h) × (length out ≡ count h f) × Due (anew h.version) (taken c) f
    × Listed h d (states_next h d states (takes c f out)) (put taken c (suc f)) ks
Listed h d states taken (other c version variant fragment out ∷ ks) =
    (c < h.channels) × Refuses (fragment_call version variant (states c) fragment (length out))
    × Listed h d (states_next h d states (other c version variant fragment out)) taken ks

-- from version 3 on: calls that take any fragments of the stream, in any order, each into an output as long as its frame's count, or
-- that the table refuses; the state that each finds is 0, 0
unfoldable pub InStream : Header → List Call → Type 0
InStream h [] = Unit {0}
InStream h (takes c f out ∷ ks) = (c < h.channels) × (f < frames h) × (length out ≡ count h f) × InStream h ks
InStream h (other c version variant fragment out ∷ ks) =
    (c < h.channels) × Refuses (fragment_call version variant zero_state fragment (length out)) × InStream h ks

-- ---- what is claimed of them

-- each call that takes a fragment is not refused, and its output is the definition's samples for its fragment; each other call
-- leaves its output as it was
unfoldable pub AsDefined : Header → List ℕ → List Call → List Called → Type 0
AsDefined h d [] rs = Unit {0}
AsDefined h d (k ∷ ks) [] = ⊥
AsDefined h d (takes c f out ∷ ks) (r ∷ rs) =
    (r.answer ≡ result (frame_decoded h (fragment_at h d c) f))
    × (r.output ≡ (frame_decoded h (fragment_at h d c) f).samples)
    × AsDefined h d ks rs
AsDefined h d (other c version variant fragment out ∷ ks) (r ∷ rs) = Refuses r.answer × (r.output ≡ out) × AsDefined h d ks rs

-- the definition's state of channel c after the last of its fragments taken; s before any
unfoldable pub reached : Header → List ℕ → ℕ → State → List Call → State
reached h d c s [] = s
reached h d c s (takes k f out ∷ ks) = reached h d c (cond (eqb c k) (frame_decoded h (fragment_at h d k) f).state s) ks
reached h d c s (other k version variant fragment out ∷ ks) = reached h d c s ks

-- the single claim about a list, every channel's state started at 0, 0
pub record Separate (h : Header) (d : List ℕ) (ks : List Call) : Type 0 where
  pub calls : AsDefined h d ks (run h d (λ c. zero_state) ks)
  pub states : (c : ℕ) → c < h.channels → states_after h d (λ k. zero_state) ks c ≡ reached h d c zero_state ks
