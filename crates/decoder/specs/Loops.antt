-- What the loops over a whole stream have done after so many turns, said by their own stores. That this is what 01 defines is shown
-- in proofs/. Assumes nothing.
use Rattle.std.specs.Prelude.{ℕ, zero, suc, ◌+◌, ◌*◌, ◌/◌, ◌%◌, ◌<◌, ◌≤◌, ◌≡◌, true, ◌⊎◌, List, ℤ, pos, length, get_or, set, replicate}
use Rattle.sqv4_format.specs.Layout.{anew, whole_frame, count, fragment_at_place}
use Rattle.sqv4_format.specs.Decode.{zero_state, DecodedFragment, decoded_fragment}
use Rattle.sqv4_format.specs.declared.State.{State}
use Rattle.sqv4_format.specs.declared.Reached.{Reached}
use Rattle.sqv4_format.specs.declared.Header.{Header}
use Rattle.interleave.specs.Interleave.{spread, out_after}

-- an output after the samples xs of the fragment at place p
abbrev pub put_at : Header → ℕ → List ℤ → List ℤ → List ℤ
put_at h p xs o = spread (pos 0) o xs (p / h.channels * whole_frame h) h.channels (p % h.channels) (count h (p / h.channels))

-- the states, one for each of c channels in one list and z before the first fragment, after p fragments: fragment p takes the state of
-- channel p % c on by g p
unfoldable pub states_after : {S : Type 0} → S → ℕ → (ℕ → S → S) → ℕ → List S
states_after z c g zero = replicate c z
states_after z c g (suc p) = set (states_after z c g p) (p % c) (g p (get_or (states_after z c g p) (p % c) z))

-- ---- the decoder's loop

-- the fragment at place p, decoded from a state
abbrev pub place_decoded : Header → List ℕ → ℕ → State → DecodedFragment
place_decoded h d p s = decoded_fragment h.version h.variant s (fragment_at_place h d p) (count h (p / h.channels))

-- the n fragments from p on do not wait for each other: they are of one frame, or start anew
abbrev pub InStep : Header → ℕ → ℕ → Type 0
InStep h p n = (k : ℕ) → k < n → ((p + k) / h.channels ≡ p / h.channels) ⊎ (anew h.version ≡ true)

-- its states after p fragments, one for each channel, at 0, 0 before the first; the samples that turn p writes; its output after p fragments
abbrev pub loop_states : Header → List ℕ → ℕ → List State
loop_states h d p = states_after zero_state h.channels (λ q s. (place_decoded h d q s).state) p

abbrev pub loop_samples : Header → List ℕ → ℕ → List ℤ
loop_samples h d p = (place_decoded h d p (get_or (loop_states h d p) (p % h.channels) zero_state)).samples

abbrev pub loop_out : Header → List ℕ → List ℤ → ℕ → List ℤ
loop_out h d o p = out_after (pos 0) h.channels (whole_frame h) h.samples (loop_samples h d) o p

-- after p fragments: the output, and the states
pub record Decoding (h : Header) (d : List ℕ) (o : List ℤ) (p : ℕ) (out : List ℤ) (states : List Reached) : Type 0 where
  pub out_is : out ≡ loop_out h d o p
  pub states_long : h.channels ≤ length states
  pub states_are : (k : ℕ) → k < h.channels → (z : Reached) → (get_or states k z).state ≡ get_or (loop_states h d p) k zero_state
