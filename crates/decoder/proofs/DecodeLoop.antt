-- Whole-stream decoding as a loop does it, fragment by fragment in file order with one state for each channel, gives the
-- definition's samples, which go channel by channel. Assumes nothing.
use Prim.Native.Nat.{ℕ, zero, suc, ◌+◌, ◌*◌, ◌/◌, ◌%◌, ◌≤◌, ◌<◌}
use native.Mathlib.Omega.{arith}
use native.Mathlib.Numerals.{add-one}
use native.Mathlib.Nat.{mod-lt}
use native.Mathlib.Decide.{ℕ_discrete}
use mathlib.Core.Path.{◌≡◌, refl, sym, ◌∙◌, ap}
use mathlib.Core.List.{List, ◌++◌}
use lib.Arith.{digits_div, digits_mod}
use lib.IntN.{ℤ, pos}
use lib.ListN.{length, get_or, drop, take, set, replicate, length-set}
use lib.Seq.{get_or-set_same, get_or-set_other}
use Rattle.std.proofs.lemmas.List.{length-replicate, get_or-replicate}
use Rattle.lists.proofs.ByIndex.{tabulate_ext}
use Rattle.sqv4_format.specs.Layout.{whole_frame, frames, count, fragment_at}
use Rattle.sqv4_format.specs.Decode.{zero_state, decoded_fragment, state_before, frame_decoded, channel_sample, decoded}
use Rattle.sqv4_format.proofs.Sizes.{frame_pos}
use Rattle.sqv4_format.specs.declared.State.{State}
use Rattle.sqv4_format.specs.declared.Header.{Header}
use Rattle.sqv4_format.specs.declared.Reached.{Reached}
use Rattle.decoder.specs.Loops.{put_at, states_after, place_decoded, loop_states, loop_samples, loop_out, Decoding}
use Rattle.interleave.specs.Interleave.{out_after}
use Rattle.interleave.proofs.Interleave.{out_whole, spread-take}
use Rattle.decoder.proofs.Turns.{chain, turn_state_lem, length_states}

module _ (h : Header) (d : List ℕ) (hc : 0 < h.channels) where
  chain_before : (k f : ℕ) → k < h.channels → chain zero_state h.channels (λ q s. (place_decoded h d q s).state) k f ≡ state_before h (fragment_at h d k) f
  unfolding chain state_before
  chain_before k zero hk = refl
  chain_before k (suc f) hk =
      ap (λ n. (decoded_fragment h.version h.variant (chain zero_state h.channels (λ q s. (place_decoded h d q s).state) k f) (fragment_at h d k f) (count h n)).state) (digits_div f hk)
      ∙ ap (λ s. (decoded_fragment h.version h.variant s (fragment_at h d k f) (count h f)).state) (chain_before k f hk)

  -- the state that turn p finds is the definition's
  pub turn_before : (p : ℕ) → get_or (loop_states h d p) (p % h.channels) zero_state ≡ state_before h (fragment_at h d (p % h.channels)) (p / h.channels)
  turn_before p =
      turn_state_lem zero_state h.channels (λ q s. (place_decoded h d q s).state) hc p
      ∙ chain_before (p % h.channels) (p / h.channels) (mod-lt p hc)

  place_samples : (f k : ℕ) → k < h.channels → loop_samples h d (f * h.channels + k) ≡ (frame_decoded h (fragment_at h d k) f).samples
  unfolding decoded_fragment
  place_samples f k hk = rw (turn_before (f * h.channels + k), digits_div f hk, digits_mod f hk) refl

  -- after its last turn the loop has written the definition's samples, and nothing behind them
  pub loop_decodes : (o : List ℤ) → h.samples * h.channels ≤ length o
      → loop_out h d o (frames h * h.channels) ≡ decoded h d ++ drop (h.samples * h.channels) o
  unfolding frames decoded channel_sample
  loop_decodes o l =
      out_whole (pos 0) h.channels (whole_frame h) h.samples (loop_samples h d) hc (frame_pos h) o l
      ∙ ap (λ x. x ++ drop (h.samples * h.channels) o)
      (tabulate_ext _ _ (h.samples * h.channels)
      (λ j m. ap (λ x. get_or x (j / h.channels % whole_frame h) (pos 0)) (place_samples (j / h.channels / whole_frame h) (j % h.channels) (mod-lt j hc))))

-- ---- the loop with its states

-- the states and the output before the first turn
pub decoding_none : (h : Header) (d : List ℕ) (o : List ℤ) (n : ℕ) (z : Reached) → h.channels ≤ n → z.state ≡ zero_state → Decoding h d o 0 o (replicate n z)
unfolding out_after states_after
decoding_none h d o n z l e =
    record {
      out_is = refl;
      states_long = rw length-replicate l;
      states_are = λ k m y. rw (get_or-replicate n k z y (omega arith), get_or-replicate h.channels k zero_state zero_state m) e;
    }

module _ {h : Header} {d : List ℕ} {o : List ℤ} {p : ℕ} {out : List ℤ} {states : List Reached} (t : Decoding h d o p out states) where
  -- a turn more
  module _ (hc : 0 < h.channels) where
    one : p % h.channels < h.channels
    one = mod-lt p hc

    pub decoding_more : (xs : List ℤ) (r : Reached) → r.state ≡ (place_decoded h d p (get_or (loop_states h d p) (p % h.channels) zero_state)).state
        → take (count h (p / h.channels)) xs ≡ loop_samples h d p
        → Decoding h d o (p + 1) (put_at h p xs out) (set states (p % h.channels) r)
    unfolding out_after states_after count
    decoding_more xs r er ex =
        record {
          out_is =
              rw add-one
              (sym (spread-take (pos 0) out xs (p / h.channels * whole_frame h) h.channels (p % h.channels) (count h (p / h.channels)) (count h (p / h.channels)) (omega arith))
              ∙ rw (ex, t.out_is));
          states_long = rw length-set t.states_long;
          states_are = λ k l z. rw add-one (go k z l (ℕ_discrete k (p % h.channels)));
        }
      where
        before : List State
        before = loop_states h d p

        turn : State
        turn = (place_decoded h d p (get_or before (p % h.channels) zero_state)).state

        long : length before ≡ h.channels
        long = length_states zero_state h.channels (λ q s. (place_decoded h d q s).state) p

        go : (k : ℕ) (z : Reached) → k < h.channels → Dec (k ≡ p % h.channels) → (get_or (set states (p % h.channels) r) k z).state ≡ get_or (set before (p % h.channels) turn) k zero_state
        go k z l (yes q) =
            rw (q, get_or-set_same states (p % h.channels) r z (omega (arith, t.states_long, one)), get_or-set_same before (p % h.channels) turn zero_state (omega (arith, long, one))) er
        go k z l (no q) =
            rw (get_or-set_other states (p % h.channels) k r z q, get_or-set_other before (p % h.channels) k turn zero_state q) (t.states_are k l z)
