-- The turns of fragments side by side. Assumes nothing.
use Prim.Native.Nat.{ℕ, ◌+◌, ◌/◌, ◌%◌, ◌<◌}
use native.Mathlib.Nat.{mod-lt}
use native.Mathlib.Omega.{arith}
use mathlib.Core.Path.{◌≡◌, sym, ap, ◌∙◌}
use mathlib.Core.List.{List}
use lib.IntN.{ℤ}
use lib.ListN.{length, get_or, set}
use Rattle.sqv4_format.specs.Layout.{count, fragment_at_place}
use Rattle.sqv4_format.specs.Decode.{zero_state}
use Rattle.sqv4_format.specs.declared.Header.{Header}
use Rattle.sqv4_format.specs.declared.Reached.{Reached}
use Rattle.decoder_fragment.specs.Play.{Played}
use Rattle.decoder.specs.Loops.{put_at, place_decoded, InStep, loop_states, Decoding}
use Rattle.decoder.proofs.InStep.{finds, lane_samples, lane_state}
use Rattle.decoder.proofs.DecodeLoop.{decoding_more}

-- the first k of n states are taken from the list of states, by their channels
pub record Taken (c p n k : ℕ) (states before : List Reached) : Type 0 where
  pub long : length before ≡ n
  pub each : (j : ℕ) → j < k → (z : Reached) → get_or before j z ≡ get_or states ((p + j) % c) z

module _ {h : Header} {d : List ℕ} {o : List ℤ} {p n : ℕ} (step : InStep h p n) (hc : 0 < h.channels) where
  -- one of them: its fragment is played from the state that its channel had before them all
  pub lane_more : {out₀ out : List ℤ} {states₀ states : List Reached} {k : ℕ} → Decoding h d o p out₀ states₀ → Decoding h d o (p + k) out states → k < n
      → (b r z : Reached) (xs : List ℤ) → b ≡ get_or states₀ ((p + k) % h.channels) z
      → Played h d (p + k) (count h (p / h.channels)) b.state r.state xs
      → Decoding h d o (p + (k + 1)) (put_at h (p + k) xs out) (set states ((p + k) % h.channels) r)
  lane_more {k = k} t₀ t l b r z xs is played =
      let e : p + (k + 1) ≡ p + k + 1 = omega arith in
      let found : b.state ≡ get_or (loop_states h d (p + k)) ((p + k) % h.channels) zero_state =
      ap (λ (x : Reached). x.state) is ∙ t₀.states_are ((p + k) % h.channels) (mod-lt (p + k) hc) z ∙ sym (finds h d p step hc k k (omega arith) l) in
      rw e
      (decoding_more t hc xs r
      (lane_state h d p step hc k l b.state (fragment_at_place h d (p + k)) played.state ∙ ap (λ s. (place_decoded h d (p + k) s).state) found)
      (lane_samples h d p step hc k l b.state (fragment_at_place h d (p + k)) xs played.samples_are ∙ ap (λ s. (place_decoded h d (p + k) s).samples) found))
