-- Turns side by side: each finds its channel's state as it was before them all, and has no more samples than the first. Assumes nothing.
use Prim.Native.Nat.{ℕ, zero, suc, ◌+◌, ◌*◌, ◌/◌, ◌%◌, ◌≤◌, ◌<◌}
use native.Mathlib.Nat.{div-add-mod', div-mul-le_self, le-div_iff_mul-le, mul-le-mul_right}
use native.Mathlib.Omega.{arith}
use mathlib.Core.Bool.{true}
use mathlib.Core.Path.{◌≡◌, sym, ap, ◌∙◌}
use mathlib.Core.Logic.{inl, inr, ◌≢◌, ◌⊎◌}
use mathlib.Core.List.{List}
use lib.IntN.{ℤ}
use lib.ListN.{get_or, set, take}
use lib.Seq.{get_or-set_other, take-take}
use Rattle.std.proofs.lemmas.List.{set-get_or}
use Rattle.lists.proofs.ByIndex.{take_tabulate}
use Rattle.sqv4_format.specs.Layout.{anew, whole_frame, count, fragment_at_place}
use Rattle.sqv4_format.specs.Decode.{zero_state, decoded_fragment}
use Rattle.sqv4_format.specs.declared.State.{State}
use Rattle.sqv4_format.specs.declared.Header.{Header}
use Rattle.sqv4_format.proofs.Range.{returned_anew}
use Rattle.decoder.specs.Loops.{states_after, place_decoded, InStep, loop_states}

module _ (h : Header) (d : List ℕ) (p : ℕ) {n : ℕ} (step : InStep h p n) (hc : 0 < h.channels) where
  -- turn p + j finds its channel's state as it was before turn p
  pub finds : (k j : ℕ) → k ≤ j → j < n
      → get_or (loop_states h d (p + k)) ((p + j) % h.channels) zero_state ≡ get_or (loop_states h d p) ((p + j) % h.channels) zero_state
  unfolding states_after
  finds zero j l m = let e : p + 0 ≡ p = omega arith in rw e
  finds (suc k) j l m =
      let e : p + suc k ≡ suc (p + k) = omega arith in
      rw e (go (step k (omega arith)) (step j m)) ∙ finds k j (omega arith) m
    where
      c : ℕ
      c = h.channels

      before : List State
      before = loop_states h d (p + k)

      turn : State
      turn = (place_decoded h d (p + k) (get_or before ((p + k) % c) zero_state)).state

      apart : (p + k) / c ≡ p / c → (p + j) / c ≡ p / c → (p + j) % c ≢ (p + k) % c
      apart e f = omega (arith, div-add-mod' (p + k) c, div-add-mod' (p + j) c, ap (◌* c) e, ap (◌* c) f)

      stays : anew h.version ≡ true → get_or (set before ((p + k) % c) turn) ((p + j) % c) zero_state ≡ get_or before ((p + j) % c) zero_state
      stays a =
          rw (returned_anew h.version h.variant (get_or before ((p + k) % c) zero_state) (fragment_at_place h d (p + k)) (count h ((p + k) / c)) a)
          (rw set-get_or)

      go : ((p + k) / c ≡ p / c) ⊎ (anew h.version ≡ true) → ((p + j) / c ≡ p / c) ⊎ (anew h.version ≡ true)
          → get_or (set before ((p + k) % c) turn) ((p + j) % c) zero_state ≡ get_or before ((p + j) % c) zero_state
      go (inr a) f = stays a
      go (inl e) (inr a) = stays a
      go (inl e) (inl f) = get_or-set_other before ((p + k) % c) ((p + j) % c) turn zero_state (apart e f)

  -- as many codes of each are run as of the first, which has no fewer samples
  fewer : (k : ℕ) → count h ((p + k) / h.channels) ≤ count h (p / h.channels)
  unfolding count
  fewer k =
      let l : p / h.channels ≤ (p + k) / h.channels = (le-div_iff_mul-le hc).1 (omega (arith, div-mul-le_self p h.channels)) in
      omega (arith, mul-le-mul_right (whole_frame h) l)

  module _ (k : ℕ) (l : k < n) (s : State) (fragment : List ℕ) where
    pub lane_samples : (xs : List ℤ) → take (count h (p / h.channels)) xs ≡ (decoded_fragment h.version h.variant s fragment (count h (p / h.channels))).samples
        → take (count h ((p + k) / h.channels)) xs ≡ (decoded_fragment h.version h.variant s fragment (count h ((p + k) / h.channels))).samples
    unfolding decoded_fragment
    lane_samples xs e =
        sym (take-take (count h ((p + k) / h.channels)) (count h (p / h.channels)) xs (fewer k))
        ∙ rw e (take_tabulate _ (count h (p / h.channels)) (count h ((p + k) / h.channels)) (fewer k))

    pub lane_state : {r : State} → r ≡ (decoded_fragment h.version h.variant s fragment (count h (p / h.channels))).state
        → r ≡ (decoded_fragment h.version h.variant s fragment (count h ((p + k) / h.channels))).state
    lane_state {r} e = go (step k l)
      where
        go : ((p + k) / h.channels ≡ p / h.channels) ⊎ (anew h.version ≡ true) → r ≡ (decoded_fragment h.version h.variant s fragment (count h ((p + k) / h.channels))).state
        go (inl q) = rw q e
        go (inr a) =
            e ∙ returned_anew h.version h.variant s fragment (count h (p / h.channels)) a
            ∙ sym (returned_anew h.version h.variant s fragment (count h ((p + k) / h.channels)) a)
