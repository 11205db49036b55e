-- From a run of codes to a fragment: the first 64 codes of a payload serve every version, and from version 3 on the samples do
-- not depend on the given state. Assumes nothing.
use mathlib.Core.Path.{◌≡◌, sym, ◌∙◌}
use mathlib.Core.Bool.{Bool, true, false, cond}
use mathlib.Core.List.{List}
use Prim.Native.Nat.{ℕ, ◌^◌, ◌≤◌, ◌<◌}
use native.Mathlib.Omega.{arith}
use lib.ListN.{get_or}
use lib.IntN.{ℤ}
use Rattle.lists.specs.Lists.{tabulate}
use Rattle.digits.specs.Digits.{unpacked}
use Rattle.digits.proofs.Laws.{digits-at, small_digits}
use Rattle.sqv4_format.specs.Layout.{anew, bits, payload, frame_samples, volume_byte}
use Rattle.sqv4_format.specs.Decode.{start_state, codes_of, after, decoded_fragment}
use Rattle.sqv4_format.specs.declared.Variant.{Variant}
use Rattle.sqv4_format.specs.declared.State.{State}
use Rattle.fragment_plain.specs.Run.{sample_at}
use Rattle.fragment_plain.proofs.Run.{after_same, samples_same}

pub frame_few : (b : Bool) → cond b 63 64 ≤ 64
frame_few true = omega arith
frame_few false = omega arith

module _ (version : ℕ) (variant : Variant) (fragment : List ℕ) where
  -- the first 64 codes, which are unpacked in every version
  abbrev pub first_codes : List ℕ
  first_codes = unpacked (bits variant) 64 (payload version fragment)

  -- they fit the variant's bits
  pub codes_small : {codes : List ℕ} → codes ≡ first_codes → (i : ℕ) → get_or codes i 0 < 2 ^ bits variant
  codes_small e i = rw e (small_digits (bits variant) 64 _ i)

  codes_same : (i : ℕ) → i < frame_samples version → get_or first_codes i 0 ≡ get_or (codes_of version variant fragment) i 0
  unfolding codes_of
  codes_same i h =
      digits-at (bits variant) 64 _ i (omega (arith, frame_few (anew version)))
      ∙ sym (digits-at (bits variant) (frame_samples version) _ i h)

  module _ (s : State) (n : ℕ) (h : n ≤ frame_samples version) where
    pub run_samples : {start : State} {codes : List ℕ} {volume : ℕ} {xs : List ℤ}
        → start ≡ start_state version s fragment → codes ≡ first_codes → volume ≡ volume_byte fragment
        → xs ≡ tabulate (sample_at version variant codes start volume) n
        → xs ≡ (decoded_fragment version variant s fragment n).samples
    unfolding decoded_fragment sample_at
    run_samples es ec ev ex =
        rw (es, ec, ev) at ex
        ∙ samples_same version variant first_codes (codes_of version variant fragment) (start_state version s fragment) (volume_byte fragment) n
        (λ i l. codes_same i (omega arith))

    run_after : {codes : List ℕ} → codes ≡ first_codes → (start : State)
        → after version variant codes start n ≡ after version variant (codes_of version variant fragment) start n
    run_after ec start =
        rw ec (after_same version variant first_codes (codes_of version variant fragment) start n (λ i l. codes_same i (omega arith)))

    pub run_state : {start end r : State} {codes : List ℕ} → start ≡ start_state version s fragment → codes ≡ first_codes
        → end ≡ after version variant codes start n → r ≡ cond (anew version) s end
        → r ≡ (decoded_fragment version variant s fragment n).state
    unfolding decoded_fragment
    run_state {start} es ec ee er = er ∙ rw (ee, run_after ec start, es)

-- from version 3 on the samples do not depend on the given state
pub samples_anew : (version : ℕ) (variant : Variant) (s t : State) (fragment : List ℕ) (n : ℕ) → anew version ≡ true
    → (decoded_fragment version variant s fragment n).samples ≡ (decoded_fragment version variant t fragment n).samples
unfolding decoded_fragment
samples_anew version variant s t fragment n e = rw e
