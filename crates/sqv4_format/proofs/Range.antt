-- States stay in range, and a fragment decoder call that the table does not refuse. Assumes nothing.
use mathlib.Core.Path.{◌≡◌, refl, sym, ◌∙◌}
use mathlib.Core.Bool.{Bool, true, false, cond}
use mathlib.Core.List.{List, [], ◌∷◌}
use Prim.Native.Nat.{ℕ, zero, suc, ◌≤◌}
use native.Mathlib.Omega.{arith}
use borrow.Author.Tests.{le-leb, leb-true, eq-eqb, eqb-true, not-false}
use lib.Dec.{leb, eqb}
use lib.Signed.{mag}
use lib.ListN.{length, get_or}
use Rattle.outcome.specs.Outcome.{Outcome, result, need, Refuses}
use Rattle.outcome.proofs.Flags.{both_true, both_left, both_right, either_right}
use Rattle.outcome.proofs.Laws.{pass}
use Rattle.lists.proofs.ByIndex.{length_tabulate}
use Rattle.signed.proofs.Laws.{clamp_fits, clamp_to_le}
use Rattle.sqv4_format.specs.Layout.{known_version, anew, fragment_size, frame_samples, index_byte, count}
use Rattle.sqv4_format.specs.Step.{stepped}
use Rattle.sqv4_format.specs.Decode.{zero_state, fragment_start, codes_of, after, DecodedFragment, decoded_fragment, state_before, fragment_fits, InRange, state_fits, fragment_call, state_left, moves}
use Rattle.sqv4_format.specs.declared.Variant.{Variant}
use Rattle.sqv4_format.specs.declared.State.{State}
use Rattle.sqv4_format.specs.declared.Header.{Header}

pub zero_range : InRange zero_state
zero_range = record { predictor = omega arith; index = omega arith }

pub start_range : (index : ℕ) → InRange (fragment_start index)
unfolding fragment_start
start_range index = record { predictor = omega arith; index = omega arith }

pub stepped_range : (version : ℕ) (variant : Variant) (s : State) (code : ℕ) → InRange (stepped version variant s code)
unfolding stepped
stepped_range version variant s code = record { predictor = clamp_fits _; index = clamp_to_le 88 _ }

pub after_range : (version : ℕ) (variant : Variant) (codes : List ℕ) (s : State) (n : ℕ) → InRange s → InRange (after version variant codes s n)
unfolding after
after_range version variant codes s zero r = r
after_range version variant codes s (suc n) r = stepped_range version variant (after version variant codes s n) (get_or codes n 0)

-- from version 3 on a call returns the state that it was given
pub returned_anew : (version : ℕ) (variant : Variant) (s : State) (fragment : List ℕ) (n : ℕ) → anew version ≡ true
    → (decoded_fragment version variant s fragment n).state ≡ s
unfolding decoded_fragment
returned_anew version variant s fragment n e = rw e

-- the state that a call returns is in range where the given one is
pub returned_range : (version : ℕ) (variant : Variant) (s : State) (fragment : List ℕ) (n : ℕ) → InRange s
    → InRange (decoded_fragment version variant s fragment n).state
unfolding decoded_fragment
returned_range version variant s fragment n r = go (anew version)
  where
    codes : List ℕ
    codes = codes_of version variant fragment

    go : (b : Bool) → InRange (cond b s (after version variant codes (cond b (fragment_start (index_byte fragment)) s) n))
    go true = r
    go false = after_range version variant codes s n r

pub before_range : (h : Header) (frags : ℕ → List ℕ) (f : ℕ) → InRange (state_before h frags f)
unfolding state_before
before_range h frags zero = zero_range
before_range h frags (suc f) = returned_range h.version h.variant (state_before h frags f) (frags f) (count h f) (before_range h frags f)

pub before_anew : (h : Header) (frags : ℕ → List ℕ) (f : ℕ) → anew h.version ≡ true → state_before h frags f ≡ zero_state
unfolding state_before
before_anew h frags zero e = refl
before_anew h frags (suc f) e = returned_anew h.version h.variant (state_before h frags f) (frags f) (count h f) e ∙ before_anew h frags f e

pub length-decoded : (version : ℕ) (variant : Variant) (s : State) (fragment : List ℕ) (n : ℕ) → length (decoded_fragment version variant s fragment n).samples ≡ n
unfolding decoded_fragment
length-decoded version variant s fragment n = simp length_tabulate

-- ---- the fragment decoder's checks

pub range_fits : (version : ℕ) (s : State) → InRange s → state_fits version s ≡ true
unfolding state_fits
range_fits version s r =
    either_right (anew version) _
    (both_true (leb (mag s.predictor) 32767) (leb s.index 88) (le-leb _ _ r.predictor) (le-leb _ _ r.index))

pub call_passes : (version : ℕ) (variant : Variant) (s : State) (fragment : List ℕ) (n : ℕ)
    → known_version version ≡ true → length fragment ≡ fragment_size version variant → n ≤ frame_samples version → InRange s
    → fragment_call version variant s fragment n ≡ result (decoded_fragment version variant s fragment n)
unfolding fragment_call fragment_fits
call_passes version variant s fragment n k e l r =
    sym
    (pass _ _ _ _ _ k
    (pass _ _ _ _ _ (both_true (eqb (length fragment) (fragment_size version variant)) (leb n (frame_samples version)) (eq-eqb _ _ e) (le-leb _ _ l))
    (pass _ _ _ _ _ (range_fits version s r) refl)))

-- at a state in range a call that is refused is refused at any state: by 7 or 14
pub refused_anyway : (version : ℕ) (variant : Variant) (s t : State) (fragment : List ℕ) (n : ℕ) → InRange s
    → Refuses (fragment_call version variant s fragment n) → Refuses (fragment_call version variant t fragment n)
unfolding fragment_call need Refuses
refused_anyway version variant s t fragment n r w =
    go (known_version version) (fragment_fits version variant fragment n) (state_fits version s) (range_fits version s r) w
  where
    ends : State → Bool → Outcome DecodedFragment
    ends u c = need c 15 [] (result (decoded_fragment version variant u fragment n))

    go : (a b c : Bool) → c ≡ true → Refuses (need a 7 (version ∷ []) (need b 14 [] (ends s c)))
        → Refuses (need a 7 (version ∷ []) (need b 14 [] (ends t (state_fits version t))))
    go false b c e w = tt
    go true false c e w = tt
    go true true true e w = absurd w
    go true true false e w = absurd (Rattle.outcome.proofs.Flags.not_both false e refl)

-- where a call does not change the channel's state, it leaves the one that it was given
pub unmoved : (version : ℕ) (variant : Variant) (s : State) (fragment : List ℕ) (n : ℕ)
    → moves version (fragment_call version variant s fragment n) ≡ false → state_left s (fragment_call version variant s fragment n) ≡ s
unfolding fragment_call need moves state_left
unmoved version variant s fragment n = go (known_version version) (fragment_fits version variant fragment n) (state_fits version s)
  where
    chain : Bool → Bool → Bool → Outcome DecodedFragment
    chain a b c = need a 7 (version ∷ []) (need b 14 [] (need c 15 [] (result (decoded_fragment version variant s fragment n))))

    go : (a b c : Bool) → moves version (chain a b c) ≡ false → state_left s (chain a b c) ≡ s
    go false b c e = refl
    go true false c e = refl
    go true true false e = refl
    go true true true e = returned_anew version variant s fragment n (not-false (anew version) e)

-- ---- what the checks tell

-- the fragment has its size, and the output is not too long
pub fits_size : (version : ℕ) (variant : Variant) (fragment : List ℕ) (n : ℕ) → fragment_fits version variant fragment n ≡ true
    → (length fragment ≡ fragment_size version variant) × (n ≤ frame_samples version)
unfolding fragment_fits
fits_size version variant fragment n e = (
  eqb-true _ _ (both_left _ _ e),
  leb-true _ _ (both_right (eqb (length fragment) (fragment_size version variant)) _ e),
)
