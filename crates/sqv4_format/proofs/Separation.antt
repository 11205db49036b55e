-- Channel separation of the fragment decoder: the single claim about a list of calls. Assumes nothing.
use mathlib.Core.Path.{◌≡◌, refl, sym, ◌∙◌, ap}
use mathlib.Core.Bool.{Bool, true, false, cond}
use mathlib.Core.List.{List, [], ◌∷◌}
use Prim.Native.Nat.{ℕ, suc, ◌<◌}
use borrow.Author.Tests.{eqb-true}
use lib.Dec.{eqb}
use lib.IntN.{ℤ}
use lib.ListN.{length}
use Rattle.outcome.specs.Outcome.{Outcome, result, refused, on_result, output_after, Refuses}
use Rattle.outcome.proofs.Laws.{on_result_lem, output_whole, output_refused}
use Rattle.sqv4_format.specs.Layout.{anew, frames, count, fragment_at}
use Rattle.sqv4_format.specs.Decode.{zero_state, DecodedFragment, state_before, frame_decoded, fragment_call, state_left, called}
use Rattle.sqv4_format.specs.Inspect.{inspected}
use Rattle.sqv4_format.specs.Calls.{Call, takes, other, channel_of, done, put, states_next, run, states_after, Due, Listed, InStream, AsDefined, reached, Separate}
use Rattle.sqv4_format.proofs.Sizes.{count_whole, place_below, place_length}
use Rattle.sqv4_format.proofs.Range.{zero_range, before_range, before_anew, length-decoded, call_passes, refused_anyway}
use Rattle.sqv4_format.proofs.Accepted.{Accepted, accepted}
use Rattle.sqv4_format.specs.declared.State.{State}
use Rattle.sqv4_format.specs.declared.Header.{Header}

abbrev samples_of : DecodedFragment → List ℤ
samples_of r = r.samples

-- a test's two cases, with what the first says
same_or_not : (j k : ℕ) (P : Bool → Type 0) → (j ≡ k → P true) → P false → P (eqb j k)
same_or_not j k P yes' no' = go (eqb j k) refl
  where
    go : (b : Bool) → eqb j k ≡ b → P b
    go true e = yes' (eqb-true j k e)
    go false e = no'

left_result : (s : State) (o : Outcome DecodedFragment) (r : DecodedFragment) → o ≡ result r → state_left s o ≡ r.state
unfolding state_left
left_result s o r e = rw e

left_refused : (s : State) (o : Outcome DecodedFragment) → Refuses o → state_left s o ≡ s
unfolding state_left Refuses
left_refused s (result r) w = absurd w
left_refused s (refused n vs) w = refl

module _ (h : Header) (d : List ℕ) (ok : Accepted d h) where
  -- the call that takes a fragment from the definition's state has the definition's answer
  take_answer : (c f : ℕ) (out : List ℤ) → c < h.channels → f < frames h → length out ≡ count h f
      → fragment_call h.version h.variant (state_before h (fragment_at h d c) f) (fragment_at h d c f) (length out) ≡ result (frame_decoded h (fragment_at h d c) f)
  take_answer c f out hc hf e =
      rw e
      (call_passes h.version h.variant (state_before h (fragment_at h d c) f) (fragment_at h d c f) (count h f) ok.version
      (place_length h d _ ok.size (place_below (frames h) h.channels c f hc hf))
      (count_whole h f) (before_range h (fragment_at h d c) f))

  -- a frame that is due is taken from the definition's state before it
  due_state : (frags : ℕ → List ℕ) (n f : ℕ) → Due (anew h.version) n f → state_before h frags n ≡ state_before h frags f
  unfolding Due
  due_state frags n f = go (anew h.version) refl
    where
      go : (b : Bool) → anew h.version ≡ b → Due b n f → state_before h frags n ≡ state_before h frags f
      go true e w = before_anew h frags n e ∙ sym (before_anew h frags f e)
      go false e w = ap (state_before h frags) (sym w)

  -- every channel is at the definition's state
  AtDefinition : (ℕ → State) → (ℕ → ℕ) → Type 0
  AtDefinition states taken = (k : ℕ) → k < h.channels → states k ≡ state_before h (fragment_at h d k) (taken k)

  separate : (ks : List Call) (states : ℕ → State) (taken : ℕ → ℕ) → AtDefinition states taken → Listed h d states taken ks
      → AsDefined h d ks (run h d states ks) × ((k : ℕ) → k < h.channels → states_after h d states ks k ≡ reached h d k (states k) ks)
  unfolding AtDefinition Listed AsDefined run states_after reached state_before channel_of done called
  separate [] states taken at o = (tt, λ k hk. refl)
  separate (takes c f out ∷ ks) states taken at o =
      let frags : ℕ → List ℕ = fragment_at h d c in
      let call = takes c f out in
      let r = fragment_call h.version h.variant (states c) (frags f) (length out) in
      let a : r ≡ result (frame_decoded h frags f) =
      rw (at c o.0 ∙ due_state frags (taken c) f o.3) (take_answer c f out o.0 o.1 o.2) in
      let st : state_left (states c) r ≡ (frame_decoded h frags f).state = left_result (states c) r _ a in
      let at' : AtDefinition (states_next h d states call) (put taken c (suc f)) =
      λ k hk. same_or_not k c
      (λ b. cond b (state_left (states c) r) (states k) ≡ state_before h (fragment_at h d k) (cond b (suc f) (taken k)))
      (λ e. st ∙ ap (λ x. state_before h (fragment_at h d x) (suc f)) (sym e)) (at k hk) in
      let ih = separate ks (states_next h d states call) (put taken c (suc f)) at' o.4 in
      let whole : output_after (on_result samples_of r) out ≡ (frame_decoded h frags f).samples =
      output_whole _ _ out (on_result_lem samples_of r a) (length-decoded _ _ _ _ _ ∙ sym o.2) in
      ((a, whole, ih.0), λ k hk. ih.1 k hk ∙ ap (λ x. reached h d k (cond (eqb k c) x (states k)) ks) st)
  separate (other c version variant fragment out ∷ ks) states taken at o =
      let call = other c version variant fragment out in
      let r = fragment_call version variant (states c) fragment (length out) in
      let same : (k : ℕ) → states_next h d states call k ≡ states k =
      λ k. same_or_not k c (λ b. cond b (state_left (states c) r) (states k) ≡ states k)
      (λ e. left_refused (states c) r o.1 ∙ ap states (sym e)) refl in
      let ih = separate ks (states_next h d states call) taken (λ k hk. same k ∙ at k hk) o.2 in
      ((o.1, output_refused samples_of r out o.1, ih.0), λ k hk. ih.1 k hk ∙ ap (λ x. reached h d k x ks) (same k))

pub separation : (d : List ℕ) (h : Header) → inspected d ≡ result h → (ks : List Call) → Listed h d (λ c. zero_state) (λ c. 0) ks → Separate h d ks
unfolding AtDefinition state_before
separation d h e ks o =
    let r = separate h d (accepted d h e) ks (λ c. zero_state) (λ c. 0) (λ k hk. refl) o in
    record { calls = r.0; states = r.1 }

-- from version 3 on, any fragments of the stream in any order make a list, with refused calls among them
listed_anew : (h : Header) (d : List ℕ) → anew h.version ≡ true → (states : ℕ → State) (taken : ℕ → ℕ) (ks : List Call)
    → InStream h ks → Listed h d states taken ks
unfolding InStream Listed Due
listed_anew h d e states taken [] i = tt
listed_anew h d e states taken (takes c f out ∷ ks) i =
    let due : Due true (taken c) f = tt in
    (i.0, i.1, i.2, rw e due, listed_anew h d e (states_next h d states (takes c f out)) (put taken c (suc f)) ks i.3)
listed_anew h d e states taken (other c version variant fragment out ∷ ks) i =
    (i.0, refused_anyway version variant zero_state (states c) fragment (length out) zero_range i.1, listed_anew h d e (states_next h d states (other c version variant fragment out)) taken ks i.2)

pub any_order : (d : List ℕ) (h : Header) → inspected d ≡ result h → anew h.version ≡ true → (ks : List Call) → InStream h ks → Separate h d ks
any_order d h i e ks s = separation d h i ks (listed_anew h d e (λ c. zero_state) (λ c. 0) ks s)
