-- Channel separation of the whole-stream decoder. Assumes nothing.
use mathlib.Core.Path.{◌≡◌, refl, sym, ◌∙◌, ap}
use mathlib.Core.List.{List}
use Prim.Native.Nat.{ℕ, zero, suc, ◌+◌, ◌*◌, ◌/◌, ◌%◌, ◌≤◌, ◌<◌}
use native.Mathlib.Omega.{arith}
use borrow.Author.Tests.{le-ltb}
use lib.Arith.{digits_lt, digits_div, digits_mod}
use lib.IntN.{pos}
use lib.ListN.{length, get_or}
use Rattle.outcome.specs.Outcome.{result, refused}
use Rattle.outcome.proofs.Laws.{clear, cleared, then_result, then_refused}
use Rattle.lists.proofs.ByIndex.{length_tabulate, get_d_tabulate}
use Rattle.sqv4_format.specs.Layout.{whole_frame, frames, fragment_at}
use Rattle.sqv4_format.specs.Decode.{state_before, channel_sample, decoded}
use Rattle.sqv4_format.specs.Inspect.{Sound, inspected, decode_call, Agree}
use Rattle.sqv4_format.proofs.Sizes.{frame_pos, frame_below}
use Rattle.sqv4_format.specs.declared.Header.{Header}

before_ext : (h : Header) (frags frags' : ℕ → List ℕ) → ((f : ℕ) → f < frames h → frags f ≡ frags' f) → (f : ℕ) → f ≤ frames h
    → state_before h frags f ≡ state_before h frags' f
unfolding state_before
before_ext h frags frags' e zero l = refl
before_ext h frags frags' e (suc f) l = cc (before_ext h frags frags' e f (omega arith), e f l)

-- a channel's samples depend on its own fragments only
pub sample_ext : (h : Header) (frags frags' : ℕ → List ℕ) → ((f : ℕ) → f < frames h → frags f ≡ frags' f) → (t : ℕ) → t < h.samples
    → channel_sample h frags t ≡ channel_sample h frags' t
unfolding channel_sample
sample_ext h frags frags' e t l =
    let k : t / whole_frame h < frames h = unfold frames in (frame_below t h.samples (whole_frame h) (frame_pos h) l) in
    cc (before_ext h frags frags' e (t / whole_frame h) (omega arith), e (t / whole_frame h) k)

module _ (h : Header) (d : List ℕ) where
  -- sample t of channel c of a decoding is the definition's
  decoded_sample : (c t : ℕ) → c < h.channels → t < h.samples → get_or (decoded h d) (t * h.channels + c) (pos 0) ≡ channel_sample h (fragment_at h d c) t
  unfolding decoded
  decoded_sample c t hc ht =
      get_d_tabulate (λ j. channel_sample h (fragment_at h d (j % h.channels)) (j / h.channels)) (h.samples * h.channels) (t * h.channels + c) (pos 0) (digits_lt ht hc)
      ∙ rw (digits_mod t hc, digits_div t hc)

  pub length-decoded : length (decoded h d) ≡ h.samples * h.channels
  unfolding decoded
  length-decoded = length_tabulate (λ j. channel_sample h (fragment_at h d (j % h.channels)) (j / h.channels)) (h.samples * h.channels)

  decode_gives : (room : ℕ) (x : Sound) → inspected d ≡ result h → decode_call d room ≡ result x → decoded h d ≡ x.samples
  unfolding decode_call
  decode_gives room x i e =
      let g = (cleared _ _ _ _ (then_result _ h _ _ (sym i) refl ∙ e)).1 in
      let same : record { header = h; samples = decoded h d } ≡ x = cc in
      ap (λ (s : Sound). s.samples) same

pub agreement : (d e : List ℕ) (h : Header) → inspected d ≡ result h → inspected e ≡ result h
    → (room room' : ℕ) (x y : Sound) → decode_call d room ≡ result x → decode_call e room' ≡ result y
    → (c : ℕ) → c < h.channels → ((f : ℕ) → f < frames h → fragment_at h d c f ≡ fragment_at h e c f) → Agree h c d e x.samples y.samples
agreement d e h id ie room room' x y gd ge c hc same =
    let px = decode_gives h d room x id gd in
    let py = decode_gives h e room' y ie ge in
    record {
      length_first = rw (← px) (length-decoded h d);
      length_second = rw (← py) (length-decoded h e);
      each_other = λ t ht. rw (← px, ← py)
          (decoded_sample h d c t hc ht ∙ sample_ext h (fragment_at h d c) (fragment_at h e c) same t ht ∙ sym (decoded_sample h e c t hc ht));
      first = λ t ht. rw (← px) (decoded_sample h d c t hc ht);
      second = λ t ht. rw (← py) (decoded_sample h e c t hc ht);
    }

-- what inspection refuses the decoder refuses, in the same way; what it accepts is decoded where there is room for the samples
pub decode_refuses : (d : List ℕ) (room n : ℕ) (vs : List ℕ) → inspected d ≡ refused n vs → decode_call d room ≡ refused n vs
unfolding decode_call
decode_refuses d room n vs i = sym (then_refused _ n vs _ (sym i))

pub decode_accepts : (d : List ℕ) (h : Header) (room : ℕ) → inspected d ≡ result h → h.samples * h.channels ≤ room
    → decode_call d room ≡ result (record { header = h; samples = decoded h d })
unfolding decode_call
decode_accepts d h room i l = sym (then_result _ h _ _ (sym i) (clear _ _ _ _ _ (le-ltb _ _ l) refl))
