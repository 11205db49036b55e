-- What is proved of the calls for C: each claim under the words of include/postlapse.h that it renders. The contracts cite the same
-- definitions. Assumes nothing.
use mathlib.Core.Path.{◌≡◌, refl, sym, ap}
use mathlib.Core.List.{List, [], ◌∷◌, ◌++◌}
use Prim.Native.Nat.{ℕ, zero, suc, ◌+◌, ◌*◌, ◌/◌, ◌^◌, ◌<◌}
use native.Mathlib.Omega.{arith}
use lib.Dec.{T}
use lib.IntN.{ℤ}
use lib.ListN.{length, drop}
use Rattle.outcome.specs.Outcome.{result, refused, need, ◌⟫◌, and_then, on_result, output_after}
use Rattle.outcome.proofs.Laws.{pass, passed, then_result, then_refused, then_passed}
use Rattle.sqv4_format.specs.Layout.{known_version, channels_fit, fragment_size, variant_of, frames, stream_length}
use Rattle.sqv4_format.specs.Decode.{DecodedFragment, fragment_call, state_left}
use Rattle.sqv4_format.specs.Encode.{encode_call, header_written}
use Rattle.sqv4_format.specs.Inspect.{Sound, inspected}
use Rattle.sqv4_format.proofs.Accepted.{accepted}
use Rattle.sqv4_format.proofs.Encoder.{encoding-accepted}
use Rattle.sqv4_format.specs.declared.Variant.{Variant}
use Rattle.sqv4_format.specs.declared.Variant.TheVariants.{H, L, LPlus}
use Rattle.sqv4_format.specs.declared.Header.{Header}
use Rattle.sqv4_format.specs.declared.State.{State}
use Rattle.parts.specs.declared.Part.{Part}
use Rattle.postlapse.specs.Answers.{answer_of, header_answer_of, wave_answer_of, with_state}
use Rattle.postlapse.specs.Promises.{encode_for_c, fragment_for_c, Fills, Decodes, Plays, PlaysByValue}
use Rattle.postlapse.specs.Lengths.{library_version, fragment_size_for_c, frame_count_for_c, stream_length_for_c}
use Rattle.postlapse.specs.Cases.{pinned}
use Rattle.postlapse.proofs.Checks.{pinned_hold}
use Rattle.postlapse.specs.declared.Answer.{Answer}
use Rattle.postlapse.specs.declared.HeaderAnswer.{HeaderAnswer}
use Rattle.postlapse.specs.declared.FragmentAnswer.{FragmentAnswer}

-- ---- the answers

-- "`first` is how many elements were written where `refusal` is 0"
pub count_answer : (n : ℕ) → answer_of (result n) ≡ record { refusal = 0; first = n; second = 0 }
unfolding answer_of
count_answer n = refl

-- "What a call refuses, with the numbers that it returns in `first` and `second` (0 where there are none)"
module _ (n a b : ℕ) where
  pub refusal_answer : answer_of (refused n []) ≡ record { refusal = n; first = 0; second = 0 }
  unfolding answer_of
  refusal_answer = refl

  pub one_number_answer : answer_of (refused n (a ∷ [])) ≡ record { refusal = n; first = a; second = 0 }
  unfolding answer_of
  one_number_answer = refl

  pub two_numbers_answer : answer_of (refused n (a ∷ b ∷ [])) ≡ record { refusal = n; first = a; second = b }
  unfolding answer_of
  two_numbers_answer = refl

-- "A header or a refusal; on a refusal the header's fields are 0. `samples` is the count of each channel": the variant is "the byte of
-- a stream", 0 H, 1 L, 2 L+
module _ (version channels rate samples : ℕ) where
  abbrev header : Variant → Header
  header v = record { version = version; variant = v; channels = channels; rate = rate; samples = samples }

  abbrev said : ℕ → HeaderAnswer
  said byte =
      record {
        refusal = 0;
        first = 0;
        second = 0;
        version = version;
        variant = byte;
        channels = channels;
        rate = rate;
        samples = samples;
      }

  pub header_answer : (header_answer_of (result (header H)) ≡ said 0) × (header_answer_of (result (header L)) ≡ said 1)
      × (header_answer_of (result (header LPlus)) ≡ said 2)
  unfolding header_answer_of
  header_answer = (refl, refl, refl)

pub header_refused : (n a b : ℕ)
    → header_answer_of (refused n (a ∷ b ∷ []))
    ≡ record { refusal = n; first = a; second = b; version = 0; variant = 0; channels = 0; rate = 0; samples = 0 }
unfolding header_answer_of
header_refused n a b = refl

-- "What a WAV file says: its `size` bytes of samples begin at byte `start` of the caller's own file. Zeros on a refusal"
pub wave_answer : (channels rate start size end : ℕ) (fmt : Part)
    → wave_answer_of (result (record { channels = channels; rate = rate; samples = record { start = start; size = size }; format = fmt; end = end }))
    ≡ record { refusal = 0; channels = channels; rate = rate; start = start; size = size }
unfolding wave_answer_of
wave_answer channels rate start size end fmt = refl

pub wave_refused : (n : ℕ) (vs : List ℕ) → wave_answer_of (refused n vs) ≡ record { refusal = n; channels = 0; rate = 0; start = 0; size = 0 }
unfolding wave_answer_of
wave_refused n vs = refl

-- "A count or a refusal as in postlapse_answer, and the channel's state after the call"
pub fragment_answer : (n a b index : ℕ) (predictor : ℤ)
    → with_state (record { refusal = n; first = a; second = b }) (record { predictor = predictor; index = index })
    ≡ record { refusal = n; first = a; predictor = predictor; index = index }
fragment_answer n a b index predictor = refl

-- ---- the lent memory: "it fills its output from the front, and later places stay as they were"; on a refusal "the call has written
-- nothing to the caller's memory", and the state is "the one that was given"

module _ {A : Type 0} {out output : List A} {answer : Answer} where
  pub fills_result : {xs : List A} → Fills (result xs) out answer output → (answer ≡ answer_of (result (length xs))) × (output ≡ xs ++ drop (length xs) out)
  unfolding on_result output_after
  fills_result p = (p.answered, p.output_left)

  pub fills_refused : {n : ℕ} {vs : List ℕ} → Fills (refused n vs) out answer output → (answer ≡ answer_of (refused n vs)) × (output ≡ out)
  unfolding on_result output_after
  fills_refused p = (p.answered, p.output_left)

module _ {out output : List ℤ} where
  pub decodes_result : {s : Sound} {answer : HeaderAnswer} → Decodes (result s) out answer output
      → (answer ≡ header_answer_of (result s.header)) × (output ≡ s.samples ++ drop (length s.samples) out)
  unfolding on_result output_after
  decodes_result p = (p.answered, p.output_left)

  pub decodes_refused : {n : ℕ} {vs : List ℕ} {answer : HeaderAnswer} → Decodes (refused n vs) out answer output
      → (answer ≡ header_answer_of (refused n vs)) × (output ≡ out)
  unfolding on_result output_after
  decodes_refused p = (p.answered, p.output_left)

  module _ {s state : State} {answer : Answer} where
    pub plays_result : {r : DecodedFragment} → Plays (result r) s out answer state output
        → (answer ≡ answer_of (result (length r.samples))) × (state ≡ r.state) × (output ≡ r.samples ++ drop (length r.samples) out)
    unfolding on_result output_after state_left
    plays_result p = (p.answered, p.state_after, p.output_left)

    pub plays_refused : {n : ℕ} {vs : List ℕ} → Plays (refused n vs) s out answer state output
        → (answer ≡ answer_of (refused n vs)) × (state ≡ s) × (output ≡ out)
    unfolding on_result output_after state_left
    plays_refused p = (p.answered, p.state_after, p.output_left)

  module _ {s : State} {answer : FragmentAnswer} where
    pub by_value_result : {r : DecodedFragment} → PlaysByValue (result r) s out answer output
        → (answer ≡ with_state (answer_of (result (length r.samples))) r.state) × (output ≡ r.samples ++ drop (length r.samples) out)
    unfolding on_result output_after state_left
    by_value_result p = (p.answered, p.output_left)

    pub by_value_refused : {n : ℕ} {vs : List ℕ} → PlaysByValue (refused n vs) s out answer output
        → (answer ≡ with_state (answer_of (refused n vs)) s) × (output ≡ out)
    unfolding on_result output_after state_left
    by_value_refused p = (p.answered, p.output_left)

-- ---- "The variant, as the byte of a stream": 0, 1 and 2 are H, L and L+, and a byte above them gives 8 with the byte, before every
-- other check ("Refuses 8, 1, 2, 3, 4, 13, in this order", "Refuses 8, 7, 14, 15, in this order")

variant_refused : (byte : ℕ) → 2 < byte → variant_of byte ≡ refused 8 (byte ∷ [])
unfolding variant_of
variant_refused zero h = let z : ⊥ = omega arith in absurd z
variant_refused (suc zero) h = let z : ⊥ = omega arith in absurd z
variant_refused (suc (suc zero)) h = let z : ⊥ = omega arith in absurd z
variant_refused (suc (suc (suc n))) h = refl

module _ (gain : ℕ) (pcm : List ℤ) (channels rate room : ℕ) where
  abbrev encodes : ℕ → Variant → Type 0
  encodes byte v = encode_for_c byte gain pcm channels rate room ≡ encode_call (record { variant = v; gain = gain }) pcm channels rate room

  pub encode_variants : encodes 0 H × encodes 1 L × encodes 2 LPlus
  unfolding encode_for_c variant_of and_then
  encode_variants = (refl, refl, refl)

  pub encode_refuses : (byte : ℕ) → 2 < byte → encode_for_c byte gain pcm channels rate room ≡ refused 8 (byte ∷ [])
  unfolding encode_for_c
  encode_refuses byte h = sym (then_refused _ _ _ _ (sym (variant_refused byte h)))

module _ (version : ℕ) (s : State) (fragment : List ℕ) (n : ℕ) where
  abbrev plays : ℕ → Variant → Type 0
  plays byte v = fragment_for_c version byte s fragment n ≡ fragment_call version v s fragment n

  pub fragment_variants : plays 0 H × plays 1 L × plays 2 LPlus
  unfolding fragment_for_c variant_of and_then
  fragment_variants = (refl, refl, refl)

  pub fragment_refuses : (byte : ℕ) → 2 < byte → fragment_for_c version byte s fragment n ≡ refused 8 (byte ∷ [])
  unfolding fragment_for_c
  fragment_refuses byte h = sym (then_refused _ _ _ _ (sym (variant_refused byte h)))

-- ---- lengths, and the version

-- each refusal of these calls at its bound and in its place ("Refuses 8, 7", "Refuses 7", "Refuses 8, 7, 1, in this order"), and results
pub refusals_pinned : T pinned
refusals_pinned = pinned_hold

-- "10000 for 1.0.0 (major * 10000 + minor * 100 + patch)"
pub version_number : library_version ≡ 1 * 10000 + 0 * 100 + 0
version_number = refl

-- the variant is its byte here too, and a byte above 2 gives 8 first
module _ (version : ℕ) where
  abbrev sizes : ℕ → Variant → Type 0
  sizes byte v = fragment_size_for_c version byte ≡ (need (known_version version) 7 (version ∷ []) ⟫ result (fragment_size version v))

  pub size_variants : sizes 0 H × sizes 1 L × sizes 2 LPlus
  unfolding fragment_size_for_c variant_of and_then
  size_variants = (refl, refl, refl)

  pub size_refuses : (byte : ℕ) → 2 < byte → fragment_size_for_c version byte ≡ refused 8 (byte ∷ [])
  unfolding fragment_size_for_c
  size_refuses byte h = sym (then_refused _ _ _ _ (sym (variant_refused byte h)))

  module _ (channels samples : ℕ) where
    abbrev measures : ℕ → Variant → Type 0
    measures byte v =
        stream_length_for_c version byte channels samples
        ≡ (need (known_version version) 7 (version ∷ [])
        ⟫ need (channels_fit version channels) 1 (channels ∷ [])
        ⟫ result (stream_length (record { version = version; variant = v; channels = channels; rate = 0; samples = samples })))

    pub length_variants : measures 0 H × measures 1 L × measures 2 LPlus
    unfolding stream_length_for_c variant_of and_then
    length_variants = (refl, refl, refl)

    pub length_refuses : (byte : ℕ) → 2 < byte → stream_length_for_c version byte channels samples ≡ refused 8 (byte ∷ [])
    unfolding stream_length_for_c
    length_refuses byte h = sym (then_refused _ _ _ _ (sym (variant_refused byte h)))

-- "Bytes of a fragment": "34 bytes (H) or 26 (L, L+)", and "in versions 1 and 2 fragments have 33 bytes (H) or 25 (L, L+)"
abbrev sizes_are : ℕ → ℕ → ℕ → Type 0
sizes_are version h l =
    (fragment_size_for_c version 0 ≡ result h) × (fragment_size_for_c version 1 ≡ result l) × (fragment_size_for_c version 2 ≡ result l)

pub fragment_sizes : sizes_are 1 33 25 × sizes_are 2 33 25 × sizes_are 3 34 26
unfolding fragment_size_for_c variant_of and_then known_version need
fragment_sizes = ((refl, refl, refl), (refl, refl, refl), (refl, refl, refl))

-- "Frames of a stream", "Bytes of a whole stream": of every stream that inspection accepts, by what its header says and a byte that names
-- its variant
module _ (d : List ℕ) (h : Header) (e : inspected d ≡ result h) where
  pub frames_accepted : frame_count_for_c h.version h.samples ≡ result (frames h)
  unfolding frame_count_for_c frames
  frames_accepted = sym (pass _ _ _ _ _ (accepted d h e).version refl)

  pub length_accepted : (byte : ℕ) → variant_of byte ≡ result h.variant
      → stream_length_for_c h.version byte h.channels h.samples ≡ result (length d)
  unfolding stream_length_for_c frames
  length_accepted byte named =
      let a = accepted d h e in
      sym (then_result _ _ _ _ (sym named) (pass _ _ _ _ _ a.version (pass _ _ _ _ _ a.channels (ap result a.size))))

-- and of what the encoder writes, which is of version 3; a rate is a 32-bit number
pub length_encoded : (byte gain : ℕ) (pcm : List ℤ) (channels rate room : ℕ) (bytes : List ℕ) → rate < 2 ^ 32
    → encode_for_c byte gain pcm channels rate room ≡ result bytes
    → stream_length_for_c 3 byte channels (length pcm / channels) ≡ result (length bytes)
unfolding encode_for_c header_written
length_encoded byte gain pcm channels rate room bytes few e =
    let t = then_passed (variant_of byte) _ e in
    length_accepted bytes _ (encoding-accepted _ pcm channels rate room bytes few t.2) byte t.1

-- "16 + frames * channels * fragment size": where there is a length, the other two calls have results, and it is made of them
pub length_of_parts : (version byte channels samples l : ℕ) → stream_length_for_c version byte channels samples ≡ result l
    → (n : ℕ) × (s : ℕ) × (frame_count_for_c version samples ≡ result n) × (fragment_size_for_c version byte ≡ result s)
    × (l ≡ 16 + n * channels * s)
unfolding stream_length_for_c frame_count_for_c fragment_size_for_c frames
length_of_parts version byte channels samples l e =
    let t = then_passed (variant_of byte) _ e in
    let known = passed _ _ _ _ t.2 in
    let last = (passed _ _ _ _ known.1).1 in
    (_, _, sym (pass _ _ _ _ _ known.0 refl), sym (then_result _ _ _ _ (sym t.1) (pass _ _ _ _ _ known.0 refl)), cc)
