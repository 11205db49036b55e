-- What a call gives, as tests that compute, for worked cases and for answers that were recorded from the Rust. Assumes nothing.
use Rattle.std.specs.Prelude.{ℕ, Bool, ◌&&◌, List, eqb, ℤ}
use Rattle.lists.specs.Tests.{eq_z, same_bytes, same_samples}
use Rattle.outcome.specs.Tests.{gives, refuses}
use Rattle.sqv4_format.specs.Layout.{variant_byte}
use Rattle.sqv4_format.specs.Step.{stepped}
use Rattle.sqv4_format.specs.Decode.{DecodedFragment, fragment_call}
use Rattle.sqv4_format.specs.Encode.{encode_call}
use Rattle.sqv4_format.specs.Inspect.{Sound, inspected, decode_call}
use Rattle.sqv4_format.specs.declared.Variant.{Variant}
use Rattle.sqv4_format.specs.declared.State.{State}
use Rattle.sqv4_format.specs.declared.Header.{Header}
use Rattle.sqv4_format.specs.declared.Settings.{Settings}

abbrev pub is_state : State → ℤ → ℕ → Bool
is_state s predictor index = eq_z s.predictor predictor && eqb s.index index

-- room enough for any output here
abbrev pub ample : ℕ
ample = 65536

abbrev pub settings : Variant → ℕ → Settings
settings variant gain = record { variant = variant; gain = gain }

-- ---- the forms in which the Rust's answers are recorded

abbrev pub encodes : Variant → ℕ → ℕ → ℕ → List ℤ → List ℕ → Bool
encodes variant gain channels rate pcm bytes = gives (same_bytes bytes) (encode_call (settings variant gain) pcm channels rate ample)

abbrev pub encode_refused : Variant → ℕ → ℕ → ℕ → List ℤ → ℕ → List ℕ → Bool
encode_refused variant gain channels rate pcm n vs = refuses n vs (encode_call (settings variant gain) pcm channels rate ample)

abbrev pub inspects : List ℕ → ℕ → ℕ → ℕ → ℕ → ℕ → Bool
inspects d version variant channels rate samples =
    gives
    (λ (h : Header).
    eqb h.version version && eqb (variant_byte h.variant) variant && eqb h.channels channels
    && eqb h.rate rate && eqb h.samples samples)
    (inspected d)

abbrev pub inspect_refused : List ℕ → ℕ → List ℕ → Bool
inspect_refused d n vs = refuses n vs (inspected d)

abbrev pub decodes : List ℕ → List ℤ → Bool
decodes d samples = gives (λ (s : Sound). same_samples s.samples samples) (decode_call d ample)

abbrev pub decode_refused : List ℕ → ℕ → List ℕ → Bool
decode_refused d n vs = refuses n vs (decode_call d ample)

-- a fragment decoder call from a state, for so many samples: the state after it, and the samples
abbrev pub plays : ℕ → Variant → ℤ → ℕ → ℕ → List ℕ → ℤ → ℕ → List ℤ → Bool
plays version variant predictor index n fragment predictor' index' samples =
    gives
    (λ (r : DecodedFragment). is_state r.state predictor' index' && same_samples r.samples samples)
    (fragment_call version variant (record { predictor = predictor; index = index }) fragment n)

-- one code from a state: the state after it
abbrev pub steps : ℕ → Variant → ℤ → ℕ → ℕ → ℤ → ℕ → Bool
steps version variant predictor index code predictor' index' =
    is_state (stepped version variant (record { predictor = predictor; index = index }) code) predictor' index'
