-- What is proved of the definitions: each claim under the sentence of 01 or of the demands that it renders. The contracts of the
-- entry points cite the same definitions, so the claims speak of running code as soon as a contract is met. Uses.antt has the claims
-- at work, and instances. Assumes nothing.
use mathlib.Core.Path.{◌≡◌}
use mathlib.Core.Bool.{Bool, true}
use mathlib.Core.List.{List, map}
use Prim.Native.Nat.{ℕ, ◌*◌, ◌/◌, ◌%◌, ◌^◌, ◌≤◌, ◌<◌}
use lib.Dec.{T}
use lib.IntN.{ℤ, pos, nat_abs, ◌-ℤ◌, ◌*ℤ◌}
use lib.Signed.{mag, quot_z}
use lib.ListN.{length, get_or}
use Rattle.outcome.specs.Outcome.{Outcome, result, refused, Refuses}
use Rattle.outcome.specs.Tests.{gives, accepts, refuses}
use Rattle.outcome.proofs.Tests.{gives_means, accepts_means, refuses_means}
use Rattle.signed.specs.Signed.{on_magnitude}
use Rattle.signed.proofs.Laws.{quot_on}
use Rattle.sqv4_format.specs.Layout.{encoder_version, anew, variant_byte, frames, stream_length, fragment_at}
use Rattle.sqv4_format.specs.Step.{stepped}
use Rattle.sqv4_format.specs.Gain.{nearest, Nearest, Cut, pregained, own_volume, normalised, output_gain}
use Rattle.sqv4_format.specs.Decode.{zero_state, InRange, state_before, decoded, fragment_call}
use Rattle.sqv4_format.specs.Encode.{channel, header_written, encoded, encode_call, OwnFragments}
use Rattle.sqv4_format.specs.Inspect.{Sound, inspected, decode_call, Agree}
use Rattle.sqv4_format.specs.Calls.{Call, Listed, InStream, Separate}
use Rattle.sqv4_format.specs.Tests.{is_state, ample, settings, encodes, encode_refused, inspects, inspect_refused, decodes, decode_refused, plays, steps}
use Rattle.sqv4_format.specs.Cases.{cases, further}
use Rattle.sqv4_format.specs.Refusals.{pinned}
use Rattle.sqv4_format.proofs as proofs
use Rattle.sqv4_format.specs.declared.Variant.{Variant}
use Rattle.sqv4_format.specs.declared.State.{State}
use Rattle.sqv4_format.specs.declared.Header.{Header}
use Rattle.sqv4_format.specs.declared.Settings.{Settings}

-- ---- worked cases

-- "Cases; * is proved, together, by one computed check": 1 to 9
pub starred_cases : T cases
starred_cases = proofs.Checks.cases_hold

-- what the cases leave open: tables, slips of other players, ties, thresholds that just fit, the limits of a state, two channels of
-- several frames, what refused calls leave, volume 0
pub further_checks : T further
further_checks = proofs.Checks.further_hold

-- every refusal of every call: inputs that give it, the numbers returned, its neighbours across the bound, its place in the order
pub refusals_pinned : T pinned
refusals_pinned = proofs.Checks.pinned_hold

-- what the tests in these checks, and in the theorems of `vectors`, tell: the call gives that result, or that very refusal
pub result_tested : {A : Type 0} (f : A → Bool) (P : Outcome A → Type 0) → ((a : A) → T (f a) → P (result a)) → (o : Outcome A) → T (gives f o) → P o
result_tested = gives_means

pub acceptance_tested : {A : Type 0} (o : Outcome A) → T (accepts o) → (a : A) × (o ≡ result a)
acceptance_tested = accepts_means

pub refusal_tested : {A : Type 0} (n : ℕ) (vs : List ℕ) (o : Outcome A) → T (refuses n vs o) → o ≡ refused n vs
refusal_tested = refuses_means

-- the same of the tests that name the call: an encoding, an inspection and a decoding that are refused
pub encode_refusal_tested : (variant : Variant) (gain channels rate : ℕ) (pcm : List ℤ) (n : ℕ) (vs : List ℕ)
    → T (encode_refused variant gain channels rate pcm n vs) → encode_call (settings variant gain) pcm channels rate ample ≡ refused n vs
encode_refusal_tested variant gain channels rate pcm n vs = refuses_means n vs _

pub inspect_refusal_tested : (d : List ℕ) (n : ℕ) (vs : List ℕ) → T (inspect_refused d n vs) → inspected d ≡ refused n vs
inspect_refusal_tested d n vs = refuses_means n vs _

pub decode_refusal_tested : (d : List ℕ) (n : ℕ) (vs : List ℕ) → T (decode_refused d n vs) → decode_call d ample ≡ refused n vs
decode_refusal_tested d n vs = refuses_means n vs _

pub state_tested : (s : State) (predictor : ℤ) (index : ℕ) → T (is_state s predictor index) → s ≡ record { predictor = predictor; index = index }
state_tested = proofs.Tests.is_state_means

pub encoding_tested : (variant : Variant) (gain channels rate : ℕ) (pcm : List ℤ) (bytes : List ℕ) → T (encodes variant gain channels rate pcm bytes)
    → encode_call (settings variant gain) pcm channels rate ample ≡ result bytes
encoding_tested = proofs.Tests.encodes_means

pub inspection_tested : (d : List ℕ) (version variant channels rate samples : ℕ) → T (inspects d version variant channels rate samples)
    → (h : Header) × (inspected d ≡ result h) × (h.version ≡ version) × (variant_byte h.variant ≡ variant) × (h.channels ≡ channels)
    × (h.rate ≡ rate) × (h.samples ≡ samples)
inspection_tested = proofs.Tests.inspects_means

pub decoding_tested : (d : List ℕ) (samples : List ℤ) → T (decodes d samples)
    → (h : Header) × (decode_call d ample ≡ result (record { header = h; samples = samples }))
decoding_tested = proofs.Tests.decodes_means

pub fragment_tested : (version : ℕ) (variant : Variant) (predictor : ℤ) (index n : ℕ) (fragment : List ℕ) (predictor' : ℤ) (index' : ℕ) (samples : List ℤ)
    → T (plays version variant predictor index n fragment predictor' index' samples)
    → fragment_call version variant (record { predictor = predictor; index = index }) fragment n
    ≡ result (record { samples = samples; state = record { predictor = predictor'; index = index' } })
fragment_tested = proofs.Tests.plays_means

pub step_tested : (version : ℕ) (variant : Variant) (predictor : ℤ) (index code : ℕ) (predictor' : ℤ) (index' : ℕ)
    → T (steps version variant predictor index code predictor' index')
    → stepped version variant (record { predictor = predictor; index = index }) code ≡ record { predictor = predictor'; index = index' }
step_tested = proofs.Tests.steps_means

-- ---- rounding and gain

-- "to nearest": within half a unit, halves away from zero, and only one number is
pub nearest_means : (a b : ℕ) → 0 < b → Nearest (nearest a b) a b
nearest_means = proofs.Gain.nearest_is

pub nearest_alone : (n a b : ℕ) → 0 < b → Nearest n a b → n ≡ nearest a b
nearest_alone = proofs.Gain.nearest_only

-- "Division cuts toward zero"
pub cut_means : (a b : ℕ) → 0 < b → Cut (a / b) a b
cut_means = proofs.Gain.cut_is

pub cut_signed : (x : ℤ) (g d : ℕ) → quot_z (x *ℤ pos g) (pos d) ≡ on_magnitude (λ m. m * g / d) x
cut_signed = quot_on

-- "It is 0 only for silence"
pub volume_silence : (xs : List ℤ) (i : ℕ) → i < length xs → own_volume xs ≡ 0 → get_or xs i (pos 0) ≡ pos 0
volume_silence = proofs.Gain.silence

-- "Normalising and output gain together, without the codes, move a sample of that fragment by at most 1": of 16-bit samples, at
-- any pre-gain, with the fragment's own volume
pub gain_moves : (g : ℕ) (samples : List ℤ) (i : ℕ) → g ≤ 255 → ((j : ℕ) → mag (get_or samples j (pos 0)) ≤ 32767) → i < length samples
    → nat_abs
    (output_gain encoder_version (own_volume (map (pregained g) samples)) (normalised (own_volume (map (pregained g) samples)) (pregained g (get_or samples i (pos 0))))
    -ℤ pregained g (get_or samples i (pos 0)))
    ≤ 1
gain_moves = proofs.Gain.gain_stage

-- ---- answers

-- what the table does not refuse is encoded: 1 or 2 channels, a rate, whole frames, at most 4,294,967,295 samples a channel, and room
pub encode_accepts : (k : Settings) (pcm : List ℤ) (channels rate room : ℕ) → 0 < channels → channels ≤ 2 → 0 < rate → length pcm % channels ≡ 0
    → length pcm / channels ≤ 4294967295 → stream_length (header_written k pcm channels rate) ≤ room
    → encode_call k pcm channels rate room ≡ result (encoded k pcm channels rate)
encode_accepts = proofs.Encoder.encode_accepts

-- "Decoder: inspection, then 13": it refuses what inspection refuses, and decodes what inspection accepts where there is room
pub decode_refuses : (d : List ℕ) (room n : ℕ) (vs : List ℕ) → inspected d ≡ refused n vs → decode_call d room ≡ refused n vs
decode_refuses = proofs.Agreement.decode_refuses

pub decode_accepts : (d : List ℕ) (h : Header) (room : ℕ) → inspected d ≡ result h → h.samples * h.channels ≤ room
    → decode_call d room ≡ result (record { header = h; samples = decoded h d })
decode_accepts = proofs.Agreement.decode_accepts

-- ---- demand 3: between two channels of one stream nothing passes

-- "an accepted stereo encoding holds for each channel, frame by frame, the very fragments that demand 2's definition gives for that
-- channel's samples alone at that variant and gain": at byte 16 + (f × channels + c) × fragment size (fragment_at), for any number of
-- channels that the encoder accepts
pub encoding_own : (k : Settings) (pcm : List ℤ) (channels rate c room : ℕ) (bytes : List ℕ) → c < channels
    → encode_call k pcm channels rate room ≡ result bytes → OwnFragments k pcm channels rate c bytes
encoding_own = proofs.Encoder.encoding_own

-- "An encoded fragment equals, byte for byte, the one encoded from its channel's own samples of that frame": that of a mono encoding
-- of the channel
pub encoding_alone : (k : Settings) (pcm : List ℤ) (channels rate c room room' : ℕ) (bytes alone : List ℕ) → c < channels
    → encode_call k pcm channels rate room ≡ result bytes → encode_call k (channel pcm channels c) 1 rate room' ≡ result alone
    → (f : ℕ) → f < frames (header_written k pcm channels rate)
    → fragment_at (header_written k pcm channels rate) bytes c f ≡ fragment_at (header_written k (channel pcm channels c) 1 rate) alone 0 f
encoding_alone = proofs.Encoder.encoding_alone

-- that mono encoding is accepted wherever it has the room
pub alone_accepted : (k : Settings) (pcm : List ℤ) (channels rate c room room' : ℕ) (bytes : List ℕ)
    → encode_call k pcm channels rate room ≡ result bytes → stream_length (header_written k (channel pcm channels c) 1 rate) ≤ room'
    → encode_call k (channel pcm channels c) 1 rate room' ≡ result (encoded k (channel pcm channels c) 1 rate)
alone_accepted = proofs.Encoder.alone_accepted

-- "Whatever the other channel's samples are"
pub encoder_blind : (k : Settings) (pcm pcm' : List ℤ) (channels rate c room room' : ℕ) (bytes bytes' : List ℕ) → c < channels
    → encode_call k pcm channels rate room ≡ result bytes → encode_call k pcm' channels rate room' ≡ result bytes'
    → channel pcm channels c ≡ channel pcm' channels c
    → (f : ℕ) → f < frames (header_written k pcm channels rate)
    → fragment_at (header_written k pcm channels rate) bytes c f ≡ fragment_at (header_written k pcm' channels rate) bytes' c f
encoder_blind = proofs.Encoder.encoder_blind

-- what the encoder writes, inspection accepts, with the header that was asked for; a rate is a 32-bit number
pub encoding-accepted : (k : Settings) (pcm : List ℤ) (channels rate room : ℕ) (bytes : List ℕ) → rate < 2 ^ 32
    → encode_call k pcm channels rate room ≡ result bytes → inspected bytes ≡ result (header_written k pcm channels rate)
encoding-accepted = proofs.Encoder.encoding-accepted

-- "Take any list of fragment decoder calls in an accepted stream, refused ones included, with every channel's state started at 0,
-- 0 ..": the single claim about a list (Calls.Listed says which lists, Calls.Separate what holds after them)
pub separation : (d : List ℕ) (h : Header) → inspected d ≡ result h → (ks : List Call) → Listed h d (λ c. zero_state) (λ c. 0) ks → Separate h d ks
separation = proofs.Separation.separation

-- "In version 3 the same holds for any fragments of the stream, none twice, in any order" (a fragment twice does no harm), refused
-- calls included
pub any_order : (d : List ℕ) (h : Header) → inspected d ≡ result h → anew h.version ≡ true → (ks : List Call) → InStream h ks → Separate h d ks
any_order = proofs.Separation.any_order

-- "In version 3 that state is 0, 0"
pub state_anew : (h : Header) (frags : ℕ → List ℕ) (f : ℕ) → anew h.version ≡ true → state_before h frags f ≡ zero_state
state_anew = proofs.Range.before_anew

-- a refused call of a list is refused for its version, its fragment or its output, whatever the state: states in a list are in range
pub refused_anyway : (version : ℕ) (variant : Variant) (s t : State) (fragment : List ℕ) (n : ℕ) → InRange s
    → Refuses (fragment_call version variant s fragment n) → Refuses (fragment_call version variant t fragment n)
refused_anyway = proofs.Range.refused_anyway

-- "Whatever the rest holds, two accepted streams with equal headers and equal fragments in one channel agree on that channel's
-- samples": with each other and with the definition's
pub agreement : (d e : List ℕ) (h : Header) → inspected d ≡ result h → inspected e ≡ result h
    → (room room' : ℕ) (x y : Sound) → decode_call d room ≡ result x → decode_call e room' ≡ result y
    → (c : ℕ) → c < h.channels → ((f : ℕ) → f < frames h → fragment_at h d c f ≡ fragment_at h e c f) → Agree h c d e x.samples y.samples
agreement = proofs.Agreement.agreement
