-- The SQV4 stream: header, frames, and where each fragment lies. Assumes nothing.
use Rattle.std.specs.Prelude.{ℕ, zero, suc, ◌+◌, ◌-◌, ◌*◌, ◌/◌, min, Bool, cond, ◌&&◌, ◌||◌, List, [], ◌∷◌, ◌++◌, leb, eqb, get_or, take, drop}
use Rattle.outcome.specs.Outcome.{Outcome, result, refused}
use Rattle.digits.specs.Digits.{stored, field}
use Rattle.sqv4_format.specs.declared.Variant.{Variant}
use Rattle.sqv4_format.specs.declared.Variant.TheVariants.{H, L, LPlus}
use Rattle.sqv4_format.specs.declared.Header.{Header}

-- ---- versions and channel counts

-- versions 1..3
unfoldable pub known_version : ℕ → Bool
known_version version = leb 1 version && leb version 3

-- from version 3 on each fragment starts anew, at predictor 0 and a stored index
abbrev pub anew : ℕ → Bool
anew version = leb 3 version

-- the version whose fragments the encoder makes, and the version that it writes for a channel count
abbrev pub encoder_version : ℕ
encoder_version = 3

abbrev pub version_for : ℕ → ℕ
version_for channels = encoder_version

-- the channel counts that a version has: 1 or 2
unfoldable pub channels_fit : ℕ → ℕ → Bool
channels_fit version channels = eqb channels 1 || eqb channels 2

-- ---- each variant carries its bits, payload and fragment size

abbrev pub bits : Variant → ℕ
bits H = 4
bits L = 3
bits LPlus = 3

abbrev pub payload_bytes : Variant → ℕ
payload_bytes H = 32
payload_bytes L = 24
payload_bytes LPlus = 24

-- the bytes before the codes: volume and index; versions 1, 2: volume
abbrev pub prefix : ℕ → ℕ
prefix version = cond (anew version) 2 1

-- H 34, L and L+ 26; versions 1, 2: 33 and 25
abbrev pub fragment_size : ℕ → Variant → ℕ
fragment_size version variant = prefix version + payload_bytes variant

-- a frame holds 63 samples per channel; versions 1, 2: 64
abbrev pub frame_samples : ℕ → ℕ
frame_samples version = cond (anew version) 63 64

-- a fragment's volume, its index byte (from version 3 on), and its packed codes
abbrev pub volume_byte : List ℕ → ℕ
volume_byte fragment = get_or fragment 0 0

abbrev pub index_byte : List ℕ → ℕ
index_byte fragment = get_or fragment 1 0

abbrev pub payload : ℕ → List ℕ → List ℕ
payload version fragment = drop (prefix version) fragment

-- ---- the header, 16 bytes

abbrev pub variant_byte : Variant → ℕ
variant_byte H = 0
variant_byte L = 1
variant_byte LPlus = 2

-- the variant that a byte names: 0 H, 1 L, 2 LPlus; a variant above 2 is refused with 8 and the byte
unfoldable pub variant_of : ℕ → Outcome Variant
variant_of zero = result H
variant_of (suc zero) = result L
variant_of (suc (suc zero)) = result LPlus
variant_of (suc (suc (suc n))) = refused 8 (suc (suc (suc n)) ∷ [])

-- "SQV4"; version; variant; channels; reserved 0; rate, 4 bytes; samples per channel, 4 bytes
unfoldable pub header_bytes : Header → List ℕ
header_bytes h =
    83 ∷ 81 ∷ 86 ∷ 52 ∷ h.version ∷ variant_byte h.variant ∷ h.channels ∷ 0 ∷ (stored 4 h.rate ++ stored 4 h.samples)

-- the header that a stream's first 16 bytes state, where the variant byte names this variant
unfoldable pub header_of : List ℕ → Variant → Header
header_of d variant =
    record {
      version = get_or d 4 0;
      variant = variant;
      channels = get_or d 6 0;
      rate = field 4 8 d;
      samples = field 4 12 d;
    }

-- ---- frames and fragments

-- a / b, rounded up
abbrev pub rounded_up : ℕ → ℕ → ℕ
rounded_up a b = (a + (b - 1)) / b

-- samples per channel of a whole frame of this stream
abbrev pub whole_frame : Header → ℕ
whole_frame h = frame_samples h.version

unfoldable pub frames : Header → ℕ
frames h = rounded_up h.samples (whole_frame h)

-- 01's "a frame's count": its samples per channel; the last frame holds those that remain
unfoldable pub count : Header → ℕ → ℕ
count h f = min (whole_frame h) (h.samples - f * whole_frame h)

-- bytes of each fragment of this stream
abbrev pub size_in : Header → ℕ
size_in h = fragment_size h.version h.variant

-- file length: 16 + frames × channels × fragment size
abbrev pub stream_length : Header → ℕ
stream_length h = 16 + frames h * h.channels * size_in h

-- the fragment at place p of the file order: frame by frame, left before right, so that p is frame × channels + channel
unfoldable pub fragment_at_place : Header → List ℕ → ℕ → List ℕ
fragment_at_place h d p = take (size_in h) (drop (16 + p * size_in h) d)

-- channel c's fragment of frame f begins at byte 16 + (f × channels + c) × fragment size
abbrev pub fragment_at : Header → List ℕ → ℕ → ℕ → List ℕ
fragment_at h d c f = fragment_at_place h d (f * h.channels + c)
