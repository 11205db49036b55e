-- Every refusal of every call, by call and number: inputs that give it, with the numbers returned; their neighbours across the bound,
-- most of which are accepted; and its place in the order, an input that has the next cause too, or every later one. Each is a test that
-- computes, and the expectations are 01's. Assumes nothing.
use Rattle.std.specs.Prelude.{ℕ, suc, ◌-◌, Bool, ◌&&◌, List, [], ◌∷◌, ◌++◌, eqb, ℤ, pos, negsuc, length, take, replicate}
use Rattle.outcome.specs.Outcome.{Outcome, result, ◌⟫◌}
use Rattle.outcome.specs.Tests.{gives, accepts, refuses}
use Rattle.sqv4_format.specs.Layout.{fragment_size, stream_length}
use Rattle.sqv4_format.specs.Decode.{DecodedFragment, zero_state, fragment_call}
use Rattle.sqv4_format.specs.Encode.{encode_checks, encode_call}
use Rattle.sqv4_format.specs.Inspect.{Sound, decode_call}
use Rattle.sqv4_format.specs.Tests.{settings, encode_refused, inspects, inspect_refused}
use Rattle.sqv4_format.specs.Cases.{zeros, headed, changed, stereo}
use Rattle.sqv4_format.specs.declared.Variant.{Variant}
use Rattle.sqv4_format.specs.declared.Variant.TheVariants.{H, L, LPlus}
use Rattle.sqv4_format.specs.declared.Header.{Header}

-- ---- the encoder

-- by its numbers. 12884901889 samples have causes 3 and 4 in stereo, and would in three channels
abbrev encoding : ℕ → ℕ → ℕ → ℕ → ℕ → Outcome ℕ
encoding channels rate count needed room = encode_checks channels rate count needed room ⟫ result needed

abbrev encode1 : Bool
encode1 =
    refuses 1 (0 ∷ []) (encoding 0 1 0 1 1) && refuses 1 (3 ∷ []) (encoding 3 1 3 1 1) && refuses 1 (255 ∷ []) (encoding 255 1 0 1 1)
    && accepts (encoding 1 1 3 1 1) && accepts (encoding 2 1 2 1 1)
    && refuses 1 (3 ∷ []) (encoding 3 0 12884901889 1 0) && encode_refused H 255 3 0 (pos 1 ∷ []) 1 (3 ∷ [])

abbrev encode2 : Bool
encode2 =
    refuses 2 [] (encoding 1 0 1 1 1) && refuses 2 [] (encoding 2 0 2 1 1)
    && accepts (encoding 1 1 1 1 1) && accepts (encoding 2 4294967295 2 1 1)
    && refuses 2 [] (encoding 2 0 12884901889 1 0) && encode_refused H 255 2 0 (pos 1 ∷ []) 2 []

abbrev encode3 : Bool
encode3 =
    refuses 3 [] (encoding 2 1 1 1 1) && refuses 3 [] (encoding 2 1 3 1 1)
    && accepts (encoding 2 1 0 1 1) && accepts (encoding 2 1 2 1 1) && accepts (encoding 1 1 1 1 1)
    && refuses 3 [] (encoding 2 1 12884901889 1 0) && refuses 3 [] (encode_call (settings H 255) (pos 1 ∷ []) 2 8000 0)

abbrev encode4 : Bool
encode4 =
    refuses 4 [] (encoding 1 1 4294967296 1 1) && refuses 4 [] (encoding 2 1 8589934592 1 1)
    && accepts (encoding 1 1 4294967295 1 1) && accepts (encoding 2 1 8589934590 1 1)
    && refuses 4 [] (encoding 1 1 4294967296 1 0)

-- 13, the last: by numbers, in whole calls, and the bytes needed for the most samples
abbrev most : ℕ → Variant → Header
most channels variant = record { version = 3; variant = variant; channels = channels; rate = 1; samples = 4294967295 }

abbrev encode13 : Bool
encode13 =
    let mono : ℕ → Outcome (List ℕ) = encode_call (settings H 255) (pos 0 ∷ []) 1 8000 in
    let stereo : ℕ → Outcome (List ℕ) = encode_call (settings L 255) (pos 0 ∷ pos 0 ∷ []) 2 8000 in
    refuses 13 (2 ∷ []) (encoding 1 1 1 2 1) && gives (eqb 2) (encoding 1 1 1 2 2)
    && refuses 13 (50 ∷ []) (mono 49) && gives (λ b. eqb (length b) 50) (mono 50)
    && refuses 13 (68 ∷ []) (stereo 67) && gives (λ b. eqb (length b) 68) (stereo 68)
    && eqb (stream_length (most 1 H)) 2317918906 && eqb (stream_length (most 2 LPlus)) 3545052436

-- ---- inspection

-- an empty stream of version 3
abbrev empty : List ℕ
empty = headed 3 0

abbrev inspect5 : Bool
inspect5 =
    inspect_refused [] 5 [] && inspect_refused (take 15 empty) 5 [] && inspects empty 3 0 1 8000 0
    && inspect_refused (take 15 (changed 0 82 empty)) 5 []

abbrev inspect6 : Bool
inspect6 =
    inspect_refused (changed 0 82 empty) 6 [] && inspect_refused (changed 1 82 empty) 6 []
    && inspect_refused (changed 2 82 empty) 6 [] && inspect_refused (changed 3 82 empty) 6 []
    && inspect_refused (changed 3 82 (changed 4 4 empty)) 6 []

abbrev inspect7 : Bool
inspect7 =
    inspect_refused (changed 4 0 empty) 7 (0 ∷ []) && inspect_refused (changed 4 4 empty) 7 (4 ∷ [])
    && inspect_refused (changed 4 255 empty) 7 (255 ∷ [])
    && inspects (changed 4 1 empty) 1 0 1 8000 0 && inspects (changed 4 2 empty) 2 0 1 8000 0
    && inspect_refused (changed 4 4 (changed 5 3 empty)) 7 (4 ∷ [])

abbrev inspect8 : Bool
inspect8 =
    inspect_refused (changed 5 3 empty) 8 (3 ∷ []) && inspect_refused (changed 5 255 empty) 8 (255 ∷ [])
    && inspects (changed 5 1 empty) 3 1 1 8000 0 && inspects (changed 5 2 empty) 3 2 1 8000 0
    && inspect_refused (changed 5 3 (changed 6 3 empty)) 8 (3 ∷ [])

abbrev inspect1 : Bool
inspect1 =
    inspect_refused (changed 6 0 empty) 1 (0 ∷ []) && inspect_refused (changed 6 3 empty) 1 (3 ∷ [])
    && inspect_refused (changed 6 255 empty) 1 (255 ∷ []) && inspects (changed 6 2 empty) 3 0 2 8000 0
    && inspect_refused (changed 6 3 (changed 7 1 empty)) 1 (3 ∷ [])

abbrev no_rate : List ℕ
no_rate = changed 8 0 (changed 9 0 empty)

abbrev inspect9 : Bool
inspect9 =
    inspect_refused (changed 7 1 empty) 9 (1 ∷ []) && inspect_refused (changed 7 255 empty) 9 (255 ∷ [])
    && inspect_refused (changed 7 1 no_rate) 9 (1 ∷ [])

-- any of the rate's four bytes will do
abbrev inspect2 : Bool
inspect2 =
    inspect_refused no_rate 2 []
    && inspects (changed 8 1 no_rate) 3 0 1 1 0 && inspects (changed 9 1 no_rate) 3 0 1 256 0
    && inspects (changed 10 1 no_rate) 3 0 1 65536 0 && inspects (changed 11 1 no_rate) 3 0 1 16777216 0
    && inspect_refused (no_rate ++ (0 ∷ [])) 2 []

-- the expected length by version, variant and channels, at one frame and one sample more, and by each byte of the sample count
abbrev expects : ℕ → ℕ → ℕ → ℕ → ℕ → Bool
expects version variant channels samples size =
    inspect_refused (changed 5 variant (changed 6 channels (headed version samples))) 10 (size ∷ 16 ∷ [])

abbrev inspect10 : Bool
inspect10 =
    let silence = zeros 33 in
    inspect_refused (headed 3 1 ++ silence) 10 (50 ∷ 49 ∷ []) && inspect_refused (headed 3 1 ++ (0 ∷ 0 ∷ silence)) 10 (50 ∷ 51 ∷ [])
    && inspects (headed 3 1 ++ (0 ∷ silence)) 3 0 1 8000 1
    && expects 1 0 1 64 49 && expects 1 1 1 64 41 && expects 1 2 1 64 41 && expects 1 0 2 65 148
    && expects 2 0 1 64 49 && expects 2 1 1 64 41 && expects 2 2 1 64 41 && expects 2 1 2 65 116
    && expects 3 0 1 63 50 && expects 3 1 1 63 42 && expects 3 2 1 63 42 && expects 3 2 2 64 120
    && inspect_refused (changed 13 1 empty) 10 (186 ∷ 16 ∷ []) && inspect_refused (changed 14 1 empty) 10 (35410 ∷ 16 ∷ [])
    && inspect_refused (changed 15 1 empty) 10 (9054420 ∷ 16 ∷ [])
    && inspect_refused (headed 3 1 ++ (0 ∷ 89 ∷ silence)) 10 (50 ∷ 51 ∷ [])

-- an index of 88 passes and 89 does not; versions 1 and 2 have none. The fragments come in file order: 12 in the first counts
-- before 11 in the second
abbrev inspect11 : Bool
inspect11 =
    let codes = zeros 32 in
    inspect_refused (headed 3 1 ++ (8 ∷ 89 ∷ codes)) 11 (89 ∷ []) && inspect_refused (headed 3 1 ++ (8 ∷ 255 ∷ codes)) 11 (255 ∷ [])
    && inspects (headed 3 1 ++ (8 ∷ 88 ∷ codes)) 3 0 1 8000 1
    && inspects (headed 2 64 ++ (8 ∷ 89 ∷ zeros 31)) 2 0 1 8000 64
    && inspect_refused (headed 3 64 ++ (8 ∷ 0 ∷ codes) ++ (8 ∷ 89 ∷ codes)) 11 (89 ∷ [])
    && inspect_refused (headed 3 64 ++ (8 ∷ 0 ∷ replicate 32 255) ++ (8 ∷ 89 ∷ codes)) 12 []
    && inspect_refused (headed 3 1 ++ (8 ∷ 89 ∷ 0x17 ∷ zeros 31)) 11 (89 ∷ [])

-- unused bits: all but the codes of the frame's own samples, in each channel's fragment
abbrev inspect12 : Bool
inspect12 =
    let one : List ℕ = 8 ∷ 88 ∷ 15 ∷ zeros 31 in
    let more : List ℕ = 8 ∷ 88 ∷ 16 ∷ zeros 31 in
    let lastByte : ℕ → List ℕ = λ b. 8 ∷ 88 ∷ (replicate 31 255 ++ (b ∷ [])) in
    let lastOfL : ℕ → List ℕ = λ b. 8 ∷ 88 ∷ (replicate 23 255 ++ (b ∷ [])) in
    inspect_refused (headed 3 1 ++ more) 12 [] && inspects (headed 3 1 ++ one) 3 0 1 8000 1
    && inspect_refused (headed 3 1 ++ lastByte 0) 12 []
    && inspect_refused (headed 3 63 ++ lastByte 16) 12 [] && inspects (headed 3 63 ++ lastByte 15) 3 0 1 8000 63
    && inspect_refused (changed 5 1 (headed 3 63) ++ lastOfL 32) 12 [] && inspects (changed 5 1 (headed 3 63) ++ lastOfL 31) 3 1 1 8000 63
    && inspect_refused (headed 2 1 ++ (8 ∷ 16 ∷ zeros 31)) 12 [] && inspects (headed 2 64 ++ (8 ∷ replicate 32 255)) 2 0 1 8000 64
    && inspect_refused (headed 3 64 ++ lastByte 15 ++ more) 12 [] && inspects (headed 3 64 ++ lastByte 15 ++ one) 3 0 1 8000 64
    && inspect_refused (stereo 3 1 ++ one ++ more) 12 [] && inspects (stereo 3 1 ++ one ++ one) 3 0 2 8000 1
    && inspect_refused (stereo 3 127 ++ zeros 170 ++ more) 12 [] && inspects (stereo 3 127 ++ zeros 204) 3 0 2 8000 127

-- ---- the whole-stream decoder: what inspection refuses (decode_refuses in proofs/Claims.antt), then 13

abbrev decode13 : Bool
decode13 =
    let silence = zeros 34 in
    let mono = headed 3 1 ++ silence in
    let both = stereo 3 1 ++ silence ++ silence in
    let exactly : ℕ → Sound → Bool = λ n (s : Sound). eqb (length s.samples) n in
    refuses 13 (1 ∷ []) (decode_call mono 0) && gives (exactly 1) (decode_call mono 1)
    && refuses 13 (2 ∷ []) (decode_call both 1) && gives (exactly 2) (decode_call both 2)
    && gives (exactly 0) (decode_call empty 0)
    && refuses 12 [] (decode_call (headed 3 1 ++ replicate 34 16) 0)

-- ---- the fragment decoder

-- a fragment of zeros of that size, for so many samples
abbrev playing : ℕ → Variant → ℕ → ℕ → Outcome DecodedFragment
playing version variant size n = fragment_call version variant zero_state (zeros size) n

abbrev fragment7 : Bool
fragment7 =
    refuses 7 (0 ∷ []) (playing 0 H 33 1) && refuses 7 (4 ∷ []) (playing 4 H 34 1) && refuses 7 (255 ∷ []) (playing 255 H 34 1)
    && accepts (playing 1 H 33 1) && accepts (playing 2 H 33 1) && accepts (playing 3 H 34 1)
    && refuses 7 (4 ∷ []) (fragment_call 4 H (record { predictor = pos 32768; index = 89 }) [] 100)

-- one byte less, one more, one sample more; the exact size, with the most samples and with none
abbrev fits : ℕ → Variant → ℕ → ℕ → Bool
fits version variant size n =
    refuses 14 [] (playing version variant (size - 1) 1) && refuses 14 [] (playing version variant (suc size) 1)
    && refuses 14 [] (playing version variant size (suc n))
    && accepts (playing version variant size n) && accepts (playing version variant size 0)

abbrev fragment14 : Bool
fragment14 =
    fits 1 H 33 64 && fits 1 L 25 64 && fits 1 LPlus 25 64 && fits 2 H 33 64 && fits 2 L 25 64 && fits 2 LPlus 25 64
    && fits 3 H 34 63 && fits 3 L 26 63 && fits 3 LPlus 26 63
    && refuses 14 [] (fragment_call 2 H (record { predictor = pos 32768; index = 89 }) [] 1)

-- versions 1 and 2 alone, and the state at each of its limits
abbrev from : ℕ → ℤ → ℕ → Outcome DecodedFragment
from version predictor index =
    fragment_call version L (record { predictor = predictor; index = index }) (zeros (fragment_size version L)) 1

abbrev fragment15 : Bool
fragment15 =
    refuses 15 [] (from 1 (pos 32768) 0) && refuses 15 [] (from 2 (pos 32768) 0) && accepts (from 1 (pos 32767) 0)
    && refuses 15 [] (from 1 (negsuc 32768) 0) && refuses 15 [] (from 2 (negsuc 32768) 0) && accepts (from 2 (negsuc 32767) 0)
    && refuses 15 [] (from 1 (pos 0) 89) && refuses 15 [] (from 2 (pos 0) 89) && accepts (from 1 (pos 0) 88)
    && refuses 15 [] (from 2 (pos 2147483647) 0) && refuses 15 [] (from 2 (negsuc 2147483647) 18446744073709551615)
    && accepts (from 3 (pos 32768) 0) && accepts (from 3 (negsuc 32768) 89)

abbrev pub pinned : Bool
pinned =
    encode1 && encode2 && encode3 && encode4 && encode13
    && inspect5 && inspect6 && inspect7 && inspect8 && inspect1 && inspect9 && inspect2 && inspect10 && inspect11 && inspect12
    && decode13 && fragment7 && fragment14 && fragment15
