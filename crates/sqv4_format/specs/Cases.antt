-- The worked cases 1 to 9 of 01, and what they leave open: each a test that computes. Assumes nothing.
use Rattle.std.specs.Prelude.{ℕ, zero, suc, ◌+◌, ◌*◌, ◌%◌, Bool, ◌&&◌, not, List, [], ◌∷◌, ◌++◌, eqb, ℤ, pos, negsuc, neg_ℤ, nat_abs, ◌+ℤ◌, length, take, drop, replicate}
use Rattle.outcome.specs.Tests.{gives}
use Rattle.lists.specs.Lists.{tabulate}
use Rattle.lists.specs.Tests.{eq_z, same_bytes, same_samples}
use Rattle.sqv4_format.specs.Step.{stepped}
use Rattle.sqv4_format.specs.Gain.{pregained, volume_of, normalised, output_gain}
use Rattle.sqv4_format.specs.Decode.{zero_state, Called, fragment_call, moves, called}
use Rattle.sqv4_format.specs.Encode.{encode_call}
use Rattle.sqv4_format.specs.Inspect.{Sound, decode_call}
use Rattle.sqv4_format.specs.Tests.{is_state, ample, settings, encodes, inspects, decodes, plays}
use Rattle.sqv4_format.specs.declared.Variant.{Variant}
use Rattle.sqv4_format.specs.declared.Variant.TheVariants.{H, L, LPlus}
use Rattle.sqv4_format.specs.declared.State.{State}

-- n samples of a ramp that is not silent
unfoldable pub ramp : ℕ → List ℤ
ramp n = tabulate (λ i. pos (i * 977 % 3000)) n

abbrev pub zeros : ℕ → List ℕ
zeros n = replicate n 0

-- so many bytes of stream that begin with this header
abbrev stream : ℕ → List ℕ → List ℕ → Bool
stream size header bytes = eqb (length bytes) size && same_bytes (take 16 bytes) header

-- 1. Empty PCM: 16 bytes. Stereo H, 64 a channel: 152. L mono, 63: 42
abbrev case1 : Bool
case1 =
    encodes H 255 1 8000 [] (83 ∷ 81 ∷ 86 ∷ 52 ∷ 3 ∷ 0 ∷ 1 ∷ 0 ∷ 64 ∷ 31 ∷ 0 ∷ 0 ∷ 0 ∷ 0 ∷ 0 ∷ 0 ∷ [])
    && gives (stream 152 (83 ∷ 81 ∷ 86 ∷ 52 ∷ 3 ∷ 0 ∷ 2 ∷ 0 ∷ 68 ∷ 172 ∷ 0 ∷ 0 ∷ 64 ∷ 0 ∷ 0 ∷ 0 ∷ []))
    (encode_call (settings H 255) (ramp 128) 2 44100 ample)
    && gives (stream 42 (83 ∷ 81 ∷ 86 ∷ 52 ∷ 3 ∷ 1 ∷ 1 ∷ 0 ∷ 4 ∷ 3 ∷ 2 ∷ 1 ∷ 63 ∷ 0 ∷ 0 ∷ 0 ∷ []))
    (encode_call (settings L 255) (ramp 63) 1 0x01020304 ample)

-- 2. One sample 0, H: 34 zero bytes
abbrev case2 : Bool
case2 = gives (λ b. same_bytes (drop 16 b) (zeros 34)) (encode_call (settings H 255) (pos 0 ∷ []) 1 8000 ample)

-- 3. Mono 8000, H, sample 1000: hex 08 51 07, then 31 zeros; decodes to 989
abbrev case3 : Bool
case3 =
    gives (λ b. same_bytes (drop 16 b) (0x08 ∷ 0x51 ∷ 0x07 ∷ zeros 31) && decodes b (pos 989 ∷ []))
    (encode_call (settings H 255) (pos 1000 ∷ []) 1 8000 ample)

-- 4. Peak 128: v 1; 129: 2; 32767 and 32768: 255
abbrev case4 : Bool
case4 = eqb (volume_of 128) 1 && eqb (volume_of 129) 2 && eqb (volume_of 32767) 255 && eqb (volume_of 32768) 255

-- 5. 129 at v 2 normalises to 16448, −129 to −16448
abbrev case5 : Bool
case5 = eq_z (normalised 2 (pos 129)) (pos 16448) && eq_z (normalised 2 (neg_ℤ (pos 129))) (neg_ℤ (pos 16448))

-- 6. Predictor 1, v 128: 1 in version 3, 0 in version 2; v 127: 0
abbrev case6 : Bool
case6 = eq_z (output_gain 3 128 (pos 1)) (pos 1) && eq_z (output_gain 2 128 (pos 1)) (pos 0) && eq_z (output_gain 3 127 (pos 1)) (pos 0)

-- 7. From predictor 0: H, index 0, code 7: predictor 11, index 8; code 8: 0, 0
abbrev case7 : Bool
case7 = is_state (stepped 3 H zero_state 7) (pos 11) 8 && is_state (stepped 3 H zero_state 8) (pos 0) 0

-- 8. L, index 0, code 3: 6, index 6. L+ code 0, version 1: 9
abbrev case8 : Bool
case8 = is_state (stepped 3 L zero_state 3) (pos 6) 6 && eq_z (stepped 1 LPlus zero_state 0).predictor (pos 9)

-- 9. Pre-gain 128 of −1000: −501
abbrev case9 : Bool
case9 = eq_z (pregained 128 (neg_ℤ (pos 1000))) (neg_ℤ (pos 501))

abbrev pub cases : Bool
cases = case1 && case2 && case3 && case4 && case5 && case6 && case7 && case8 && case9

-- ---- what the cases leave open

-- a stream's header: H, one channel, 8000 samples a second
abbrev pub headed : ℕ → ℕ → List ℕ
headed version samples = 83 ∷ 81 ∷ 86 ∷ 52 ∷ version ∷ 0 ∷ 1 ∷ 0 ∷ 64 ∷ 31 ∷ 0 ∷ 0 ∷ samples ∷ 0 ∷ 0 ∷ 0 ∷ []

-- the same bytes but for one
abbrev pub changed : ℕ → ℕ → List ℕ → List ℕ
changed at byte d = take at d ++ (byte ∷ drop (suc at) d)

-- the same header with two channels
abbrev pub stereo : ℕ → ℕ → List ℕ
stereo version samples = changed 6 2 (headed version samples)

-- (i + 1) × f i, summed over i below n
unfoldable pub weighted : (ℕ → ℕ) → ℕ → ℕ
weighted f zero = 0
weighted f (suc n) = weighted f n + suc n * f n

-- the tables, by sums over answers of the Rust: H code 4 at each index from −32768, and each code at index 40 from 0
abbrev raised : ℤ → ℕ
raised z = nat_abs (z +ℤ pos 32768)

abbrev step_from : ℕ → ℕ
step_from index = raised (stepped 3 H (record { predictor = negsuc 32767; index = index }) 4).predictor

abbrev at40 : ℕ → Variant → ℕ → State
at40 version variant code = stepped version variant (record { predictor = pos 0; index = 40 }) code

abbrev predictors : ℕ → Variant → ℕ → ℕ
predictors version variant n = weighted (λ code. raised (at40 version variant code).predictor) n

abbrev indexes : Variant → ℕ → ℕ
indexes variant n = weighted (λ code. (at40 3 variant code).index) n

abbrev tables : Bool
tables =
    eqb (weighted step_from 89) 32036908
    && eqb (predictors 3 H 16) 4434912 && eqb (predictors 3 L 8) 1176952
    && eqb (predictors 1 LPlus 8) 1171728 && eqb (predictors 2 LPlus 8) 1176280 && eqb (predictors 3 LPlus 8) 1176280
    && eqb (indexes H 16) 5828 && eqb (indexes L 8) 1562 && eqb (indexes LPlus 8) 1562

-- slips seen in other players: L+ levels of version 1 in version 2; a later index winning a tie (starts 71 to 88 reach the same
-- sum). Besides, with the Rust's answers: a start of 88; sums on normalised values, or of distances and not of their squares; a threshold
-- that just fits, a half of a step that is just what is left, another part of a step than a quarter; bit 8 where input is the predictor;
-- the higher of two codes that are equally near; the last code left out; the nearest before the clamp
abbrev opens : Variant → List ℤ → List ℕ → Bool
opens variant samples front =
    gives (λ b. same_bytes (take 3 (drop 16 b)) front) (encode_call (settings variant 255) samples 1 8000 ample)

abbrev slips : Bool
slips =
    eq_z (stepped 2 LPlus zero_state 0).predictor (pos 1)
    && opens H (pos 49 ∷ []) (1 ∷ 71 ∷ 7 ∷ []) && opens H (pos 79 ∷ []) (1 ∷ 88 ∷ 2 ∷ []) && opens H (pos 1 ∷ []) (1 ∷ 24 ∷ 7 ∷ [])
    && opens H (neg_ℤ (pos 2035) ∷ pos 1058 ∷ []) (16 ∷ 86 ∷ 0x5c ∷ [])
    && opens H (pos 3174 ∷ []) (25 ∷ 82 ∷ 7 ∷ []) && opens H (pos 741 ∷ neg_ℤ (pos 1652) ∷ []) (13 ∷ 88 ∷ 225 ∷ [])
    && opens H (neg_ℤ (pos 2748) ∷ neg_ℤ (pos 474) ∷ []) (22 ∷ 83 ∷ 0x3e ∷ [])
    && opens H (pos 0 ∷ pos 1 ∷ []) (1 ∷ 24 ∷ 0x70 ∷ []) && opens L (pos 0 ∷ pos 1 ∷ []) (1 ∷ 31 ∷ 0x18 ∷ [])
    && opens L (negsuc 0 ∷ []) (1 ∷ 32 ∷ 7 ∷ [])
    && opens LPlus (pos 89 ∷ pos 0 ∷ []) (1 ∷ 75 ∷ 0x33 ∷ [])

-- the clamps of predictor and index at their ends; peaks whose volume another divisor would round otherwise; both output gains at 255
abbrev limits : Bool
limits =
    is_state (stepped 3 H (record { predictor = negsuc 32767; index = 88 }) 15) (negsuc 32767) 88
    && is_state (stepped 3 H (record { predictor = pos 32767; index = 88 }) 7) (pos 32767) 88 && is_state (stepped 3 L zero_state 0) (pos 1) 0
    && eqb (volume_of 257) 3 && eqb (volume_of 11179) 87
    && eq_z (output_gain 2 255 (pos 256)) (pos 256) && eq_z (output_gain 3 255 (pos 256)) (pos 256)

-- two channels of three samples, interleaved, with a state and a volume for each; the samples are the Rust's
abbrev interleaved : Bool
interleaved =
    decodes (stereo 2 3 ++ (255 ∷ 0x71 ∷ 2 ∷ zeros 30) ++ (128 ∷ 0x6f ∷ 5 ∷ zeros 30)) (pos 1 ∷ neg_ℤ (pos 5) ∷ pos 12 ∷ pos 7 ∷ pos 22 ∷ pos 26 ∷ [])
    && decodes (stereo 3 3 ++ (255 ∷ 40 ∷ 0x71 ∷ 2 ∷ zeros 30) ++ (128 ∷ 50 ∷ 0x6f ∷ 5 ∷ zeros 30)) (pos 126 ∷ neg_ℤ (pos 824) ∷ pos 700 ∷ pos 707 ∷ pos 1111 ∷ pos 3003 ∷ [])

-- several frames of two channels: fragments stand frame by frame, left before right
abbrev places : Bool
places =
    gives (λ (s : Sound). same_samples (drop 126 s.samples) (pos 126 ∷ neg_ℤ (pos 824) ∷ []))
    (decode_call (stereo 3 64 ++ zeros 68 ++ (255 ∷ 40 ∷ 1 ∷ zeros 31) ++ (128 ∷ 50 ∷ 15 ∷ zeros 31)) ample)
    && gives (λ b. same_bytes (drop 84 b) (8 ∷ 0x51 ∷ 7 ∷ zeros 65))
    (encode_call (settings H 255) (replicate 126 (pos 0) ++ (pos 1000 ∷ pos 0 ∷ [])) 2 8000 ample)

-- a call that is refused changes neither output nor state; one that is not fills the front; an index byte above 88 counts as 88. Only
-- results of versions 1, 2 move the state
abbrev untouched : Called → Bool
untouched r = same_samples r.output (pos 1 ∷ pos 2 ∷ []) && is_state r.state (pos 5) 3

abbrev same : Called → Called → Bool
same r s = same_samples r.output s.output && is_state r.state s.state.predictor s.state.index

abbrev calls : Bool
calls =
    let state : State = record { predictor = pos 5; index = 3 } in
    let out = pos 1 ∷ pos 2 ∷ [] in
    untouched (called 9 H state (zeros 34) out) && untouched (called 2 H state (zeros 34) out)
    && same_samples (called 2 H state (255 ∷ 7 ∷ zeros 31) out).output (pos 23 ∷ pos 25 ∷ [])
    && same (called 3 H state (255 ∷ 200 ∷ 7 ∷ zeros 31) out) (called 3 H state (255 ∷ 88 ∷ 7 ∷ zeros 31) out)
    && moves 1 (fragment_call 1 H state (zeros 33) 2) && moves 2 (fragment_call 2 H state (zeros 33) 2)
    && not (moves 3 (fragment_call 3 H state (zeros 34) 2)) && not (moves 2 (fragment_call 2 H state (zeros 34) 2))

-- volume 0 with any codes is accepted, and gives silence; in versions 1, 2 the state moves on, even where v is 0
abbrev silent : Bool
silent =
    let stream3 = headed 3 1 ++ (0 ∷ 88 ∷ 7 ∷ zeros 31) in
    let stream2 = headed 2 1 ++ (0 ∷ 15 ∷ zeros 31) in
    inspects stream3 3 0 1 8000 1 && decodes stream3 (pos 0 ∷ [])
    && inspects stream2 2 0 1 8000 1 && decodes stream2 (pos 0 ∷ [])
    && plays 3 H (pos 0) 0 1 (0 ∷ 88 ∷ 7 ∷ zeros 31) (pos 0) 0 (pos 0 ∷ [])
    && plays 2 H (pos 0) 0 1 (0 ∷ 15 ∷ zeros 31) (neg_ℤ (pos 11)) 8 (pos 0 ∷ [])
    && plays 1 L (pos 0) 0 1 (0 ∷ 3 ∷ zeros 23) (pos 6) 6 (pos 0 ∷ [])

abbrev pub further : Bool
further = tables && slips && limits && interleaved && places && calls && silent
