-- The claims at work: what follows from their statements taken together, and instances at their limits. Every proof here cites
-- Claims.antt and not the proofs behind it, so that a claim made weaker is refused here. Assumes nothing.
use mathlib.Core.Path.{◌≡◌, refl, sym, ◌∙◌, ap}
use mathlib.Core.List.{List, [], ◌∷◌, map}
use Prim.Native.Nat.{ℕ, zero, suc, ◌+◌, ◌*◌, ◌/◌, ◌^◌, ◌≤◌, ◌<◌}
use native.Mathlib.Omega.{arith}
use native.Mathlib.Nat.{div-one, le_refl}
use lib.IntN.{ℤ, pos, negsuc, nat_abs, ◌-ℤ◌, ◌*ℤ◌}
use lib.Signed.{mag, quot_z}
use lib.ListN.{length, get_or}
use Rattle.outcome.specs.Outcome.{result, Refuses}
use Rattle.outcome.proofs.Laws.{behind_refusals}
use Rattle.signed.specs.Signed.{on_magnitude, with_sign, is_neg}
use Rattle.sqv4_format.specs.Layout.{encoder_version, whole_frame, frames, count, stream_length, fragment_at}
use Rattle.sqv4_format.specs.Gain.{nearest, pregained, own_volume, normalised, output_gain}
use Rattle.sqv4_format.specs.Decode.{zero_state, channel_sample, decoded, fragment_call}
use Rattle.sqv4_format.specs.Encode.{channel, header_written, encoded, encode_call}
use Rattle.sqv4_format.specs.Inspect.{Sound, inspected, decode_call}
use Rattle.sqv4_format.specs.Calls.{Separate}
use Rattle.sqv4_format.proofs.Agreement.{sample_ext}
use Rattle.sqv4_format.proofs.Encoder.{length-channel}
use Rattle.sqv4_format.proofs.Instance as here
use Rattle.sqv4_format.proofs.Claims as claims
use Rattle.sqv4_format.specs.declared.Variant.{Variant}
use Rattle.sqv4_format.specs.declared.Header.{Header}
use Rattle.sqv4_format.specs.declared.Settings.{Settings}

-- ---- demand 3, from samples to samples

module _ (k : Settings) (pcm : List ℤ) (channels rate c room : ℕ) (bytes : List ℕ) (r : rate < 2 ^ 32) (hc : c < channels)
    (e : encode_call k pcm channels rate room ≡ result bytes) where
  abbrev mono : List ℤ
  mono = channel pcm channels c

  abbrev h : Header
  h = header_written k pcm channels rate

  abbrev h1 : Header
  h1 = header_written k mono 1 rate

  abbrev alone : List ℕ
  alone = encoded k mono 1 rate

  -- version 3 samples do not depend on the header's channels
  same_sample : (frags : ℕ → List ℕ) (t : ℕ) → channel_sample h frags t ≡ channel_sample h1 frags t
  unfolding channel_sample count header_written
  same_sample frags t =
      cc (claims.state_anew h frags (t / whole_frame h) refl, claims.state_anew h1 frags (t / whole_frame h1) refl, div-one (length mono), length-channel pcm channels c)

  -- a channel is heard as its mono encoding is: both streams decode where there is room for their samples, and sample t of channel c
  -- of the one is sample t of the other
  pub heard_alone : (x : Sound) × (y : Sound) × (decode_call bytes (length pcm / channels * channels) ≡ result x)
      × (decode_call alone (length pcm / channels) ≡ result y)
      × ((t : ℕ) → t < length pcm / channels → get_or x.samples (t * channels + c) (pos 0) ≡ get_or y.samples t (pos 0))
  unfolding header_written
  heard_alone =
      let i = claims.encoding-accepted k pcm channels rate room bytes r e in
      let a = claims.alone_accepted k pcm channels rate c room (stream_length h1) bytes e (omega arith) in
      let j = claims.encoding-accepted k mono 1 rate (stream_length h1) alone r a in
      let n : length mono / 1 * 1 ≤ length pcm / channels = omega (arith, div-one (length mono), length-channel pcm channels c) in
      let gx = claims.decode_accepts bytes h (length pcm / channels * channels) i (omega arith) in
      let gy = claims.decode_accepts alone h1 (length pcm / channels) j n in
      let x = claims.agreement bytes bytes h i i _ _ _ _ gx gx c hc (λ f l. refl) in
      let y = claims.agreement alone alone h1 j j _ _ _ _ gy gy 0 (omega arith) (λ f l. refl) in (
        _,
        _,
        gx,
        gy,
        λ t l.
            x.first t l ∙ sample_ext h (fragment_at h bytes c) (fragment_at h1 alone 0) (claims.encoding_alone k pcm channels rate c room _ bytes alone hc e a) t l
            ∙ same_sample (fragment_at h1 alone 0) t
            ∙ sym (y.first t (omega (arith, div-one (length mono), length-channel pcm channels c)))
            ∙ ap (λ p. get_or (decoded h1 alone) p (pos 0)) (omega arith),
      )

-- two encodings of which one has in its channel c the samples that the other has in its channel c': each has the other's fragments
-- there, also where left and right are exchanged
pub own_anywhere : (k : Settings) (pcm pcm' : List ℤ) (channels channels' rate c c' room room' : ℕ) (bytes bytes' : List ℕ) → c < channels → c' < channels'
    → encode_call k pcm channels rate room ≡ result bytes → encode_call k pcm' channels' rate room' ≡ result bytes'
    → channel pcm channels c ≡ channel pcm' channels' c' → (f : ℕ) → f < frames (header_written k pcm channels rate)
    → fragment_at (header_written k pcm channels rate) bytes c f ≡ fragment_at (header_written k pcm' channels' rate) bytes' c' f
own_anywhere k pcm pcm' channels channels' rate c c' room room' bytes bytes' hc hc' e e' same f l =
    let mine = claims.encoding_own k pcm channels rate c room bytes hc e in
    let other = claims.encoding_own k pcm' channels' rate c' room' bytes' hc' e' in
    let there : f < frames (header_written k (channel pcm' channels' c') 1 rate) = rw same at (rw mine.same_frames at l) in
    mine.fragments f l ∙ rw same (sym (other.fragments f (rw (← other.same_frames) at there)))

-- two encodings with the same samples in channel c are heard there alike, whatever the other channel has, and as the definition says
pub heard_blind : (k : Settings) (pcm pcm' : List ℤ) (channels rate c room room' : ℕ) (bytes bytes' : List ℕ) → rate < 2 ^ 32 → c < channels
    → encode_call k pcm channels rate room ≡ result bytes → encode_call k pcm' channels rate room' ≡ result bytes'
    → channel pcm channels c ≡ channel pcm' channels c
    → (n m : ℕ) (x y : Sound) → decode_call bytes n ≡ result x → decode_call bytes' m ≡ result y
    → (length x.samples ≡ length y.samples)
    × ((t : ℕ) → t < length pcm / channels
    → (get_or x.samples (t * channels + c) (pos 0) ≡ get_or y.samples (t * channels + c) (pos 0))
    × (get_or y.samples (t * channels + c) (pos 0) ≡ channel_sample (header_written k pcm channels rate) (fragment_at (header_written k pcm channels rate) bytes' c) t))
unfolding header_written
heard_blind k pcm pcm' channels rate c room room' bytes bytes' r hc e e' same n m x y gx gy =
    let long : length pcm' / channels ≡ length pcm / channels = sym (length-channel pcm' channels c) ∙ ap length (sym same) ∙ length-channel pcm channels c in
    let i = claims.encoding-accepted k pcm channels rate room bytes r e in
    let j = rw long at (claims.encoding-accepted k pcm' channels rate room' bytes' r e') in
    let alike : (f : ℕ) → f < frames (header_written k pcm channels rate)
    → fragment_at (header_written k pcm channels rate) bytes c f ≡ fragment_at (header_written k pcm channels rate) bytes' c f =
    λ f l. rw long at (claims.encoder_blind k pcm pcm' channels rate c room room' bytes bytes' hc e e' same f l) in
    let a = claims.agreement bytes bytes' (header_written k pcm channels rate) i j n m x y gx gy c hc alike in
    (a.length_first ∙ sym a.length_second, λ t l. (a.each_other t l, a.second t l))

-- the claims about lists are not empty: a version 2 stereo stream and five calls, two of them refused, meet the premises of separation,
-- and a version 3 stereo stream and five calls, the last frame first and one of them refused, those of any_order
pub separation_instance : Separate here.header here.stream here.calls
separation_instance = claims.separation here.stream here.header here.accepted_here here.calls here.listed_here

pub any_order_instance : Separate here.header3 here.stream3 here.calls3
any_order_instance = claims.any_order here.stream3 here.header3 here.accepted3_here here.anew3_here here.calls3 here.in_stream_here

-- from a state at its limits
pub refused_at_the_limit : (version : ℕ) (variant : Variant) (fragment : List ℕ) (n : ℕ)
    → Refuses (fragment_call version variant (record { predictor = negsuc 32767; index = 88 }) fragment n) → Refuses (fragment_call version variant zero_state fragment n)
refused_at_the_limit version variant fragment n =
    claims.refused_anyway version variant (record { predictor = negsuc 32767; index = 88 }) zero_state fragment n (record { predictor = omega arith; index = omega arith })

-- ---- calls

-- the most samples of a channel, the highest rate, and no byte of room too many
pub encode_at_the_limit : (k : Settings) (pcm : List ℤ) → length pcm ≡ 8589934590
    → encode_call k pcm 2 4294967295 (stream_length (header_written k pcm 2 4294967295)) ≡ result (encoded k pcm 2 4294967295)
encode_at_the_limit k pcm n =
    claims.encode_accepts k pcm 2 4294967295 _ (omega arith) (omega arith) (omega arith) (rw n refl) (omega (arith, n)) (le_refl _)

-- what the decoder decodes, inspection accepts: it decodes nothing that inspection refuses
pub decoded_is_inspected : (d : List ℕ) (room : ℕ) (x : Sound) → decode_call d room ≡ result x → (h : Header) × (inspected d ≡ result h)
decoded_is_inspected d room x = behind_refusals (inspected d) (claims.decode_refuses d room)

-- ---- rounding and gain

-- to nearest: off by half a unit at most, and a half goes up
pub within_half : (a b : ℕ) → 0 < b → (2 * a < 2 * (nearest a b * b) + b) × (2 * (nearest a b * b) ≤ 2 * a + b)
within_half a b p = let n = claims.nearest_means a b p in (n.below, n.above)

pub half_up : nearest 7 2 ≡ 4
half_up = sym (claims.nearest_alone 4 7 2 (omega arith) (record { above = omega arith; below = omega arith }))

pub cut_down : (a b : ℕ) → 0 < b → (a / b * b ≤ a) × (a < a / b * b + b)
cut_down a b p = let c = claims.cut_means a b p in (c.above, c.below)

pub cut_below_zero : quot_z (negsuc 6 *ℤ pos 1) (pos 2) ≡ negsuc 2
unfolding on_magnitude with_sign is_neg
cut_below_zero = claims.cut_signed (negsuc 6) 1 2

-- a sample other than 0 is heard
pub volume_of_sound : (xs : List ℤ) (i : ℕ) → i < length xs → (get_or xs i (pos 0) ≡ pos 0 → ⊥) → own_volume xs ≡ 0 → ⊥
volume_of_sound xs i l some v = some (claims.volume_silence xs i l v)

-- the gain stage at the highest gain and both limits of a sample
abbrev limits : List ℤ
limits = negsuc 32767 ∷ pos 32767 ∷ pos 1 ∷ []

pub gain_at_the_limits : (i : ℕ) → i < 3
    → nat_abs
    (output_gain encoder_version (own_volume (map (pregained 255) limits)) (normalised (own_volume (map (pregained 255) limits)) (pregained 255 (get_or limits i (pos 0))))
    -ℤ pregained 255 (get_or limits i (pos 0)))
    ≤ 1
gain_at_the_limits i l = claims.gain_moves 255 limits i (omega arith) fits l
  where
    fits : (j : ℕ) → mag (get_or limits j (pos 0)) ≤ 32767
    fits zero = omega arith
    fits (suc zero) = omega arith
    fits (suc (suc zero)) = omega arith
    fits (suc (suc (suc j))) = omega arith
