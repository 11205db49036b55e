-- Encoding: the choice of codes, a trial from each start, a fragment's bytes, a whole stream. Assumes nothing.
use Rattle.std.specs.Prelude.{◌≡◌, ℕ, zero, suc, ◌+◌, ◌-◌, ◌*◌, ◌/◌, ◌%◌, ◌<◌, Bool, cond, List, [], ◌∷◌, ◌++◌, map, leb, ltb, eqb, ℤ, pos, nat_abs, ◌-ℤ◌, get_or, length, take, drop}
use Rattle.std.specs.Int.Signed.{lt_z}
use Rattle.outcome.specs.Outcome.{Outcome, result, refuse_if, need, ◌⟫◌}
use Rattle.lists.specs.Lists.{tabulate, joined, least}
use Rattle.digits.specs.Digits.{packed}
use Rattle.sqv4_format.specs.Layout.{encoder_version, version_for, channels_fit, bits, payload_bytes, frame_samples, header_bytes, frames, stream_length, fragment_at}
use Rattle.sqv4_format.specs.Step.{step_at, stepped}
use Rattle.sqv4_format.specs.Gain.{pregained, own_volume, normalised, output_gain}
use Rattle.sqv4_format.specs.Decode.{zero_state, fragment_start}
use Rattle.sqv4_format.specs.declared.Variant.{Variant}
use Rattle.sqv4_format.specs.declared.Variant.TheVariants.{H, L, LPlus}
use Rattle.sqv4_format.specs.declared.State.{State}
use Rattle.sqv4_format.specs.declared.Header.{Header}
use Rattle.sqv4_format.specs.declared.Settings.{Settings}

-- ---- the code for one sample

-- what the codes of a sample go toward: the sample at the fragment's full scale
abbrev pub target : Settings → ℕ → ℤ → ℤ
target k volume x = normalised volume x

-- the bit where the threshold fits into the difference's magnitude d, and what is left when it is taken off
abbrev pub fit_bit : ℕ → ℕ → ℕ → ℕ
fit_bit threshold bit d = cond (leb threshold d) bit 0

abbrev pub take_off : ℕ → ℕ → ℕ
take_off threshold d = cond (leb threshold d) (d - threshold) d

-- H: difference magnitude against step, step/2, step/4 in turn; each that fits sets 4, 2, 1 and is taken off.
-- Bit 8 exactly if input is below predictor
unfoldable pub h_code : State → ℤ → ℕ
h_code s input =
    let step = step_at s.index in
    let d = nat_abs (input -ℤ s.predictor) in
    let e = take_off step d in
    let f = take_off (step / 2) e in
    fit_bit step 4 d + fit_bit (step / 2) 2 e + fit_bit (step / 4) 1 f + cond (lt_z input s.predictor) 8 0

-- L, L+: the lowest of eight whose clamped result is nearest
pub record Choice : Type 0 where
  pub code : ℕ
  pub error : ℕ

abbrev pub choice : Variant → State → ℤ → ℕ → Choice
choice variant s input code =
    record { code = code; error = nat_abs (input -ℤ (stepped encoder_version variant s code).predictor) }

unfoldable pub l_code : Variant → State → ℤ → ℕ
l_code variant s input = (least (λ (c : Choice). c.error) (choice variant s input) 7).code

abbrev pub code_for : Variant → State → ℤ → ℕ
code_for H s input = h_code s input
code_for L s input = l_code L s input
code_for LPlus s input = l_code LPlus s input

-- ---- a trial: choose a code per sample, decode it, and sum squared distances to the pre-gained samples

pub record Trial : Type 0 where
  pub start : ℕ
  pub state : State
  pub codes : List ℕ
  pub sum : ℕ

abbrev pub square : ℕ → ℕ
square n = n * n

-- one pre-gained sample x more, at volume v
unfoldable pub trial_step : Settings → ℕ → Trial → ℤ → Trial
trial_step k v t x =
    let code = code_for k.variant t.state (target k v x) in
    let s = stepped encoder_version k.variant t.state code in
    record {
      start = t.start;
      state = s;
      codes = t.codes ++ (code ∷ []);
      sum = t.sum + square (nat_abs (x -ℤ output_gain encoder_version v s.predictor));
    }

-- the trial of the first n samples from a start index, from predictor 0
unfoldable pub trial_to : Settings → ℕ → List ℤ → ℕ → ℕ → Trial
trial_to k v xs index zero = record { start = index; state = fragment_start index; codes = []; sum = 0 }
trial_to k v xs index (suc n) = trial_step k v (trial_to k v xs index n) (get_or xs n (pos 0))

-- of the trials from 0..88 the one with the least sum, the lowest index at equality
unfoldable pub best_trial : Settings → ℕ → List ℤ → Trial
best_trial k v xs = least (λ (t : Trial). t.sum) (λ index. trial_to k v xs index (length xs)) 88

-- silence: index 0 and zero codes
abbrev pub silent_trial : Trial
silent_trial = record { start = 0; state = zero_state; codes = []; sum = 0 }

abbrev pub best_or_silent : Settings → ℕ → List ℤ → Trial
best_or_silent k v xs = let best = best_trial k v xs in cond (eqb v 0) silent_trial best

-- ---- a fragment's bytes: volume, index, codes least bit first, unused bits zero

unfoldable pub fragment_bytes : Variant → ℕ → Trial → List ℕ
fragment_bytes variant v t = v ∷ t.start ∷ packed (bits variant) (payload_bytes variant) t.codes

-- the fragment of 1..63 samples
unfoldable pub encoded_fragment : Settings → List ℤ → List ℕ
encoded_fragment k samples =
    let xs = map (pregained k.gain) samples in
    let v = own_volume xs in
    fragment_bytes k.variant v (best_or_silent k v xs)

-- ---- a whole stream

-- channel c's own samples
unfoldable pub channel : List ℤ → ℕ → ℕ → List ℤ
channel pcm channels c = tabulate (λ t. get_or pcm (t * channels + c) (pos 0)) (length pcm / channels)

-- frame f of a channel's samples
abbrev pub frame_of : List ℤ → ℕ → List ℤ
frame_of xs f = take (frame_samples encoder_version) (drop (f * frame_samples encoder_version) xs)

-- the header that the encoder writes
unfoldable pub header_written : Settings → List ℤ → ℕ → ℕ → Header
header_written k pcm channels rate =
    record { version = version_for channels; variant = k.variant; channels = channels; rate = rate; samples = length pcm / channels }

-- the fragment at place p of the file order: channel p % channels of frame p / channels
unfoldable pub fragment_for : Settings → List ℤ → ℕ → ℕ → List ℕ
fragment_for k pcm channels p = encoded_fragment k (frame_of (channel pcm channels (p % channels)) (p / channels))

unfoldable pub encoded : Settings → List ℤ → ℕ → ℕ → List ℕ
encoded k pcm channels rate =
    let h = header_written k pcm channels rate in
    header_bytes h ++ joined (fragment_for k pcm channels) (frames h * channels)

-- over 4,294,967,295 samples a channel
unfoldable pub too_many : ℕ → Bool
too_many samples = ltb 4294967295 samples

-- the checks of a call, by its numbers: channels, rate, samples in all, bytes needed, and room: 1, 2, 3, 4, then 13
abbrev pub encode_checks : {A : Type 0} → ℕ → ℕ → ℕ → ℕ → ℕ → Outcome A → Outcome A
encode_checks channels rate count needed room rest =
    need (channels_fit (version_for channels) channels) 1 (channels ∷ [])
    ⟫ refuse_if (eqb rate 0) 2 []
    ⟫ need (eqb (count % channels) 0) 3 []
    ⟫ refuse_if (too_many (count / channels)) 4 []
    ⟫ refuse_if (ltb room needed) 13 (needed ∷ [])
    ⟫ rest

-- an encoder call with room for so many bytes
unfoldable pub encode_call : Settings → List ℤ → ℕ → ℕ → ℕ → Outcome (List ℕ)
encode_call k pcm channels rate room =
    encode_checks channels rate (length pcm) (stream_length (header_written k pcm channels rate)) room ⟫ result (encoded k pcm channels rate)

-- ---- what channel separation says of an accepted encoding: channel c has the frames of its own samples, and its fragment of each
-- is the one that these samples alone give

pub record OwnFragments (k : Settings) (pcm : List ℤ) (channels rate c : ℕ) (bytes : List ℕ) : Type 0 where
  pub same_frames : frames (header_written k pcm channels rate) ≡ frames (header_written k (channel pcm channels c) 1 rate)
  pub fragments : (f : ℕ) → f < frames (header_written k pcm channels rate)
      → fragment_at (header_written k pcm channels rate) bytes c f ≡ encoded_fragment k (frame_of (channel pcm channels c) f)
