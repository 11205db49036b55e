-- The claims at work, from their statements: what can be written is written and read back. Assumes nothing.
use mathlib.Core.Path.{◌≡◌}
use mathlib.Core.List.{List}
use Prim.Native.Nat.{ℕ, ◌+◌, ◌*◌, ◌%◌, ◌≤◌, ◌<◌}
use native.Mathlib.Nat.{le_refl}
use lib.IntN.{ℤ, pos}
use lib.Signed.{mag}
use lib.ListN.{length, get_or}
use Rattle.outcome.specs.Outcome.{result}
use Rattle.wav_format.specs.Wave.{frame_bytes, read_wave, read_strict, part_of}
use Rattle.wav_format.specs.Samples.{samples_of}
use Rattle.wav_writer.specs.Writer.{wave_bytes, write_call}
use Rattle.wav_writer.proofs.RoundTrip.{wave_read, strict-written, samples-read}
use Rattle.wav_writer.proofs.Claims as claims

-- a sound of whole frames that the table does not refuse, at a rate other than 0: its file is written into just the room that it needs,
-- strict reading accepts it, and its sample bytes are the samples
pub written_and_read : (channels rate : ℕ) (samples : List ℤ) → 1 ≤ channels → channels ≤ 2 → 0 < rate → length samples % channels ≡ 0
    → 2 * length samples + 36 ≤ 4294967295 → rate * frame_bytes channels ≤ 4294967295
    → ((i : ℕ) → i < length samples → mag (get_or samples i (pos 0)) ≤ 32767)
    → (bytes : List ℕ) × (write_call channels rate samples (44 + 2 * length samples) ≡ result bytes)
    × (read_strict bytes ≡ result (wave_read channels rate (2 * length samples))) × (samples_of (part_of bytes (read_wave bytes)) ≡ samples)
written_and_read channels rate samples one two some whole few slow small =
    let room = 44 + 2 * length samples in
    let w = claims.write_accepts channels rate samples room one two few slow (le_refl room) in
    (wave_bytes channels rate samples, w, strict-written channels rate samples room w some whole, samples-read channels rate samples room w some whole small)
