-- Two files that the Rust's converter wrote, the previews of a mono and a stereo encoding (H, gain 255): the definition gives their bytes.
-- Assumes nothing.
use mathlib.Core.Path.{◌≡◌, refl}
use mathlib.Core.List.{[], ◌∷◌}
use lib.IntN.{pos, negsuc}
use Rattle.outcome.specs.Outcome.{result, refuse_if, need}
use Rattle.lists.specs.Lists.{tabulate, joined}
use Rattle.digits.specs.Digits.{number, digits}
use Rattle.signed.specs.Signed.{to_twos}
use Rattle.wav_format.specs.Wave.{one_or_two}
use Rattle.wav_writer.specs.Writer.{write_call, wave_bytes, wave_header, sample_bytes}

pub mono_preview : write_call 1 8000 (pos 2798 ∷ pos 255 ∷ negsuc 2056 ∷ pos 29476 ∷ negsuc 31959 ∷ []) 100 ≡ result (82 ∷ 73 ∷ 70 ∷ 70 ∷
    46 ∷ 0 ∷ 0 ∷ 0 ∷ 87 ∷ 65 ∷ 86 ∷ 69 ∷ 102 ∷ 109 ∷ 116 ∷ 32 ∷ 16 ∷ 0 ∷ 0 ∷ 0 ∷ 1 ∷ 0 ∷ 1 ∷ 0 ∷ 64 ∷ 31 ∷ 0 ∷ 0 ∷ 128 ∷ 62 ∷ 0 ∷ 0 ∷ 2 ∷
    0 ∷ 16 ∷ 0 ∷ 100 ∷ 97 ∷ 116 ∷ 97 ∷ 10 ∷ 0 ∷ 0 ∷ 0 ∷ 238 ∷ 10 ∷ 255 ∷ 0 ∷ 247 ∷ 247 ∷ 36 ∷ 115 ∷ 40 ∷ 131 ∷ [])
unfolding write_call wave_bytes wave_header sample_bytes need refuse_if tabulate joined number digits to_twos one_or_two
mono_preview = refl

pub stereo_preview : write_call 2 44100 (pos 2798 ∷ negsuc 2797 ∷ pos 255 ∷ pos 30270 ∷ negsuc 32767 ∷ pos 1601 ∷ []) 100 ≡ result (82 ∷ 73
    ∷ 70 ∷ 70 ∷ 48 ∷ 0 ∷ 0 ∷ 0 ∷ 87 ∷ 65 ∷ 86 ∷ 69 ∷ 102 ∷ 109 ∷ 116 ∷ 32 ∷ 16 ∷ 0 ∷ 0 ∷ 0 ∷ 1 ∷ 0 ∷ 2 ∷ 0 ∷ 68 ∷ 172 ∷ 0 ∷ 0 ∷ 16 ∷ 177 ∷
    2 ∷ 0 ∷ 4 ∷ 0 ∷ 16 ∷ 0 ∷ 100 ∷ 97 ∷ 116 ∷ 97 ∷ 12 ∷ 0 ∷ 0 ∷ 0 ∷ 238 ∷ 10 ∷ 18 ∷ 245 ∷ 255 ∷ 0 ∷ 62 ∷ 118 ∷ 0 ∷ 128 ∷ 65 ∷ 6 ∷ [])
unfolding write_call wave_bytes wave_header sample_bytes need refuse_if tabulate joined number digits to_twos one_or_two
stereo_preview = refl
