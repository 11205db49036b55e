-- What a reader finds at each place of a written file's header. Assumes nothing.
use mathlib.Core.Path.{◌≡◌, refl, ◌∙◌}
use mathlib.Core.Bool.{true, false}
use mathlib.Core.List.{List, ◌++◌}
use Prim.Native.Nat.{ℕ, ◌+◌, ◌*◌, ◌^◌, ◌<◌}
use native.Mathlib.Nat.{mod-eq_of_lt}
use native.Mathlib.Omega.{arith}
use Rattle.digits.specs.Digits.{digits, stored, number, field}
use Rattle.digits.proofs.Laws.{number_digits}
use Rattle.wav_format.specs.Wave.{letters_at, frame_bytes}
use Rattle.wav_writer.specs.Writer.{wave_header}

-- the numbers fit their fields
pub record Fitting (channels rate size : ℕ) : Type 0 where
  pub channels_fit_lem : channels < 2 ^ 8
  pub rate_fits : rate < 2 ^ 32
  pub byte_rate_fits : rate * frame_bytes channels < 2 ^ 32
  pub riff_fits : size + 36 < 2 ^ 32

pub record Fields (s : List ℕ) (channels rate size : ℕ) : Type 0 where
  pub riff : letters_at s 0 82 73 70 70 ≡ true
  pub riff_size : field 4 4 s ≡ size + 36
  pub wave : letters_at s 8 87 65 86 69 ≡ true
  pub fmt : letters_at s 12 102 109 116 32 ≡ true
  pub fmt_size : field 4 16 s ≡ 16
  pub encoding : field 2 20 s ≡ 1
  pub channels_at : field 2 22 s ≡ channels
  pub rate_at : field 4 24 s ≡ rate
  pub byte_rate : field 4 28 s ≡ rate * frame_bytes channels
  pub align : field 2 32 s ≡ frame_bytes channels
  pub bits : field 2 34 s ≡ 16
  pub not_fmt : letters_at s 36 102 109 116 32 ≡ false
  pub data_letters : letters_at s 36 100 97 116 97 ≡ true
  pub data_size : field 4 40 s ≡ size

-- a number that fits its n bytes is read back from them
back : (n x : ℕ) → x < 2 ^ (8 * n) → number 8 (stored n x) ≡ x
back n x h = number_digits 8 n x ∙ mod-eq_of_lt h

pub header-fields : (channels rate size : ℕ) (rest : List ℕ) → Fitting channels rate size → Fields (wave_header channels rate size ++ rest) channels rate size
unfolding wave_header digits letters_at
header-fields channels rate size rest f =
    record {
      riff = refl;
      riff_size = back 4 (size + 36) f.riff_fits;
      wave = refl;
      fmt = refl;
      fmt_size = back 4 16 (omega arith);
      encoding = back 2 1 (omega arith);
      channels_at = back 2 channels (omega (arith, f.channels_fit_lem));
      rate_at = back 4 rate f.rate_fits;
      byte_rate = back 4 (rate * frame_bytes channels) f.byte_rate_fits;
      align = back 2 (frame_bytes channels) (omega (arith, f.channels_fit_lem));
      bits = back 2 16 (omega arith);
      not_fmt = refl;
      data_letters = refl;
      data_size = back 4 size (omega (arith, f.riff_fits));
    }
