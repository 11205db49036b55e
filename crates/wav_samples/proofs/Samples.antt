-- The samples of sample bytes. Assumes nothing.
use mathlib.Core.Path.{◌≡◌}
use mathlib.Core.List.{List}
use Prim.Native.Nat.{ℕ, suc, ◌+◌, ◌*◌, ◌/◌, ◌≤◌}
use native.Mathlib.Omega.{arith}
use native.Mathlib.Numerals.{add-one}
use lib.IntN.{ℤ}
use lib.ListN.{length, get_or}
use Rattle.lists.proofs.ByIndex.{length_tabulate}
use Rattle.digits.specs.Digits.{number, field}
use Rattle.digits.proofs.Laws.{number-part}
use Rattle.signed.specs.Signed.{of_twos}
use Rattle.wav_format.specs.Samples.{samples_of}

-- the two bytes of a field
pub two_bytes_at : (s : List ℕ) (at : ℕ) → at + 2 ≤ length s → get_or s at 0 + 256 * get_or s (at + 1) 0 ≡ field 2 at s
unfolding number
two_bytes_at s at h =
    rw add-one (omega (arith, number-part 8 1 s at (omega arith), number-part 8 0 s (suc at) (omega arith)))

-- sample i
abbrev pub sample_at : List ℕ → ℕ → ℤ
sample_at s i = of_twos (field 2 (2 * i) s)

pub length_samples : (s : List ℕ) → length (samples_of s) ≡ length s / 2
unfolding samples_of
length_samples s = length_tabulate (sample_at s) (length s / 2)
