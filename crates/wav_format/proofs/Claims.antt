-- What is proved of the definitions: each claim under the sentence of 01, or of 02 for strict reading, that it renders. The contracts of
-- the entry points cite the same definitions. Assumes nothing.
use mathlib.Core.Path.{◌≡◌, refl, sym}
use mathlib.Core.Logic.{◌⊎◌, ◌≢◌}
use mathlib.Core.List.{List, []}
use Prim.Native.Nat.{ℕ, ◌+◌, ◌/◌, ◌≤◌}
use lib.Dec.{T}
use lib.ListN.{length}
use borrow.Author.Tests.{le-ltb}
use Rattle.lists.specs.Lists.{SameBut}
use Rattle.outcome.specs.Outcome.{result, refused}
use Rattle.outcome.proofs.Laws.{clear}
use Rattle.outcome.proofs.Tests.{accepts_means, refuses_means}
use Rattle.wav_format.specs.Wave.{check_format, riff_end, read_wave, read_strict, part_of}
use Rattle.wav_format.specs.Extended.{chunk_start, FmtOf18}
use Rattle.wav_format.specs.Samples.{samples_of, samples_call}
use Rattle.wav_format.specs.Cases.{Says, reads, refused_as, format, format_refused, strict, strict_refused, pinned}
use Rattle.wav_format.specs.declared.Wave.{Wave}
use Rattle.wav_format.proofs as proofs

-- the table's lines 20 to 33, 40 to 42, and 13 of the samples, with "20 and 21 come first, walk refusals where met (a chunk: 22, 23,
-- then 24 or 25), then 26..33 in order": each number at its bound and in its place
pub refusals_pinned : T pinned
refusals_pinned = proofs.Checks.pinned_hold

-- what a passed test tells: what the file says, or that very refusal, with no numbers
pub reading_tested : (channels rate start size : ℕ) (s : List ℕ) → T (reads channels rate start size s)
    → (w : Wave) × (read_wave s ≡ result w) × Says channels rate start size w
reading_tested channels rate start size s = proofs.Checks.tells channels rate start size (read_wave s)

pub strict_reading_tested : (channels rate start size : ℕ) (s : List ℕ) → T (strict channels rate start size s)
    → (w : Wave) × (read_strict s ≡ result w) × Says channels rate start size w
strict_reading_tested channels rate start size s = proofs.Checks.tells channels rate start size (read_strict s)

pub refusal_tested : (n : ℕ) (s : List ℕ) → T (refused_as n s) → read_wave s ≡ refused n []
refusal_tested n s = refuses_means n [] _

pub strict_refusal_tested : (n : ℕ) (s : List ℕ) → T (strict_refused n s) → read_strict s ≡ refused n []
strict_refusal_tested n s = refuses_means n [] _

pub format_tested : (encoding channels rate byte_rate align bits : ℕ) → T (format encoding channels rate byte_rate align bits)
    → (frame : ℕ) × (check_format encoding channels rate byte_rate align bits ≡ result frame)
format_tested encoding channels rate byte_rate align bits = accepts_means _

pub format_refusal_tested : (n encoding channels rate byte_rate align bits : ℕ) → T (format_refused n encoding channels rate byte_rate align bits)
    → check_format encoding channels rate byte_rate align bits ≡ refused n []
format_refusal_tested n encoding channels rate byte_rate align bits = refuses_means n [] _

-- "After plain acceptance it refuses 40, 41, 42": what plain reading refuses, strict reading refuses in the same way
pub strict-refuses : (s : List ℕ) (n : ℕ) (vs : List ℕ) → read_wave s ≡ refused n vs → read_strict s ≡ refused n vs
strict-refuses = proofs.Within.strict_refused_lem

-- and for no other reason: with fmt 16 or 18 long, data not before fmt and no bytes after the RIFF end it gives what plain reading gives
pub strict-accepts : (s : List ℕ) (w : Wave) → read_wave s ≡ result w → (w.format.size ≡ 16) ⊎ (w.format.size ≡ 18)
    → w.format.start ≤ w.samples.start → length s ≡ riff_end s → read_strict s ≡ result w
strict-accepts = proofs.Within.strict-accepted

-- what it gives, plain reading gives
pub strict_gives : (s : List ℕ) (w : Wave) → read_strict s ≡ result w → read_wave s ≡ result w
strict_gives = proofs.Within.strict_read

-- "17, 19 and more still give 40": each size but 16 and 18 of a file that plain reading accepts
pub strict_size_refused : (s : List ℕ) (w : Wave) → read_wave s ≡ result w → w.format.size ≢ 16 → w.format.size ≢ 18 → read_strict s ≡ refused 40 []
strict_size_refused = proofs.Within.strict_size_refused

-- "with those two bytes holding anything": s is any file with a fmt chunk of 18 bytes, its chunk k, whose letters and size take 8. A t that
-- differs from s in none but the last two of the 18 has the same strict answer, result or refusal, and shows the same part
pub two_bytes_ignored : (s t : List ℕ) (k : ℕ) → FmtOf18 s k → SameBut (chunk_start s k + 8 + 16) (chunk_start s k + 8 + 18) s t
    → (read_strict t ≡ read_strict s) × (part_of t (read_strict t) ≡ part_of s (read_strict s))
two_bytes_ignored = proofs.Ignored.two_bytes_ignored

-- "output too short", and else nothing: with room for them the samples are read
pub load_accepts : (bytes : List ℕ) (room : ℕ) → length bytes / 2 ≤ room → samples_call bytes room ≡ result (samples_of bytes)
unfolding samples_call
load_accepts bytes room h = sym (clear _ _ _ _ _ (le-ltb _ _ h) refl)
