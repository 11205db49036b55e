-- What is proved of the definitions: each claim under the sentence of 01 that it renders. RoundTrip.antt has that a written file is
-- read back. Assumes nothing.
use mathlib.Core.Path.{◌≡◌, refl, sym}
use mathlib.Core.List.{List, []}
use Prim.Native.Nat.{ℕ, ◌+◌, ◌*◌, ◌≤◌}
use native.Mathlib.Omega.{arith}
use lib.Dec.{T}
use lib.IntN.{ℤ}
use lib.ListN.{length}
use borrow.Author.Tests.{le-ltb}
use Rattle.outcome.specs.Outcome.{result, refused}
use Rattle.outcome.proofs.Laws.{clear, pass}
use Rattle.outcome.proofs.Tests.{accepts_means, refuses_means}
use Rattle.wav_format.specs.Wave.{frame_bytes}
use Rattle.wav_format.proofs.Steps.{is_one_or_two}
use Rattle.wav_writer.specs.Writer.{wave_bytes, write_call}
use Rattle.wav_writer.specs.Cases.{checked, passes, refused_as, pinned}
use Rattle.wav_writer.proofs as proofs

-- the table's lines 34 to 37 and 13, with "It checks 34, 35, 36, 37, then 13": each number at its bound and in its place
pub refusals_pinned : T pinned
refusals_pinned = proofs.Checks.pinned_hold

-- what a passed test of them tells
pub acceptance_tested : (channels rate count room : ℕ) → T (passes channels rate count room) → (a : ℕ) × (checked channels rate count room ≡ result a)
acceptance_tested channels rate count room = accepts_means _

pub refusal_tested : (n channels rate count room : ℕ) → T (refused_as n channels rate count room) → checked channels rate count room ≡ refused n []
refusal_tested n channels rate count room = refuses_means n [] _

-- and nothing else is refused ("it accepts rate 0 and a partial frame"): where no cause of the table holds the whole file is written
pub write_accepts : (channels rate : ℕ) (samples : List ℤ) (room : ℕ) → 1 ≤ channels → channels ≤ 2 → 2 * length samples + 36 ≤ 4294967295
    → rate * frame_bytes channels ≤ 4294967295 → 44 + 2 * length samples ≤ room
    → write_call channels rate samples room ≡ result (wave_bytes channels rate samples)
unfolding write_call
write_accepts channels rate samples room one two few slow enough =
    let data-few : 2 * length samples ≤ 4294967295 = omega arith in
    sym (pass _ _ _ _ _ (is_one_or_two channels one two)
    (clear _ _ _ _ _ (le-ltb _ _ data-few)
    (clear _ _ _ _ _ (le-ltb _ _ few)
    (clear _ _ _ _ _ (le-ltb _ _ slow)
    (clear _ _ _ _ _ (le-ltb _ _ enough) refl)))))
