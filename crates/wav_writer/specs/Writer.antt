-- Writing a WAV file, from 01 and Microsoft's RIFF/WAVE PCM format. Assumes nothing.
use Rattle.std.specs.Prelude.{ℕ, ◌+◌, ◌*◌, List, [], ◌∷◌, ◌++◌, ltb, ℤ, pos, length, get_or}
use Rattle.outcome.specs.Outcome.{Outcome, result, refuse_if, need, ◌⟫◌}
use Rattle.lists.specs.Lists.{joined}
use Rattle.digits.specs.Digits.{stored}
use Rattle.signed.specs.Signed.{to_twos}
use Rattle.wav_format.specs.Wave.{frame_bytes, one_or_two}

-- the 44 bytes before the samples, for `size` bytes of samples: "RIFF", size + 36, "WAVE", "fmt ", 16, encoding 1, channels, rate,
-- byte rate, alignment, bits 16, "data", size
unfoldable pub wave_header : ℕ → ℕ → ℕ → List ℕ
wave_header channels rate size =
    82 ∷ 73 ∷ 70 ∷ 70 ∷ (stored 4 (size + 36) ++ (87 ∷ 65 ∷ 86 ∷ 69 ∷ 102 ∷ 109 ∷ 116 ∷ 32 ∷ []) ++ stored 4 16 ++ stored 2 1
    ++ stored 2 channels ++ stored 4 rate ++ stored 4 (rate * frame_bytes channels) ++ stored 2 (frame_bytes channels) ++ stored 2 16
    ++ (100 ∷ 97 ∷ 116 ∷ 97 ∷ []) ++ stored 4 size)

-- each sample in two bytes
unfoldable pub sample_bytes : List ℤ → List ℕ
sample_bytes samples = joined (λ i. stored 2 (to_twos (get_or samples i (pos 0)))) (length samples)

-- the whole file
unfoldable pub wave_bytes : ℕ → ℕ → List ℤ → List ℕ
wave_bytes channels rate samples = wave_header channels rate (2 * length samples) ++ sample_bytes samples

-- the checks of a call, by its numbers: channels, rate, samples in all, and room: 34, 35, 36, 37, then 13
abbrev pub write_checks : {A : Type 0} → ℕ → ℕ → ℕ → ℕ → Outcome A → Outcome A
write_checks channels rate count room rest =
    let size = 2 * count in
    need (one_or_two channels) 34 []
    ⟫ refuse_if (ltb 4294967295 size) 35 []
    ⟫ refuse_if (ltb 4294967295 (size + 36)) 36 []
    ⟫ refuse_if (ltb 4294967295 (rate * frame_bytes channels)) 37 []
    ⟫ refuse_if (ltb room (44 + size)) 13 ((44 + size) ∷ [])
    ⟫ rest

-- a writer call with room for so many bytes
unfoldable pub write_call : ℕ → ℕ → List ℤ → ℕ → Outcome (List ℕ)
write_call channels rate samples room = write_checks channels rate (length samples) room ⟫ result (wave_bytes channels rate samples)
