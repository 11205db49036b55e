-- Each refusal of the writer, as a test that computes: inputs that give it, the neighbours across its bound, which don't, and its
-- place in the order: where later causes hold too it is still this one. The expectations are 01's. Assumes nothing.
use Rattle.std.specs.Prelude.{ℕ, ◌+◌, ◌*◌, Bool, ◌&&◌, [], ◌∷◌, negsuc}
use Rattle.outcome.specs.Outcome.{Outcome, result, ◌⟫◌}
use Rattle.outcome.specs.Tests.{gives, accepts, refuses}
use Rattle.lists.specs.Tables.{every}
use Rattle.lists.specs.Tests.{same_bytes}
use Rattle.wav_writer.specs.Writer.{write_checks, write_call}

-- channels, rate, count of samples and room
abbrev pub checked : ℕ → ℕ → ℕ → ℕ → Outcome ℕ
checked channels rate count room = write_checks channels rate count room ⟫ result 0

abbrev pub passes : ℕ → ℕ → ℕ → ℕ → Bool
passes channels rate count room = accepts (checked channels rate count room)

abbrev pub refused_as : ℕ → ℕ → ℕ → ℕ → ℕ → Bool
refused_as n channels rate count room = refuses n [] (checked channels rate count room)

-- room for any file, and a rate that gives 37
abbrev ample : ℕ
ample = 8589934592

abbrev fast : ℕ
fast = 4294967295

-- writer channels not 1 or 2. Before 35, 36, 37 and 13, each alone and all together
abbrev write34 : Bool
write34 =
    every (λ c. refused_as 34 c 8000 2 ample) (0 ∷ 3 ∷ 4 ∷ 255 ∷ []) && passes 1 8000 2 ample && passes 2 8000 2 ample
    && every (λ c. refused_as 34 c fast 2147483648 0 && refused_as 34 c 8000 2147483630 ample && refused_as 34 c fast 2 ample && refused_as 34 c 8000 2 0)
    (0 ∷ 3 ∷ [])

-- data bytes over 32 bits: 2 × 2147483648; 2 × 2147483647 are not, and give 36. Before 36, 37 and 13
abbrev write35 : Bool
write35 =
    every (λ c. refused_as 35 c 8000 2147483648 ample && refused_as 36 c 8000 2147483647 ample && refused_as 35 c fast 2147483648 0) (1 ∷ 2 ∷ [])
    && refused_as 35 1 8000 4294967296 ample

-- data + 36 over 32 bits: 2 × 2147483630 + 36; 2 × 2147483629 + 36 are not. Before 37 and 13
abbrev write36 : Bool
write36 =
    every (λ c. refused_as 36 c 8000 2147483630 ample && passes c 8000 2147483629 ample && refused_as 36 c fast 2147483630 0) (1 ∷ 2 ∷ [])

-- written byte rate over 32 bits: mono 2 × 2147483648, stereo 4 × 1073741824. Before 13. Rate 0 is accepted
abbrev write37 : Bool
write37 =
    refused_as 37 1 2147483648 2 ample && passes 1 2147483647 2 ample && refused_as 37 2 1073741824 2 ample && passes 2 1073741823 2 ample
    && refused_as 37 1 fast 2 ample && refused_as 37 1 2147483648 2 0 && refused_as 37 2 1073741824 2 0 && passes 1 0 2 ample && passes 2 0 2 ample

-- output too short: 44 bytes and 2 for each sample are needed, and returned. A partial frame is accepted
abbrev write13 : Bool
write13 =
    every
    (λ c.
    every (λ n. passes c 8000 n (44 + n * 2) && refuses 13 ((44 + n * 2) ∷ []) (checked c 8000 n (43 + n * 2)) && refuses 13 ((44 + n * 2) ∷ []) (checked c 8000 n 0))
    (0 ∷ 1 ∷ 2 ∷ 3 ∷ 2147483629 ∷ []))
    (1 ∷ 2 ∷ [])
    && refuses 13 (46 ∷ []) (write_call 2 0 (negsuc 0 ∷ []) 45)
    && gives (same_bytes (82 ∷ 73 ∷ 70 ∷ 70 ∷ 38 ∷ 0 ∷ 0 ∷ 0 ∷ 87 ∷ 65 ∷ 86 ∷ 69 ∷ 102 ∷ 109 ∷ 116 ∷ 32 ∷ 16 ∷ 0 ∷ 0 ∷ 0 ∷ 1 ∷ 0 ∷ 2 ∷ 0 ∷ 0 ∷ 0 ∷ 0 ∷ 0
    ∷ 0 ∷ 0 ∷ 0 ∷ 0 ∷ 4 ∷ 0 ∷ 16 ∷ 0 ∷ 100 ∷ 97 ∷ 116 ∷ 97 ∷ 2 ∷ 0 ∷ 0 ∷ 0 ∷ 255 ∷ 255 ∷ []))
    (write_call 2 0 (negsuc 0 ∷ []) 46)

abbrev pub pinned : Bool
pinned = write34 && write35 && write36 && write37 && write13
