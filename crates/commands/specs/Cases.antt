-- The programs' own refusals and what they print, as tests that compute: inputs that give a number, the neighbours across its bound,
-- which don't, and its place in the order. The expectations are 01's. Assumes nothing.
use Rattle.std.specs.Prelude.{ℕ, Bool, ◌&&◌, List, [], ◌∷◌, ◌++◌, take}
use Rattle.outcome.specs.Tests.{gives, refuses}
use Rattle.lists.specs.Tables.{every}
use Rattle.lists.specs.Tests.{same_bytes}
use Rattle.sqv4_format.specs.Cases.{zeros, headed, changed, stereo}
use Rattle.text.specs.Text.{letters}
use Rattle.commands.specs.Commands.{printed, converted, reported}

-- the WAV of one sample 1000, mono at 8000, with a byte after its RIFF end, which plain reading ignores; and the stream's header and
-- fragment of case 3
abbrev wave : List ℕ
wave =
    82 ∷ 73 ∷ 70 ∷ 70 ∷ 38 ∷ 0 ∷ 0 ∷ 0 ∷ 87 ∷ 65 ∷ 86 ∷ 69 ∷ 102 ∷ 109 ∷ 116 ∷ 32 ∷ 16 ∷ 0 ∷ 0 ∷ 0 ∷ 1 ∷ 0 ∷ 1 ∷ 0 ∷ 64 ∷ 31 ∷ 0 ∷ 0 ∷ 128 ∷ 62
    ∷ 0 ∷ 0 ∷ 2 ∷ 0 ∷ 16 ∷ 0 ∷ 100 ∷ 97 ∷ 116 ∷ 97 ∷ 2 ∷ 0 ∷ 0 ∷ 0 ∷ 232 ∷ 3 ∷ 9 ∷ []

abbrev header : ℕ → List ℕ
header variant = changed 5 variant (headed 3 1)

abbrev stream : List ℕ
stream = header 0 ++ (0x08 ∷ 0x51 ∷ 0x07 ∷ zeros 31)

abbrev pub converter_refused : ℕ → List ℕ → List ℕ → Bool
converter_refused n vs input = refuses n vs (converted input)

-- under 2 or over 65,536 bytes: 2 and 65,536 are taken, and have no WAV. Before 8
abbrev convert38 : Bool
convert38 =
    converter_refused 38 [] [] && converter_refused 38 [] (0 ∷ []) && converter_refused 38 [] (3 ∷ []) && converter_refused 20 [] (0 ∷ 0 ∷ [])
    && converter_refused 20 [] (zeros 65536) && converter_refused 38 [] (zeros 65537) && converter_refused 38 [] (3 ∷ zeros 65536)

-- variant above 2: the byte is returned. Before 20. The bytes 0, 1 and 2 are H, L and L+; the gain is the second byte
abbrev convert8 : Bool
convert8 =
    every (λ v. converter_refused 8 (v ∷ []) (v ∷ 0 ∷ []) && converter_refused 8 (v ∷ []) (v ∷ 255 ∷ wave)) (3 ∷ 4 ∷ 255 ∷ [])
    && every (λ v. converter_refused 20 [] (v ∷ 255 ∷ []) && gives (λ b. same_bytes (take 16 b) (header v)) (converted (v ∷ 0 ∷ wave))) (0 ∷ 1 ∷ 2 ∷ [])
    && gives (same_bytes stream) (converted (0 ∷ 255 ∷ wave)) && gives (same_bytes (header 0 ++ zeros 34)) (converted (0 ∷ 0 ∷ wave))

-- the inspector: over 65,536 bytes; fewer, also none, are for inspection
abbrev report38 : Bool
report38 = refuses 38 [] (reported (zeros 65537)) && refuses 6 [] (reported (zeros 65536)) && refuses 5 [] (reported [])

-- an L or L+ fragment of versions 1, 2, with zeros for codes
abbrev fragment : ℕ → List ℕ
fragment volume = volume ∷ zeros 24

-- the file of case 3; frames and channels from 0, frame by frame, each with its own count, and - for the index in versions 1, 2, with each
-- variant's name; and a refusal's line with no numbers, one, and two
abbrev prints : Bool
prints =
    same_bytes (printed (reported stream)) (letters "version 3 variant H channels 1 rate 8000 samples 1\n0 0 1 8 81\n")
    && same_bytes (printed (reported (changed 5 2 (stereo 2 65) ++ fragment 10 ++ fragment 0 ++ fragment 255 ++ fragment 7)))
    (letters "version 2 variant L+ channels 2 rate 8000 samples 65\n0 0 64 10 -\n0 1 64 0 -\n1 0 1 255 -\n1 1 1 7 -\n")
    && same_bytes (printed (reported (changed 5 1 (headed 1 64) ++ fragment 100))) (letters "version 1 variant L channels 1 rate 8000 samples 64\n0 0 64 100 -\n")
    && same_bytes (printed (converted [])) (letters "refused 38\n") && same_bytes (printed (converted (3 ∷ 0 ∷ []))) (letters "refused 8 3\n")
    && same_bytes (printed (reported (header 0))) (letters "refused 10 50 16\n")

abbrev pub pinned : Bool
pinned = convert38 && convert8 && report38 && prints
