-- The calls for lengths, by call and number: inputs that give each refusal, with the number returned; their neighbours across the
-- bound, which do not; its place in the order, with each cause that comes after it. Then results: at no samples, around a frame's end
-- and two's, at the most samples. Assumes nothing.
use Rattle.std.specs.Prelude.{ℕ, Bool, ◌&&◌, List, [], ◌∷◌, eqb}
use Rattle.outcome.specs.Tests.{gives, accepts, refuses}
use Rattle.lists.specs.Tables.{every}
use Rattle.postlapse.specs.Lengths.{fragment_size_for_c, frame_count_for_c, stream_length_for_c}

abbrev most : ℕ
most = 4294967295

abbrev versions : List ℕ
versions = 1 ∷ 2 ∷ 3 ∷ []

abbrev variants : List ℕ
variants = 0 ∷ 1 ∷ 2 ∷ []

abbrev no_versions : List ℕ
no_versions = 0 ∷ 4 ∷ 255 ∷ []

abbrev no_variants : List ℕ
no_variants = 3 ∷ 4 ∷ 255 ∷ []

-- ---- refusals

-- variant above 2. Before 7
abbrev size8 : Bool
size8 =
    every (λ b. every (λ v. refuses 8 (b ∷ []) (fragment_size_for_c v b)) (0 ∷ 1 ∷ 2 ∷ 3 ∷ 4 ∷ [])) no_variants
    && every (λ b. accepts (fragment_size_for_c 3 b)) variants

-- version outside 1..3
abbrev size7 : Bool
size7 =
    every
    (λ b. every (λ v. refuses 7 (v ∷ []) (fragment_size_for_c v b)) no_versions
    && every (λ v. accepts (fragment_size_for_c v b)) versions)
    variants

abbrev frames7 : Bool
frames7 =
    every
    (λ n. every (λ v. refuses 7 (v ∷ []) (frame_count_for_c v n)) no_versions
    && every (λ v. accepts (frame_count_for_c v n)) versions)
    (0 ∷ 64 ∷ most ∷ [])

-- variant above 2. Before 7 and 1, each alone and both
abbrev length8 : Bool
length8 =
    every
    (λ b. every (λ v. every (λ c. refuses 8 (b ∷ []) (stream_length_for_c v b c 64)) (0 ∷ 1 ∷ 3 ∷ [])) (0 ∷ 3 ∷ 4 ∷ []))
    no_variants
    && every (λ b. accepts (stream_length_for_c 3 b 1 64)) variants

-- version outside 1..3. Before 1
abbrev length7 : Bool
length7 =
    every
    (λ c. every (λ v. refuses 7 (v ∷ []) (stream_length_for_c v 2 c 64)) no_versions)
    (0 ∷ 1 ∷ 2 ∷ 3 ∷ [])
    && every (λ v. accepts (stream_length_for_c v 2 1 64)) versions

-- channels not 1 or 2
abbrev length1 : Bool
length1 =
    every
    (λ v. every (λ c. refuses 1 (c ∷ []) (stream_length_for_c v 2 c 64)) (0 ∷ 3 ∷ 4 ∷ 255 ∷ [])
    && every (λ c. accepts (stream_length_for_c v 2 c 64)) (1 ∷ 2 ∷ []))
    versions

-- ---- results

abbrev counts : ℕ → ℕ → ℕ → Bool
counts version samples frames = gives (eqb frames) (frame_count_for_c version samples)

-- a last frame that is not full counts as one; a whole frame has 63 samples, in versions 1 and 2 64
abbrev frame_counts : Bool
frame_counts =
    every
    (λ v. counts v 0 0 && counts v 1 1 && counts v 62 1 && counts v 63 1 && counts v 65 2 && counts v 126 2 && counts v 129 3)
    versions
    && every (λ v. counts v 64 1 && counts v 127 2 && counts v 128 2 && counts v most 67108864) (1 ∷ 2 ∷ [])
    && counts 3 64 2 && counts 3 127 3 && counts 3 128 3 && counts 3 most 68174085

abbrev measures : ℕ → ℕ → ℕ → ℕ → ℕ → Bool
measures version variant channels samples length = gives (eqb length) (stream_length_for_c version variant channels samples)

-- 01's case 1: "Empty PCM: 16 bytes. Stereo H, 64 a channel: 152. L mono, 63: 42"
abbrev case_1 : Bool
case_1 = measures 3 0 1 0 16 && measures 3 0 2 64 152 && measures 3 1 1 63 42

abbrev stream_lengths : Bool
stream_lengths =
    every (λ v. every (λ b. measures v b 1 0 16 && measures v b 2 0 16) variants) versions
    && measures 3 0 1 1 50 && measures 3 0 1 62 50 && measures 3 0 2 63 84 && measures 3 0 2 65 152 && measures 3 1 1 64 68
    && measures 3 1 2 126 120 && measures 3 2 1 127 94 && measures 3 2 2 128 172 && measures 3 0 1 129 118
    && measures 3 0 2 most 4635837796 && measures 3 1 1 most 1772526226 && measures 3 2 2 most 3545052436
    && every
    (λ v.
    measures v 0 1 1 49 && measures v 0 2 62 82 && measures v 0 1 63 49 && measures v 0 2 64 82 && measures v 1 1 65 66
    && measures v 1 2 126 116 && measures v 2 1 127 66 && measures v 2 2 128 116 && measures v 0 1 129 115
    && measures v 0 2 most 4429185040 && measures v 1 1 most 1677721616 && measures v 2 2 most 3355443216)
    (1 ∷ 2 ∷ [])

abbrev pub pinned : Bool
pinned = size8 && size7 && frames7 && length8 && length7 && length1 && frame_counts && case_1 && stream_lengths
