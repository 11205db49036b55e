-- Reading a WAV file, from 01, 02 (strict reading) and Microsoft's RIFF/WAVE PCM format. Numbers of refusals are those of 01's table.
-- Assumes nothing.
use Rattle.std.specs.Prelude.{ℕ, zero, suc, ◌+◌, ◌-◌, ◌*◌, ◌%◌, Bool, ◌&&◌, ◌||◌, Option, Some, None, is_some, List, [], ltb, eqb, length, get_or}
use Rattle.outcome.specs.Outcome.{Outcome, result, refused, refuse_if, need, branch, ◌⟫◌, and_then}
use Rattle.digits.specs.Digits.{field}
use Rattle.parts.specs.declared.Part.{Part}
use Rattle.parts.specs.Parts.{part_in}
use Rattle.wav_format.specs.declared.Format.{Format}
use Rattle.wav_format.specs.declared.Chunks.{Chunks}
use Rattle.wav_format.specs.declared.Wave.{Wave}

-- the four bytes from byte `at` on are these letters
unfoldable pub letters_at : List ℕ → ℕ → ℕ → ℕ → ℕ → ℕ → Bool
letters_at s at a b c d =
    eqb (get_or s at 0) a && eqb (get_or s (at + 1) 0) b && eqb (get_or s (at + 2) 0) c && eqb (get_or s (at + 3) 0) d

-- ---- chunks: four letters, size (4 bytes), contents; an odd one has a pad byte

abbrev pub size_at : List ℕ → ℕ → ℕ
size_at s at = field 4 (at + 4) s

abbrev pub padded_end : ℕ → ℕ → ℕ
padded_end at size = at + 8 + size + size % 2

-- fmt begins encoding 2 bytes, channels 2, rate 4, byte rate 4, alignment 2, bits 2
unfoldable pub format_at : List ℕ → ℕ → ℕ → Format
format_at s start size =
    record {
      part = record { start = start; size = size };
      encoding = field 2 start s;
      channels = field 2 (start + 2) s;
      rate = field 4 (start + 4) s;
      byte_rate = field 4 (start + 8) s;
      align = field 2 (start + 12) s;
      bits = field 2 (start + 14) s;
    }

-- the chunks after one that is neither fmt nor data, after fmt, and after data
abbrev pub passed_over : ℕ → Chunks → Chunks
passed_over size c = record { at = padded_end c.at size; format = c.format; samples = c.samples }

abbrev pub with_format : Format → ℕ → Chunks → Chunks
with_format f size c = record { at = padded_end c.at size; format = Some f; samples = c.samples }

abbrev pub with_data : ℕ → Chunks → Chunks
with_data size c =
    record { at = padded_end c.at size; format = c.format; samples = Some (record { start = c.at + 8; size = size }) }

-- the chunk at c.at, of a file whose RIFF end is `end`: 22, 23, then 24 or 25
unfoldable pub chunk_step : List ℕ → ℕ → Chunks → Outcome Chunks
chunk_step s end c =
    let size = size_at s c.at in
    refuse_if (ltb (end - c.at) 8) 22 []
    ⟫ refuse_if (ltb end (padded_end c.at size)) 23 []
    ⟫ branch (letters_at s c.at 102 109 116 32)
    (refuse_if (is_some c.format) 24 []
    ⟫ refuse_if (ltb size 16) 24 []
    ⟫ result (with_format (format_at s (c.at + 8) size) size c))
    (branch (letters_at s c.at 100 97 116 97)
    (refuse_if (is_some c.samples) 25 []
    ⟫ result (with_data size c))
    (result (passed_over size c)))

-- chunks start at 12, with nothing found
abbrev pub first_chunk : Chunks
first_chunk = record { at = 12; format = None; samples = None }

-- the walk from c.at to the end, over at most n chunks
unfoldable pub walk_for : ℕ → List ℕ → ℕ → Chunks → Outcome Chunks
walk_for zero s end c = result c
walk_for (suc n) s end c = branch (ltb c.at end) (and_then (chunk_step s end c) (walk_for n s end)) (result c)

-- the walk over all chunks up to the RIFF end: no file has more chunks than bytes, so `end` turns suffice (proofs/Walk.antt)
unfoldable pub walk : List ℕ → ℕ → Outcome Chunks
walk s end = walk_for end s end first_chunk

-- ---- the checks after the walk, 26..33

-- alignment is channels × 2, byte rate is rate × alignment
abbrev pub frame_bytes : ℕ → ℕ
frame_bytes channels = channels * 2

unfoldable pub one_or_two : ℕ → Bool
one_or_two n = eqb n 1 || eqb n 2

unfoldable pub pcm16 : ℕ → ℕ → Bool
pcm16 encoding bits = eqb encoding 1 && eqb bits 16

unfoldable pub consistent : ℕ → ℕ → ℕ → ℕ → Bool
consistent channels rate byteRate align = eqb align (frame_bytes channels) && eqb byteRate (rate * frame_bytes channels)

-- the result is a frame's bytes
unfoldable pub check_format : ℕ → ℕ → ℕ → ℕ → ℕ → ℕ → Outcome ℕ
check_format encoding channels rate byteRate align bits =
    need (pcm16 encoding bits) 27 []
    ⟫ need (one_or_two channels) 28 []
    ⟫ refuse_if (eqb rate 0) 29 []
    ⟫ refuse_if (ltb 4294967295 (rate * frame_bytes channels)) 30 []
    ⟫ need (consistent channels rate byteRate align) 31 []
    ⟫ result (frame_bytes channels)

-- what was found, and the refusal where nothing was
unfoldable pub found : {A : Type 0} → Option A → ℕ → Outcome A
found (Some a) n = result a
found None n = refused n []

abbrev pub wave_of : ℕ → Format → Part → Wave
wave_of end f samples =
    record { channels = f.channels; rate = f.rate; samples = samples; format = f.part; end = end }

unfoldable pub check_data : ℕ → Format → Option Part → ℕ → Outcome Wave
check_data end f part frame =
    and_then (found part 32)
    (λ samples.
    need (eqb (samples.size % frame) 0) 33 []
    ⟫ result (wave_of end f samples))

unfoldable pub check_chunks : ℕ → Chunks → Outcome Wave
check_chunks end c =
    and_then (found c.format 26)
    (λ f.
    and_then (check_format f.encoding f.channels f.rate f.byte_rate f.align f.bits)
    (check_data end f c.samples))

-- ---- plain reading

-- RIFF end is size + 8; bytes after it are ignored
abbrev pub riff_end : List ℕ → ℕ
riff_end s = field 4 4 s + 8

-- "RIFF", size, "WAVE"; 20 and 21 come first, walk refusals where met, then 26..33 in order
unfoldable pub read_wave : List ℕ → Outcome Wave
read_wave s =
    refuse_if (ltb (length s) 12) 20 []
    ⟫ need (letters_at s 0 82 73 70 70) 20 []
    ⟫ need (letters_at s 8 87 65 86 69) 20 []
    ⟫ refuse_if (ltb (riff_end s) 12) 21 []
    ⟫ refuse_if (ltb (length s) (riff_end s)) 21 []
    ⟫ and_then (walk s (riff_end s)) (check_chunks (riff_end s))

-- ---- strict reading (added): after plain acceptance 40, 41, 42

-- "Strict reading must accept 16 or 18" (02), the sizes of a fmt chunk
unfoldable pub strict_size : ℕ → Bool
strict_size size = eqb size 16 || eqb size 18

unfoldable pub check_strict : List ℕ → Wave → Outcome Wave
check_strict s w =
    need (strict_size w.format.size) 40 []
    ⟫ refuse_if (ltb w.samples.start w.format.start) 41 []
    ⟫ refuse_if (ltb w.end (length s)) 42 []
    ⟫ result w

unfoldable pub read_strict : List ℕ → Outcome Wave
read_strict s = and_then (read_wave s) (check_strict s)

-- ---- the sample bytes are shown as a part of the caller's own file; an empty part where the call refuses

unfoldable pub part_of : List ℕ → Outcome Wave → List ℕ
part_of s (result w) = part_in s w.samples
part_of s (refused n vs) = []
