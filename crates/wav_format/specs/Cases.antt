-- Each refusal of reading a WAV file, as a test that computes: inputs that give it, the neighbours across its bound, which don't, and
-- its place in the order: where later causes hold too it is still this one. The expectations are 01's, and of 40 also 02's. Assumes
-- nothing.
use Rattle.std.specs.Prelude.{◌≡◌, ℕ, ◌+◌, ◌-◌, ◌*◌, ◌%◌, Bool, ◌&&◌, List, [], ◌∷◌, ◌++◌, eqb, ℤ, pos, negsuc, length, get_or, set, take, drop, replicate}
use Rattle.outcome.specs.Outcome.{refused}
use Rattle.outcome.specs.Tests.{gives, accepts, refuses}
use Rattle.lists.specs.Tables.{every, every_at}
use Rattle.lists.specs.Tests.{same_bytes, same_samples}
use Rattle.digits.specs.Digits.{stored}
use Rattle.wav_format.specs.Wave.{check_format, read_wave, read_strict, part_of}
use Rattle.wav_format.specs.Samples.{samples_call}
use Rattle.wav_format.specs.declared.Wave.{Wave}

-- ---- files

-- "RIFF", size, "WAVE", chunks; and with the size at which the RIFF end is the file's
abbrev riff : ℕ → List ℕ → List ℕ
riff size chunks = 82 ∷ 73 ∷ 70 ∷ 70 ∷ (stored 4 size ++ (87 ∷ 65 ∷ 86 ∷ 69 ∷ chunks))

abbrev pub file : List ℕ → List ℕ
file chunks = riff (4 + length chunks) chunks

-- four letters, a size, and contents, which may have another
abbrev pub fmt_of : ℕ → List ℕ → List ℕ
fmt_of size contents = 102 ∷ 109 ∷ 116 ∷ 32 ∷ (stored 4 size ++ contents)

abbrev data_of : ℕ → List ℕ → List ℕ
data_of size contents = 100 ∷ 97 ∷ 116 ∷ 97 ∷ (stored 4 size ++ contents)

abbrev list_of : ℕ → List ℕ → List ℕ
list_of size contents = 76 ∷ 73 ∷ 83 ∷ 84 ∷ (stored 4 size ++ contents)

-- encoding, channels, rate, byte rate, alignment, bits; mono at 8000 and stereo at 44100
abbrev pub fields : ℕ → ℕ → ℕ → ℕ → ℕ → ℕ → List ℕ
fields encoding channels rate byteRate align bits =
    stored 2 encoding ++ stored 2 channels ++ stored 4 rate ++ stored 4 byteRate ++ stored 2 align ++ stored 2 bits

abbrev mono : List ℕ
mono = fields 1 1 8000 16000 2 16

abbrev stereo : List ℕ
stereo = fields 1 2 44100 176400 4 16

-- a sound chunk of each kind: fmt, data of an even number of bytes, data of an odd number with its pad byte, another with its pad byte
abbrev fmt : List ℕ → List ℕ
fmt contents = fmt_of 16 contents

abbrev pub pcm : ℕ → List ℕ
pcm n = data_of n (replicate n 0)

abbrev odd_pcm : ℕ → List ℕ
odd_pcm n = data_of n (replicate (n + 1) 0)

abbrev other : List ℕ
other = list_of 1 (7 ∷ 0 ∷ [])

abbrev good : List ℕ
good = fmt mono ++ pcm 2

-- ---- what reading gives

abbrev pub saying : ℕ → ℕ → ℕ → ℕ → Wave → Bool
saying channels rate start size w =
    eqb w.channels channels && eqb w.rate rate && eqb w.samples.start start && eqb w.samples.size size

-- what a passed one means
abbrev pub Says : ℕ → ℕ → ℕ → ℕ → Wave → Type 0
Says channels rate start size w = (w.channels ≡ channels) × (w.rate ≡ rate) × (w.samples.start ≡ start) × (w.samples.size ≡ size)

abbrev pub reads : ℕ → ℕ → ℕ → ℕ → List ℕ → Bool
reads channels rate start size s = gives (saying channels rate start size) (read_wave s)

abbrev pub refused_as : ℕ → List ℕ → Bool
refused_as n s = refuses n [] (read_wave s)

abbrev pub format : ℕ → ℕ → ℕ → ℕ → ℕ → ℕ → Bool
format encoding channels rate byteRate align bits = accepts (check_format encoding channels rate byteRate align bits)

abbrev pub format_refused : ℕ → ℕ → ℕ → ℕ → ℕ → ℕ → ℕ → Bool
format_refused n encoding channels rate byteRate align bits = refuses n [] (check_format encoding channels rate byteRate align bits)

-- ---- accepted files: bytes as they stand; a number in all bytes of its field; either order of fmt and data; other chunks before,
-- between and behind, each with its pad byte; a longer fmt; bytes after the RIFF end, whatever they are

abbrev accepted : Bool
accepted =
    reads 2 44100 44 4 (82 ∷ 73 ∷ 70 ∷ 70 ∷ 40 ∷ 0 ∷ 0 ∷ 0 ∷ 87 ∷ 65 ∷ 86 ∷ 69 ∷ 102 ∷ 109 ∷ 116 ∷ 32 ∷ 16 ∷ 0 ∷ 0 ∷ 0 ∷ 1 ∷ 0 ∷ 2 ∷ 0 ∷ 68 ∷ 172
    ∷ 0 ∷ 0 ∷ 16 ∷ 177 ∷ 2 ∷ 0 ∷ 4 ∷ 0 ∷ 16 ∷ 0 ∷ 100 ∷ 97 ∷ 116 ∷ 97 ∷ 4 ∷ 0 ∷ 0 ∷ 0 ∷ 1 ∷ 2 ∷ 3 ∷ 4 ∷ [])
    && reads 1 0x01020304 44 258 (file (fmt (fields 1 1 0x01020304 0x02040608 2 16) ++ pcm 258))
    && reads 1 8000 20 2 (file (pcm 2 ++ fmt mono))
    && reads 1 8000 64 2 (file (other ++ fmt mono ++ other ++ pcm 2 ++ other))
    && reads 1 8000 46 2 (file (fmt_of 17 (mono ++ (0 ∷ 0 ∷ [])) ++ pcm 2))
    && reads 1 8000 46 2 (file (fmt_of 18 (mono ++ (0 ∷ 0 ∷ [])) ++ pcm 2))
    && reads 1 8000 44 2 (file good ++ (0 ∷ [])) && reads 1 8000 44 2 (file good ++ good)
    && gives (λ (w : Wave). eqb w.format.start 30 && eqb w.format.size 16 && eqb w.end 56) (read_wave (file (other ++ good) ++ (0 ∷ [])))

-- ---- plain reading. The chunks of a file for each of 22 to 33; those of 27 to 31 have no data besides

abbrev causes : List (List ℕ)
causes =
    (good ++ (0 ∷ []))
    ∷ (good ++ list_of 2 (0 ∷ []))
    ∷ (good ++ fmt mono)
    ∷ (good ++ pcm 2)
    ∷ pcm 2
    ∷ fmt (fields 2 1 8000 16000 2 16)
    ∷ fmt (fields 1 3 8000 48000 6 16)
    ∷ fmt (fields 1 1 0 0 2 16)
    ∷ fmt (fields 1 1 2147483648 0 2 16)
    ∷ fmt (fields 1 1 8000 16000 4 16)
    ∷ fmt mono
    ∷ (fmt stereo ++ pcm 2)
    ∷ []

abbrev from26 : List (List ℕ)
from26 = drop 4 causes

-- not RIFF/WAVE, or under 12 bytes: 0 and 11 of them; each of the eight letters changed. Before 21, and before 22 to 33
abbrev read20 : Bool
read20 =
    refused_as 20 [] && refused_as 20 (take 11 (riff 3 [])) && refused_as 20 (take 11 (file [])) && refused_as 26 (file [])
    && every (λ i. refused_as 20 (set (file good) i (get_or (file good) i 0 + 32))) (0 ∷ 1 ∷ 2 ∷ 3 ∷ 8 ∷ 9 ∷ 10 ∷ 11 ∷ [])
    && refused_as 20 (set (riff 3 good) 0 114) && refused_as 20 (set (riff 3 good) 8 119)
    && refused_as 20 (set (riff 1000 good) 0 114) && refused_as 20 (set (riff 1000 good) 8 119)
    && every (λ c. refused_as 20 (set (file c) 3 88) && refused_as 20 (set (file c) 11 88)) causes

-- RIFF end below 12 or past the data: ends 8 to 11, one past the data and more; an end of 12 leaves no chunk, and one at the file's
-- length all. Before 22 to 33
abbrev read21 : Bool
read21 =
    every (λ n. refused_as 21 (riff n good)) (0 ∷ 1 ∷ 2 ∷ 3 ∷ 39 ∷ 294 ∷ 65574 ∷ 16777254 ∷ 4294967295 ∷ [])
    && refused_as 26 (riff 4 good) && reads 1 8000 44 2 (riff 38 good) && refused_as 21 (riff 5 [])
    && every (λ c. refused_as 21 (riff 3 c) && refused_as 21 (riff (5 + length c) c)) causes

-- under 8 bytes for a chunk header: 1 to 7 before the RIFF end, whatever is behind it; 8 are a chunk. Before 23, 24, 25 and 26 to 33
abbrev read22 : Bool
read22 =
    every (λ n. refused_as 22 (file (good ++ take n (list_of 0 []))) && refused_as 22 (riff (38 + n) (good ++ list_of 0 []))) (1 ∷ 2 ∷ 3 ∷ 4 ∷ 5 ∷ 6 ∷ 7 ∷ [])
    && reads 1 8000 44 2 (file (good ++ list_of 0 []))
    && refused_as 22 (riff 45 (good ++ fmt mono)) && refused_as 22 (riff 45 (good ++ pcm 2)) && refused_as 22 (riff 45 (good ++ list_of 100 []))
    && every (λ c. refused_as 22 (file (c ++ (0 ∷ [])))) from26

-- padded chunk past RIFF end: a byte short, the pad byte short, the pad byte behind the end, the largest sizes. Before 24, 25 and 26
-- to 33
abbrev read23 : Bool
read23 =
    refused_as 23 (file (fmt mono ++ data_of 2 (0 ∷ []))) && reads 1 8000 44 2 (file (fmt mono ++ data_of 2 (0 ∷ 0 ∷ [])))
    && refused_as 23 (file (good ++ list_of 1 (0 ∷ []))) && reads 1 8000 44 2 (file (good ++ list_of 1 (0 ∷ 0 ∷ [])))
    && refused_as 23 (riff 47 (good ++ list_of 1 (0 ∷ 0 ∷ []))) && refused_as 23 (riff 37 good)
    && every (λ n. refused_as 23 (file (good ++ list_of n (replicate 9 0)))) (256 ∷ 65536 ∷ 16777216 ∷ 4294967294 ∷ 4294967295 ∷ [])
    && refused_as 23 (file (good ++ fmt_of 16 (take 15 mono))) && refused_as 23 (file (good ++ data_of 2 [])) && refused_as 23 (file (fmt_of 15 []))
    && every (λ c. refused_as 23 (file (c ++ list_of 1 []))) from26

-- second fmt, or fmt under 16: sizes 0, 14 and 15, where 16 is accepted. Before 25 where it is met first, and 26 to 33
abbrev read24 : Bool
read24 =
    every (λ n. refused_as 24 (file (fmt_of n (replicate (n + n % 2) 0) ++ pcm 2))) (0 ∷ 14 ∷ 15 ∷ [])
    && reads 1 8000 44 2 (file (fmt_of 16 mono ++ pcm 2))
    && refused_as 24 (file (fmt mono ++ fmt mono ++ pcm 2)) && refused_as 24 (file (good ++ fmt mono)) && refused_as 24 (file (good ++ fmt_of 0 []))
    && refused_as 24 (file (good ++ fmt mono ++ pcm 2)) && refused_as 24 (file (good ++ fmt mono ++ (0 ∷ []))) && refused_as 24 (file (good ++ fmt mono ++ list_of 2 []))
    && every (λ c. refused_as 24 (file (c ++ fmt_of 14 (replicate 14 0)))) from26 && every (λ c. refused_as 24 (file (c ++ fmt mono))) (drop 5 causes)

-- second data, also an empty one. Before 24 where it is met first, and 26 to 33
abbrev read25 : Bool
read25 =
    refused_as 25 (file (good ++ pcm 2)) && refused_as 25 (file (good ++ pcm 0)) && refused_as 25 (file (pcm 2 ++ pcm 2 ++ fmt mono))
    && refused_as 25 (file (fmt mono ++ pcm 0 ++ pcm 2))
    && refused_as 25 (file (good ++ pcm 2 ++ fmt mono)) && refused_as 25 (file (good ++ pcm 2 ++ (0 ∷ []))) && refused_as 25 (file (good ++ pcm 2 ++ list_of 2 []))
    && every (λ c. refused_as 25 (file (c ++ pcm 0 ++ pcm 0))) from26

-- no fmt: no chunk, others only, each letter changed, a fmt behind the RIFF end. Before 32 and 33
abbrev read26 : Bool
read26 =
    refused_as 26 (file []) && refused_as 26 (file other) && refused_as 26 (file (pcm 2)) && refused_as 26 (file (odd_pcm 1))
    && every (λ i. refused_as 26 (file (set good i (get_or good i 0 - 32)))) (0 ∷ 1 ∷ 2 ∷ 3 ∷ [])
    && refused_as 26 (file (pcm 2) ++ fmt mono)

-- encoding not 1 or bits not 16, also where only the high byte differs. Before 28 to 31, and 32, 33
abbrev read27 : Bool
read27 =
    every (λ e. format_refused 27 e 1 8000 16000 2 16) (0 ∷ 2 ∷ 3 ∷ 257 ∷ 65534 ∷ []) && format 1 1 8000 16000 2 16
    && every (λ b. format_refused 27 1 1 8000 16000 2 b) (0 ∷ 8 ∷ 15 ∷ 17 ∷ 24 ∷ 272 ∷ [])
    && refused_as 27 (file (fmt (fields 257 1 8000 16000 2 16) ++ pcm 2)) && refused_as 27 (file (fmt (fields 1 1 8000 16000 2 272) ++ pcm 2))
    && format_refused 27 2 3 0 1 1 16 && format_refused 27 1 3 0 1 1 8 && format_refused 27 2 3 4294967295 0 0 16 && format_refused 27 1 3 4294967295 0 0 8

-- channels not 1 or 2. Before 29, 30, 31, and 32, 33
abbrev read28 : Bool
read28 =
    every (λ c. format_refused 28 1 c 8000 (8000 * (c * 2)) (c * 2) 16) (0 ∷ 3 ∷ 4 ∷ 257 ∷ 65535 ∷ [])
    && format 1 1 8000 16000 2 16 && format 1 2 8000 32000 4 16
    && refused_as 28 (file (fmt (fields 1 257 8000 16000 2 16) ++ pcm 2))
    && format_refused 28 1 0 0 1 1 16 && format_refused 28 1 3 0 1 1 16 && format_refused 28 1 3 4294967295 0 0 16

-- rate 0, and not one that is 0 in some bytes. Before 31, and 32, 33
abbrev read29 : Bool
read29 =
    format_refused 29 1 1 0 0 2 16 && format_refused 29 1 2 0 0 4 16
    && every (λ r. format 1 1 r (r * 2) 2 16 && reads 1 r 44 2 (file (fmt (fields 1 1 r (r * 2) 2 16) ++ pcm 2))) (1 ∷ 256 ∷ 65536 ∷ 16777216 ∷ [])
    && format_refused 29 1 1 0 1 2 16 && format_refused 29 1 1 0 0 0 16

-- byte rate over 32 bits: mono 2 × 2147483647 and stereo 4 × 1073741823 are not. Before 31, and 32, 33
abbrev read30 : Bool
read30 =
    format 1 1 2147483647 4294967294 2 16 && format_refused 30 1 1 2147483648 4294967296 2 16
    && format 1 2 1073741823 4294967292 4 16 && format_refused 30 1 2 1073741824 4294967296 4 16
    && reads 2 1073741823 44 4 (file (fmt (fields 1 2 1073741823 4294967292 4 16) ++ pcm 4))
    && format_refused 30 1 1 2147483648 0 2 16 && format_refused 30 1 1 4294967295 0 0 16

-- byte rate or alignment inconsistent: one off, and the other's. Before 32, 33
abbrev read31 : Bool
read31 =
    every (λ a. format_refused 31 1 1 8000 16000 a 16) (0 ∷ 1 ∷ 3 ∷ 4 ∷ 258 ∷ []) && every (λ a. format_refused 31 1 2 8000 32000 a 16) (2 ∷ 3 ∷ 5 ∷ [])
    && every (λ b. format_refused 31 1 1 8000 b 2 16) (0 ∷ 8000 ∷ 15999 ∷ 16001 ∷ 32000 ∷ 81536 ∷ []) && format_refused 31 1 2 8000 16000 4 16
    && refused_as 31 (file (fmt (fields 1 1 8000 16000 258 16) ++ pcm 2)) && refused_as 31 (file (fmt (fields 1 1 8000 81536 2 16) ++ pcm 2))

-- no data: none, others only, each letter changed, a data chunk behind the RIFF end; an empty one is data
abbrev read32 : Bool
read32 =
    refused_as 32 (file (fmt mono)) && refused_as 32 (file (fmt mono ++ other)) && refused_as 32 (file (fmt mono) ++ pcm 2)
    && every (λ i. refused_as 32 (file (set good i (get_or good i 0 - 32)))) (24 ∷ 25 ∷ 26 ∷ 27 ∷ [])
    && reads 1 8000 44 0 (file (fmt mono ++ pcm 0))

-- partial frame: mono 1 and 3 bytes, stereo 1, 2, 3 and 6, in either order of fmt and data; 0 bytes and whole frames are accepted
abbrev read33 : Bool
read33 =
    every (λ n. refused_as 33 (file (fmt mono ++ odd_pcm n)) && refused_as 33 (file (fmt stereo ++ odd_pcm n))) (1 ∷ 3 ∷ [])
    && every (λ n. refused_as 33 (file (fmt stereo ++ pcm n)) && refused_as 33 (file (pcm n ++ fmt stereo))) (2 ∷ 6 ∷ [])
    && every (λ n. reads 1 8000 44 n (file (fmt mono ++ pcm n))) (0 ∷ 2 ∷ 4 ∷ 6 ∷ []) && every (λ n. reads 2 44100 44 n (file (fmt stereo ++ pcm n))) (0 ∷ 4 ∷ 8 ∷ [])

-- each of the files gives its number, those of 27 to 31 before 32; and these also before 33
abbrev each : Bool
each =
    every_at (λ n c. refused_as n (file c)) 22 causes && every_at (λ n c. refused_as n (file (c ++ odd_pcm 1))) 27 (take 5 (drop 5 causes))

-- ---- strict reading

abbrev pub strict : ℕ → ℕ → ℕ → ℕ → List ℕ → Bool
strict channels rate start size s = gives (saying channels rate start size) (read_strict s)

abbrev pub strict_refused : ℕ → List ℕ → Bool
strict_refused n s = refuses n [] (read_strict s)

-- a file of one sample, byte by byte, with a fmt chunk of 18 bytes, of which a and b are the last two
abbrev pub extended : ℕ → ℕ → List ℕ
extended a b =
    82 ∷ 73 ∷ 70 ∷ 70 ∷ 40 ∷ 0 ∷ 0 ∷ 0 ∷ 87 ∷ 65 ∷ 86 ∷ 69 ∷ 102 ∷ 109 ∷ 116 ∷ 32 ∷ 18 ∷ 0 ∷ 0 ∷ 0 ∷ 1 ∷ 0 ∷ 1 ∷ 0 ∷ 64 ∷ 31 ∷ 0 ∷ 0 ∷ 128 ∷ 62 ∷ 0 ∷ 0
    ∷ 2 ∷ 0 ∷ 16 ∷ 0 ∷ a ∷ b ∷ 100 ∷ 97 ∷ 116 ∷ 97 ∷ 2 ∷ 0 ∷ 0 ∷ 0 ∷ 1 ∷ 0 ∷ []

-- a fmt chunk of n bytes and its pad byte; those behind the first sixteen are x
abbrev sized : ℕ → ℕ → List ℕ
sized n x = fmt_of n (take (n + n % 2) (mono ++ replicate n x))

-- in each order of fmt and data, without and with a byte after the RIFF end: refused with m; accepted, or refused with 42, 41, 41
abbrev sized_refused : ℕ → ℕ → Bool
sized_refused m n =
    every (λ c. strict_refused m (file c) && strict_refused m (file c ++ (0 ∷ []))) ((sized n 0 ++ pcm 2) ∷ (pcm 2 ++ sized n 0) ∷ [])

abbrev sized_accepted : ℕ → ℕ → Bool
sized_accepted n x =
    strict 1 8000 (28 + n) 2 (file (sized n x ++ pcm 2)) && strict_refused 42 (file (sized n x ++ pcm 2) ++ (0 ∷ []))
    && strict_refused 41 (file (pcm 2 ++ sized n x)) && strict_refused 41 (file (pcm 2 ++ sized n x) ++ (0 ∷ []))

-- fmt neither 16 nor 18 long: 17, 19, 20, 40, and sizes that end in the byte 16 or 18; 14 and 15 are 24, as in plain reading, and another
-- encoding is 27. Before 41 and 42. The last two of 18 bytes may be anything
abbrev strict40 : Bool
strict40 =
    every (λ n. sized_refused 24 n) (14 ∷ 15 ∷ []) && every (λ n. sized_refused 40 n) (17 ∷ 19 ∷ 20 ∷ 40 ∷ 272 ∷ 274 ∷ [])
    && sized_accepted 16 0 && every (λ x. sized_accepted 18 x) (0 ∷ 22 ∷ 255 ∷ []) && strict 1 8000 46 2 (extended 22 0)
    && every (λ n. strict_refused 27 (file (fmt_of n (fields 65534 1 8000 16000 2 16 ++ replicate (n - 16) 0) ++ pcm 2))) (18 ∷ 40 ∷ [])

-- data before fmt, of any size, next to it or not; other chunks may stand anywhere. Before 42
abbrev strict41 : Bool
strict41 =
    every (λ n. strict_refused 41 (file (pcm n ++ fmt mono)) && strict 1 8000 44 n (file (fmt mono ++ pcm n))) (0 ∷ 2 ∷ 16 ∷ 20 ∷ [])
    && strict_refused 41 (file (list_of 40 (replicate 40 0) ++ pcm 2 ++ other ++ fmt mono))
    && strict 1 8000 64 2 (file (other ++ fmt mono ++ other ++ pcm 2 ++ other))
    && strict_refused 41 (file (pcm 2 ++ fmt mono) ++ (0 ∷ []))

-- bytes after RIFF end
abbrev strict42 : Bool
strict42 =
    strict_refused 42 (file good ++ (0 ∷ [])) && strict_refused 42 (file good ++ good) && strict_refused 42 (riff 36 (fmt mono ++ pcm 0 ++ other))
    && strict 1 8000 44 2 (file good) && strict 2 44100 44 4 (file (fmt stereo ++ pcm 4))

-- ---- the sample bytes, shown as a part of the file: none where the call refuses

abbrev shown : Bool
shown =
    let s = file (fmt mono ++ data_of 4 (1 ∷ 2 ∷ 3 ∷ 4 ∷ []) ++ other) in
    same_bytes (part_of s (read_wave s)) (1 ∷ 2 ∷ 3 ∷ 4 ∷ []) && same_bytes (part_of s (read_strict s)) (1 ∷ 2 ∷ 3 ∷ 4 ∷ [])
    && same_bytes (part_of s (refused 20 [])) []

-- ---- the samples

-- output too short: the length needed is returned; a last odd byte needs no place
abbrev load13 : Bool
load13 =
    let loads : List ℕ → ℕ → List ℤ → Bool = λ bytes room samples. gives (same_samples samples) (samples_call bytes room) in
    refuses 13 (1 ∷ []) (samples_call (1 ∷ 0 ∷ []) 0) && refuses 13 (1 ∷ []) (samples_call (1 ∷ 0 ∷ 9 ∷ []) 0)
    && refuses 13 (3 ∷ []) (samples_call (1 ∷ 0 ∷ 2 ∷ 0 ∷ 3 ∷ 0 ∷ []) 2)
    && loads [] 0 [] && loads (9 ∷ []) 0 [] && loads (1 ∷ 0 ∷ []) 1 (pos 1 ∷ []) && loads (1 ∷ 0 ∷ 9 ∷ []) 1 (pos 1 ∷ [])
    && loads (255 ∷ 127 ∷ 0 ∷ 128 ∷ 255 ∷ 255 ∷ []) 3 (pos 32767 ∷ negsuc 32767 ∷ negsuc 0 ∷ [])
    && loads (3 ∷ 2 ∷ []) 100 (pos 515 ∷ [])

abbrev pub pinned : Bool
pinned =
    accepted && read20 && read21 && read22 && read23 && read24 && read25 && read26 && read27 && read28 && read29 && read30 && read31 && read32
    && read33 && each && strict40 && strict41 && strict42 && shown && load13
