-- Where the chunks of a file begin, and which are fmt chunks of 18 bytes, the extended form of 02. Assumes nothing.
use Rattle.std.specs.Prelude.{◌≡◌, ℕ, zero, suc, true, List}
use Rattle.wav_format.specs.Wave.{letters_at, size_at, padded_end}

-- where chunk k of a file begins, counted from 0: the first at 12, each other behind the one before it
unfoldable pub chunk_start : List ℕ → ℕ → ℕ
chunk_start s zero = 12
chunk_start s (suc k) = padded_end (chunk_start s k) (size_at s (chunk_start s k))

-- chunk k is a fmt chunk of 18 bytes
pub record FmtOf18 (s : List ℕ) (k : ℕ) : Type 0 where
  pub letters : letters_at s (chunk_start s k) 102 109 116 32 ≡ true
  pub size : size_at s (chunk_start s k) ≡ 18
