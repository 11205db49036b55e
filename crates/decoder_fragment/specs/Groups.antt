-- Codes and bytes in groups of the same bits. Assumes nothing.
use Rattle.std.specs.Prelude.{◌≡◌, ℕ, ◌*◌, ◌/◌, ◌≤◌, ◌<◌}

-- a group has `bytes` bytes and as many bits in `codes` codes; the groups are all of `length` bytes, and hold 64 codes
pub record Groups (bits bytes codes length : ℕ) : Type 0 where
  pub bits_few : bits ≤ 8
  pub bytes_some : 0 < bytes
  pub bytes_few : bytes ≤ 8
  pub same : bits * codes ≡ 8 * bytes
  pub whole : length / bytes * bytes ≡ length
  pub full : length / bytes * codes ≡ 64
