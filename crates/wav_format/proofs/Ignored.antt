-- Files that differ only behind the first sixteen bytes of a fmt chunk are read alike, and show the same samples. Assumes nothing.
use mathlib.Core.Path.{◌≡◌, refl, subst}
use mathlib.Core.Bool.{true}
use mathlib.Core.List.{List}
use Prim.Native.Nat.{ℕ, zero, suc, ◌+◌, ◌≤◌, ◌<◌}
use native.Mathlib.Omega.{arith}
use native.Mathlib.Decide.{dec_lt, dec_le}
use lib.ListN.{get_or, take, drop}
use borrow.Author.Tests.{eqb-true}
use Rattle.lists.specs.Lists.{SameBut}
use Rattle.lists.proofs.Parts.{same_before, same_behind, same_place}
use Rattle.outcome.proofs.Flags.{both_left}
use Rattle.outcome.specs.Outcome.{Outcome, result, refused, and_then}
use Rattle.wav_format.specs.Wave.{letters_at, format_at, chunk_step, first_chunk, walk_for, walk, riff_end, read_wave, check_strict, read_strict, part_of}
use Rattle.wav_format.specs.Extended.{chunk_start, FmtOf18}
use Rattle.parts.specs.declared.Part.{Part}
use Rattle.parts.specs.Parts.{part_in}
use Rattle.wav_format.specs.declared.Chunks.{Chunks}
use Rattle.wav_format.specs.declared.Wave.{Wave}
use Rattle.wav_format.proofs.Found.{next_start, starts_rise, Contents, Found, found_first, found_next}
use Rattle.wav_format.proofs.Within.{samples_found, strict_read}

module _ (s t : List ℕ) where
  -- each part of the n bytes from p on is the same
  abbrev Same : ℕ → ℕ → Type 0
  Same p n = (q m : ℕ) → p ≤ q → q + m ≤ p + n → take m (drop q t) ≡ take m (drop q s)

  same_letters : (p a b c d : ℕ) → Same p 4 → letters_at t p a b c d ≡ letters_at s p a b c d
  unfolding letters_at
  same_letters p a b c d same =
      let byte : (q : ℕ) → p ≤ q → q < p + 4 → get_or t q 0 ≡ get_or s q 0 = λ q low high. same_place s t q 0 (same q 1 low (omega arith)) in
      rw (byte p (omega arith) (omega arith), byte (p + 1) (omega arith) (omega arith), byte (p + 2) (omega arith) (omega arith), byte (p + 3) (omega arith) (omega arith))

  -- of a chunk reading looks at 24 bytes, the header and what fmt begins with
  same_step : (end : ℕ) (c : Chunks) → Same c.at 24 → chunk_step t end c ≡ chunk_step s end c
  unfolding chunk_step format_at
  same_step end c same =
      let letters : Same c.at 4 = λ q m low high. same q m low (omega arith) in
      let part : (i m : ℕ) → i + m ≤ 16 → take m (drop (c.at + 8 + i) t) ≡ take m (drop (c.at + 8 + i) s) = λ i m h. same (c.at + 8 + i) m (omega arith) (omega arith) in
      rw (
        same (c.at + 4) 4 (omega arith) (omega arith),
        same_letters c.at 102 109 116 32 letters,
        same_letters c.at 100 97 116 97 letters,
        same (c.at + 8) 2 (omega arith) (omega arith),
        part 2 2 (omega arith),
        part 4 4 (omega arith),
        part 8 4 (omega arith),
        part 12 2 (omega arith),
        part 14 2 (omega arith),
      )

module _ (s t : List ℕ) (k : ℕ) (fmt : letters_at s (chunk_start s k) 102 109 116 32 ≡ true) (same : SameBut (chunk_start s k + 24) (chunk_start s (suc k)) s t) where
  same_head : (c : Chunks) → Found s c → Same s t c.at 24
  same_head c f = go (dec_le f.number k)
    where
      go : Dec (f.number ≤ k) → Same s t c.at 24
      go (yes l) q m low high = same_before same q m (omega (arith, f.at, starts_rise s f.number k l))
      go (no l) q m low high = same_behind same q m (omega (arith, f.at, starts_rise s (suc k) f.number (omega arith)))

  same_walk : (end n : ℕ) (c : Chunks) → Found s c → walk_for n t end c ≡ walk_for n s end c
  unfolding walk_for and_then
  same_walk end zero c f = refl
  same_walk end (suc n) c f = rw (same_step s t end c (same_head c f), turn (chunk_step s end c) refl (same_walk end n))
    where
      turn : (o : Outcome Chunks) → chunk_step s end c ≡ o → ((d : Chunks) → Found s d → walk_for n t end d ≡ walk_for n s end d)
          → and_then o (walk_for n t end) ≡ and_then o (walk_for n s end)
      turn (result d) e ih = ih d (found_next s end c d f e)
      turn (refused i vs) e ih = refl

  same_riff : (q m : ℕ) → q + m ≤ 12 → take m (drop q t) ≡ take m (drop q s)
  unfolding chunk_start
  same_riff q m h = same_before same q m (omega (arith, starts_rise s 0 k (omega arith)))

  same_read : read_wave t ≡ read_wave s
  unfolding read_wave walk
  same_read =
      rw (
        same.long,
        same_letters s t 0 82 73 70 70 (λ q m low high. same_riff q m (omega arith)),
        same_letters s t 8 87 65 86 69 (λ q m low high. same_riff q m (omega arith)),
        same_riff 4 4 (omega arith),
        same_walk (riff_end s) (riff_end s) first_chunk (found_first s),
      )

  -- and so are the bytes of each data chunk, which is not the fmt chunk
  same_part : (p : Part) → Contents s 100 97 116 97 p → part_in t p ≡ part_in s p
  unfolding letters_at
  same_part p c = go (dec_lt c.number k) (dec_lt k c.number)
    where
      go : Dec (c.number < k) → Dec (k < c.number) → part_in t p ≡ part_in s p
      go (yes l) m = same_before same p.start p.size (omega (arith, c.start, c.size, next_start s c.number, starts_rise s (suc c.number) k l))
      go (no l) (yes m) = same_behind same p.start p.size (omega (arith, c.start, starts_rise s (suc k) c.number m))
      go (no l) (no m) =
          let one : c.number ≡ k = omega arith in
          let first : (x : ℕ) → (b y z : ℕ) → letters_at s (chunk_start s k) x b y z ≡ true → get_or s (chunk_start s k) 0 ≡ x = λ x b y z e. eqb-true _ _ (both_left _ _ (both_left _ _ (both_left _ _ e))) in
          let f = first 102 109 116 32 fmt in
          let d = first 100 97 116 97 (subst (λ (n : ℕ). letters_at s (chunk_start s n) 100 97 116 97 ≡ true) one c.letters) in
          let no : ⊥ = omega (arith, f, d) in
          absurd no

  same_shown : (o : Outcome Wave) → ((w : Wave) → o ≡ result w → Contents s 100 97 116 97 w.samples) → part_of t o ≡ part_of s o
  unfolding part_of
  same_shown (result w) h = same_part w.samples (h w refl)
  same_shown (refused n vs) h = refl

  same_checks : (o : Outcome Wave) → and_then o (check_strict t) ≡ and_then o (check_strict s)
  unfolding and_then check_strict
  same_checks (result w) = rw same.long
  same_checks (refused n vs) = refl

  same_strict : read_strict t ≡ read_strict s
  unfolding read_strict
  same_strict = rw same_read (same_checks (read_wave s))

  same_strict_shown : part_of t (read_strict t) ≡ part_of s (read_strict s)
  same_strict_shown = rw same_strict (same_shown (read_strict s) (λ w e. samples_found s w (strict_read s w e)))

-- a fmt chunk of 18 bytes ends two bytes behind its first sixteen
pub two_bytes_ignored : (s t : List ℕ) (k : ℕ) → FmtOf18 s k → SameBut (chunk_start s k + 8 + 16) (chunk_start s k + 8 + 18) s t
    → (read_strict t ≡ read_strict s) × (part_of t (read_strict t) ≡ part_of s (read_strict s))
two_bytes_ignored s t k f same =
    let from : chunk_start s k + 8 + 16 ≡ chunk_start s k + 24 = omega arith in
    let to : chunk_start s k + 8 + 18 ≡ chunk_start s (suc k) = omega (arith, next_start s k, f.size) in
    let same : SameBut (chunk_start s k + 24) (chunk_start s (suc k)) s t = rw (from, to) at same in
    (same_strict s t k f.letters same, same_strict_shown s t k f.letters same)
