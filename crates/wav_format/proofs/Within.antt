-- The samples of an accepted file lie in the file and are a chunk's contents; what strict reading makes of a file. Assumes nothing.
use mathlib.Core.Path.{◌≡◌, refl, sym, ◌∙◌, ap, subst}
use mathlib.Core.Logic.{◌⊎◌, ◌≢◌, ⊎_elim}
use mathlib.Core.Bool.{true}
use mathlib.Core.List.{List, []}
use Prim.Native.Nat.{ℕ, ◌+◌, ◌≤◌}
use native.Mathlib.Nat.{le_of_eq}
use native.Mathlib.Omega.{arith}
use borrow.Author.Tests.{ltb-false, ne_eqb}
use lib.ListN.{length}
use Rattle.std.specs.Prelude.{Some}
use Rattle.outcome.specs.Outcome.{result, refused}
use Rattle.outcome.proofs.Laws.{checks, fail, cleared, passed, then_result, then_refused, then_passed}
use Rattle.wav_format.specs.Wave.{first_chunk, walk, wave_of, check_data, check_chunks, riff_end, read_wave, strict_size, check_strict, read_strict}
use Rattle.parts.specs.declared.Part.{Part}
use Rattle.wav_format.specs.declared.Format.{Format}
use Rattle.wav_format.specs.declared.Chunks.{Chunks}
use Rattle.wav_format.specs.declared.Wave.{Wave}
use Rattle.wav_format.proofs.Steps.{Inside, was_found, stepped, kept}
use Rattle.wav_format.proofs.Found.{Contents, walk_found}

chunks_wave : (end : ℕ) (c : Chunks) (w : Wave) → check_chunks end c ≡ result w
    → (f : Format) × (p : Part) × (c.format ≡ Some f) × (c.samples ≡ Some p) × (wave_of end f p ≡ w)
unfolding check_chunks check_data
chunks_wave end c w e =
    let format = then_passed _ _ e in
    let frame = then_passed _ _ format.2 in
    let part = then_passed _ _ frame.2 in
    let last : result (wave_of end format.0 part.0) ≡ result w = (passed _ _ _ _ part.2).1 in
    (format.0, part.0, was_found _ _ format.1, was_found _ _ part.1, cc)

-- a file that plain reading accepts: its RIFF end lies in it, and what is said of it comes from the chunks up to there
record Through (s : List ℕ) (w : Wave) : Type 0 where
  chunks : Chunks
  format : Format
  samples : Part
  inside : riff_end s ≤ length s
  walked_to : walk s (riff_end s) ≡ result chunks
  formatted : chunks.format ≡ Some format
  there : chunks.samples ≡ Some samples
  said : wave_of (riff_end s) format samples ≡ w

through : (s : List ℕ) (w : Wave) → read_wave s ≡ result w → Through s w
unfolding read_wave
through s w e =
    let p = cleared _ _ _ _ (cleared _ _ _ _ (passed _ _ _ _ (passed _ _ _ _ (cleared _ _ _ _ e).1).1).1).1 in
    let t = then_passed _ _ p.1 in
    let said = chunks_wave (riff_end s) t.0 w t.2 in
    record {
      chunks = t.0;
      format = said.0;
      samples = said.1;
      inside = omega (arith, ltb-false);
      walked_to = t.1;
      formatted = said.2;
      there = said.3;
      said = said.4;
    }

-- the samples of a file that plain reading accepts lie in the file
pub samples_within : (s : List ℕ) (w : Wave) → read_wave s ≡ result w → w.samples.start + w.samples.size ≤ length s
unfolding walk
samples_within s w e =
    let t = through s w e in
    let end = riff_end s in
    let before = rw t.there at (kept s end (λ (c : Chunks). Inside end c.samples) (λ c d h step. (stepped s end c d step).samples_inside h) end first_chunk t.chunks tt t.walked_to) in
    subst (λ (x : Wave). x.samples.start + x.samples.size ≤ length s) t.said (omega (arith, t.inside))

-- what is said of its end is the RIFF end
pub end_said : (s : List ℕ) (w : Wave) → read_wave s ≡ result w → w.end ≡ riff_end s
end_said s w e = subst (λ (x : Wave). x.end ≡ riff_end s) (through s w e).said refl

-- the fmt chunk and the samples of a file that plain reading accepts are the contents of chunks
pub format_found : (s : List ℕ) (w : Wave) → read_wave s ≡ result w → Contents s 102 109 116 32 w.format
format_found s w e =
    let t = through s w e in
    subst (λ (x : Wave). Contents s 102 109 116 32 x.format) t.said ((walk_found s (riff_end s) t.chunks t.walked_to).format t.format t.formatted)

pub samples_found : (s : List ℕ) (w : Wave) → read_wave s ≡ result w → Contents s 100 97 116 97 w.samples
samples_found s w e =
    let t = through s w e in
    subst (λ (x : Wave). Contents s 100 97 116 97 x.samples) t.said ((walk_found s (riff_end s) t.chunks t.walked_to).samples t.samples t.there)

-- ---- strict reading

-- what plain reading refuses it refuses in the same way
pub strict_refused_lem : (s : List ℕ) (n : ℕ) (vs : List ℕ) → read_wave s ≡ refused n vs → read_strict s ≡ refused n vs
unfolding read_strict
strict_refused_lem s n vs e = sym (then_refused _ _ _ _ (sym e))

-- what it gives, plain reading gives
pub strict_read : (s : List ℕ) (w : Wave) → read_strict s ≡ result w → read_wave s ≡ result w
unfolding read_strict check_strict
strict_read s w e =
    let t = then_passed _ _ e in
    let last : result t.0 ≡ result w = (cleared _ _ _ _ (cleared _ _ _ _ (passed _ _ _ _ t.2).1).1).1 in
    t.1 ∙ last

-- a fmt chunk of another size it refuses with 40
pub strict_size_refused : (s : List ℕ) (w : Wave) → read_wave s ≡ result w → w.format.size ≢ 16 → w.format.size ≢ 18 → read_strict s ≡ refused 40 []
unfolding read_strict check_strict strict_size
strict_size_refused s w e plain extended = sym (then_result _ _ _ _ (sym e) (fail _ _ _ _ (rw (ne_eqb _ _ plain, ne_eqb _ _ extended))))

-- it accepts one of 16 or 18 bytes where data is not before fmt and nothing stands after the RIFF end
pub strict-accepted : (s : List ℕ) (w : Wave) → read_wave s ≡ result w → (w.format.size ≡ 16) ⊎ (w.format.size ≡ 18)
    → w.format.start ≤ w.samples.start → length s ≡ riff_end s → read_strict s ≡ result w
unfolding read_strict check_strict strict_size
strict-accepted s w e fmt order ends =
    let long : strict_size w.format.size ≡ true = ⊎_elim (λ h. ap strict_size h) (λ h. ap strict_size h) fmt in
    let whole : length s ≤ w.end = le_of_eq (ends ∙ sym (end_said s w e)) in
    sym (then_result _ _ _ _ (sym e) (search checks depth 12))
