-- What plain reading says of the files that it accepts, and how it refuses the others. Assumes nothing.
use mathlib.Core.Path.{◌≡◌, refl, subst}
use mathlib.Core.Bool.{true, false}
use mathlib.Core.List.{List, []}
use Prim.Native.Nat.{ℕ, zero, suc, ◌%◌, ◌≤◌}
use lib.Dec.{T, leb, eqb}
use Rattle.std.specs.Prelude.{Option, Some, None}
use borrow.Author.Tests.{leb-true}
use Rattle.outcome.proofs.Flags.{T_true}
use Rattle.outcome.specs.Outcome.{result, Refusing}
use Rattle.outcome.proofs.Laws.{cleared, passed, then_passed, refusals, refusing_branch, refusing_then}
use Rattle.wav_format.specs.Wave.{chunk_step, walk_for, walk, frame_bytes, one_or_two, check_format, wave_of, found, check_data, check_chunks, riff_end, read_wave}
use Rattle.parts.specs.declared.Part.{Part}
use Rattle.wav_format.specs.declared.Format.{Format}
use Rattle.wav_format.specs.declared.Chunks.{Chunks}
use Rattle.wav_format.specs.declared.Wave.{Wave}

-- one channel or two, some rate, and whole frames
pub record Plain (w : Wave) : Type 0 where
  pub channels : one_or_two w.channels ≡ true
  pub rate : eqb w.rate 0 ≡ false
  pub whole : eqb (w.samples.size % frame_bytes w.channels) 0 ≡ true

data_plain : (end : ℕ) (f : Format) (data_part : Option Part) (w : Wave) → one_or_two f.channels ≡ true → eqb f.rate 0 ≡ false
    → check_data end f data_part (frame_bytes f.channels) ≡ result w → Plain w
unfolding check_data
data_plain end f data_part w two some e =
    let p = then_passed _ _ e in
    let whole = passed _ _ _ _ p.2 in
    let last : result (wave_of end f p.0) ≡ result w = whole.1 in
    let same : wave_of end f p.0 ≡ w = cc in
    subst Plain same (record { channels = two; rate = some; whole = whole.0 })

pub plain : (s : List ℕ) (w : Wave) → read_wave s ≡ result w → Plain w
unfolding read_wave check_chunks check_format
plain s w e =
    let p = cleared _ _ _ _ (cleared _ _ _ _ (passed _ _ _ _ (passed _ _ _ _ (cleared _ _ _ _ e).1).1).1).1 in
    let walked = then_passed _ _ p.1 in
    let format = then_passed _ _ walked.2 in
    let frame = then_passed _ _ format.2 in
    let two = passed _ _ _ _ (passed _ _ _ _ frame.1).1 in
    let some = cleared _ _ _ _ two.1 in
    let fits : result (frame_bytes format.0.channels) ≡ result frame.0 = (passed _ _ _ _ (cleared _ _ _ _ some.1).1).1 in
    let bytes : frame.0 ≡ frame_bytes format.0.channels = cc in
    data_plain (riff_end s) format.0 walked.0.samples w two.0 some.0 (rw bytes at frame.2)

-- its refusals are 20 to 33, and return no numbers
abbrev pub PlainRefusal : ℕ → List ℕ → Type 0
PlainRefusal n vs = (20 ≤ n) × (n ≤ 33) × (vs ≡ [])

-- a number of the table from 20 to 33
of_table : (n : ℕ) → T (leb 20 n) → T (leb n 33) → PlainRefusal n []
of_table n low high = (leb-true 20 n (T_true _ low), leb-true n 33 (T_true _ high), refl)

found_refusals : {A : Type 0} (o : Option A) (n : ℕ) → PlainRefusal n [] → Refusing PlainRefusal (found o n)
unfolding found Refusing
found_refusals (Some a) n p = tt
found_refusals None n p = p

chunk_refusals : (s : List ℕ) (end : ℕ) (c : Chunks) → Refusing PlainRefusal (chunk_step s end c)
unfolding chunk_step Refusing
chunk_refusals s end c = search (refusals, of_table, tt) depth 20

walk_refusals : (n : ℕ) (s : List ℕ) (end : ℕ) (c : Chunks) → Refusing PlainRefusal (walk_for n s end c)
unfolding walk_for Refusing
walk_refusals zero s end c = tt
walk_refusals (suc n) s end c = refusing_branch PlainRefusal _ _ _ (refusing_then PlainRefusal _ _ (chunk_refusals s end c) (λ d e. walk_refusals n s end d)) tt

pub plain_refusals : (s : List ℕ) → Refusing PlainRefusal (read_wave s)
unfolding read_wave walk check_chunks check_format check_data Refusing
plain_refusals s = search (refusals, of_table, found_refusals, walk_refusals, tt) depth 40
