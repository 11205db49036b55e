-- What the programs refuse and print, and which refusals the converter can print. Assumes nothing.
use mathlib.Core.Path.{◌≡◌, refl, sym, ap, ◌∙◌}
use mathlib.Core.Bool.{true}
use mathlib.Core.List.{List}
use Prim.Native.Nat.{ℕ, ◌/◌, ◌%◌, ◌≤◌, ◌<◌}
use native.Mathlib.Nat.{div-le_self}
use native.Mathlib.Omega.{arith}
use lib.Dec.{T, eqb}
use lib.IntN.{ℤ}
use lib.ListN.{length, take, length-take, length-drop}
use lib.Seq.{take_all}
use native.Mathlib.Decide.{dec_lt}
use borrow.Author.Tests.{le-ltb, eq-eqb, eqb-true}
use Rattle.outcome.specs.Outcome.{result, refused, Refusing}
use Rattle.outcome.proofs.Flags.{either_elim}
use Rattle.outcome.proofs.Laws.{clear, pass, refusing_then}
use Rattle.outcome.proofs.Tests.{refuses_means}
use Rattle.sqv4_format.specs.Layout.{channels_fit, stream_length}
use Rattle.sqv4_format.specs.Encode.{header_written, encoded, too_many, encode_call}
use Rattle.sqv4_format.specs.declared.Settings.{Settings}
use Rattle.wav_format.specs.Wave.{frame_bytes, one_or_two, read_wave, part_of}
use Rattle.wav_format.specs.Samples.{samples_of}
use Rattle.wav_format.specs.declared.Wave.{Wave}
use Rattle.wav_format.proofs.Plain.{plain, PlainRefusal, plain_refusals}
use Rattle.wav_format.proofs.Within.{samples_within}
use Rattle.wav_samples.proofs.Samples.{length_samples}
use Rattle.commands.specs.Commands.{encode_whole, encode_wave, converted, reported}
use Rattle.commands.specs.declared.TheConstants.{READ_AT_MOST}
use Rattle.commands.proofs.Printing.{long_refused, stream_too_long}
use Rattle.commands.specs.Cases.{converter_refused, pinned}
use Rattle.commands.proofs.Checks.{pinned_hold}

-- "checks 38, then 8, then by plain WAV reading and the encoder", "checks 38, then as inspection does": each at its bound and in its place,
-- and "The file of case 3 prints", with the line of a refusal
pub refusals_pinned : T pinned
refusals_pinned = pinned_hold

-- what a passed test of the converter's refusals tells
pub refusal_tested : (n : ℕ) (vs input : List ℕ) → T (converter_refused n vs input) → converted input ≡ refused n vs
refusal_tested n vs input = refuses_means n vs _

-- ---- the encoder takes each WAV that plain reading accepts and a program can read

module _ (k : Settings) (file : List ℕ) (w : Wave) (few : length file ≤ 65536) (e : read_wave file ≡ result w) where
  abbrev samples : List ℤ
  samples = samples_of (part_of file (result w))

  count : length samples ≡ w.samples.size / 2
  unfolding part_of
  count = length_samples _ ∙ ap (λ (n : ℕ). n / 2) (simp (length-take, length-drop) (omega (arith, samples_within file w e)))

  size_few : w.samples.size ≤ 65536
  size_few = omega (arith, samples_within file w e)

  -- whole frames are whole frames of samples
  whole : (c size : ℕ) → one_or_two c ≡ true → eqb (size % frame_bytes c) 0 ≡ true → eqb (size / 2 % c) 0 ≡ true
  unfolding one_or_two
  whole c size one f =
      either_elim (eqb c 1) (eqb c 2)
      (λ h. rw (eqb-true c 1 h) (eq-eqb (size / 2 % 1) 0 (omega arith)))
      (λ h.
      let q = eqb-true c 2 h in
      let four : size % 4 ≡ 0 = eqb-true _ _ (rw q at f) in
      rw q (eq-eqb (size / 2 % 2) 0 (omega arith)))
      one

  pub wave_encodes : encode_whole k samples w.channels w.rate ≡ result (encoded k samples w.channels w.rate)
  unfolding encode_whole encode_call channels_fit too_many one_or_two
  wave_encodes =
      let p = plain file w e in
      let needed = stream_length (header_written k samples w.channels w.rate) in
      sym (pass _ _ _ _ _ p.channels
      (clear _ _ _ _ _ p.rate
      (pass _ _ _ _ _ (rw count (whole w.channels w.samples.size p.channels p.whole))
      (clear _ _ _ _ _ (le-ltb 4294967295 (length samples / w.channels) (omega (arith, div-le_self (length samples) w.channels, count, size_few)))
      (clear _ _ _ _ _ (le-ltb needed needed (omega arith)) refl)))))

-- so that past its own checks 38 and 8 the converter refuses as plain reading does: with 20 to 33, and no numbers returned
pub wave_refusals : (k : Settings) (file : List ℕ) → length file ≤ 65536 → Refusing PlainRefusal (encode_wave k file)
unfolding encode_wave Refusing
wave_refusals k file few =
    refusing_then PlainRefusal _ _ (plain_refusals file) λ w e.
    rw (wave_encodes k file w few e) tt

-- ---- a program reads one byte more than it takes: what it prints for those bytes is what it prints for the whole input

module _ (input : List ℕ) where
  read_all : length input ≤ 65536 → take READ_AT_MOST input ≡ input
  read_all few = take_all READ_AT_MOST input (omega arith)

  read_more : 65536 < length input → 65536 < length (take READ_AT_MOST input)
  read_more more = simp length-take (omega arith)

  pub convert_reads_enough : converted (take READ_AT_MOST input) ≡ converted input
  convert_reads_enough = go (dec_lt 65536 (length input))
    where
      go : Dec (65536 < length input) → converted (take READ_AT_MOST input) ≡ converted input
      go (yes more) = sym (long_refused (take READ_AT_MOST input) (read_more more)) ∙ long_refused input more
      go (no few) = ap converted (read_all (omega arith))

  pub report_reads_enough : reported (take READ_AT_MOST input) ≡ reported input
  report_reads_enough = go (dec_lt 65536 (length input))
    where
      go : Dec (65536 < length input) → reported (take READ_AT_MOST input) ≡ reported input
      go (yes more) = sym (stream_too_long (take READ_AT_MOST input) (read_more more)) ∙ stream_too_long input more
      go (no few) = ap reported (read_all (omega arith))
