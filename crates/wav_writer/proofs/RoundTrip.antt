-- A written file is read back, plainly and strictly, and its samples are those that were written. Assumes nothing.
use mathlib.Core.Path.{◌≡◌, refl, sym, ◌∙◌, ap}
use mathlib.Core.Logic.{inl}
use mathlib.Core.Bool.{true}
use mathlib.Core.List.{List}
use Prim.Native.Nat.{ℕ, suc, ◌+◌, ◌*◌, ◌-◌, ◌/◌, ◌%◌, ◌≤◌, ◌<◌}
use native.Mathlib.Nat.{mod-eq_of_lt, mul-le-mul_left, le_of_eq, le_refl}
use native.Mathlib.Omega.{arith}
use borrow.Author.Tests.{le-ltb, lt-ltb, eq-eqb, ne_eqb, ltb-false, eqb-true}
use lib.Dec.{eqb}
use lib.IntN.{ℤ, pos}
use lib.Signed.{mag}
use lib.ListN.{length, get_or, take, drop}
use lib.Seq.{drop_at, take_all}
use Rattle.std.specs.Prelude.{Some, None}
use Rattle.outcome.specs.Outcome.{result}
use Rattle.outcome.proofs.Flags.{both_true, either_elim}
use Rattle.outcome.proofs.Laws.{clear, pass, first_way, second_way, cleared, passed, then_result}
use Rattle.lists.specs.Lists.{tabulate}
use Rattle.lists.proofs.ByIndex.{joined-part, tabulate_ext, tabulate-get_or}
use Rattle.digits.specs.Digits.{stored, number, field}
use Rattle.digits.proofs.Laws.{number_digits, length_digits}
use Rattle.signed.specs.Signed.{to_twos, of_twos}
use Rattle.signed.proofs.Twos.{of_to, to_lt}
use Rattle.wav_format.specs.Wave.{frame_bytes, one_or_two, format_at, first_chunk, chunk_step, walk_for, walk, pcm16, consistent, check_format, found, check_data, check_chunks, read_wave, read_strict, part_of}
use Rattle.wav_format.specs.Samples.{samples_of}
use Rattle.wav_format.specs.declared.Format.{Format}
use Rattle.wav_format.specs.declared.Chunks.{Chunks}
use Rattle.wav_format.specs.declared.Wave.{Wave}
use Rattle.wav_format.proofs.Claims.{strict-accepts}
use Rattle.wav_format.proofs.Steps.{one_or_two_is}
use Rattle.wav_format.proofs.Within.{end_said}
use Rattle.wav_writer.specs.Writer.{wave_header, sample_bytes, wave_bytes, write_call}
use Rattle.wav_writer.proofs.SampleLoop.{length_samples}
use Rattle.wav_writer.proofs.Written.{length-header, length-wave}
use Rattle.wav_writer.proofs.Fields.{Fields, header-fields}

-- what reading a written file gives: `size` bytes of samples behind the header
abbrev pub wave_read : ℕ → ℕ → ℕ → Wave
wave_read channels rate size =
    record { channels = channels; rate = rate; samples = record { start = 44; size = size }; format = record { start = 20; size = 16 }; end = 44 + size }

-- ---- reading a file by the fields that its header has

module _ (channels rate n : ℕ) where
  abbrev size : ℕ
  size = 2 * n

  abbrev format : Format
  format =
      record {
        part = record { start = 20; size = 16 };
        encoding = 1;
        channels = channels;
        rate = rate;
        byte_rate = rate * frame_bytes channels;
        align = frame_bytes channels;
        bits = 16;
      }

  -- the chunks after fmt, and after data
  abbrev one : Chunks
  one = record { at = 36; format = Some format; samples = None }

  abbrev two : Chunks
  two = record { at = 44 + size; format = Some format; samples = Some (record { start = 44; size = size }) }

  module _ (s : List ℕ) (f : Fields s channels rate (2 * n)) where
    format_is : format_at s 20 16 ≡ format
    unfolding format_at
    format_is = rw (f.encoding, f.channels_at, f.rate_at, f.byte_rate, f.align, f.bits)

    step_fmt : chunk_step s (44 + size) first_chunk ≡ result one
    unfolding chunk_step
    step_fmt =
        let a : 8 ≤ 44 + size - 12 = omega arith in
        let b : 36 ≤ 44 + size = omega arith in
        rw (f.fmt_size, format_is)
        (sym (clear _ _ _ _ _ (le-ltb _ _ a)
        (clear _ _ _ _ _ (le-ltb _ _ b)
        (first_way _ _ _ _ f.fmt
        (clear _ _ _ _ _ refl (clear _ _ _ _ _ refl refl))))))

    step_data : chunk_step s (44 + size) one ≡ result two
    unfolding chunk_step
    step_data =
        let e : 36 + 8 + size + size % 2 ≡ 44 + size = omega arith in
        let a : 8 ≤ 44 + size - 36 = omega arith in
        rw (f.data_size, e)
        (sym (clear _ _ _ _ _ (le-ltb _ _ a)
        (clear _ _ _ _ _ (le-ltb (44 + size) _ (le_refl _))
        (second_way _ _ _ _ f.not_fmt
        (first_way _ _ _ _ f.data_letters
        (clear _ _ _ _ _ refl refl))))))

    -- two chunks, and the end
    walk_three : (k : ℕ) → walk_for (suc (suc (suc k))) s (44 + size) first_chunk ≡ result two
    unfolding walk_for
    walk_three k =
        let a : 12 < 44 + size = omega arith in
        let b : 36 < 44 + size = omega arith in
        sym (first_way _ _ _ _ (lt-ltb _ _ a)
        (then_result _ one _ _ (sym step_fmt)
        (first_way _ _ _ _ (lt-ltb _ _ b)
        (then_result _ two _ _ (sym step_data)
        (second_way _ _ _ _ (le-ltb (44 + size) _ (le_refl _)) refl)))))

    walk_whole : walk s (44 + size) ≡ result two
    unfolding walk
    walk_whole = let e : 44 + size ≡ suc (suc (suc (41 + size))) = omega arith in ap (λ k. walk_for k s (44 + size) first_chunk) e ∙ walk_three (41 + size)

    module _ (fit : one_or_two channels ≡ true) (some : 0 < rate) (few : rate * frame_bytes channels ≤ 4294967295) (even : size % frame_bytes channels ≡ 0) where
      same_rates : consistent channels rate (rate * frame_bytes channels) (frame_bytes channels) ≡ true
      unfolding consistent
      same_rates = both_true _ _ (eq-eqb (frame_bytes channels) _ refl) (eq-eqb (rate * frame_bytes channels) _ refl)

      format_checked : check_format 1 channels rate (rate * frame_bytes channels) (frame_bytes channels) 16 ≡ result (frame_bytes channels)
      unfolding check_format pcm16
      format_checked =
          let nonzero : (rate ≡ 0 → ⊥) = λ e. omega arith in
          sym (pass _ _ _ _ _ refl
          (pass _ _ _ _ _ fit
          (clear _ _ _ _ _ (ne_eqb _ _ nonzero)
          (clear _ _ _ _ _ (le-ltb _ _ few)
          (pass _ _ _ _ _ same_rates refl)))))

      chunks_checked : check_chunks (44 + size) two ≡ result (wave_read channels rate size)
      unfolding check_chunks check_data found
      chunks_checked =
          sym (then_result _ format _ _ refl
          (then_result _ (frame_bytes channels) _ _ (sym format_checked)
          (then_result _ (record { start = 44; size = size }) _ _ refl
          (pass _ _ _ _ _ (eq-eqb _ _ even) refl))))

      pub wave_read_lem : length s ≡ 44 + 2 * n → read_wave s ≡ result (wave_read channels rate (2 * n))
      unfolding read_wave
      wave_read_lem l =
          let e : size + 36 + 8 ≡ 44 + size = omega arith in
          let a : 12 ≤ length s = omega arith in
          let b : 12 ≤ 44 + size = omega arith in
          rw (f.riff_size, e)
          (sym (clear _ _ _ _ _ (le-ltb _ _ a)
          (pass _ _ _ _ _ f.riff
          (pass _ _ _ _ _ f.wave
          (clear _ _ _ _ _ (le-ltb _ _ b)
          (clear _ _ _ _ _ (le-ltb _ _ (le_of_eq (sym l)))
          (then_result _ two _ _ (sym walk_whole) (sym chunks_checked))))))))

-- ---- the samples

module _ (samples : List ℤ) (small : (i : ℕ) → i < length samples → mag (get_or samples i (pos 0)) ≤ 32767) where
  sample_back : (i : ℕ) → i < length samples → of_twos (field 2 (2 * i) (sample_bytes samples)) ≡ get_or samples i (pos 0)
  unfolding sample_bytes
  sample_back i h =
      let z = get_or samples i (pos 0) in
      let e : 2 * i ≡ i * 2 = omega arith in
      ap (λ k. of_twos (field 2 k (sample_bytes samples))) e
      ∙ ap (λ l. of_twos (number 8 l)) (joined-part (λ i. stored 2 (to_twos (get_or samples i (pos 0)))) 2 (λ j. length_digits 8 2 (to_twos (get_or samples j (pos 0)))) (length samples) i h)
      ∙ ap of_twos (number_digits 8 2 (to_twos z) ∙ mod-eq_of_lt (to_lt z (small i h)))
      ∙ of_to z (small i h)

  -- from the samples' bytes the samples are read back
  pub samples_written : samples_of (sample_bytes samples) ≡ samples
  unfolding samples_of
  samples_written =
      let e : length (sample_bytes samples) / 2 ≡ length samples = omega (arith, length_samples samples) in
      ap (tabulate (λ i. of_twos (field 2 (2 * i) (sample_bytes samples)))) e
      ∙ tabulate_ext _ _ (length samples) sample_back
      ∙ tabulate-get_or samples (pos 0)

-- ---- a written file

-- what the writer has checked where it gives a result
record Accepted (channels rate : ℕ) (samples : List ℤ) (bytes : List ℕ) : Type 0 where
  fit : one_or_two channels ≡ true
  riff_few : 2 * length samples + 36 ≤ 4294967295
  rate_few : rate * frame_bytes channels ≤ 4294967295
  bytes_are : bytes ≡ wave_bytes channels rate samples

accepted : (channels rate : ℕ) (samples : List ℤ) (room : ℕ) {bytes : List ℕ} → write_call channels rate samples room ≡ result bytes → Accepted channels rate samples bytes
unfolding write_call
accepted channels rate samples room {bytes} q =
    let a = passed _ _ _ _ q in
    let b = cleared _ _ _ _ a.1 in
    let d = cleared _ _ _ _ b.1 in
    let e = cleared _ _ _ _ d.1 in
    let g = cleared _ _ _ _ e.1 in
    record { fit = a.0; riff_few = ltb-false _ _ d.0; rate_few = ltb-false _ _ e.0; bytes_are = cc }

-- a rate is below its byte rate
rate_below : (channels rate : ℕ) → one_or_two channels ≡ true → rate ≤ rate * frame_bytes channels
rate_below channels rate e = let h = one_or_two_is channels e in omega (arith, mul-le-mul_left {m = 1} {n = channels * 2} rate (omega arith))

-- whole frames have whole bytes
whole_bytes : (channels n : ℕ) → one_or_two channels ≡ true → n % channels ≡ 0 → 2 * n % frame_bytes channels ≡ 0
unfolding one_or_two
whole_bytes channels n e h =
    either_elim (eqb channels 1) (eqb channels 2)
    (λ t. let k = eqb-true channels 1 t in rw k (omega arith))
    (λ t. let k = eqb-true channels 2 t in let m = rw k at h in rw k (omega arith)) e

module _ (channels rate : ℕ) (samples : List ℤ) (room : ℕ) {bytes : List ℕ} (q : write_call channels rate samples room ≡ result bytes) where
  fields : Fields bytes channels rate (2 * length samples)
  unfolding wave_bytes
  fields =
      let a = accepted channels rate samples room q in
      let few = one_or_two_is channels a.fit in
      rw a.bytes_are
      (header-fields channels rate (2 * length samples) (sample_bytes samples)
      (record {
        channels_fit_lem = omega arith;
        rate_fits = omega (arith, a.rate_few, rate_below channels rate a.fit);
        byte_rate_fits = omega (arith, a.rate_few);
        riff_fits = omega (arith, a.riff_few);
      }))

  pub length_written : length bytes ≡ 44 + 2 * length samples
  length_written = ap length (accepted channels rate samples room q).bytes_are ∙ length-wave channels rate samples

  module _ (some : 0 < rate) (whole : length samples % channels ≡ 0) where
    -- it is accepted, with the channels and the rate that were written, and its samples behind the header
    pub read-written : read_wave bytes ≡ result (wave_read channels rate (2 * length samples))
    read-written =
        let a = accepted channels rate samples room q in
        wave_read_lem channels rate (length samples) bytes fields a.fit some a.rate_few (whole_bytes channels (length samples) a.fit whole) length_written

    -- strict reading gives the same
    pub strict-written : read_strict bytes ≡ result (wave_read channels rate (2 * length samples))
    strict-written =
        strict-accepts bytes (wave_read channels rate (2 * length samples)) read-written (inl refl) (omega arith) (length_written ∙ end_said bytes _ read-written)

    -- the part of the file that is shown is the samples' bytes
    pub part-written : part_of bytes (read_wave bytes) ≡ sample_bytes samples
    unfolding part_of wave_bytes
    part-written =
        let a = accepted channels rate samples room q in
        let size : ℕ = 2 * length samples in
        ap (part_of bytes) read-written
        ∙ ap (λ s. take size (drop 44 s)) a.bytes_are
        ∙ ap (take size) (drop_at (wave_header channels rate size) (sample_bytes samples) 44 (length-header channels rate size))
        ∙ take_all size (sample_bytes samples) (le_of_eq (length_samples samples))

    -- and from it the samples are read back
    pub samples-read : ((i : ℕ) → i < length samples → mag (get_or samples i (pos 0)) ≤ 32767) → samples_of (part_of bytes (read_wave bytes)) ≡ samples
    samples-read small = ap samples_of part-written ∙ samples_written samples small
