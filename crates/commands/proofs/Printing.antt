-- What the functions print, case by case, and that it fits. Assumes nothing.
use mathlib.Core.Path.{◌≡◌, refl, sym, ap, ◌∙◌}
use mathlib.Core.Bool.{Bool, true, false, cond}
use mathlib.Core.List.{List, []}
use Prim.Native.Nat.{ℕ, ◌+◌, ◌-◌, ◌*◌, ◌/◌, ◌≤◌, ◌<◌}
use native.Mathlib.Nat.{mul-le-mul_left, zero-add}
use native.Mathlib.Omega.{arith}
use lib.Dec.{eqb}
use lib.IntN.{ℤ}
use lib.ListN.{length, get_or, take, drop, length-take, length-drop}
use lib.Seq.{take_at, length-take-le}
use borrow.Author.Tests.{le-ltb, eqb-true}
use Rattle.outcome.specs.Outcome.{Outcome, result, refused, refuse_if, need, on_result, output_after}
use Rattle.outcome.proofs.Flags.{either_elim}
use Rattle.outcome.proofs.Laws.{checks, clear, then_result, then_refused, on_result_lem}
use Rattle.sqv4_format.specs.Layout.{variant_of, anew, version_for, channels_fit, payload_bytes, frames, size_in, stream_length}
use Rattle.sqv4_format.specs.Encode.{header_written, encode_call}
use Rattle.sqv4_format.specs.Inspect.{inspected}
use Rattle.sqv4_format.specs.declared.Header.{Header}
use Rattle.sqv4_format.specs.declared.Settings.{Settings}
use Rattle.sqv4_format.specs.declared.Variant.{Variant}
use Rattle.sqv4_format.proofs.Sizes.{payload_few}
use Rattle.parts.specs.Parts.{part_in}
use Rattle.wav_format.specs.Wave.{read_wave, part_of}
use Rattle.wav_format.specs.Samples.{samples_of, samples_call}
use Rattle.outcome.specs.Table.{number_of, values_of, Gives}
use Rattle.outcome.proofs.Table.{given}
use Rattle.wav_format.specs.declared.Wave.{Wave}
use Rattle.outcome.specs.declared.Error.{Error}
use Rattle.wav_format.proofs.Claims.{load_accepts}
use Rattle.wav_samples.proofs.Samples.{length_samples}
use Rattle.io.specs.Counts.{IsPrefixLen}
use Rattle.lists.specs.Lists.{written}
use Rattle.text.specs.Text.{Put}
use Rattle.text.proofs.Laws.{put_ends}
use Rattle.std.specs.declared.result.Result.TheVariants.{Ok, Err}
use Rattle.lists.proofs.Parts.{tail_all}
use Rattle.commands.specs.Commands.{printed, encode_whole, encode_wave, converted, report, reported}
use Rattle.report_lines.specs.Lines.{refusal_line}

-- ---- what a program gives

module _ {o : Outcome (List ℕ)} {out : List ℕ} where
  pub gives_text : {text after : List ℕ} {next : ℕ} → result text ≡ o → Put out 0 text after next → Gives o out (Ok next) after
  unfolding on_result output_after written
  gives_text e p = rw (← e) (record { answered = ap result (p.place ∙ zero-add _); output_left = p.output ∙ rw zero-add refl })

-- a text that is given is printed, and of what is refused its line
module _ {out output : List ℕ} where
  pub prints_text : (o : Outcome (List ℕ)) {n : ℕ} → Gives o out (Ok n) output → Put out 0 (printed o) output n
  unfolding printed on_result output_after written
  prints_text (result text) {n} g = let same : n ≡ length text = let e = g.answered in cc in record { place = rw zero-add same; output = rw zero-add g.output_left }
  prints_text (refused m vs) g = let e = g.answered in let z : ◌≡◌ {A = ℕ} 0 1 = cc in let no : ⊥ = omega arith in absurd no

  pub prints_line : (o : Outcome (List ℕ)) (r : Error) {after : List ℕ} {next : ℕ} → Gives o out (Err r) output
      → Put output 0 (refusal_line (number_of r) (values_of r)) after next → Put out 0 (printed o) after next
  unfolding printed on_result output_after
  prints_line (result text) r g p = let e = g.answered in let z : ◌≡◌ {A = ℕ} 0 1 = cc in let no : ⊥ = omega arith in absurd no
  prints_line (refused m ws) r g p =
      let e = g.answered in
      let number : number_of r ≡ m = cc in
      let values : values_of r ≡ ws = cc in
      rw (← number, ← values, ← g.output_left) p

-- the text, and its count in an output that has kept its length
pub counted : {out after text : List ℕ} {next : ℕ} → Put out 0 text after next → length after ≡ length out → IsPrefixLen next after × Put out 0 text after next
counted {after = after} {next = next} p e = let ends : next ≤ length after = put_ends p e in ((ends, sym (length-take-le next after ends)), p)

-- ---- the fragments' lines

-- a fragment has at least 25 bytes, so that a stream of at most 65,536 bytes has at most 2,620
fragment_large : (h : Header) → 25 ≤ size_in h
fragment_large h = omega (arith, payload_few h.variant, more (anew h.version))
  where
    more : (b : Bool) → 1 ≤ cond b 2 1
    more true = omega arith
    more false = omega arith

pub fragments_few : (h : Header) → stream_length h ≤ 65536 → frames h * h.channels ≤ 2620
fragments_few h l = omega (arith, mul-le-mul_left (frames h * h.channels) (fragment_large h))

-- ---- sample bytes

module _ (bytes : List ℕ) (out output : List ℤ) (room : length bytes / 2 ≤ length out) where
  pub loaded : (n : ℕ) → Gives (samples_call bytes (length out)) out (Ok n) output → (n ≡ length bytes / 2) × (take n output ≡ samples_of bytes)
  loaded n p =
      let g = given (load_accepts bytes (length out) room) p in
      (g.0 ∙ length_samples bytes, rw g.1 (take_at (samples_of bytes) _ n (sym g.0)))

-- ---- the encoder

module _ (k : Settings) (pcm : List ℤ) (channels rate : ℕ) (few : length pcm ≤ 32768) where
  frames_few : channels_fit (version_for channels) channels ≡ true → frames (header_written k pcm channels rate) * channels ≤ 522
  unfolding channels_fit header_written frames
  frames_few =
      either_elim (eqb channels 1) (eqb channels 2)
      (λ e. rw (eqb-true channels 1 e) (omega arith)) (λ e. rw (eqb-true channels 2 e) (omega arith))

  needed_few : channels_fit (version_for channels) channels ≡ true → stream_length (header_written k pcm channels rate) ≤ 335488
  unfolding header_written
  needed_few e =
      let h = header_written k pcm channels rate in
      omega (arith, frames_few e, mul-le-mul_left (frames h * channels) (small k.variant), payload_few k.variant)
    where
      small : (v : Variant) → 2 + payload_bytes v ≤ 34
      small v = omega (arith, payload_few v)

  pub room_enough : (room : ℕ) → 335488 ≤ room → encode_call k pcm channels rate room ≡ encode_whole k pcm channels rate
  unfolding encode_call encode_whole need refuse_if
  room_enough room enough = go (channels_fit (version_for channels) channels) refl
    where
      needed : ℕ
      needed = stream_length (header_written k pcm channels rate)

      go : (b : Bool) → channels_fit (version_for channels) channels ≡ b → encode_call k pcm channels rate room ≡ encode_whole k pcm channels rate
      go false e = rw e refl
      go true e = rw (le-ltb room needed (omega (arith, needed_few e)), le-ltb needed needed (omega arith)) refl

-- ---- the programs' own checks

module _ (input : List ℕ) where
  pub short_refused : length input < 2 → refused 38 [] ≡ converted input
  unfolding converted
  short_refused short = search checks depth 12

  pub long_refused : 65536 < length input → refused 38 [] ≡ converted input
  unfolding converted
  long_refused long = clear _ _ _ _ _ (le-ltb (length input) 2 (omega arith)) (search checks depth 12)

  module _ (two : 2 ≤ length input) (few : length input ≤ 65536) where
    pub variant_refused : {n : ℕ} {vs : List ℕ} → refused n vs ≡ variant_of (get_or input 0 0) → refused n vs ≡ converted input
    unfolding converted
    variant_refused e = clear _ _ _ _ _ (le-ltb _ _ two) (clear _ _ _ _ _ (le-ltb _ _ few) (then_refused _ _ _ _ e))

    module _ (v : Variant) (known : result v ≡ variant_of (get_or input 0 0)) where
      abbrev k : Settings
      k = record { variant = v; gain = get_or input 1 0 }

      abbrev file : List ℕ
      file = take (length input - 2) (drop 2 input)

      rest : encode_wave k file ≡ converted input
      unfolding converted
      rest = rw tail_all (clear _ _ _ _ _ (le-ltb _ _ two) (clear _ _ _ _ _ (le-ltb _ _ few) (then_result _ v _ _ known refl)))

      pub wave_refused : {n : ℕ} {vs : List ℕ} → refused n vs ≡ read_wave file → refused n vs ≡ converted input
      unfolding encode_wave
      wave_refused e = then_refused _ _ _ _ e ∙ rest

      pub part_few : (w : Wave) → length (part_in file w.samples) / 2 ≤ 32768
      part_few w = simp (length-take, length-drop) (omega arith)

      -- the encoder has all the room that it needs
      pub wave_encoded : (w : Wave) → result w ≡ read_wave file → (room : ℕ) → 335488 ≤ room
          → encode_call k (samples_of (part_in file w.samples)) w.channels w.rate room ≡ converted input
      unfolding encode_wave part_of
      wave_encoded w e room enough = room_enough k _ w.channels w.rate (rw length_samples (part_few w)) room enough ∙ then_result (read_wave file) w _ _ e refl ∙ rest

module _ (d : List ℕ) where
  pub stream_too_long : 65536 < length d → refused 38 [] ≡ reported d
  unfolding reported
  stream_too_long l = search checks depth 12

  pub stream_reported : {h : Header} → length d ≤ 65536 → result h ≡ inspected d → result (report d h) ≡ reported d
  unfolding reported
  stream_reported few e = clear _ _ _ _ _ (le-ltb _ _ few) (sym (on_result_lem _ _ (sym e)))
