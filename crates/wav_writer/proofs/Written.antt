-- What the writer promises, by the ways in which it returns. Assumes nothing.
use mathlib.Core.Path.{◌≡◌, refl, sym, ◌∙◌, ap}
use mathlib.Core.List.{List, ◌++◌, append_assoc}
use Prim.Native.Nat.{ℕ, ◌+◌, ◌*◌, ◌-◌}
use lib.IntN.{ℤ}
use lib.ListN.{length, take, drop, length-append}
use lib.Seq.{take_at, drop_at, drop-drop}
use Rattle.std.specs.declared.result.Result.TheVariants.{Ok}
use Rattle.outcome.specs.Outcome.{result}
use Rattle.outcome.proofs.Table.{gives_result}
use Rattle.outcome.specs.Table.{Gives}
use Rattle.digits.specs.Digits.{digits}
use Rattle.lists.proofs.Parts.{tail_all, tail_put}
use Rattle.wav_writer.specs.Writer.{wave_header, sample_bytes, wave_bytes, write_call}
use Rattle.wav_writer.proofs.SampleLoop.{length_samples}

pub length-header : (channels rate size : ℕ) → length (wave_header channels rate size) ≡ 44
unfolding wave_header digits
length-header channels rate size = refl

pub length-wave : (channels rate : ℕ) (samples : List ℤ) → length (wave_bytes channels rate samples) ≡ 44 + 2 * length samples
unfolding wave_bytes
length-wave channels rate samples = rw (length-append, length-header, length_samples)

module _ (channels rate : ℕ) (samples : List ℤ) (out : List ℕ) where
  abbrev size : ℕ
  size = 2 * length samples

  -- the output with the header copied to its front
  abbrev headed : List ℕ → List ℕ
  headed header = header ++ drop 44 out

  -- the samples' bytes go into the part behind it
  pub as_written : (header tail : List ℕ) → result (wave_bytes channels rate samples) ≡ write_call channels rate samples (length out)
      → header ≡ wave_header channels rate size → tail ≡ sample_bytes samples ++ drop size (take (length (headed header) - 44) (drop 44 (headed header)))
      → Gives (write_call channels rate samples (length out)) out (Ok (44 + 2 * length samples)) (take 44 (headed header) ++ (tail ++ drop (length (headed header) - 44) (drop 44 (headed header))))
  unfolding wave_bytes
  as_written header tail q eh et =
      let all = wave_bytes channels rate samples in
      let long : length header ≡ 44 = ap length eh ∙ length-header channels rate size in
      let front : take 44 (headed header) ≡ wave_header channels rate size = take_at header (drop 44 out) 44 long ∙ eh in
      let back : drop 44 (headed header) ≡ drop 44 out = drop_at header (drop 44 out) 44 long in
      let rest : tail ≡ sample_bytes samples ++ drop (44 + size) out =
      et ∙ ap (λ l. sample_bytes samples ++ drop size l) (tail_all 44 (headed header) ∙ back) ∙ ap (λ l. sample_bytes samples ++ l) (drop-drop size 44 out) in
      gives_result all q (sym (length-wave channels rate samples))
      (tail_put 44 (headed header) rest
      ∙ ap (λ l. l ++ (sample_bytes samples ++ drop (44 + size) out)) front
      ∙ sym (append_assoc (wave_header channels rate size) (sample_bytes samples) (drop (44 + size) out)))
