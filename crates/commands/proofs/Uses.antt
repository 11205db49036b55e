-- The claims at work, from their statements. Assumes nothing.
use mathlib.Core.Path.{◌≡◌, refl, sym, ◌∙◌, ap}
use mathlib.Core.List.{List, []}
use Prim.Native.Nat.{ℕ, zero, suc, ◌<◌}
use native.Mathlib.Omega.{arith}
use native.Mathlib.Decide.{dec_lt}
use lib.ListN.{length, take, drop, get_or, length-drop}
use Rattle.outcome.specs.Outcome.{Refusing}
use Rattle.outcome.proofs.Laws.{refusing_if, refusing_then, refusing_so}
use Rattle.sqv4_format.specs.Layout.{variant_of}
use Rattle.wav_format.proofs.Plain.{PlainRefusal}
use Rattle.commands.specs.Commands.{converted, reported}
use Rattle.commands.specs.declared.TheConstants.{READ_AT_MOST}
use Rattle.commands.proofs.Printing.{long_refused}
use Rattle.commands.proofs.Claims as claims

-- what the converter refuses with another number than 38 and 8 is refused by plain reading: its numbers are 38, 8 and 20 to 33
abbrev pub ConverterRefusal : ℕ → List ℕ → Type 0
ConverterRefusal n vs = (n ≡ 38 → ⊥) → (n ≡ 8 → ⊥) → PlainRefusal n vs

variant_refusals : (byte : ℕ) → Refusing ConverterRefusal (variant_of byte)
unfolding Refusing variant_of
variant_refusals zero = tt
variant_refusals (suc zero) = tt
variant_refusals (suc (suc zero)) = tt
variant_refusals (suc (suc (suc n))) = λ other eight. absurd (eight refl)

too_long : ConverterRefusal 38 []
too_long other eight = absurd (other refl)

pub converter_refusals : (input : List ℕ) → Refusing ConverterRefusal (converted input)
unfolding converted Refusing
converter_refusals input = go (dec_lt 65536 (length input))
  where
    go : Dec (65536 < length input) → Refusing ConverterRefusal (converted input)
    go (yes more) = rw (← long_refused input more) too_long
    go (no few) =
        refusing_if ConverterRefusal _ _ _ _ too_long
        (refusing_if ConverterRefusal _ _ _ _ too_long
        (refusing_then ConverterRefusal _ _ (variant_refusals (get_or input 0 0))
        (λ v e. refusing_so PlainRefusal ConverterRefusal (λ n vs p other eight. p) _ (claims.wave_refusals _ (drop 2 input) (simp length-drop (omega arith))))))

-- two inputs that are the same as far as a program reads are converted, and reported, alike
pub converted_alike : (a b : List ℕ) → take READ_AT_MOST a ≡ take READ_AT_MOST b → converted a ≡ converted b
converted_alike a b e = sym (claims.convert_reads_enough a) ∙ ap converted e ∙ claims.convert_reads_enough b

pub reported_alike : (a b : List ℕ) → take READ_AT_MOST a ≡ take READ_AT_MOST b → reported a ≡ reported b
reported_alike a b e = sym (claims.report_reads_enough a) ∙ ap reported e ∙ claims.report_reads_enough b
