-- The loop over the samples, two bytes a turn, gives the definition's bytes. Assumes nothing.
use mathlib.Core.Path.{◌≡◌, refl, sym, ◌∙◌}
use mathlib.Core.List.{List, ◌++◌}
use Prim.Native.Nat.{ℕ, ◌+◌, ◌-◌, ◌*◌}
use native.Mathlib.Omega.{arith}
use native.Mathlib.Numerals.{add-one}
use lib.IntN.{ℤ, pos}
use lib.ListN.{length, get_or, take, drop}
use Rattle.lists.specs.Lists.{joined, written}
use Rattle.lists.proofs.ByIndex.{length-joined}
use Rattle.lists.proofs.Parts.{written_front, written_none, more_written}
use Rattle.digits.specs.Digits.{stored}
use Rattle.digits.proofs.Laws.{length_digits}
use Rattle.signed.specs.Signed.{to_twos}
use Rattle.wav_writer.specs.Writer.{sample_bytes}

module _ (samples : List ℤ) where
  -- the bytes of sample i, and of the first i samples
  abbrev bytes_of : ℕ → List ℕ
  bytes_of i = stored 2 (to_twos (get_or samples i (pos 0)))

  abbrev first : ℕ → List ℕ
  first i = joined bytes_of i

  length_first : (i : ℕ) → length (first i) ≡ 2 * i
  length_first i = length-joined bytes_of 2 (λ j. length_digits 8 2 (to_twos (get_or samples j (pos 0)))) i ∙ (omega arith)

  pub length_samples : length (sample_bytes samples) ≡ 2 * length samples
  unfolding sample_bytes
  length_samples = length_first (length samples)

  module _ (o : List ℕ) where
    -- after i samples
    pub record Writing (i : ℕ) (out : List ℕ) : Type 0 where
      pub out_is : out ≡ written o 0 (joined (λ i. stored 2 (to_twos (get_or samples i (pos 0)))) i)

    pub writing_none : Writing 0 o
    unfolding joined
    writing_none = record { out_is = sym (written_none o 0) }

    -- one sample more
    pub writing_more : (i at len : ℕ) {out bytes : List ℕ} → at ≡ 2 * i → len ≡ 2 → Writing i out → bytes ≡ bytes_of i
        → Writing (i + 1) (take at out ++ (bytes ++ drop (at + len - at) (drop at out)))
    unfolding joined
    writing_more i at len ea el w e =
        let from : at ≡ 0 + length (first i) = omega (arith, ea, length_first i) in
        record { out_is = rw add-one (more_written o 0 (omega arith) (first i) (bytes_of i) from (el ∙ sym (length_digits 8 2 _)) w.out_is e) }

    pub writing_all : {i : ℕ} {out : List ℕ} → Writing i out → i ≡ length samples → out ≡ sample_bytes samples ++ drop (2 * length samples) o
    unfolding sample_bytes
    writing_all w e = w.out_is ∙ rw e (written_front o (first (length samples)) ∙ rw length_samples refl)
