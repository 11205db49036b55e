-- No two answers have the same reading: a program that gives another answer gives another outcome; and what a call that fills an output
-- promises, by the ways in which it returns. Assumes nothing.
use mathlib.Core.Path.{◌≡◌, refl, sym, ◌∙◌, ap}
use mathlib.Core.List.{List, [], ◌∷◌, ◌++◌}
use Prim.Native.Nat.{ℕ}
use lib.ListN.{length, get_or, drop}
use Rattle.std.specs.Result.{IsErrAnd}
use Rattle.std.specs.declared.result.Result.{Result}
use Rattle.std.specs.declared.result.Result.TheVariants.{Ok, Err}
use Rattle.outcome.specs.Outcome.{Outcome, result, on_result, output_after}
use Rattle.outcome.proofs.Laws.{one_way}
use Rattle.outcome.specs.Table.{number_of, values_of, refusal, answered, Gives}
use Rattle.outcome.specs.declared.Error.{Error}
use Rattle.outcome.specs.declared.Error.TheVariants.{InvalidChannels, ZeroSampleRate, MisalignedInterleavedSamples, TooManySamples, TruncatedHeader, InvalidMagic, UnsupportedVersion, InvalidVariant, InvalidReservedByte, InvalidFileLength, InvalidStepIndex, NonZeroPadding, OutputTooShort, InvalidFragment, InvalidState, NotWave, RiffEnd, ChunkHeader, ChunkEnd, FormatChunk, DataChunk, NoFormat, Encoding, WaveChannels, ZeroWaveRate, ByteRate, Inconsistent, NoData, PartialFrame, WriterChannels, DataSize, RiffSize, WriterByteRate, InputSize, StrictFormat, StrictOrder, StrictEnd}

-- the error of a number and its returned numbers: by the numbers 0 to 42, of which those that the table has not stand for the last
error_of : ℕ → List ℕ → Error
error_of n vs =
    let a = get_or vs 0 0 in
    get_or
    (StrictEnd ∷ InvalidChannels a ∷ ZeroSampleRate ∷ MisalignedInterleavedSamples ∷ TooManySamples ∷ TruncatedHeader ∷
    InvalidMagic ∷ UnsupportedVersion a ∷ InvalidVariant a ∷ InvalidReservedByte a ∷ InvalidFileLength a (get_or vs 1 0) ∷
    InvalidStepIndex a ∷ NonZeroPadding ∷ OutputTooShort a ∷ InvalidFragment ∷ InvalidState ∷ StrictEnd ∷ StrictEnd ∷ StrictEnd ∷
    StrictEnd ∷ NotWave ∷ RiffEnd ∷ ChunkHeader ∷ ChunkEnd ∷ FormatChunk ∷ DataChunk ∷ NoFormat ∷ Encoding ∷ WaveChannels ∷
    ZeroWaveRate ∷ ByteRate ∷ Inconsistent ∷ NoData ∷ PartialFrame ∷ WriterChannels ∷ DataSize ∷ RiffSize ∷ WriterByteRate ∷
    InputSize ∷ StrictEnd ∷ StrictFormat ∷ StrictOrder ∷ StrictEnd ∷ [])
    n
    StrictEnd

back : (e : Error) → error_of (number_of e) (values_of e) ≡ e
unfolding error_of
back (InvalidChannels byte) = refl
back ZeroSampleRate = refl
back MisalignedInterleavedSamples = refl
back TooManySamples = refl
back TruncatedHeader = refl
back InvalidMagic = refl
back (UnsupportedVersion byte) = refl
back (InvalidVariant byte) = refl
back (InvalidReservedByte byte) = refl
back (InvalidFileLength expected actual) = refl
back (InvalidStepIndex byte) = refl
back NonZeroPadding = refl
back (OutputTooShort needed) = refl
back InvalidFragment = refl
back InvalidState = refl
back NotWave = refl
back RiffEnd = refl
back ChunkHeader = refl
back ChunkEnd = refl
back FormatChunk = refl
back DataChunk = refl
back NoFormat = refl
back Encoding = refl
back WaveChannels = refl
back ZeroWaveRate = refl
back ByteRate = refl
back Inconsistent = refl
back NoData = refl
back PartialFrame = refl
back WriterChannels = refl
back DataSize = refl
back RiffSize = refl
back WriterByteRate = refl
back InputSize = refl
back StrictFormat = refl
back StrictOrder = refl
back StrictEnd = refl

pub error_once : (a b : Error) → number_of a ≡ number_of b → values_of a ≡ values_of b → a ≡ b
error_once a b e f = sym (back a) ∙ rw (e, f) (back b)

pub answer_once : {A : Type 0} (r s : Result A Error) → answered r ≡ answered s → r ≡ s
answer_once (Ok a) (Ok b) e = cc
answer_once (Ok a) (Err f) e = cc
answer_once (Err f) (Ok b) e = cc
answer_once (Err f) (Err g) e = ap Err (error_once f g (cc) (cc))

-- a `?` passes an error on as it is
pub passed_on : {A : Type 0} (r : Result A Error) (e : Error) (o : Outcome A) → IsErrAnd r (λ f. f ≡ e) → refusal e ≡ o → answered r ≡ o
passed_on (Ok a) e o h k = absurd h
passed_on (Err f) e o h k = rw h k

-- ---- a call that fills an output

module _ {A : Type 0} {o : Outcome (List A)} {out : List A} where
  pub gives_refused : (e : Error) → refusal e ≡ o → Gives o out (Err e) out
  unfolding on_result output_after
  gives_refused e q = record { answered = rw (← q); output_left = rw (← q) }

  -- a `?` passes the refusal on
  pub gives_passed_on : (e : Error) (r : Result ℕ Error) → IsErrAnd r (λ f. f ≡ e) → refusal e ≡ o → Gives o out r out
  gives_passed_on e (Ok a) h q = absurd h
  gives_passed_on e (Err f) h q = rw h (gives_refused e q)

  pub gives_result : (xs : List A) {n : ℕ} {output : List A} → result xs ≡ o → n ≡ length xs → output ≡ xs ++ drop n out → Gives o out (Ok n) output
  unfolding on_result output_after
  gives_result xs q l w = record { answered = rw (← q, l); output_left = w ∙ rw (← q, l) }

  pub given : {xs : List A} {n : ℕ} {output : List A} → o ≡ result xs → Gives o out (Ok n) output → (n ≡ length xs) × (output ≡ xs ++ drop n out)
  unfolding on_result output_after
  given {xs} {n} e g =
      let same = rw e at g.answered in
      let count : n ≡ length xs = cc in
      (count, g.output_left ∙ rw (e, count))

  pub not_refused : {P : Type 0} {xs : List A} {e : Error} {output : List A} → o ≡ result xs → Gives o out (Err e) output → P
  unfolding on_result
  not_refused q g = absurd (one_way (rw q at g.answered))
