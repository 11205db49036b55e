-- The table of refusals: the paper's number and returned numbers for each cause, and what the code answers, read by them. No two answers
-- have the same reading (proofs/Table.antt). Assumes nothing.
use Rattle.std.specs.Prelude.{◌≡◌, ℕ, List, [], ◌∷◌, length}
use Rattle.std.specs.declared.result.Result.{Result}
use Rattle.std.specs.declared.result.Result.TheVariants.{Ok, Err}
use Rattle.outcome.specs.Outcome.{Outcome, result, refused, on_result, output_after}
use Rattle.outcome.specs.declared.ReturnedNumbers.{ReturnedNumbers}
use Rattle.outcome.specs.declared.ReturnedNumbers.TheVariants.{Zero, One, Two}
use Rattle.outcome.specs.declared.Error.{Error}
use Rattle.outcome.specs.declared.Error.TheVariants.{InvalidChannels, ZeroSampleRate, MisalignedInterleavedSamples, TooManySamples, TruncatedHeader, InvalidMagic, UnsupportedVersion, InvalidVariant, InvalidReservedByte, InvalidFileLength, InvalidStepIndex, NonZeroPadding, OutputTooShort, InvalidFragment, InvalidState, NotWave, RiffEnd, ChunkHeader, ChunkEnd, FormatChunk, DataChunk, NoFormat, Encoding, WaveChannels, ZeroWaveRate, ByteRate, Inconsistent, NoData, PartialFrame, WriterChannels, DataSize, RiffSize, WriterByteRate, InputSize, StrictFormat, StrictOrder, StrictEnd}

abbrev pub number_of : Error → ℕ
number_of (InvalidChannels byte) = 1
number_of ZeroSampleRate = 2
number_of MisalignedInterleavedSamples = 3
number_of TooManySamples = 4
number_of TruncatedHeader = 5
number_of InvalidMagic = 6
number_of (UnsupportedVersion byte) = 7
number_of (InvalidVariant byte) = 8
number_of (InvalidReservedByte byte) = 9
number_of (InvalidFileLength expected actual) = 10
number_of (InvalidStepIndex byte) = 11
number_of NonZeroPadding = 12
number_of (OutputTooShort needed) = 13
number_of InvalidFragment = 14
number_of InvalidState = 15
number_of NotWave = 20
number_of RiffEnd = 21
number_of ChunkHeader = 22
number_of ChunkEnd = 23
number_of FormatChunk = 24
number_of DataChunk = 25
number_of NoFormat = 26
number_of Encoding = 27
number_of WaveChannels = 28
number_of ZeroWaveRate = 29
number_of ByteRate = 30
number_of Inconsistent = 31
number_of NoData = 32
number_of PartialFrame = 33
number_of WriterChannels = 34
number_of DataSize = 35
number_of RiffSize = 36
number_of WriterByteRate = 37
number_of InputSize = 38
number_of StrictFormat = 40
number_of StrictOrder = 41
number_of StrictEnd = 42

-- most return none
abbrev pub values_of : Error → List ℕ
values_of (InvalidChannels byte) = byte ∷ []
values_of (UnsupportedVersion byte) = byte ∷ []
values_of (InvalidVariant byte) = byte ∷ []
values_of (InvalidReservedByte byte) = byte ∷ []
values_of (InvalidFileLength expected actual) = expected ∷ actual ∷ []
values_of (InvalidStepIndex byte) = byte ∷ []
values_of (OutputTooShort needed) = needed ∷ []
values_of e = []

-- returned numbers, as the code gives them
abbrev pub listed : ReturnedNumbers → List ℕ
listed Zero = []
listed (One a) = a ∷ []
listed (Two a b) = a ∷ b ∷ []

abbrev pub refusal : {A : Type 0} → Error → Outcome A
refusal e = refused (number_of e) (values_of e)

-- what the code answers, read as what the call gives
abbrev pub answered : {A : Type 0} → Result A Error → Outcome A
answered (Ok a) = result a
answered (Err e) = refusal e

-- the promise of a call that fills a lent output, and answers how much of it: answer and output are those of what the call gives
pub record Gives {A : Type 0} (o : Outcome (List A)) (out : List A) (answer : Result ℕ Error) (output : List A) : Type 0 where
  pub answered : answered answer ≡ on_result length o
  pub output_left : output ≡ output_after o out
