-- The number of each kind of question. Assumes nothing.
use Rattle.std.specs.Prelude.{ℕ}
use Rattle.records.specs.declared.kind.Kind.{Kind}
use Rattle.records.specs.declared.kind.Kind.TheVariants.{Encoder, Inspection, Decoder, WaveReader, Converter, Inspector, FragmentDecoder, WaveWriter, StrictReader, SampleReader}

abbrev pub number_of : Kind → ℕ
number_of Encoder = 1
number_of Inspection = 2
number_of Decoder = 3
number_of WaveReader = 4
number_of Converter = 5
number_of Inspector = 6
number_of FragmentDecoder = 7
number_of WaveWriter = 8
number_of StrictReader = 9
number_of SampleReader = 10
