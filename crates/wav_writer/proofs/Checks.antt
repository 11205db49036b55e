-- The cases of each refusal by one computed check. Assumes nothing.
use lib.Dec.{T}
use Rattle.outcome.specs.Outcome.{refuse_if, need}
use Rattle.outcome.specs.Tests.{gives, accepts, refuses}
use Rattle.lists.specs.Lists.{joined}
use Rattle.lists.specs.Tables.{every}
use Rattle.lists.specs.Tests.{same_list}
use Rattle.digits.specs.Digits.{digits}
use Rattle.signed.specs.Signed.{to_twos}
use Rattle.wav_format.specs.Wave.{one_or_two}
use Rattle.wav_writer.specs.Writer.{wave_header, sample_bytes, wave_bytes, write_call}
use Rattle.wav_writer.specs.Cases.{pinned}

pub pinned_hold : T pinned
unfolding refuse_if need gives accepts refuses joined every same_list digits to_twos one_or_two wave_header sample_bytes wave_bytes write_call
pinned_hold = tt
