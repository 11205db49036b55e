-- `unfolding computing` opens every definition, for a check that is computed. Assumes nothing.
use Rattle.outcome.specs.Outcome.{refuse_if, need, branch, and_then}
use Rattle.outcome.specs.Tests.{gives, accepts, refuses}
use Rattle.lists.specs.Lists.{tabulate}
use Rattle.lists.specs.Tables.{every, every_at}
use Rattle.lists.specs.Tests.{eq_z, same_list}
use Rattle.digits.specs.Digits.{number, digits}
use Rattle.signed.specs.Signed.{of_twos}
use Rattle.wav_format.specs.Wave.{letters_at, format_at, chunk_step, walk_for, walk, one_or_two, pcm16, consistent, check_format, found, check_data, check_chunks, read_wave, strict_size, check_strict, read_strict, part_of}
use Rattle.wav_format.specs.Samples.{samples_of, samples_call}

unfoldable pub computing : Unit {0}
unfolding refuse_if need branch and_then gives accepts refuses tabulate every every_at eq_z same_list number digits of_twos letters_at format_at chunk_step walk_for
    walk one_or_two pcm16 consistent check_format found check_data check_chunks read_wave strict_size check_strict read_strict part_of samples_of samples_call
computing = tt
