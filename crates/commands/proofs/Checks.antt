-- The programs' refusals and what they print, by one computed check. Assumes nothing.
use lib.Dec.{T}
use Rattle.sqv4_format.specs.Compute.{computing}
use Rattle.wav_format.specs.Compute.{computing as reading}
use Rattle.text.specs.Text.{letters, digits_of, decimal, spaced, line}
use Rattle.report_lines.specs.Lines.{refusal_line, variant_name, header_line, index_field, fragment_line}
use Rattle.commands.specs.Commands.{printed, encode_whole, encode_wave, converted, report, reported}
use Rattle.commands.specs.Cases.{pinned}

pub pinned_hold : T pinned
unfolding computing reading letters digits_of decimal spaced line refusal_line variant_name header_line index_field fragment_line
    printed encode_whole encode_wave converted report reported
pinned_hold = tt
