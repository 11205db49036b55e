-- `unfolding computing` opens every definition, for a check that is computed. Assumes nothing.
use Rattle.outcome.specs.Outcome.{refuse_if, need, and_then, on_result, in_order, output_after}
use Rattle.outcome.specs.Tests.{gives, accepts, refuses}
use Rattle.lists.specs.Lists.{tabulate, joined, least}
use Rattle.lists.specs.Tests.{eq_z, same_list}
use Rattle.digits.specs.Digits.{number, digits}
use Rattle.signed.specs.Signed.{is_neg, with_sign, on_magnitude, clamp16, clamp_to}
use Rattle.sqv4_format.specs.Tables.{steps, h_index_adjust, l_index_adjust, l_levels, l_plus_levels, legacy_l_plus_levels}
use Rattle.sqv4_format.specs.Layout.{known_version, channels_fit, variant_of, header_bytes, header_of, frames, count, fragment_at_place}
use Rattle.sqv4_format.specs.Step.{step_at, h_size, l_size, level_of, difference, unclamped_predictor, unclamped_index, stepped}
use Rattle.sqv4_format.specs.Gain.{pregained, peak, normalised, output_gain}
use Rattle.sqv4_format.specs.Decode.{fragment_start, codes_of, after, decoded_fragment, state_before, channel_sample, decoded, fragment_fits, state_fits, fragment_call, state_left, moves, called}
use Rattle.sqv4_format.specs.Encode.{h_code, l_code, trial_step, trial_to, best_trial, fragment_bytes, encoded_fragment, channel, header_written, fragment_for, encoded, too_many, encode_call}
use Rattle.sqv4_format.specs.Inspect.{same_letters, field_checks, header_checks, index_too_high, unused_zero, fragment_checks, inspected, decode_call}

unfoldable pub computing : Unit {0}
unfolding refuse_if need and_then on_result in_order output_after tabulate joined least eq_z same_list gives accepts refuses number digits is_neg with_sign on_magnitude clamp16
    clamp_to steps h_index_adjust l_index_adjust l_levels l_plus_levels legacy_l_plus_levels known_version channels_fit variant_of header_bytes header_of frames
    count fragment_at_place step_at h_size l_size level_of difference unclamped_predictor unclamped_index stepped pregained peak normalised
    output_gain fragment_start codes_of after decoded_fragment state_before channel_sample decoded fragment_fits state_fits fragment_call
    state_left moves called h_code l_code trial_step trial_to best_trial fragment_bytes encoded_fragment channel header_written fragment_for encoded
    too_many encode_call same_letters field_checks header_checks index_too_high unused_zero fragment_checks inspected decode_call
computing = tt
