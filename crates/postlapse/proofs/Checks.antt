-- The cases of the calls for lengths by one computed check. Assumes nothing.
use lib.Dec.{T}
use Rattle.outcome.specs.Outcome.{need, and_then}
use Rattle.outcome.specs.Tests.{gives, accepts, refuses}
use Rattle.lists.specs.Tables.{every}
use Rattle.lists.specs.Tests.{same_list}
use Rattle.sqv4_format.specs.Layout.{known_version, channels_fit, variant_of, frames}
use Rattle.postlapse.specs.Lengths.{fragment_size_for_c, frame_count_for_c, stream_length_for_c}
use Rattle.postlapse.specs.Cases.{pinned}

pub pinned_hold : T pinned
unfolding need and_then gives accepts refuses every same_list known_version channels_fit variant_of frames fragment_size_for_c
    frame_count_for_c stream_length_for_c
pinned_hold = tt
