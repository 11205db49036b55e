-- The worked cases of 01 by one computed check, another for what they leave open, a third for the refusals. Assumes nothing.
use lib.Dec.{T}
use Rattle.sqv4_format.specs.Compute.{computing}
use Rattle.sqv4_format.specs.Cases.{cases, further, ramp, weighted}
use Rattle.sqv4_format.specs.Refusals.{pinned}

pub cases_hold : T cases
unfolding ramp computing
cases_hold = tt

pub further_hold : T further
unfolding weighted computing
further_hold = tt

pub pinned_hold : T pinned
unfolding computing
pinned_hold = tt
