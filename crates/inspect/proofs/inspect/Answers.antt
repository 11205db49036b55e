-- `inspect::inspect` meets its contract: the header's checks, and then the fragments'. Assumes nothing.
use mathlib.Core.Path.{sym}
use Rattle.sqv4_format.proofs.Accepted.{headed}
use Rattle.sqv4_format.proofs.Sizes.{channels_few}
use Rattle.inspect.proofs.inspect.Goals as goal

pub invariant_of-check_fragments : goal.invariant_of-check_fragments
invariant_of-check_fragments c =
    let g = headed c.args.file.now _ (sym c.in_ok-header.ensures) in
    record { channels = (channels_few _ _ g.channels).0; whole = g.size }
