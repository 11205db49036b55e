-- `commands::inspect` meets its contract. Assumes nothing.
use mathlib.Core.Path.{sym}
use Rattle.sqv4_format.proofs.Accepted.{accepted}
use Rattle.sqv4_format.proofs.Sizes.{channels_few}
use Rattle.commands.proofs.Printing.{gives_text, stream_reported}
use Rattle.commands.proofs.inspect.Goals as goal

pub invariant_of-put_report : goal.invariant_of-put_report
invariant_of-put_report c =
    let a = accepted _ _ (sym c.in_ok-header.ensures) in
    record { channels = (channels_few _ _ a.channels).0; whole = a.size }

pub returns : goal.returns
returns c = gives_text (stream_reported _ c.requires c.in_ok-header.ensures) c.put_report.ensures
