-- `commands::report` meets its contract. Assumes nothing.
use Rattle.commands.proofs.Printing.{stream_too_long}
use Rattle.commands.specs.Commands.{reported}
use Rattle.commands.proofs.report.Goals as goal

pub returns : goal.returns
returns c =
    let p = c.print.ensures (reported c.args.input.now) (stream_too_long c.args.input.now) (λ lent answer after given. given) in
    record { prefix_len = p.0; put = p.1 }
