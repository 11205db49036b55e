-- `commands::convert` meets its contract. Assumes nothing.
use Rattle.commands.proofs.Printing.{long_refused}
use Rattle.commands.specs.Commands.{converted}
use Rattle.commands.proofs.convert.Goals as goal

pub returns : goal.returns
returns c =
    let p = c.print.ensures (converted c.args.input.now) (long_refused c.args.input.now) (λ lent answer after given. given) in
    record { prefix_len = p.0; put = p.1 }
