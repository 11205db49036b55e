-- `text::Printer::put` meets its contract. Assumes nothing.
use mathlib.Core.Path.{refl}
use native.Mathlib.Omega.{arith}
use Rattle.text.proofs.Laws.{copied}
use Rattle.text.proofs.Printer.put.Goals as goal

pub returns : goal.returns
returns c =
    let fits = c.min-size.ensures in
    record { same_reference = refl; place = omega (arith, c.args.self.now.within); output = copied c.args.self.now _ _ fits c.copy_from_slice.ensures.after }
