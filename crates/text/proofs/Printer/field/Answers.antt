-- `text::Printer::field` meets its contract. Assumes nothing.
use Rattle.text.proofs.Laws.{then_printed}
use Rattle.text.proofs.Printer.field.Goals as goal

pub returns-clause-prints : goal.returns-clause-prints
returns-clause-prints c = then_printed c.put.ensures c.number.ensures.prints
