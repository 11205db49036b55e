-- `report_lines::header_line` meets its contract. Assumes nothing.
use Rattle.text.proofs.Laws.{then_printed}
use Rattle.text.specs.Text.{letters}
use Rattle.report_lines.proofs.Lines.{header_pieces}
use Rattle.report_lines.proofs.header_line.Goals as goal

pub returns-clause-prints : goal.returns-clause-prints
unfolding letters
returns-clause-prints c =
    let named = then_printed (then_printed c.field.ensures.prints c.put.ensures) (rw c.name.ensures at c.put-2.ensures) in
    rw (← (header_pieces _))
    (then_printed (then_printed (then_printed (then_printed named c.field-2.ensures.prints) c.field-3.ensures.prints) c.field-4.ensures.prints) c.put-3.ensures)
