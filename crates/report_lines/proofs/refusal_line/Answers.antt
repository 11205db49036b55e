-- `report_lines::refusal_line` meets its contract. Assumes nothing.
use Rattle.text.proofs.Laws.{then_printed}
use Rattle.text.specs.Text.{letters}
use Rattle.report_lines.proofs.Lines.{refusal_pieces}
use Rattle.report_lines.proofs.refusal_line.Goals as goal

pub returns-clause-prints : goal.returns-clause-prints
unfolding letters
returns-clause-prints c =
    rw (← c.number.ensures, ← c.values.ensures, ← (refusal_pieces _ _)) (then_printed (then_printed c.field.ensures.prints c.values-2.ensures.prints) c.put.ensures)
