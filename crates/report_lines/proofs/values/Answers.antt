-- `report_lines::values` meets its contract. Assumes nothing.
use Rattle.text.proofs.Laws.{printed_none, then_printed}
use Rattle.text.specs.Text.{letters}
use Rattle.report_lines.specs.Lines.{spaced_values}
use Rattle.report_lines.proofs.values.Goals as goal

pub returns-in-Zero-clause-prints : goal.returns-in-Zero-clause-prints
unfolding spaced_values
returns-in-Zero-clause-prints c = rw c.in-Zero.is (printed_none _)

pub returns-in-Two-clause-prints : goal.returns-in-Two-clause-prints
unfolding spaced_values letters
returns-in-Two-clause-prints c = rw c.in-Two.is (then_printed c.field-in-Two.ensures.prints (then_printed c.field-in-Two-2.ensures.prints (printed_none _)))
