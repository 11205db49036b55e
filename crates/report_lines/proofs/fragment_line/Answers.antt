-- `report_lines::fragment_line` meets its contract. Assumes nothing.
use Rattle.text.proofs.Laws.{then_printed}
use Rattle.text.specs.Text.{letters}
use Rattle.report_lines.proofs.Lines.{fragment_pieces}
use Rattle.report_lines.proofs.fragment_line.Goals as goal

pub returns-clause-prints : goal.returns-clause-prints
unfolding letters
returns-clause-prints c =
    let p = c.place-place.ensures in
    let place = then_printed (rw (c.frame.ensures, p.0, p.1) at c.number.ensures.prints) (rw (c.channel.ensures.0, p.0, p.1) at c.field.ensures.prints) in
    let sizes = then_printed (then_printed place (rw (c.samples.ensures.value, p.0, p.1) at c.field-2.ensures.prints)) (rw (c.volume.ensures, c.fragment-fragment.ensures) at c.field-3.ensures.prints) in
    rw (← (fragment_pieces _ _ _))
    (then_printed (then_printed (then_printed sizes c.put.ensures) (rw (c.coding.ensures, c.fragment-fragment.ensures) at c.index_field.ensures.prints)) c.put-2.ensures)
