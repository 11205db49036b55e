-- `commands::put_report` meets its contract. The loop's invariant: the lines of the first p fragments are printed, of at most 128 bytes each.
-- Assumes nothing.
use Prim.Native.Nat.{◌*◌, ◌≤◌}
use lib.ListN.{length}
use Rattle.lists.specs.Lists.{joined}
use Rattle.text.specs.Printer.{Printed}
use Rattle.report_lines.specs.Lines.{fragment_line}
use Rattle.commands.proofs.put_report.Given as goal

abbrev pub invariant-loop-p : goal.invariant-loop-p
invariant-loop-p l =
    let text = joined (fragment_line l.stream.header l.stream.file.now) l.p in
    Printed l.initial.page text l.page × (length text ≤ l.p * 128)
