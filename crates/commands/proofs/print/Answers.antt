-- `commands::print` meets its contract. Assumes nothing.
use native.Mathlib.Omega.{arith}
use Rattle.commands.proofs.Printing.{prints_text, prints_line, counted}
use Rattle.outcome.proofs.Table.{gives_refused}
use Rattle.outcome.specs.declared.Error.TheVariants.{InputSize}
use Rattle.commands.proofs.print.Goals as goal

pub returns-then-input-gt-MOST_INPUT : goal.returns-then-input-gt-MOST_INPUT
returns-then-input-gt-MOST_INPUT g c = λ o long gives.
    counted (prints_line o InputSize (gives_refused InputSize (long c.if-input-gt-MOST_INPUT.true)) c.put_refusal.ensures) (omega arith)

pub returns-in-Ok : goal.returns-in-Ok
returns-in-Ok g c = λ o long gives. counted (prints_text o (rw c.in-Ok.is at (gives _ _ _ c.command.ensures))) (omega arith)

pub returns : goal.returns
returns g c = λ o long gives.
    counted (prints_line o _ (rw c.in-Err.is at (gives _ _ _ c.command.ensures)) c.put_refusal-in-Err.ensures) (omega arith)
