-- What a printer has printed. Assumes nothing.
use Rattle.std.specs.Prelude.{◌≡◌, ℕ, ◌+◌, ◌-◌, List, length, take, min}
use Rattle.lists.specs.Lists.{written}
use Rattle.text.specs.declared.Printer.{Printer}

-- the same output, with a text behind what was printed, as far as there is room: what does not fit is left out
pub record Printed (p : Printer) (text : List ℕ) (q : Printer) : Type 0 where
  pub same_reference : q.out.ghost_name ≡ p.out.ghost_name
  pub place : q.at ≡ min (p.at + length text) (length p.out.now)
  pub output : q.out.now ≡ written p.out.now p.at (take (length p.out.now - p.at) text)
