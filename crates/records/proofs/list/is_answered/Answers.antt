-- `records::is_answered` meets its contract. Assumes nothing.
use mathlib.Core.Path.{◌≡◌, refl, sym}
use mathlib.Core.Logic.{◌↔◌}
use mathlib.Core.Bool.{true}
use Prim.Native.Nat.{ℕ}
use lib.ListN.{length}
use lib.Pointwise.{bytes_decides}
use Rattle.std.specs.Prelude.{List, [], ◌==◌}
use Rattle.std.proofs.lemmas.List.{nil_from_length}
use borrow.Author.Tests.{eqb-true}
use Rattle.records.specs.Bytes.{answer_bytes}
use Rattle.records.proofs.list.is_answered.Goals as goal

no_bytes : (s : List ℕ) → ((length s == 0) ≡ true) ↔ ([] ≡ s)
no_bytes s = (λ e. sym (nil_from_length s (eqb-true _ 0 e)), λ e. rw (← e) refl)

pub returns-in-Some : goal.returns-in-Some
unfolding answer_bytes
returns-in-Some g c = (_, _, _, c.ask.ensures, rw (c.in-Some.is, ← c.text.ensures, c.eq.ensures) (bytes_decides _ _))

pub returns-in-None : goal.returns-in-None
unfolding answer_bytes
returns-in-None g c = (_, _, _, c.ask.ensures, rw (c.in-None.is, c.is_empty.ensures) (no_bytes _))
