-- `inspect::check_fragments` meets its contract. The loop's invariant: every fragment before place `p` has passed its checks. Assumes nothing.
use mathlib.Core.Path.{◌≡◌}
use Rattle.outcome.specs.Outcome.{result, in_order}
use Rattle.inspect.proofs.Laws.{check_at}
use Rattle.inspect.proofs.check_fragments.Given as goal

abbrev pub invariant-loop-p : goal.invariant-loop-p
invariant-loop-p l = in_order l.stream.header (check_at l.stream.header l.stream.file.now) l.p ≡ result l.stream.header
