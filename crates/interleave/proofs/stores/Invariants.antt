-- `interleave::stores` meets its contract. Assumes nothing.
use mathlib.Core.Path.{◌≡◌}
use lib.IntN.{pos}
use Rattle.interleave.specs.Interleave.{spread}
use Rattle.interleave.proofs.stores.Given as goal

abbrev pub invariant-loop-w : goal.invariant-loop-w
invariant-loop-w l = l.out ≡ spread (pos 0) l.initial.out l.samples l.first l.channels l.channel l.w
