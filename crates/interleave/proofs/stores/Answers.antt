-- `interleave::stores` meets its contract. Assumes nothing.
use native.Mathlib.Numerals.{add-one}
use native.Mathlib.Omega.{arith}
use mathlib.Core.Path.{refl}
use lib.IntN.{pos}
use lib.ListN.{get_or}
use Rattle.signed.proofs.Laws.{back16}
use Rattle.interleave.specs.Interleave.{spread}
use Rattle.interleave.proofs.stores.Goals as goal

pub loop-w-init : goal.loop-w-init
unfolding spread
loop-w-init c = refl

pub loop-w-preserved : goal.loop-w-preserved
unfolding spread
loop-w-preserved c =
    rw (add-one, c.loop-w.invariant, back16 (get_or c.args.samples.now c.loop-w.w (pos 0)) (omega arith))
