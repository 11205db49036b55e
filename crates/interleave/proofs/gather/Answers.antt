-- `interleave::gather` meets its contract. Assumes nothing.
use native.Mathlib.Omega.{arith}
use mathlib.Core.Path.{refl}
use Prim.Native.Nat.{◌+◌, ◌*◌}
use lib.IntN.{pos}
use lib.ListN.{get_or}
use Rattle.lists.specs.Lists.{tabulate}
use Rattle.lists.proofs.ByIndex.{fill_next}
use Rattle.signed.proofs.Laws.{back16}
use Rattle.interleave.proofs.gather.Goals as goal

pub loop-w-init : goal.loop-w-init
unfolding tabulate
loop-w-init c = refl

pub loop-w-preserved : goal.loop-w-preserved
loop-w-preserved c =
    let a = c.args in
    fill_next _ _ _ _ (omega arith) c.loop-w.invariant (back16 (get_or a.pcm.now ((a.first + c.loop-w.w) * a.channels + a.channel) (pos 0)) (omega arith))
