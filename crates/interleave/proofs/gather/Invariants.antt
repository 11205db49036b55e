-- `interleave::gather` meets its contract. Assumes nothing.
use mathlib.Core.Path.{◌≡◌}
use Prim.Native.Nat.{◌+◌, ◌*◌}
use lib.IntN.{pos}
use lib.ListN.{take, get_or}
use Rattle.lists.specs.Lists.{tabulate}
use Rattle.interleave.proofs.gather.Given as goal

abbrev pub invariant-loop-w : goal.invariant-loop-w
invariant-loop-w l =
    take l.w l.samples ≡ tabulate (λ k. get_or l.pcm ((l.first + k) * l.channels + l.channel) (pos 0)) l.w
