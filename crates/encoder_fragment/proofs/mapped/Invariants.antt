-- `encoder_fragment::mapped` meets its contract: the loop maps over the samples. Assumes nothing.
use mathlib.Core.Path.{◌≡◌}
use mathlib.Core.List.{map}
use lib.IntN.{ℤ}
use lib.ListN.{length, take}
use Rattle.encoder_fragment.proofs.mapped.Given as goal

abbrev pub invariant-loop-i : goal.invariant-loop-i
invariant-loop-i g l =
    (length l.ys ≡ 63)
    × ((h : ℤ → ℤ) → ((x y : ℤ) → goal.F-post g l.f x y → y ≡ h x) → take l.i l.ys ≡ map h (take l.i l.xs))
