-- `digits::regroup` meets its contract: both loops are one regrouping, which reads in the inner and writes in the outer. Assumes nothing.
use mathlib.Core.Path.{◌≡◌}
use Prim.Native.Nat.{◌-◌}
use lib.ListN.{take}
use Rattle.digits.specs.Digits.{number, digits}
use Rattle.digits.proofs.Laws.{Small}
use Rattle.digits.proofs.Regrouping.{Held}
use Rattle.digits.proofs.regroup.Given as goal

abbrev pub invariant-loop-have : goal.invariant-loop-have
invariant-loop-have l = Small l.src.bits l.digits.rest.now × Held l.src.bits l.bits l.src.codes.now l.acc l.have l.digit-index l.digits.rest.now

abbrev pub decreases-loop-have : goal.decreases-loop-have
decreases-loop-have l = l.bits - l.have

abbrev pub invariant-loop-digit : goal.invariant-loop-digit
invariant-loop-digit l =
    (take l.digit-index l.out ≡ digits l.bits l.digit-index (number l.src.bits l.src.codes.now)) × Small l.src.bits l.digits.rest.now
    × Held l.src.bits l.bits l.src.codes.now l.acc l.have l.digit-index l.digits.rest.now
