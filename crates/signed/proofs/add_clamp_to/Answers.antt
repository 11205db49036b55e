-- `signed::add_clamp_to` meets its contract. Assumes nothing.
use native.Mathlib.Omega.{arith}
use mathlib.Core.Path.{◌≡◌}
use lib.IntN.{pos, ◌+ℤ◌}
use Rattle.std.proofs.lemmas.Int.{ints, clamps}
use Rattle.signed.specs.Signed.{clamp_to}
use Rattle.signed.proofs.Laws.{clamp_to_is, clamp_to_le}
use Rattle.signed.proofs.add_clamp_to.Goals as goal

pub returns : goal.returns
returns c =
    let z = pos c.args.x +ℤ c.args.y in
    let e : c.clamp.result ≡ pos (clamp_to c.args.top z) = omega (arith, ints, clamps, c.clamp.ensures.value, clamp_to_is c.args.top z) in
    rw e (omega (arith, ints, clamp_to_le c.args.top z))
