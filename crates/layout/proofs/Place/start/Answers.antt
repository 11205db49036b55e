-- `layout::Place::start` meets its contract. Assumes nothing.
use Prim.Native.Nat.{◌^◌, ◌<◌}
use native.Mathlib.Omega.{arith}
use borrow.Author.Rules.{rules}
use Rattle.layout.proofs.Places.{places_few}
use Rattle.layout.proofs.Place.start.Goals as goal

pub overflow_mul-result : goal.overflow_mul-result
overflow_mul-result c =
    let few : c.args.self.p < 2 ^ 40 = omega (arith, places_few c.args.self.header (omega arith) (omega arith), c.args.self.within) in
    search rules
