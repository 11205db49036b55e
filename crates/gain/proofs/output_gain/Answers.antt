-- `gain::output_gain` meets its contract. Assumes nothing.
use Rattle.std.proofs.Common.{to_z-of_z}
use Rattle.signed.proofs.Laws.{back16}
use Rattle.gain.proofs.Laws.{output_scaled}
use Rattle.gain.proofs.output_gain.Goals as goal

pub returns : goal.returns
returns c =
    let a = c.args in
    rw (back16 c.scaled.result c.scaled.type_inv, c.scaled.ensures, c.rounding.ensures.0, to_z-of_z c.ranges.reconstructed) (output_scaled a.coding.version a.volume a.reconstructed)
