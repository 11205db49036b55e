-- `encoder_step::h_next` meets its contract: what is left of the distance says where the predictor lands. Assumes nothing.
use Rattle.std.proofs.Common.{arith, to_z-of_z}
use Rattle.encoder_step.proofs.Cascade.{lowered, h_stepped}
use Rattle.encoder_step.proofs.h_next.Goals as goal

pub returns : goal.returns
returns c =
    let l = c.lower in
    let u = c.h_landed.ensures in
    let s = c.args.state in
    let z = lowered u.small l.type_inv l.ensures in
    h_stepped s.state c.args.input s.in_range (omega (arith, c.ranges.input.sfits)) _ _ _ _ _ _ _
    (rw c.index-index.ensures at c.step_size-step.ensures.value)
    (rw (to_z-of_z c.ranges.input) at c.of-pair.ensures.0)
    c.of-pair.ensures.1
    c.distance-d.ensures
    c.take_off-half.ensures
    c.take_off-quarter.ensures
    c.take_off-last.ensures
    _ _ _ _ u.down u.up
    z.0 z.1
    (rw c.index-index.ensures at c.moved.ensures)
    (omega (arith, c.part_of.ensures.0, c.part_of-2.ensures.0))
