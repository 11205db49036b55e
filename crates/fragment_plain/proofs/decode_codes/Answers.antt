-- `fragment_plain::decode_codes` meets its contract. Assumes nothing.
use native.Mathlib.Omega.{arith}
use mathlib.Core.Path.{◌≡◌}
use lib.ListN.{length}
use Rattle.signed.proofs.Laws.{back16, back32}
use Rattle.fragment_plain.proofs.Run.{decoded_none, decoded_more, decoded_all}
use Rattle.fragment_plain.proofs.decode_codes.Goals as goal

pub loop-i-init : goal.loop-i-init
loop-i-init c = decoded_none _ _ _ _ _ _

pub loop-i-preserved : goal.loop-i-preserved
loop-i-preserved c =
    let z = c.update-state.result.state.predictor in
    let r = c.update-state.result.in_range.predictor in
    decoded_more _ _ _ _ _ _ c.loop-i.invariant c.loop-i-test.true (rw c.update-state.ensures) (rw (back32 z (omega arith), back16 z (omega arith)))

pub returns : goal.returns
returns c =
    let n : c.loop-i.i ≡ length c.args.out.now = omega arith in
    (rw n at c.loop-i.invariant.state, decoded_all _ _ _ _ _ _ c.loop-i.invariant n c.apply_gain.ensures)
