-- `postlapse::play` meets its contract: a byte that names no variant is refused first, and else the fragment decoder answers. Assumes nothing.
use mathlib.Core.Path.{refl}
use Rattle.outcome.proofs.Laws.{then_result, then_refused}
use Rattle.sqv4_format.specs.Decode.{called}
use Rattle.postlapse.specs.Promises.{fragment_for_c}
use Rattle.postlapse.proofs.Laws.{plays_none}
use Rattle.postlapse.proofs.play.Goals as goal

pub returns-in-Ok : goal.returns-in-Ok
unfolding fragment_for_c called
returns-in-Ok c =
    let call = c.decode_one.ensures in
    rw (← then_result _ _ _ _ c.in-Ok.ensures refl)
    (record { answered = call.answered; state_after = call.state_after; output_left = call.output_left })

pub returns-in-Err : goal.returns-in-Err
unfolding fragment_for_c
returns-in-Err c = plays_none (then_refused _ _ _ _ c.in-Err.ensures)
