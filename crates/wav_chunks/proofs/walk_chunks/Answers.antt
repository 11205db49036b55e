use mathlib.Core.Path.{sym}
use native.Mathlib.Omega.{arith}
use Rattle.outcome.proofs.Table.{passed_on}
use Rattle.wav_format.proofs.Walk.{reached_first, reached_next, reached_stop, reached_end}
use Rattle.wav_format.proofs.Steps.{stepped}
use Rattle.wav_chunks.proofs.walk_chunks.Goals as goal

pub loop-c-init : goal.loop-c-init
loop-c-init c = (omega arith, reached_first _ _)

pub returns-in_err-c : goal.returns-in_err-c
returns-in_err-c c = passed_on _ _ _ c.from_residual.ensures.1 (reached_stop _ _ _ _ _ c.loop-c.invariant.1 c.loop-c-test.true c.in_err-c.ensures)

pub loop-c-smaller : goal.loop-c-smaller
loop-c-smaller c = let t = stepped _ _ _ _ (sym c.in_ok-c.ensures) in omega arith

pub loop-c-preserved : goal.loop-c-preserved
loop-c-preserved c = let t = stepped _ _ _ _ (sym c.in_ok-c.ensures) in
    (t.inside, reached_next _ _ _ _ c.loop-c.invariant.1 c.loop-c-test.true c.in_ok-c.ensures)

pub returns : goal.returns
returns c = reached_end _ _ _ c.loop-c.invariant.1 c.loop-c-test.false
