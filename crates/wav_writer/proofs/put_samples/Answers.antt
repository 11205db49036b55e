use mathlib.Core.Path.{refl, ◌∙◌}
use native.Mathlib.Omega.{arith}
use borrow.Author.Rules.{rules}
use lib.ListN.{get_or}
use lib.IntN.{pos}
use mir.Syntax.{w16}
use mir.Val.{SFits}
use mir.Facts.{to_z-of_z}
use Rattle.wav_writer.proofs.SampleLoop.{writing_none, writing_more, writing_all}
use Rattle.wav_writer.proofs.put_samples.Goals as goal

pub loop-i-init : goal.loop-i-init
loop-i-init c = writing_none _ _

pub loop-i-preserved : goal.loop-i-preserved
loop-i-preserved c = let zs = c.args.samples.now in let i = c.loop-i.i in
    let f : SFits w16 (get_or zs i (pos 0)) = search rules in
    writing_more zs _ i _ 2 refl refl c.loop-i.invariant (c.copy_from_slice.ensures.after ∙ rw (to_z-of_z f) at c.sample_bytes-bytes.ensures)

pub returns : goal.returns
returns c = writing_all _ _ c.loop-i.invariant (omega arith)
