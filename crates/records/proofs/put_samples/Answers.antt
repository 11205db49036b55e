-- `records::put_samples` meets its contract. Assumes nothing.
use mathlib.Core.Path.{◌≡◌}
use native.Mathlib.Numerals.{add-one}
use native.Mathlib.Omega.{arith}
use lib.IntN.{pos}
use lib.ListN.{length, get_or}
use mir.Syntax.{w16}
use mir.Val.{SFits}
use mir.Facts.{to_z-of_z}
use borrow.Author.Rules.{rules}
use Rattle.lists.specs.Lists.{joined}
use Rattle.text.proofs.Laws.{printed_none, then_printed}
use Rattle.wav_writer.specs.Writer.{sample_bytes}
use Rattle.records.proofs.put_samples.Goals as goal

pub loop-sample-init : goal.loop-sample-init
unfolding joined
loop-sample-init c = printed_none _

pub loop-sample-preserved : goal.loop-sample-preserved
unfolding joined
loop-sample-preserved c =
    let f : SFits w16 (get_or c.args.samples.now c.loop-sample.sample-index (pos 0)) = search rules in
    rw add-one (then_printed c.loop-sample.invariant (rw (c.sample_bytes.ensures, to_z-of_z f) at c.put.ensures))

pub returns : goal.returns
unfolding sample_bytes
returns c = let last : c.loop-sample.sample-index ≡ length c.args.samples.now = omega arith in rw last at c.loop-sample.invariant
