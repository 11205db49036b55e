-- `commands::put_report` meets its contract. Assumes nothing.
use mathlib.Core.Path.{◌≡◌, ap, ◌∙◌}
use native.Mathlib.Numerals.{add-one}
use native.Mathlib.Omega.{arith}
use lib.ListN.{length, length-append}
use Rattle.lists.specs.Lists.{joined}
use Rattle.text.proofs.Laws.{printed_none, then_printed, printed_whole}
use Rattle.commands.proofs.Printing.{fragments_few}
use Rattle.commands.specs.Commands.{report}
use Rattle.commands.proofs.put_report.Goals as goal

pub loop-p-init : goal.loop-p-init
unfolding joined
loop-p-init c = (printed_none _, omega arith)

pub loop-p-preserved : goal.loop-p-preserved
unfolding joined
loop-p-preserved c =
    let next = c.fragment_line.ensures in
    rw add-one (then_printed c.loop-p.invariant.0 next.prints, simp length-append (omega (arith, c.loop-p.invariant.1, next.short)))

pub returns : goal.returns
unfolding report
returns c =
    let s = c.args.stream.now in
    let front = c.new-page.ensures.front in
    let header = c.header_line.ensures in
    let n = c.fragments-p-end.ensures.0 in
    let last : c.loop-p.p ≡ c.fragments-p-end.result = omega arith in
    let lines = rw (last ∙ n) at c.loop-p.invariant.0 in
    let short = rw (last ∙ n) at c.loop-p.invariant.1 in
    let few = fragments_few s.header (omega (arith, s.whole)) in
    let text = then_printed header.prints lines in
    let whole = printed_whole text (simp length-append (omega (arith, front.0, ap length front.1, header.short, short, few))) in
    rw c.count.ensures (rw (front.0, front.1) at whole)
