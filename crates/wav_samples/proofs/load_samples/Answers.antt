use mathlib.Core.Path.{◌≡◌, refl, sym, ap, ◌∙◌}
use Prim.Native.Nat.{◌*◌, ◌/◌}
use native.Mathlib.Nat.{le_of_eq}
use native.Mathlib.Omega.{arith}
use borrow.Author.Rules.{rules}
use lib.ListN.{length, length-set}
use lib.Seq.{take_all}
use Rattle.std.proofs.lemmas.List.{length-take-le}
use Rattle.lists.specs.Lists.{tabulate}
use Rattle.lists.proofs.ByIndex.{fill_next}
use Rattle.signed.specs.Signed.{of_twos}
use Rattle.signed.proofs.Laws.{back16}
use Rattle.outcome.proofs.Laws.{checks}
use Rattle.outcome.proofs.Table.{gives_result}
use Rattle.wav_format.specs.Samples.{samples_of, samples_call}
use Rattle.wav_samples.proofs.Samples.{two_bytes_at, length_samples}
use Rattle.wav_samples.proofs.load_samples.Goals as goal

pub loop-i-init : goal.loop-i-init
unfolding tabulate
loop-i-init c = (length-take-le _ _ c.if-out-n.false, refl)

pub loop-i-preserved : goal.loop-i-preserved
loop-i-preserved c =
    let i = c.loop-i.i in
    let sample = ap of_twos (two_bytes_at c.args.bytes.now (2 * i) (omega (arith, c.loop-i.invariant.0))) in
    (simp length-set c.loop-i.invariant.0, fill_next _ _ i _ (omega (arith, c.loop-i.invariant.0)) c.loop-i.invariant.1 (back16 _ (search rules) ∙ c.sample_of.ensures ∙ sample))

pub returns : goal.returns
unfolding samples_of samples_call
returns c =
    let full = c.loop-i.invariant.0 in
    let all : c.loop-i.i ≡ length c.args.bytes.now / 2 = omega (arith, full) in
    let loaded = sym (take_all _ _ (le_of_eq full)) ∙ (rw all at c.loop-i.invariant.1) in
    gives_result (samples_of c.args.bytes.now) (search checks) (sym (length_samples _)) (rw loaded refl)
