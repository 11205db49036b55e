-- `encoder_fragment::encode_fragment` meets its contract: its steps are those of the definition. Assumes nothing.
use mathlib.Core.Path.{refl, sym, ◌∙◌}
use Rattle.std.proofs.Common.{rules}
use Rattle.sqv4_format.specs.Gain.{pregained}
use Rattle.encoder_fragment.proofs.Fragment.{silent_volume, silent_bytes, best_bytes}
use Rattle.encoder_fragment.proofs.encode_fragment.Goals as goal

pub returns-then-peak_of-eq0 : goal.returns-then-peak_of-eq0
returns-then-peak_of-eq0 c =
    silent_bytes c.args.coder.now.settings c.args.samples.now _ _ refl refl _ (c.fill.ensures.after (λ y e. e)) c.requires.1
    (silent_volume _ _ (sym c.peak_of.ensures.0 ∙ c.if-peak_of-eq0.true))

pub returns-then-volume-eq0 : goal.returns-then-volume-eq0
returns-then-volume-eq0 c =
    silent_bytes c.args.coder.now.settings c.args.samples.now _ _
    (c.mapped-pre_gained.ensures (pregained c.args.coder.now.settings.gain) (λ x y e. search rules)) c.fragment_volume-volume.ensures _
    (c.fill-then-volume-eq0.ensures.after (λ y e. e)) c.requires.1
    c.if-volume-eq0.true

pub returns : goal.returns
returns c =
    best_bytes c.args.coder.now.settings c.args.samples.now _ _
    (c.mapped-pre_gained.ensures (pregained c.args.coder.now.settings.gain) (λ x y e. search rules)) c.fragment_volume-volume.ensures c.put_best.ensures c.if-volume-eq0.false
