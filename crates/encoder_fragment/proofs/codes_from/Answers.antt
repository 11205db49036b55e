-- `encoder_fragment::codes_from` meets its contract. Assumes nothing.
use mathlib.Core.Path.{◌≡◌, ◌∙◌, ap}
use mathlib.Core.List.{List}
use Prim.Native.Nat.{◌<◌}
use native.Mathlib.Omega.{arith}
use borrow.Author.Rules.{rules}
use mir.Syntax.{w16}
use mir.Val.{SFits}
use lib.IntN.{ℤ, pos}
use lib.ListN.{length, get_or, length-map}
use Rattle.std.proofs.lemmas.List.{get_or-map}
use Rattle.signed.proofs.Laws.{back16}
use Rattle.sqv4_format.specs.Encode.{target}
use Rattle.encoder_fragment.proofs.SoFar.{codes_none, codes_more}
use Rattle.encoder_fragment.proofs.codes_from.Goals as goal

pub loop-i-init : goal.loop-i-init
loop-i-init c = codes_none _ _ _ _ c.fragment_start-state.ensures (search rules)

pub loop-i-preserved : goal.loop-i-preserved
loop-i-preserved c =
    let a = c.args.fragment in
    let i = c.loop-i.i in
    let n : length a.targets.now ≡ length a.xs.now = rw length-map at (ap length a.full_scale) in
    let h : i < length a.xs.now = omega arith in
    let f : SFits w16 (get_or a.targets.now i (pos 0)) = search rules in
    let y = ap (λ (l : List ℤ). get_or l i (pos 0)) a.full_scale ∙ get_or-map (target a.coder.now.settings a.volume) a.xs.now i (pos 0) (pos 0) h in
    codes_more _ _ _ _ c.loop-i.invariant (omega (arith, a.few)) y
    (rw (back16 _ f.sfits) at c.encode_code-code.ensures.0)
    (rw c.written-coding.ensures at c.update-state.ensures)
