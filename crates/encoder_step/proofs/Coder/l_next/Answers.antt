-- `encoder_step::Coder::l_next` meets its contract: three tests choose the code. Assumes nothing.
use Rattle.std.proofs.Common.{◌≡◌, ℕ, ◌+◌, ◌*◌, ◌≤◌, Bool, ltb, refl, ◌∙◌, arith, to_z-of_z}
use Rattle.std.proofs.lemmas.Bool.Decides.{nat_tests}
use Rattle.sqv4_format.specs.Step.{step_at}
use Rattle.adpcm.proofs.Bounds.{step_low}
use Rattle.encoder_step.proofs.Nearest.{Picked, cut}
use Rattle.encoder_step.specs.Advance.{size_at}
use Rattle.encoder_step.proofs.Cascade.{lowered}
use Rattle.encoder_step.proofs.Choice.{sized_order, sized_rise, l_stepped}
use Rattle.encoder_step.proofs.Coder.l_next.Goals as goal
use Rattle.encoder_step.proofs.Coder.l_next.Goals.{After-moved, then-past_c, else-past_c+then-past_b, else-past_c+else-past_b+then-past_a, else-past_c+else-past_b+else-past_a}

pub within-sizes-requires : goal.within-sizes-requires
within-sizes-requires c =
    let s = c.args.state in
    sized_order c.args.self.now.settings.variant (step_at s.state.index) c.requires (step_low s.state.index s.in_range.index)
    (rw c.index-index.ensures at c.sizes_at.ensures)

-- as many tests hold as offsets come before the one that is picked, and the first does where any holds
counted : {r m n v : ℕ} {o : ℕ → ℕ} {up : Bool} → m ≡ n → up ≡ ltb 0 n → Picked r o n v → Picked r o m v × (up ≡ ltb 0 m)
counted e u k = rw e (k, u)

-- what the three tests pick
picked : (c : After-moved) →
    let w = c.within-sizes.result in
    let m = c.from.result + c.from-2.result + c.from-3.result in
    Picked c.distance-twice.result (cut (size_at c.args.self.now.settings.variant (step_at c.args.state.state.index)) c.headroom.result) m c.if-past_c.offset
    × (ltb (w.a + w.b) (2 * c.distance-twice.result) ≡ ltb 0 m)
picked c =
    let s = c.args.state in
    let z = rw c.index-index.ensures at c.sizes_at.ensures in
    let w = c.within-sizes.ensures in
    let rise = sized_rise c.args.self.now.settings.variant (step_at s.state.index) c.requires (step_low s.state.index s.in_range.index) z in
    let ac : c.within-sizes.result.a ≤ c.within-sizes.result.c = omega (arith, rise.0, w.first, w.third) in
    let bd : c.within-sizes.result.b ≤ c.within-sizes.result.d = omega (arith, rise.1, w.second, w.fourth) in
    let a = rw z.first at w.first in
    let b = rw z.second at w.second in
    let d = rw z.third at w.third in
    let e = rw z.fourth at w.fourth in
    elim c.if-past_c.branch [
      | then-past_c w ↦ counted {n = 3}
          (grind (arith, nat_tests, ac, bd, c.from.ensures, c.from-2.ensures, c.from-3.ensures, w.if-past_c.true))
          (grind (arith, nat_tests, ac, bd, w.if-past_c.true))
          (record { within = omega arith; value = w.offset-is ∙ e; under = λ h. omega (arith, w.if-past_c.true); over = λ h. absurd (omega arith) })
      | else-past_c+then-past_b w ↦ counted {n = 2}
          (grind (arith, nat_tests, ac, c.from.ensures, c.from-2.ensures, c.from-3.ensures, w.if-past_c.false, w.if-past_b.true))
          (grind (arith, nat_tests, ac, w.if-past_b.true))
          (record { within = omega arith; value = w.offset-is ∙ d; under = λ h. omega (arith, w.if-past_b.true); over = λ h. omega (arith, w.if-past_c.false) })
      | else-past_c+else-past_b+then-past_a w ↦ counted {n = 1}
          (grind (arith, nat_tests, c.from.ensures, c.from-2.ensures, c.from-3.ensures, w.if-past_c.false, w.if-past_b.false, w.if-past_a.true))
          (grind (arith, nat_tests, w.if-past_a.true))
          (record { within = omega arith; value = w.offset-is ∙ b; under = λ h. omega (arith, w.if-past_a.true); over = λ h. omega (arith, w.if-past_b.false) })
      | else-past_c+else-past_b+else-past_a w ↦ counted {n = 0}
          (grind (arith, nat_tests, c.from.ensures, c.from-2.ensures, c.from-3.ensures, w.if-past_c.false, w.if-past_b.false, w.if-past_a.false))
          (grind (arith, nat_tests, w.if-past_a.false))
          (record { within = omega arith; value = w.offset-is ∙ a; under = λ h. absurd (omega arith); over = λ h. omega (arith, w.if-past_a.false) })
    ]

pub returns : goal.returns
returns c =
    let l = c.lower in
    let s = c.args.state in
    let e = c.of-pair in
    let z = lowered c.l_landed.ensures.small l.type_inv l.ensures in
    let told = picked (goal.at.returns c).After-moved in
    l_stepped c.args.self.now.settings.variant s.state c.args.input c.requires s.in_range (omega (arith, c.ranges.input.sfits)) _ _ _
    refl
    (rw (to_z-of_z c.ranges.input) at e.ensures.0)
    e.ensures.1
    _ _ c.distance-twice.ensures c.headroom.ensures.0 c.headroom.ensures.1 e.result.raised.0 e.result.raised.1
    told.0
    (rw (← c.distance-twice.ensures) at c.l_landed.ensures)
    _ _ z.0 z.1
    (rw (c.index-index.ensures, told.1) at c.moved.ensures)
