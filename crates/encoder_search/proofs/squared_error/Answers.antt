-- `encoder_search::squared_error` meets its contract: both samples fit 16 bits, so the distance is at most 65535. Assumes nothing.
use Prim.Native.Nat.{◌≤◌}
use native.Mathlib.Nat.{mul-le-mul}
use native.Mathlib.Omega.{arith}
use mathlib.Core.Path.{◌≡◌, sym, ◌∙◌}
use lib.IntN.{nat_abs, ◌-ℤ◌}
use Rattle.signed.proofs.Laws.{read16, sample_read}
use Rattle.signed.proofs.Raised.{raised-apart}
use Rattle.sqv4_format.specs.Layout.{encoder_version}
use Rattle.sqv4_format.specs.Gain.{output_gain}
use Rattle.gain.proofs.Raised.{output_fits}
use Rattle.encoder_search.proofs.squared_error.Goals as goal

pub returns : goal.returns
returns c =
    let a = c.args in
    let x = rw (sample_read c.ranges.sample) at c.raise-x.ensures.0 in
    let y = rw (read16 a.predictor c.requires) at c.raised_output.ensures.0 in
    let small : c.abs_diff-d.result ≤ 65535 = omega (arith, c.abs_diff-d.ensures, c.raised_output.ensures.1, c.raise-x.ensures.1) in
    let e : c.abs_diff-d.result ≡ nat_abs (a.sample -ℤ output_gain encoder_version a.volume a.predictor) =
    c.abs_diff-d.ensures
    ∙ rw (x, y) (sym (raised-apart a.sample (output_gain encoder_version a.volume a.predictor) (omega (arith, c.ranges.sample.sfits)) (output_fits a.volume (omega arith) a.predictor c.requires))) in
    (rw e, omega (arith, mul-le-mul small small))
