-- `adpcm::delta` meets its contract: every difference is at most 65535. Assumes nothing.
use mathlib.Core.Path.{refl}
use Rattle.signed.proofs.Laws.{back32, nat_abs-with_sign}
use Rattle.sqv4_format.specs.Step.{difference}
use Rattle.adpcm.proofs.delta.Goals as goal

pub returns : goal.returns
unfolding difference
returns c =
    rw (back32 c.with_sign.result c.with_sign.type_inv, c.with_sign.ensures, nat_abs-with_sign _ c.size_of.result)
    (rw (c.sign_bit.ensures.0, c.size_of.ensures.0) refl, c.size_of.ensures.1)
