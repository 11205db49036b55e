-- `gain::normalise` meets its contract. Assumes nothing.
use Rattle.std.proofs.Common.{◌≡◌, to_z, of_z, w32, arith, to_z-of_z}
use mir.Facts.{sfits_widen}
use Rattle.signed.specs.Signed.{on_magnitude}
use Rattle.signed.proofs.Laws.{back32}
use Rattle.sqv4_format.specs.Gain.{normalised}
use Rattle.gain.proofs.Laws.{normalised_fits}
use Rattle.gain.proofs.normalise.Goals as goal
use Rattle.gain.proofs.normalise.Goals.{After-clamp16}

is : (c : After-clamp16) → to_z w32 (of_z w32 c.clamp16.result) ≡ normalised c.args.volume c.args.sample
unfolding normalised on_magnitude
is c =
    rw (
      back32 c.clamp16.result c.clamp16.type_inv,
      c.clamp16.ensures,
      back32 c.sign_like.result c.sign_like.type_inv,
      c.sign_like.ensures,
      c.unsigned_abs.ensures.value,
      to_z-of_z c.ranges.sample,
      to_z-of_z {w = w32} (sfits_widen tt c.ranges.sample),
    )

pub overflow_cast-result : goal.overflow_cast-result
overflow_cast-result c =
    rw (is (goal.at.overflow_cast-result c).After-clamp16) (record { sfits = omega (arith, normalised_fits c.args.volume c.args.sample) })

pub returns : goal.returns
returns c = rw (to_z-of_z (overflow_cast-result c), is (goal.at.returns c).After-clamp16)
