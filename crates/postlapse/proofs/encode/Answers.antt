-- `postlapse::encode` meets its contract: a byte that names no variant is refused first, and else the encoder answers. Assumes nothing.
use mathlib.Core.Path.{refl}
use Rattle.outcome.proofs.Laws.{then_result, then_refused}
use Rattle.outcome.proofs.Table.{gives_passed_on}
use Rattle.postlapse.specs.Promises.{encode_for_c}
use Rattle.postlapse.proofs.encode.Goals as goal

pub returns-in_err-variant : goal.returns-in_err-variant
unfolding encode_for_c
returns-in_err-variant c = gives_passed_on _ _ c.from_residual.ensures.1 (then_refused _ _ _ _ c.in_err-variant.ensures)

pub returns : goal.returns
unfolding encode_for_c
returns c = rw (← then_result _ _ _ _ c.in_ok-variant.ensures refl) c.encode_interleaved.ensures
