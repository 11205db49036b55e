-- `decoder_tables::Tables::keep` meets its contract. Assumes nothing.
use mathlib.Core.Path.{refl}
use Rattle.signed.proofs.Laws.{read16}
use Rattle.decoder_tables.proofs.Steps.{kept_back, held}
use Rattle.decoder_tables.proofs.Tables.keep.Goals as goal

pub invariant_of-result : goal.invariant_of-result
invariant_of-result c =
    let r = c.args.state.in_range in
    record { held = rw (c.depth-depth.ensures.0, read16 _ r.predictor, c.row_size.ensures) (held _ _ r) }

pub returns : goal.returns
returns c =
    let r = c.args.state.in_range in
    rw (c.depth-depth.ensures.0, read16 _ r.predictor, c.row_size.ensures) (refl, refl, kept_back _ _ r)
