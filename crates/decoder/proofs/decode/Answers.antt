-- `decoder::decode` meets its contract. Assumes nothing.
use mathlib.Core.Path.{sym}
use Rattle.std.proofs.lemmas.Result.{err_from_is_err_and}
use Rattle.sqv4_format.proofs.Accepted.{accepted}
use Rattle.sqv4_format.proofs.Sizes.{channels_few}
use Rattle.decoder.proofs.Decoding.{decode_short, decode_filled, decode_stopped}
use Rattle.decoder.proofs.decode.Goals as goal

pub returns-in_err-header : goal.returns-in_err-header
returns-in_err-header c =
    let p = err_from_is_err_and c.from_residual.result c.from_residual.ensures.1 in
    rw (p.1, p.2) (decode_stopped _ _ _ c.in_err-header.ensures)

pub returns-then-out-needed : goal.returns-then-out-needed
returns-then-out-needed c = decode_short _ _ _ c.in_ok-header.ensures c.if-out-needed.true

pub invariant_of-of : goal.invariant_of-of
invariant_of-of c =
    let a = accepted _ _ (sym c.in_ok-header.ensures) in
    record { channels = (channels_few _ _ a.channels).0; whole = a.size }

pub decode_fragments-requires : goal.decode_fragments-requires
decode_fragments-requires c =
    let few = channels_few _ _ (accepted _ _ (sym c.in_ok-header.ensures)).channels in
    rw c.of.ensures.0 (few.1, c.if-out-needed.false)

pub returns : goal.returns
returns c =
    let few = channels_few _ _ (accepted _ _ (sym c.in_ok-header.ensures)).channels in
    decode_filled _ _ _ c.in_ok-header.ensures c.if-out-needed.false few.0 _ (rw (c.of.ensures.0, c.of.ensures.1) at c.decode_fragments.ensures)
