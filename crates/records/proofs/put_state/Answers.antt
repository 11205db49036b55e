-- `records::put_state` meets its contract. Assumes nothing.
use mathlib.Core.Path.{◌≡◌, refl}
use mathlib.Core.Bool.{Bool, true, false, cond}
use mir.Syntax.{w32}
use mir.Val.{SFits, bool_byte}
use mir.Facts.{to_z-of_z}
use borrow.Author.Rules.{rules}
use Rattle.text.proofs.Laws.{then_printed}
use Rattle.records.specs.Bytes.{state_bytes}
use Rattle.records.proofs.put_state.Goals as goal

sign_byte : (b : Bool) → bool_byte b ≡ cond b 1 0
sign_byte true = refl
sign_byte false = refl

pub returns : goal.returns
unfolding state_bytes
returns c =
    let f : SFits w32 c.args.state.predictor = search rules in
    let sign = rw (c.from.ensures, c.is_negative.ensures, to_z-of_z f, sign_byte) at c.put.ensures in
    let magnitude = rw (c.to_le_bytes.ensures, c.from-2.ensures, c.unsigned_abs.ensures.value, to_z-of_z f) at c.put-2.ensures in
    then_printed (then_printed sign magnitude) (rw c.to_le_bytes-2.ensures at c.put-3.ensures)
