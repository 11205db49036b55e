-- `encoder::header_bytes` meets its contract. Assumes nothing.
use mathlib.Core.Path.{refl}
use Rattle.digits.specs.Digits.{digits}
use Rattle.sqv4_format.specs.Layout.{header_bytes}
use Rattle.encoder.proofs.header_bytes.Goals as goal

pub returns : goal.returns
unfolding header_bytes digits
returns c = rw (c.put_le-2.ensures, c.put_le.ensures, c.from.ensures) refl
