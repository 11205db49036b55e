-- `decoder_fragment::unpack_groups` meets its contract. Assumes nothing.
use Prim.Native.Nat.{◌+◌, ◌*◌}
use native.Mathlib.Nat.{mul-zero}
use native.Mathlib.Omega.{arith}
use mathlib.Core.Path.{◌≡◌, refl}
use Rattle.digits.proofs.Regrouping.{regrouped_none, regrouped_read, regrouped_write}
use Rattle.decoder_fragment.proofs.Unpacking.{power, room, read, write}
use Rattle.decoder_fragment.proofs.unpack_groups.Goals as goal

pub loop-i-init : goal.loop-i-init
loop-i-init g c = rw (mul-zero g.row.BYTES, mul-zero g.row.CODES) (regrouped_none 8 g.row.BITS c.args.payload.now c.told-codes)

pub loop-j-init : goal.loop-j-init
loop-j-init g c =
    let e : g.row.CODES * c.loop-i.i + 0 ≡ g.row.CODES * c.loop-i.i = omega arith in
    rw (e, ← read c.requires) (regrouped_read c.loop-i.invariant (λ k. (c.type_inv.payload k).fits) g.row.BYTES (omega (arith, c.le-word.ensures.0)))

pub bounds-codes-i : goal.bounds-codes-i
bounds-codes-i g c = room c.requires c.loop-i-test.true c.loop-j-test.true

pub loop-j-preserved : goal.loop-j-preserved
loop-j-preserved g c =
    let e : g.row.CODES * c.loop-i.i + (c.loop-j.j + 1) ≡ g.row.CODES * c.loop-i.i + c.loop-j.j + 1 = omega arith in
    rw (e, power c.requires)
    (regrouped_write c.loop-j.invariant (write c.requires c.loop-j-test.true) (room c.requires c.loop-i-test.true c.loop-j-test.true) refl refl)
