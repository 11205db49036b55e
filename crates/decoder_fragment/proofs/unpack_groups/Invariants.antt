-- `decoder_fragment::unpack_groups` meets its contract: it regroups 8 bits into BITS. After i turns BYTES * i bytes are read, CODES * i codes written,
-- and nothing is held; a turn reads a group, as the number `word`, and writes its codes, after j of which `word` holds the rest. Assumes nothing.
use Prim.Native.Nat.{◌+◌, ◌-◌, ◌*◌}
use Rattle.digits.proofs.Regrouping.{Regrouped}
use Rattle.decoder_fragment.proofs.unpack_groups.Given as goal

abbrev pub invariant-loop-i : goal.invariant-loop-i
invariant-loop-i g l = Regrouped 8 g.row.BITS l.payload 64 l.codes 0 0 (g.row.BYTES * l.i) (g.row.CODES * l.i)

abbrev pub invariant-loop-j : goal.invariant-loop-j
invariant-loop-j g l =
    Regrouped 8 g.row.BITS l.payload 64 l.codes l.word (g.row.BITS * (g.row.CODES - l.j)) (g.row.BYTES * l.i + g.row.BYTES) (g.row.CODES * l.i + l.j)
