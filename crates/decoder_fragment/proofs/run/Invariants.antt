-- `decoder_fragment::run` meets its contract. The invariants: every lane has run i codes; inside, the first k have run one more. Assumes nothing.
use Rattle.decoder_fragment.specs.Play.{AllRan}
use Rattle.decoder_fragment.proofs.Running.{Turning}
use Rattle.decoder_fragment.proofs.run.Given as goal

abbrev pub invariant-loop-i : goal.invariant-loop-i
invariant-loop-i g l = AllRan l.tables.coding.version l.tables.coding.variant l.codes l.initial.lanes g.row.N l.i l.depths l.lanes

abbrev pub invariant-loop-k : goal.invariant-loop-k
invariant-loop-k g l = Turning l.tables.coding.version l.tables.coding.variant l.codes l.fn.lanes g.row.N l.i l.k l.depths l.lanes
