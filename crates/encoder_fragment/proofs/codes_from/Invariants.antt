-- `encoder_fragment::codes_from` meets its contract: the loop keeps the definition's trial of the samples so far. Assumes nothing.
use Rattle.encoder_fragment.proofs.SoFar.{CodesSoFar}
use Rattle.encoder_fragment.proofs.codes_from.Given as goal

abbrev pub invariant-loop-i : goal.invariant-loop-i
invariant-loop-i l = CodesSoFar l.fragment.coder.now.settings l.fragment.volume l.fragment.xs.now l.index l.i l.state.state l.codes
