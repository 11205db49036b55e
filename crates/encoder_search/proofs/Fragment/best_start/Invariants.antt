-- `encoder_search::Fragment::best_start` meets its contract: the loop keeps the best of the starts so far, and its marks. Assumes nothing.
use Rattle.encoder_search.proofs.Leading.{Leading}
use Rattle.encoder_search.proofs.Fragment.best_start.Given as goal

abbrev pub invariant-loop-attempt : goal.invariant-loop-attempt
invariant-loop-attempt l = Leading l.self.coder.now.settings l.self.volume l.self.xs.now l.attempt l.best
