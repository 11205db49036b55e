-- `encoder_search::Fragment::winning_sum` meets its contract: the loop keeps the definition's state and sum of the samples so far, and their marks.
-- Assumes nothing.
use Rattle.encoder_search.proofs.Meeting.{Traced}
use Rattle.encoder_search.proofs.Fragment.winning_sum.Given as goal

abbrev pub invariant-loop-i : goal.invariant-loop-i
invariant-loop-i l = Traced l.self.coder.now.settings l.self.volume l.self.xs.now l.index l.i l.state.state l.sum l.trace
