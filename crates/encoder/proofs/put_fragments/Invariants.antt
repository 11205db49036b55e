-- `encoder::put_fragments` meets its contract. Assumes nothing.
use Rattle.encoder.proofs.EncodeLoop.{Writing}
use Rattle.encoder.proofs.put_fragments.Given as goal

abbrev pub invariant-loop-p : goal.invariant-loop-p
invariant-loop-p l = Writing l.coder.settings l.pcm l.h.channels l.initial.out l.p l.out
