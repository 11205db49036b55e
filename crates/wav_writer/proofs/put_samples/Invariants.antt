-- `wav_writer::put_samples` meets its contract. The loop's invariant: i samples are written. Assumes nothing.
use Rattle.wav_writer.proofs.SampleLoop.{Writing}
use Rattle.wav_writer.proofs.put_samples.Given as goal

abbrev pub invariant-loop-i : goal.invariant-loop-i
invariant-loop-i l = Writing l.samples l.initial.out l.i l.out
