-- `wav_samples::load_samples` meets its contract. The loop's invariant: the first `i` items hold the samples. Assumes nothing.
use mathlib.Core.Path.{◌≡◌}
use lib.ListN.{length, take}
use Rattle.lists.specs.Lists.{tabulate}
use Rattle.wav_samples.proofs.Samples.{sample_at}
use Rattle.wav_samples.proofs.load_samples.Given as goal

abbrev pub invariant-loop-i : goal.invariant-loop-i
invariant-loop-i l = (length l.sample-items ≡ l.n) × (take l.i l.sample-items ≡ tabulate (sample_at l.bytes) l.i)
