-- `decoder_fragment::apply_gain` meets its contract. The loop's invariant: the first i places hold samples. Assumes nothing.
use lib.ListN.{get_or}
use lib.IntN.{pos, ◌-ℤ◌}
use Rattle.sqv4_format.specs.Gain.{output_gain}
use Rattle.lists.proofs.ByIndex.{Filled}
use Rattle.decoder_fragment.proofs.apply_gain.Given as goal

abbrev pub invariant-loop-i : goal.invariant-loop-i
invariant-loop-i l = Filled (λ k. output_gain l.coding.version l.volume (pos 32767 -ℤ pos (get_or l.depths k 0))) 64 l.i l.samples
