-- `wav_chunks::walk_chunks` meets its contract. The loop's invariant: what is left of the walk is the whole walk. Assumes nothing.
use Prim.Native.Nat.{◌-◌, ◌≤◌}
use Rattle.wav_format.proofs.Walk.{Reached}
use Rattle.wav_chunks.proofs.walk_chunks.Given as goal

abbrev pub invariant-loop-c : goal.invariant-loop-c
invariant-loop-c l = (l.c.at ≤ l.end) × Reached l.file l.end l.c

abbrev pub decreases-loop-c : goal.decreases-loop-c
decreases-loop-c l = l.end - l.c.at
