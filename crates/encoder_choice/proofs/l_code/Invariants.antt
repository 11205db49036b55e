-- `encoder_choice::l_code` meets its contract: the loop keeps the best of the codes so far. Assumes nothing.
use Prim.Native.Nat.{◌-◌, ◌<◌}
use Rattle.sqv4_format.specs.Encode.{choice}
use Rattle.encoder_choice.proofs.Nearest.{Best}
use Rattle.encoder_choice.proofs.l_code.Given as goal

abbrev pub invariant-loop-code : goal.invariant-loop-code
invariant-loop-code l = (l.best_code < 8) × Best (choice l.variant l.state.state l.input) (l.code - 1) l.best_code l.best_error
