-- `fragment::decode_one` meets its contract. Assumes nothing.
use native.Mathlib.Omega.{arith}
use Rattle.fragment.proofs.Calls.{as_refused, as_filled}
use Rattle.fragment.proofs.decode_one.Goals as goal

pub returns-in-Ok : goal.returns-in-Ok
returns-in-Ok c = as_filled _ (omega arith) c.in-Ok.ensures

pub returns-in-Err : goal.returns-in-Err
returns-in-Err c = as_refused c.in-Err.ensures
