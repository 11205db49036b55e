-- What is proved of the table of refusals. Assumes nothing.
use mathlib.Core.Path.{◌≡◌}
use Rattle.outcome.specs.Table.{number_of, values_of}
use Rattle.outcome.specs.declared.Error.{Error}
use Rattle.outcome.proofs as proofs

-- no two refusals have the same number and returned numbers
pub refusals_differ : (a b : Error) → number_of a ≡ number_of b → values_of a ≡ values_of b → a ≡ b
refusals_differ = proofs.Table.error_once
