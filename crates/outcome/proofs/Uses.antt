-- The claim at work, from its statement. Assumes nothing.
use mathlib.Core.Path.{◌≡◌}
use Prim.Native.Nat.{ℕ}
use Rattle.outcome.specs.Table.{refusal}
use Rattle.outcome.specs.declared.Error.{Error}
use Rattle.outcome.proofs.Claims as claims

pub refusal_once : (a b : Error) → refusal {A = ℕ} a ≡ refusal b → a ≡ b
refusal_once a b e = claims.refusals_differ a b (cc) (cc)
