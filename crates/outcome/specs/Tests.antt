-- What a call gives, as tests that compute: a result that passes a test, any result, or one refusal. Assumes nothing.
use Rattle.std.specs.Prelude.{ℕ, Bool, true, false, ◌&&◌, List, eqb}
use Rattle.lists.specs.Tests.{same_bytes}
use Rattle.outcome.specs.Outcome.{Outcome, result, refused}

unfoldable pub gives : {A : Type 0} → (A → Bool) → Outcome A → Bool
gives f (result a) = f a
gives f (refused n vs) = false

unfoldable pub accepts : {A : Type 0} → Outcome A → Bool
accepts (result a) = true
accepts (refused n vs) = false

-- the refusal with that number and those returned numbers
unfoldable pub refuses : {A : Type 0} → ℕ → List ℕ → Outcome A → Bool
refuses n vs (result a) = false
refuses n vs (refused m ws) = eqb n m && same_bytes vs ws
