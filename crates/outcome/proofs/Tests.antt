-- Where a test of an outcome passes, the outcome is a result that passes, a result, or that very refusal. Assumes nothing.
use mathlib.Core.Path.{◌≡◌, refl, sym, ap₂}
use mathlib.Core.Bool.{Bool}
use mathlib.Core.List.{List}
use Prim.Native.Nat.{ℕ}
use lib.Dec.{T, eqb, eqb→eq}
use Rattle.lists.specs.Tests.{same_bytes}
use Rattle.lists.proofs.Tables.{left, right}
use Rattle.lists.proofs.Tests.{same_bytes_means}
use Rattle.outcome.specs.Outcome.{Outcome, result, refused}
use Rattle.outcome.specs.Tests.{gives, accepts, refuses}

pub gives_means : {A : Type 0} (f : A → Bool) (P : Outcome A → Type 0) → ((a : A) → T (f a) → P (result a)) → (o : Outcome A) → T (gives f o) → P o
unfolding gives
gives_means f P h (result a) t = h a t
gives_means f P h (refused n vs) t = absurd t

pub accepts_means : {A : Type 0} (o : Outcome A) → T (accepts o) → (a : A) × (o ≡ result a)
unfolding accepts
accepts_means (result a) t = (a, refl)
accepts_means (refused n vs) t = absurd t

pub refuses_means : {A : Type 0} (n : ℕ) (vs : List ℕ) (o : Outcome A) → T (refuses n vs o) → o ≡ refused n vs
unfolding refuses
refuses_means n vs (result a) t = absurd t
refuses_means n vs (refused m ws) t =
    sym (ap₂ refused (eqb→eq n m (left (eqb n m) (same_bytes vs ws) t)) (same_bytes_means vs ws (right (eqb n m) (same_bytes vs ws) t)))
