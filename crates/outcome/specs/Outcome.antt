-- What a call gives, how a list of checks decides it, and what a lent output holds after it. Assumes nothing.
use Rattle.std.specs.Prelude.{ℕ, zero, suc, Bool, true, false, List, ◌++◌, length, drop}

-- a result, or a refusal: its number in the table of refusals and the numbers returned with it
pub data Outcome (A : Type 0) : Type 0 where
  result : A → Outcome A
  refused : ℕ → List ℕ → Outcome A

-- a line of the table: where the cause holds, its refusal, and else the rest
unfoldable pub refuse_if : {A : Type 0} → Bool → ℕ → List ℕ → Outcome A → Outcome A
refuse_if true n vs rest = refused n vs
refuse_if false n vs rest = rest

-- the same for a cause that is the lack of something: where the test fails, its refusal, and else the rest
unfoldable pub need : {A : Type 0} → Bool → ℕ → List ℕ → Outcome A → Outcome A
need true n vs rest = rest
need false n vs rest = refused n vs

-- two ways to go on: the first where the test holds, and else the second
unfoldable pub branch : {A : Type 0} → Bool → Outcome A → Outcome A → Outcome A
branch true one other = one
branch false one other = other

-- one check and then the rest: a chain of checks is written in the paper's order, a line a cause, and the first that refuses counts
infixr 1 ◌⟫◌
abbrev pub ◌⟫◌ : {A : Type 0} → (Outcome A → Outcome A) → Outcome A → Outcome A
check ⟫ rest = check rest

-- what follows a result; a refusal stays
unfoldable pub and_then : {A B : Type 0} → Outcome A → (A → Outcome B) → Outcome B
and_then (result a) k = k a
and_then (refused n vs) k = refused n vs

-- a part of a result; a refusal stays
unfoldable pub on_result : {A B : Type 0} → (A → B) → Outcome A → Outcome B
on_result f (result a) = result (f a)
on_result f (refused n vs) = refused n vs

-- the checks f 0, f 1, .., f (n − 1), one after the other; a where all of them pass
unfoldable pub in_order : {A : Type 0} → A → (ℕ → Outcome A) → ℕ → Outcome A
in_order a f zero = result a
in_order a f (suc n) = and_then (in_order a f n) (λ x. f n)

-- a lent output after the call: a result fills it from the front and later places don't change; a refusal leaves it as it was
unfoldable pub output_after : {A : Type 0} → Outcome (List A) → List A → List A
output_after (result xs) out = xs ++ drop (length xs) out
output_after (refused n vs) out = out

-- the call refuses
unfoldable pub Refuses : {A : Type 0} → Outcome A → Type 0
Refuses (result a) = ⊥
Refuses (refused n vs) = Unit {0}

-- where the call refuses, the number and the returned numbers are such
unfoldable pub Refusing : {A : Type 0} → (ℕ → List ℕ → Type 0) → Outcome A → Type 0
Refusing P (result a) = Unit {0}
Refusing P (refused n vs) = P n vs
