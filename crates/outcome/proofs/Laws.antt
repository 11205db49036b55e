-- How a chain of checks is followed, and what a call leaves of its output. Assumes nothing.
use mathlib.Core.Path.{◌≡◌, refl, sym, ◌∙◌}
use Prim.Native.Nat.{ℕ, zero, suc, ◌<◌}
use native.Mathlib.Omega.{arith}
use native.Mathlib.Decide.{ℕ_discrete}
use mathlib.Core.Bool.{Bool, true, false}
use mathlib.Core.List.{List, ◌++◌, append-nil}
use lib.ListN.{length, drop}
use lib.Seq.{drop-length}
use borrow.Author.Tests.{lt-ltb, le-ltb, lt-leb, le-leb, eq-eqb, ne_eqb, not-true, not-false}
use Rattle.outcome.specs.Outcome.{Outcome, result, refused, refuse_if, need, branch, and_then, on_result, in_order, output_after, Refuses, Refusing}
use Rattle.outcome.proofs.Flags.{not_both, via}

-- ---- one check, from an answer: the ruleset `checks` closes each return of a function that makes the checks of a chain

pub met : {A : Type 0} (b : Bool) (n : ℕ) (vs : List ℕ) (rest : Outcome A) → b ≡ true → refused n vs ≡ refuse_if b n vs rest
unfolding refuse_if
met b n vs rest e = rw e

pub clear : {A : Type 0} (b : Bool) (n : ℕ) (vs : List ℕ) (x rest : Outcome A) → b ≡ false → x ≡ rest → x ≡ refuse_if b n vs rest
unfolding refuse_if
clear b n vs x rest e h = rw e h

pub fail : {A : Type 0} (b : Bool) (n : ℕ) (vs : List ℕ) (rest : Outcome A) → b ≡ false → refused n vs ≡ need b n vs rest
unfolding need
fail b n vs rest e = rw e

pub pass : {A : Type 0} (b : Bool) (n : ℕ) (vs : List ℕ) (x rest : Outcome A) → b ≡ true → x ≡ rest → x ≡ need b n vs rest
unfolding need
pass b n vs x rest e h = rw e h

pub first_way : {A : Type 0} (b : Bool) (x one other : Outcome A) → b ≡ true → x ≡ one → x ≡ branch b one other
unfolding branch
first_way b x one other e h = rw e h

pub second_way : {A : Type 0} (b : Bool) (x one other : Outcome A) → b ≡ false → x ≡ other → x ≡ branch b one other
unfolding branch
second_way b x one other e h = rw e h

pub ruleset checks = (met, clear, fail, pass, first_way, second_way, lt-ltb, le-ltb, lt-leb, le-leb, eq-eqb, ne_eqb, not-true, not-false, via)

-- ---- one check, from the chain: where the chain gives a result, its check has passed

module _ {A : Type 0} (b : Bool) (n : ℕ) (vs : List ℕ) (rest : Outcome A) where
  pub cleared : {a : A} → refuse_if b n vs rest ≡ result a → (b ≡ false) × (rest ≡ result a)
  unfolding refuse_if
  cleared = go b
    where
      go : (b : Bool) {a : A} → refuse_if b n vs rest ≡ result a → (b ≡ false) × (rest ≡ result a)
      go true e = (cc, cc)
      go false e = (refl, e)

  pub passed : {a : A} → need b n vs rest ≡ result a → (b ≡ true) × (rest ≡ result a)
  unfolding need
  passed = go b
    where
      go : (b : Bool) {a : A} → need b n vs rest ≡ result a → (b ≡ true) × (rest ≡ result a)
      go true e = (refl, e)
      go false e = (cc, cc)

-- no call gives both
pub one_way : {A : Type 0} {a : A} {n : ℕ} {vs : List ℕ} → refused n vs ≡ result a → ⊥
one_way e = let z : true ≡ false = cc in not_both true refl z

-- a call that refuses whatever another refuses gives results only where that one does
pub behind_refusals : {A B : Type 0} (o : Outcome A) {p : Outcome B} {b : B} → ((n : ℕ) (vs : List ℕ) → o ≡ refused n vs → p ≡ refused n vs)
    → p ≡ result b → (a : A) × (o ≡ result a)
behind_refusals (result a) h e = (a, refl)
behind_refusals (refused n vs) h e = absurd (one_way (sym (h n vs refl) ∙ e))

-- ---- a call after a call

module _ {A B : Type 0} where
  pub then_result : (o : Outcome A) (a : A) (k : A → Outcome B) (x : Outcome B) → result a ≡ o → x ≡ k a → x ≡ and_then o k
  unfolding and_then
  then_result o a k x e h = rw (← e) h

  pub then_refused : (o : Outcome A) (n : ℕ) (vs : List ℕ) (k : A → Outcome B) → refused n vs ≡ o → refused n vs ≡ and_then o k
  unfolding and_then
  then_refused o n vs k e = rw (← e)

  pub then_passed : (o : Outcome A) (k : A → Outcome B) {b : B} → and_then o k ≡ result b → (a : A) × (o ≡ result a) × (k a ≡ result b)
  unfolding and_then
  then_passed (result a) k e = (a, refl, e)
  then_passed (refused n vs) k e = absurd (one_way e)

  pub on_result_lem : (f : A → B) (o : Outcome A) {a : A} → o ≡ result a → on_result f o ≡ result (f a)
  unfolding on_result
  on_result_lem f o e = rw e

  pub on_refused : (f : A → B) (o : Outcome A) {n : ℕ} {vs : List ℕ} → refused n vs ≡ o → refused n vs ≡ on_result f o
  unfolding on_result
  on_refused f o e = rw (← e)

-- ---- what a chain's refusals are

pub refusing_so : {A : Type 0} (P Q : ℕ → List ℕ → Type 0) → ((n : ℕ) (vs : List ℕ) → P n vs → Q n vs) → (o : Outcome A) → Refusing P o → Refusing Q o
unfolding Refusing
refusing_so P Q h (result a) p = p
refusing_so P Q h (refused n vs) p = h n vs p

module _ {A : Type 0} (P : ℕ → List ℕ → Type 0) where
  pub refusing_if : (b : Bool) (n : ℕ) (vs : List ℕ) (rest : Outcome A) → P n vs → Refusing P rest → Refusing P (refuse_if b n vs rest)
  unfolding Refusing refuse_if
  refusing_if true n vs rest p r = p
  refusing_if false n vs rest p r = r

  pub refusing_need : (b : Bool) (n : ℕ) (vs : List ℕ) (rest : Outcome A) → P n vs → Refusing P rest → Refusing P (need b n vs rest)
  unfolding Refusing need
  refusing_need true n vs rest p r = r
  refusing_need false n vs rest p r = p

  pub refusing_branch : (b : Bool) (one other : Outcome A) → Refusing P one → Refusing P other → Refusing P (branch b one other)
  unfolding branch
  refusing_branch true one other p r = p
  refusing_branch false one other p r = r

  pub refusing_then : {B : Type 0} (o : Outcome B) (k : B → Outcome A) → Refusing P o → ((b : B) → o ≡ result b → Refusing P (k b)) → Refusing P (and_then o k)
  unfolding Refusing and_then
  refusing_then (result b) k p r = r b refl
  refusing_then (refused n vs) k p r = p

  pub ruleset refusals = (refusing_if, refusing_need, refusing_branch, refusing_then)

-- ---- checks by number

module _ {A : Type 0} (a : A) (f : ℕ → Outcome A) where
  -- all have passed so far: the next one decides
  pub order_next : (p : ℕ) {x : A} → in_order a f p ≡ result x → in_order a f (suc p) ≡ f p
  unfolding in_order and_then
  order_next p e = rw (e, and_then)

  -- the first that refuses counts
  pub order_refused : (p m : ℕ) {x : A} {n : ℕ} {vs : List ℕ} → in_order a f p ≡ result x → f p ≡ refused n vs → p < m → in_order a f m ≡ refused n vs
  unfolding in_order and_then
  order_refused p zero e r l = let z : ⊥ = omega arith in absurd z
  order_refused p (suc m) {n = n} {vs} e r l = go (ℕ_discrete p m) (order_refused p m e r)
    where
      go : Dec (p ≡ m) → (p < m → in_order a f m ≡ refused n vs) → and_then (in_order a f m) (λ x. f m) ≡ refused n vs
      go (yes q) ih = rw (← q) (order_next p e ∙ r)
      go (no q) ih = rw (ih (omega arith), and_then)

  -- a result means that each has passed
  pub order_passed : (p m : ℕ) {x : A} → in_order a f m ≡ result x → p < m → (y : A) × (f p ≡ result y)
  unfolding in_order
  order_passed p zero e l = let z : ⊥ = omega arith in absurd z
  order_passed p (suc m) {x} e l = go (ℕ_discrete p m) (then_passed _ _ e) (λ x e. order_passed p m e)
    where
      go : Dec (p ≡ m) → (b : A) × (in_order a f m ≡ result b) × (f m ≡ result x) → ((x : A) → in_order a f m ≡ result x → p < m → (y : A) × (f p ≡ result y)) → (y : A) × (f p ≡ result y)
      go (yes q) t ih = (x, rw q t.2)
      go (no q) t ih = ih t.0 t.1 (omega arith)

  -- where each passes, all do
  pub order_all : (m : ℕ) → ((p : ℕ) → p < m → f p ≡ result a) → in_order a f m ≡ result a
  unfolding in_order
  order_all zero h = refl
  order_all (suc m) h = order_next m (order_all m (λ p l. h p (omega arith))) ∙ h m (omega arith)

-- ---- a lent output

module _ {A : Type 0} where
  pub output_result : (o : Outcome (List A)) (xs out : List A) → o ≡ result xs → output_after o out ≡ xs ++ drop (length xs) out
  unfolding output_after
  output_result o xs out e = rw e

  -- an output just long enough holds the result
  pub output_whole : (o : Outcome (List A)) (xs out : List A) → o ≡ result xs → length xs ≡ length out → output_after o out ≡ xs
  output_whole o xs out e l = output_result o xs out e ∙ rw (l, drop-length out, append-nil)

  -- a refusal changes nothing
  pub output_refused : {B : Type 0} (f : B → List A) (o : Outcome B) (out : List A) → Refuses o → output_after (on_result f o) out ≡ out
  unfolding output_after on_result Refuses
  output_refused f (result b) out w = absurd w
  output_refused f (refused n vs) out w = refl
