-- Tests that are made of tests. Assumes nothing.
use mathlib.Core.Path.{◌≡◌, refl, sym, ◌∙◌, subst}
use mathlib.Core.Bool.{Bool, true, false, ◌&&◌, ◌||◌}
use Prim.Native.Nat.{ℕ, zero, suc, ◌≤◌, ◌<◌}
use native.Mathlib.Omega.{arith}
use lib.Dec.{T, eqb}

-- a computed test, as an equation
pub T_true : (b : Bool) → T b → b ≡ true
T_true true t = refl
T_true false t = absurd t

-- no test is both
pub not_both : (b : Bool) → b ≡ true → b ≡ false → ⊥
not_both b e f = subst T (sym e ∙ f) tt

pub both_true : (a b : Bool) → a ≡ true → b ≡ true → (a && b) ≡ true
both_true a b e f = rw (e, f)

pub both_left : (a b : Bool) → (a && b) ≡ true → a ≡ true
both_left true b e = refl
both_left false b e = e

pub both_right : (a b : Bool) → (a && b) ≡ true → b ≡ true
both_right true b e = e
both_right false b e = cc

pub either_right : (a b : Bool) → b ≡ true → (a || b) ≡ true
either_right true b e = refl
either_right false b e = e

pub either_elim : {P : Type 0} (a b : Bool) → (a ≡ true → P) → (b ≡ true → P) → (a || b) ≡ true → P
either_elim true b f g e = f refl
either_elim false b f g e = g e

-- a call's result stands for the test that it computes
pub via : (r b v : Bool) → r ≡ b → r ≡ v → b ≡ v
via r b v e h = sym e ∙ h

-- one channel or two: a number from 1 to 2 passes the test
pub one_or_two_lem : (n : ℕ) → 0 < n → n ≤ 2 → (eqb n 1 || eqb n 2) ≡ true
one_or_two_lem zero low high = let z : ⊥ = omega arith in absurd z
one_or_two_lem (suc zero) low high = refl
one_or_two_lem (suc (suc zero)) low high = refl
one_or_two_lem (suc (suc (suc n))) low high = let z : ⊥ = omega arith in absurd z
