-- `records::Question::state` meets its contract. Assumes nothing.
use mathlib.Core.Path.{◌≡◌, refl, ap, ◌∙◌}
use Prim.Native.Nat.{ℕ, zero, suc, ◌≤◌, ◌<◌}
use native.Mathlib.Omega.{arith}
use mathlib.Core.Bool.{Bool, true, false, cond}
use Rattle.std.specs.Prelude.{eqb}
use lib.ListN.{drop, length-drop}
use lib.IntN.{ℤ, pos, negsuc, neg_ℤ, ◌-ℤ◌, +ℤ_idl}
use lib.Seq.{drop-drop}
use mir.Syntax.{w32}
use mir.Val.{SFits, to_z, of_z}
use mir.Facts.{to_z-of_z}
use native.Mathlib.Decide.{dec_lt}
use borrow.Author.Tests.{le-leb, lt-leb, eq-eqb, ne_eqb}
use borrow.Author.Rules.{rules}
use Rattle.records.specs.Bytes.{predictor_of}
use Rattle.records.proofs.question.Question.state.Goals as goal
use Rattle.records.proofs.question.Question.state.Goals.{in-Ok, in-Ok-2, in-Err, After-get_u64}

large : (m : ℕ) → (SFits w32 (pos m) → ⊥) → 2147483648 ≤ m
large m h = go (dec_lt m 2147483648)
  where
    go : Dec (m < 2147483648) → 2147483648 ≤ m
    go (yes few) = absurd (h (search rules))
    go (no more) = omega arith

least : (s m : ℕ) → 2147483648 ≤ m → negsuc 2147483647 ≡ predictor_of s m
unfolding predictor_of
least s m h = rw (le-leb 2147483648 m h) refl

turned : (m : ℕ) → m < 2147483648 → to_z w32 (of_z w32 (pos 0 -ℤ pos m)) ≡ neg_ℤ (pos m)
turned zero h = refl
turned (suc n) h = ap (λ (z : ℤ). to_z w32 (of_z w32 z)) (+ℤ_idl (neg_ℤ (pos (suc n)))) ∙ to_z-of_z {w = w32} (record { sfits = omega (arith, h) })

minus : (s m : ℕ) → m < 2147483648 → s ≡ 1 → neg_ℤ (pos m) ≡ predictor_of s m
unfolding predictor_of
minus s m h e = rw (lt-leb 2147483648 m h, eq-eqb s 1 e) refl

plus : (s m : ℕ) → m < 2147483648 → (s ≡ 1 → ⊥) → pos m ≡ predictor_of s m
unfolding predictor_of
plus s m h e = rw (lt-leb 2147483648 m h, ne_eqb s 1 e) refl

none : (s : ℕ) → predictor_of s 0 ≡ pos 0
unfolding predictor_of
none s = go (eqb s 1)
  where
    go : (b : Bool) → cond b (neg_ℤ (pos 0)) (pos 0) ≡ pos 0
    go true = refl
    go false = refl

taken : (c : After-get_u64) → to_z w32 c.match-try_from.predictor-bits ≡ predictor_of c.get_u8-negative.result c.get_u32-magnitude.result
taken c = elim c.match-try_from.branch [
  | in-Ok w ↦
      (rw (w.in-Ok.ensures.1, to_z-of_z w.in-Ok.ensures.0) at w.predictor-is) ∙ turned _ w.in-Ok.ensures.0.sfits
      ∙ minus _ c.get_u32-magnitude.result w.in-Ok.ensures.0.sfits w.if-negative.true
  | in-Ok-2 w ↦ (rw (w.in-Ok.ensures.1, to_z-of_z w.in-Ok.ensures.0) at w.predictor-is) ∙ plus _ c.get_u32-magnitude.result w.in-Ok.ensures.0.sfits w.if-negative.false
  | in-Err w ↦ w.predictor-is ∙ least _ c.get_u32-magnitude.result (large _ w.in-Err.ensures)
]

-- what is left before the index
behind : (c : After-get_u64) → c.get_u32.new.self.rest.now ≡ drop 9 c.args.self.now.rest.now
behind c =
    c.get_u32.ensures.rest ∙ rw (c.get_u32-magnitude.ensures.rest, c.get_u8-negative.ensures.rest)
    (drop-drop 4 4 (drop 1 c.args.self.now.rest.now) ∙ drop-drop 8 1 c.args.self.now.rest.now)

pub returns-clause-predictor : goal.returns-clause-predictor
returns-clause-predictor c = λ long.
    let m = rw c.get_u8-negative.ensures.rest at (c.get_u32-magnitude.ensures.value (rw (c.get_u8-negative.ensures.rest, length-drop) (omega arith))) in
    rw (← m, ← c.get_u8-negative.ensures.value) (taken c)

pub returns-clause-no_predictor : goal.returns-clause-no_predictor
returns-clause-no_predictor c = λ short.
    let m = c.get_u32-magnitude.ensures.none (rw (c.get_u8-negative.ensures.rest, length-drop) (omega arith)) in
    (rw m at (taken c)) ∙ none _

pub returns-clause-index : goal.returns-clause-index
returns-clause-index c = λ long. rw (behind c) at (c.get_u64.ensures.value (rw (behind c, length-drop) (omega arith)))

pub returns-clause-index_low : goal.returns-clause-index_low
returns-clause-index_low c = λ long cut.
    rw (behind c) at (c.get_u64.ensures.low (rw (behind c, length-drop) (omega arith)) (rw (behind c, length-drop) (omega arith)))

pub returns-clause-rest : goal.returns-clause-rest
returns-clause-rest c = c.get_u64.ensures.rest ∙ rw (behind c) (drop-drop 8 9 c.args.self.now.rest.now)
