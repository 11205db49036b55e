-- `digits::unused_bits_zero` meets its contract: no bit is set in the bytes after that of the first unused bit, nor from that bit on in it.
-- Assumes nothing.
use mathlib.Core.Path.{◌≡◌, sym, ap, ap₂, ◌∙◌}
use Prim.Native.Nat.{ℕ, ◌+◌, ◌*◌, ◌/◌, ◌%◌, ◌^◌, ◌≤◌, ◌<◌}
use native.Mathlib.Omega.{arith}
use borrow.Author.Rules.{rules}
use borrow.Author.Tests.{tests}
use lib.Dec.{eqb}
use lib.ListN.{get_or, drop, length, length-drop}
use lib.Pow.{shr-shr}
use lib.Seq.{get_or-drop}
use Rattle.std.specs.Prelude.{MatchBool, ◌≢◌}
use Rattle.std.specs.List.{AllWithin, HoldsAt}
use Rattle.std.proofs.lemmas.Grind.{common_steps}
use Rattle.std.proofs.lemmas.Iterator.{cases_from_all, YieldsList-from_slice}
use Rattle.digits.specs.Digits.{number}
use Rattle.digits.proofs.Laws.{Small, rest_none, rest_less, rest_last, rest_set}
use Rattle.digits.proofs.unused_bits_zero.Goals as goal
use Rattle.digits.proofs.unused_bits_zero.Goals.{After-all}

-- the bytes looked at are those after byte k
after : (c : After-all) → c.iter.result.rest.now ≡ drop (c.args.used / 8 + 1) c.args.payload.now
after c = grind (arith, common_steps)

zeros : (c : After-all) → let xs = drop (c.args.used / 8 + 1) c.args.payload.now in MatchBool c.all.result (AllWithin (λ x. x ≡ 0) xs 0 (length xs)) ((i : ℕ) × (i < length xs) × HoldsAt (λ x. x ≢ 0) xs i)
zeros c =
    cases_from_all _ _ _ (λ x. x ≡ 0) (λ x. x ≢ 0) c.all.ensures.ran
    (YieldsList-from_slice (drop (c.args.used / 8 + 1) c.args.payload.now) (after c)) (λ x q k. search (rules, tests)) (λ x q k. search (rules, tests))

pub returns-then-payload-k : goal.returns-then-payload-k
returns-then-payload-k c =
    let bytes = c.args.payload.now in
    let small : Small 8 bytes = λ i. (c.type_inv.payload i).fits in
    let k = c.args.used / 8 in
    let none = rest_none bytes small k (λ i l. omega (arith, rw length-drop at l)) in
    let within : 8 * k ≤ c.args.used = omega arith in
    rw (rest_less (number 8 bytes) within none)

pub returns-then-all : goal.returns-then-all
returns-then-all c =
    let bytes = c.args.payload.now in
    let small : Small 8 bytes = λ i. (c.type_inv.payload i).fits in
    let k = c.args.used / 8 in
    let r = c.args.used % 8 in
    let none = rw c.if-all.true at (zeros (goal.at.returns-then-all c).After-all) in
    let last : number 8 bytes / 2 ^ (8 * k) ≡ get_or bytes k 0 =
    rest_last bytes small k (rest_none bytes small (k + 1) (λ i l. none i 0 (omega arith) l)) in
    let place : 8 * k + r ≡ c.args.used = omega arith in
    ap (λ (y : ℕ). eqb y 0)
    (ap₂ (λ (y z : ℕ). y / z) (c.at_or_zero.ensures.0 ∙ sym last) c.pow2.ensures.0
    ∙ shr-shr (number 8 bytes) (8 * k) r ∙ ap (λ (i : ℕ). number 8 bytes / 2 ^ i) place)

pub returns-else-all : goal.returns-else-all
returns-else-all c =
    let bytes = c.args.payload.now in
    let small : Small 8 bytes = λ i. (c.type_inv.payload i).fits in
    let k = c.args.used / 8 + 1 in
    let (i, within, set) = rw c.if-all.false at (zeros (goal.at.returns-else-all c).After-all) in
    c.if-all.false ∙ sym (rest_set bytes small c.args.used (k + i) (omega arith) (λ e. set 0 (get_or-drop k bytes i 0 ∙ e)))
