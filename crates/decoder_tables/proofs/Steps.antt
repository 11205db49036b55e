-- The state that the tables give after a code is the state of the definitions. Assumes nothing.
use Prim.Native.Nat.{ℕ, suc, ◌+◌, ◌-◌, ◌*◌, ◌^◌, ◌≤◌, ◌<◌, min}
use native.Mathlib.Omega.{arith}
use native.Mathlib.Nat.{mul-div_cancel, le_of_eq}
use mathlib.Core.Path.{◌≡◌, sym, ap, ◌∙◌}
use mathlib.Core.Bool.{cond}
use mathlib.Core.List.{List}
use lib.Arith.{digits_lt}
use lib.Dec.{ltb}
use lib.IntN.{ℤ, pos, negsuc, nat_abs, ◌+ℤ◌}
use lib.ListN.{length, get_or, take, drop, length-drop}
use lib.Pow.{pow_pos}
use lib.Seq.{take_all, get_or-drop}
use lib.Signed.{mag}
use borrow.Author.Tests.{le-ltb, ltb-true, ltb-false}
use Rattle.std.proofs.lemmas.Bool.{cond_both}
use Rattle.signed.specs.Signed.{clamp16, depth}
use Rattle.signed.proofs.Laws.{depth_le, depth_back}
use Rattle.sqv4_format.specs.Layout.{bits}
use Rattle.sqv4_format.specs.Step.{step_at, difference, unclamped_predictor, unclamped_index, stepped}
use Rattle.sqv4_format.specs.Decode.{InRange}
use Rattle.sqv4_format.specs.declared.Variant.{Variant}
use Rattle.sqv4_format.specs.declared.State.{State}
use Rattle.adpcm.proofs.Bounds.{step_high, difference_small}
use Rattle.decoder_tables.specs.Lookup.{Lookup, Held, difference_rule, kept, state_of, lowered, looked}
use Rattle.decoder_tables.specs.declared.TableState.{TableState}

-- ---- a depth after a difference

-- the entry of a difference below 0
below : (b : ℕ) → b < 131071 → nat_abs (pos 131071 +ℤ negsuc b) ≡ 131071 - suc b
below b h = rw (le-ltb 131071 (suc b) (omega arith))

-- a sum of two signs, by which of them is larger
by_size : (a b : ℕ) (P : ℤ → Type 0) → (a < b → P (negsuc (b - suc a))) → (b ≤ a → P (pos (a - b))) → P (cond (ltb a b) (negsuc (b - suc a)) (pos (a - b)))
by_size a b P f g = cond_both (ltb a b) (negsuc (b - suc a)) (pos (a - b)) P (λ t. f (ltb-true a b t)) (λ t. g (ltb-false a b t))

-- the depth of a sum below 0, and of one that is not, cut as `lowered` cuts it
under : (x n : ℕ) → x ≡ 32768 - suc n → 65535 - x ≡ min n 32767 + 32768
under x n e = omega arith

over : (x n : ℕ) → x ≡ n + 32768 → 65535 - x ≡ 32767 - min n 32767
over x n e = omega arith

lowered_is : (z d : ℤ) → mag z ≤ 32767 → nat_abs d ≤ 65535 → lowered (depth z) (nat_abs (pos 131071 +ℤ d)) ≡ depth (clamp16 (z +ℤ d))
unfolding depth clamp16
lowered_is (pos a) (pos b) h l = over _ (a + b) (omega arith)
lowered_is (pos a) (negsuc b) h l =
    rw (below b (omega arith))
    (by_size a (suc b) (λ z. lowered (32767 - a) (131071 - suc b) ≡ depth (clamp16 z))
    (λ k. under _ (suc b - suc a) (omega arith)) (λ k. over _ (a - suc b) (omega arith)))
lowered_is (negsuc a) (pos b) h l =
    by_size b (suc a) (λ z. lowered (a + 32768) (131071 + b) ≡ depth (clamp16 z))
    (λ k. under _ (suc a - suc b) (omega arith)) (λ k. over _ (b - suc a) (omega arith))
lowered_is (negsuc a) (negsuc b) h l = rw (below b (omega arith)) (under _ (suc (a + b)) (omega arith))

-- no entry is below a depth
entry_high : (d : ℤ) → nat_abs d ≤ 65535 → 65535 ≤ nat_abs (pos 131071 +ℤ d)
entry_high (pos b) h = omega arith
entry_high (negsuc b) h = rw (below b (omega arith)) (omega arith)

-- an element of a list's rest
pub rest_at : (l : List ℕ) (low from : ℕ) → get_or (take (length l - low) (drop low l)) from 0 ≡ get_or l (from + low) 0
rest_at l low from =
    rw (take_all (length l - low) (drop low l) (le_of_eq (length-drop low l)))
    (get_or-drop low l from 0 ∙ ap (λ i. get_or l i 0) (omega arith))

-- ---- the step

module _ {version : ℕ} {variant : Variant} {differences nexts : List ℕ} (t : Lookup version variant differences nexts)
    (s : State) (code : ℕ) (r : InRange s) (h : code < 2 ^ bits variant) where
  small : nat_abs (difference version variant (step_at s.index) code) ≤ 65535
  small = difference_small (step_at s.index) (step_high s.index r.index) version variant code

  entry_is : get_or differences (s.index * 2 ^ bits variant + code) 0 ≡ difference_rule version variant s.index code
  entry_is = t.difference.entry s.index code r.index h

  -- what a step needs
  pub step_needs : (s.index * 2 ^ bits variant + code < length differences) × (length nexts ≡ length differences)
      × (65535 ≤ get_or differences (s.index * 2 ^ bits variant + code) 0)
  step_needs = (
    rw t.difference.long (digits_lt (omega (arith, r.index)) h),
    t.next.long ∙ sym t.difference.long,
    rw entry_is (entry_high (difference version variant (step_at s.index) code) small),
  )

  pub looked_is : looked differences nexts (kept variant s) code ≡ kept variant (stepped version variant s code)
  unfolding looked stepped unclamped_predictor unclamped_index
  looked_is =
      rw (entry_is, t.next.entry s.index code r.index h, lowered_is s.predictor (difference version variant (step_at s.index) code) r.predictor small)

pub kept_back : (variant : Variant) (s : State) → InRange s → state_of variant (kept variant s) ≡ s
unfolding state_of
kept_back variant s r = rw (depth_back s.predictor r.predictor, mul-div_cancel s.index (pow_pos (bits variant)))

-- ---- what the tables hold of a state

pub held : (variant : Variant) (s : State) → InRange s → Held variant (kept variant s)
held variant s r = record { range = rw (kept_back variant s r) r; same = ap (kept variant) (sym (kept_back variant s r)) }

module _ {variant : Variant} {s : TableState} (h : Held variant s) where
  pub held_depth : s.depth ≤ 65535
  held_depth = rw (ap (λ p. p.depth) h.same) (depth_le _ h.range.predictor)

module _ {version : ℕ} {variant : Variant} {differences nexts : List ℕ} (t : Lookup version variant differences nexts)
    {s : TableState} (h : Held variant s) (code : ℕ) (l : code < 2 ^ bits variant) where
  -- what a step needs
  pub held_needs : (s.depth ≤ 65535) × (s.row + code < length differences) × (length nexts ≡ length differences) × (65535 ≤ get_or differences (s.row + code) 0)
  held_needs =
      let row = ap (λ p. p.row) h.same in
      let n = step_needs t (state_of variant s) code h.range l in
      (held_depth h, rw row n.0, n.1, rw row n.2)

  -- the state after it
  pub held_step : looked differences nexts s code ≡ kept variant (stepped version variant (state_of variant s) code)
  held_step = ap (λ p. looked differences nexts p code) h.same ∙ looked_is t (state_of variant s) code h.range l
