-- The walk over the chunks, turn by turn: `end` turns suffice, and more change nothing. Assumes nothing.
use mathlib.Core.Path.{◌≡◌, refl, sym, ◌∙◌}
use mathlib.Core.List.{List}
use Prim.Native.Nat.{ℕ, zero, suc, ◌+◌, ◌≤◌, ◌<◌}
use native.Mathlib.Omega.{arith}
use native.Mathlib.Decide.{dec_lt}
use borrow.Author.Tests.{lt-ltb, le-ltb}
use Rattle.outcome.specs.Outcome.{Outcome, result, refused, branch, and_then}
use Rattle.wav_format.specs.Wave.{chunk_step, first_chunk, walk_for, walk}
use Rattle.wav_format.specs.declared.Chunks.{Chunks}
use Rattle.wav_format.proofs.Steps.{stepped}

module _ (s : List ℕ) (end : ℕ) where
  walk_on : (n : ℕ) (c : Chunks) → c.at < end → walk_for (suc n) s end c ≡ and_then (chunk_step s end c) (walk_for n s end)
  unfolding walk_for branch
  walk_on n c h = rw (lt-ltb _ _ h)

  walk_end : (n : ℕ) (c : Chunks) → end ≤ c.at → walk_for n s end c ≡ result c
  unfolding walk_for branch
  walk_end zero c h = refl
  walk_end (suc n) c h = rw (le-ltb _ _ h)

  -- any two numbers of turns that reach the end walk alike
  same_walk : (m n : ℕ) (c : Chunks) → end ≤ c.at + m → end ≤ c.at + n → walk_for m s end c ≡ walk_for n s end c
  unfolding and_then
  same_walk zero n c h k = walk_end zero c (omega arith) ∙ sym (walk_end n c (omega arith))
  same_walk (suc m) zero c h k = walk_end (suc m) c (omega arith) ∙ sym (walk_end zero c (omega arith))
  same_walk (suc m) (suc n) c h k = go (dec_lt c.at end) (same_walk m n)
    where
      Alike : Type 0
      Alike = (d : Chunks) → end ≤ d.at + m → end ≤ d.at + n → walk_for m s end d ≡ walk_for n s end d

      turn : Alike → (o : Outcome Chunks) → chunk_step s end c ≡ o → and_then o (walk_for m s end) ≡ and_then o (walk_for n s end)
      turn ih (result d) e = let r = stepped s end c d e in ih d (omega arith) (omega arith)
      turn ih (refused i vs) e = refl

      go : Dec (c.at < end) → Alike → walk_for (suc m) s end c ≡ walk_for (suc n) s end c
      go (yes l) ih = walk_on m c l ∙ turn ih (chunk_step s end c) refl ∙ sym (walk_on n c l)
      go (no l) ih = walk_end (suc m) c (omega arith) ∙ sym (walk_end (suc n) c (omega arith))

  -- more turns than bytes change nothing
  pub walk_enough : (n : ℕ) → end ≤ n → walk_for n s end first_chunk ≡ walk s end
  unfolding walk
  walk_enough n h = same_walk n end first_chunk (omega arith) (omega arith)

  -- the walk goes on from c as the whole walk does
  abbrev pub Reached : Chunks → Type 0
  Reached c = walk_for end s end c ≡ walk s end

  pub reached_first : Reached first_chunk
  unfolding walk
  reached_first = refl

  -- one turn, with as many turns after it
  turn_on : (c : Chunks) → c.at < end → walk_for end s end c ≡ and_then (chunk_step s end c) (walk_for end s end)
  turn_on c h = same_walk end (suc end) c (omega arith) (omega arith) ∙ walk_on end c h

  pub reached_next : (c d : Chunks) → Reached c → c.at < end → result d ≡ chunk_step s end c → Reached d
  unfolding and_then
  reached_next c d r h e = sym (turn_on c h ∙ rw (← e)) ∙ r

  pub reached_stop : (c : Chunks) (k : ℕ) (vs : List ℕ) → Reached c → c.at < end → refused k vs ≡ chunk_step s end c → refused k vs ≡ walk s end
  unfolding and_then
  reached_stop c k vs r h e = sym (turn_on c h ∙ rw (← e)) ∙ r

  pub reached_end : (c : Chunks) → Reached c → end ≤ c.at → result c ≡ walk s end
  reached_end c r h = sym (walk_end end c h) ∙ r
