-- What the walk over the chunks has found stands in the file as one of them. Assumes nothing.
use mathlib.Core.Path.{◌≡◌, refl, ap, subst}
use mathlib.Core.Bool.{true}
use mathlib.Core.List.{List}
use Prim.Native.Nat.{ℕ, suc, ◌+◌, ◌≤◌}
use native.Mathlib.Omega.{arith}
use Rattle.std.specs.Prelude.{Some}
use Rattle.std.proofs.lemmas.Option.{none-some}
use Rattle.lists.proofs.ByIndex.{rises}
use Rattle.outcome.specs.Outcome.{result}
use Rattle.outcome.proofs.Laws.{cleared}
use Rattle.wav_format.specs.Wave.{letters_at, size_at, padded_end, format_at, passed_over, with_format, with_data, chunk_step, first_chunk, walk}
use Rattle.wav_format.specs.Extended.{chunk_start}
use Rattle.parts.specs.declared.Part.{Part}
use Rattle.wav_format.specs.declared.Format.{Format}
use Rattle.wav_format.specs.declared.Chunks.{Chunks}
use Rattle.wav_format.proofs.Steps.{either_way, kept}

module _ (s : List ℕ) where
  pub next_start : (k : ℕ) → chunk_start s (suc k) ≡ padded_end (chunk_start s k) (size_at s (chunk_start s k))
  unfolding chunk_start
  next_start k = refl

  pub starts_rise : (j k : ℕ) → j ≤ k → chunk_start s j ≤ chunk_start s k
  starts_rise = rises (λ k. chunk_start s k) (λ k. omega (arith, next_start k))

  -- the part is the contents of chunk `number`, which has these letters
  pub record Contents (a b c d : ℕ) (p : Part) : Type 0 where
    pub number : ℕ
    pub letters : letters_at s (chunk_start s number) a b c d ≡ true
    pub start : p.start ≡ chunk_start s number + 8
    pub size : p.size ≡ size_at s (chunk_start s number)

  -- the walk is where a chunk begins, and what it has found are chunks' contents
  pub record Found (c : Chunks) : Type 0 where
    pub number : ℕ
    pub at : c.at ≡ chunk_start s number
    pub format : (f : Format) → c.format ≡ Some f → Contents 102 109 116 32 f.part
    pub samples : (p : Part) → c.samples ≡ Some p → Contents 100 97 116 97 p

  pub found_first : Found first_chunk
  unfolding chunk_start
  found_first = record { number = 0; at = refl; format = λ f e. absurd (none-some f e); samples = λ p e. absurd (none-some p e) }

  -- a part that is the contents of the chunk where the walk is
  here : {a b x y : ℕ} (c : Chunks) (p : Part) → Found c → letters_at s c.at a b x y ≡ true → record { start = c.at + 8; size = size_at s c.at } ≡ p → Contents a b x y p
  here {a} {b} {x} {y} c p found t same =
      subst (Contents a b x y) same
      (record {
        number = found.number;
        letters = subst (λ (n : ℕ). letters_at s n a b x y ≡ true) found.at t;
        start = ap (λ (n : ℕ). n + 8) found.at;
        size = ap (λ (n : ℕ). size_at s n) found.at;
      })

  pub found_next : (end : ℕ) (c d : Chunks) → Found c → chunk_step s end c ≡ result d → Found d
  unfolding chunk_step format_at
  found_next end c d found e =
      let size = size_at s c.at in
      let number = suc found.number in
      let next : padded_end c.at size ≡ chunk_start s number = rw (found.at, next_start found.number) in
      let to : (x : Chunks) → Found x → result x ≡ result d → Found d = λ x f r. let same : x ≡ d = cc in subst Found same f in
      let f = format_at s (c.at + 8) size in
      either_way _ _ _ d
      (λ t q. to (with_format f size c) (record { number = number; at = next; format = λ g r. here c g.part found t cc; samples = found.samples })
      (cleared _ _ _ _ (cleared _ _ _ _ q).1).1)
      (λ _ q. either_way _ _ _ d
      (λ t r. to (with_data size c) (record { number = number; at = next; format = found.format; samples = λ p r. here c p found t cc }) (cleared _ _ _ _ r).1)
      (λ _ r. to (passed_over size c) (record { number = number; at = next; format = found.format; samples = found.samples }) r)
      q)
      (cleared _ _ _ _ (cleared _ _ _ _ e).1).1

  pub walk_found : (end : ℕ) (d : Chunks) → walk s end ≡ result d → Found d
  unfolding walk
  walk_found end d e = kept s end Found (found_next end) end first_chunk d found_first e
