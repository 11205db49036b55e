-- What the definitions say where they accept: a chunk moves the walk forward and stays before the RIFF end, what each keeps the walk keeps,
-- and a frame has some bytes. Assumes nothing.
use mathlib.Core.Path.{◌≡◌, refl, subst}
use mathlib.Core.Bool.{Bool, true, false}
use mathlib.Core.List.{List}
use Prim.Native.Nat.{ℕ, zero, suc, ◌+◌, ◌*◌, ◌≤◌, ◌<◌}
use native.Mathlib.Omega.{arith}
use borrow.Author.Tests.{ltb-false, eqb-true}
use lib.Dec.{eqb}
use Rattle.std.specs.Prelude.{Option, Some, None}
use Rattle.outcome.specs.Outcome.{Outcome, result, branch}
use Rattle.outcome.proofs.Flags.{either_elim, one_or_two_lem}
use Rattle.outcome.proofs.Laws.{cleared, passed, then_passed}
use Rattle.wav_format.specs.Wave.{size_at, padded_end, format_at, passed_over, with_format, with_data, chunk_step, walk_for, found, one_or_two, check_format}
use Rattle.wav_format.specs.declared.Chunks.{Chunks}
use Rattle.parts.specs.declared.Part.{Part}

-- a result comes by one of two ways
pub either_way : {A : Type 0} {P : Type 0} (b : Bool) (one other : Outcome A) (a : A) → (b ≡ true → one ≡ result a → P)
    → (b ≡ false → other ≡ result a → P) → branch b one other ≡ result a → P
unfolding branch
either_way true one other a f g e = f refl e
either_way false one other a f g e = g refl e

-- the samples, where they were found, lie before the RIFF end
abbrev pub Inside : ℕ → Option Part → Type 0
Inside end None = Unit {0}
Inside end (Some p) = p.start + p.size ≤ end

-- what was found is there
pub was_found : {A : Type 0} (o : Option A) (n : ℕ) {a : A} → found o n ≡ result a → o ≡ Some a
unfolding found
was_found (Some b) n e = cc
was_found None n e = cc

-- c's next chunk gives d
pub record Stepped (end : ℕ) (c d : Chunks) : Type 0 where
  pub forward : c.at + 8 ≤ d.at
  pub inside : d.at ≤ end
  pub samples_inside : Inside end c.samples → Inside end d.samples

stepped_to : {end : ℕ} {c : Chunks} (x d : Chunks) → Stepped end c x → result x ≡ result d → Stepped end c d
stepped_to {end} {c} x d r e = let same : x ≡ d = cc in subst (λ (y : Chunks). Stepped end c y) same r

pub stepped : (s : List ℕ) (end : ℕ) (c d : Chunks) → chunk_step s end c ≡ result d → Stepped end c d
unfolding chunk_step
stepped s end c d e =
    let size = size_at s c.at in
    let p = cleared _ _ _ _ (cleared _ _ _ _ e).1 in
    let fits : padded_end c.at size ≤ end = ltb-false _ _ p.0 in
    either_way _ _ _ d
    (λ _ q. stepped_to (with_format (format_at s (c.at + 8) size) size c) d
    (record { forward = omega arith; inside = fits; samples_inside = λ h. h }) (cleared _ _ _ _ (cleared _ _ _ _ q).1).1)
    (λ _ q. either_way _ _ _ d
    (λ _ t. stepped_to (with_data size c) d (record { forward = omega arith; inside = fits; samples_inside = λ h. omega arith }) (cleared _ _ _ _ t).1)
    (λ _ t. stepped_to (passed_over size c) d (record { forward = omega arith; inside = fits; samples_inside = λ h. h }) t)
    q)
    p.1

-- what each step keeps still holds where the walk ends
pub kept : (s : List ℕ) (end : ℕ) (P : Chunks → Type 0) → ((c d : Chunks) → P c → chunk_step s end c ≡ result d → P d)
    → (n : ℕ) (c d : Chunks) → P c → walk_for n s end c ≡ result d → P d
unfolding walk_for
kept s end P step zero c d p e = let same : c ≡ d = cc in subst P same p
kept s end P step (suc n) c d p e =
    either_way _ _ _ d
    (λ _ q. let t = then_passed _ _ q in kept s end P step n t.0 d (step c t.0 p t.1) t.2)
    (λ _ q. let same : c ≡ d = cc in subst P same p)
    e

-- what the checks of the fmt chunk say of numbers
pub one_or_two_is : (n : ℕ) → one_or_two n ≡ true → (1 ≤ n) × (n ≤ 2)
unfolding one_or_two
one_or_two_is n e =
    either_elim (eqb n 1) (eqb n 2) (λ h. let k = eqb-true n 1 h in omega arith) (λ h. let k = eqb-true n 2 h in omega arith) e

pub is_one_or_two : (n : ℕ) → 0 < n → n ≤ 2 → one_or_two n ≡ true
unfolding one_or_two
is_one_or_two = one_or_two_lem

pub frame_some : (encoding channels rate byteRate align bits : ℕ) {frame : ℕ} → check_format encoding channels rate byteRate align bits ≡ result frame
    → 1 ≤ frame
unfolding check_format
frame_some encoding channels rate byteRate align bits {frame} e =
    let p = passed _ _ _ _ (passed _ _ _ _ e).1 in
    let few = one_or_two_is channels p.0 in
    let last : result (channels * 2) ≡ result frame = (passed _ _ _ _ (cleared _ _ _ _ (cleared _ _ _ _ p.1).1).1).1 in
    let same : channels * 2 ≡ frame = cc in
    omega arith
