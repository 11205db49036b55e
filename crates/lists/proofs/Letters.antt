-- Four letters, compared by std's `starts_with`. Assumes nothing.
use mathlib.Core.Path.{◌≡◌, refl, ap, ap₂, ◌∙◌}
use mathlib.Core.Bool.{Bool, true, false, ◌&&◌}
use mathlib.Core.List.{List, [], ◌∷◌}
use Prim.Native.Nat.{ℕ, ◌+◌, ◌≤◌, ◌<◌}
use native.Mathlib.Nat.{add-zero}
use native.Mathlib.Omega.{arith}
use lib.Dec.{eqb, lit<}
use lib.ListN.{length, get_or, take, drop, length-drop}
use lib.Seq.{length-take-le, get_or-take, get_or-drop}
use Rattle.std.specs.Cmp.Lexicographic.{pointwise}
use Rattle.std.proofs.lemmas.Bool.Decides.{nat_tests}
use Rattle.std.proofs.lemmas.Slice.Eq.{text_from_reads}

-- the four bytes from `at` on
abbrev four_from : List ℕ → ℕ → List ℕ
four_from s at = get_or s at 0 ∷ get_or s (at + 1) 0 ∷ get_or s (at + 2) 0 ∷ get_or s (at + 3) 0 ∷ []

turned : (a b : ℕ) → eqb a b ≡ eqb b a
turned a b = grind (arith, nat_tests)

grouped : (p q r t : Bool) → (p && (q && (r && (t && true)))) ≡ (p && q && r && t)
grouped true true true true = refl
grouped true true true false = refl
grouped true true false t = refl
grouped true false r t = refl
grouped false q r t = refl

module _ (s l : List ℕ) (at : ℕ) (within : at + 4 ≤ length s) (four : length l ≡ 4) where
  byte : (k : ℕ) → k < 4 → get_or (take 4 (drop at s)) k 0 ≡ get_or s (at + k) 0
  byte k h = rw (get_or-take, get_or-drop)

  bytes_at : take 4 (drop at s) ≡ four_from s at
  bytes_at =
      text_from_reads _ _ (length-take-le 4 (drop at s) (simp length-drop (omega arith)))
      (byte 0 (lit< tt) ∙ rw add-zero, (byte 1 (lit< tt), (byte 2 (lit< tt), (byte 3 (lit< tt), tt))))

  letters : l ≡ four_from l 0
  letters = text_from_reads _ _ four (refl, (refl, (refl, (refl, tt))))

  pub letters_equal : pointwise eqb l (take (length l) (drop at s))
      ≡ (eqb (get_or s at 0) (get_or l 0 0) && eqb (get_or s (at + 1) 0) (get_or l 1 0)
      && eqb (get_or s (at + 2) 0) (get_or l 2 0) && eqb (get_or s (at + 3) 0) (get_or l 3 0))
  letters_equal =
      ap₂ (pointwise eqb) letters (ap (λ n. take n (drop at s)) four ∙ bytes_at)
      ∙ grouped (eqb (get_or l 0 0) (get_or s at 0)) (eqb (get_or l 1 0) (get_or s (at + 1) 0)) _ _
      ∙ simp (turned (get_or s at 0), turned (get_or s (at + 1) 0), turned (get_or s (at + 2) 0), turned (get_or s (at + 3) 0))
