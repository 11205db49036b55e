-- The lines as the code writes them, piece by piece. Assumes nothing.
use mathlib.Core.Path.{◌≡◌, sym, ap, ◌∙◌}
use mathlib.Core.List.{List, [], ◌∷◌, ◌++◌, map, append_assoc, append-nil}
use mathlib.Core.Bool.{Bool, true, false, cond}
use Prim.Native.Nat.{ℕ, ◌/◌, ◌%◌, ◌^◌, ◌≤◌, ◌<◌}
use native.Mathlib.Omega.{arith}
use lib.ListN.{length, length-append}
use Rattle.sqv4_format.specs.Layout.{anew, volume_byte, index_byte, count, fragment_at_place}
use Rattle.sqv4_format.specs.declared.Header.{Header}
use Rattle.sqv4_format.specs.declared.Variant.{Variant}
use Rattle.sqv4_format.specs.declared.Variant.TheVariants.{H, L, LPlus}
use Rattle.text.specs.Text.{letters, decimal, spaced, line}
use Rattle.text.proofs.Laws.{decimal_few}
use Rattle.report_lines.specs.Lines.{refusal_line, spaced_values, variant_name, header_line, index_field, fragment_line}

-- ---- a refusal's line

after_first : (d : List ℕ) (vs : List ℕ) → spaced (d ∷ map decimal vs) ≡ d ++ spaced_values vs
unfolding spaced spaced_values
after_first d [] = sym (append-nil d)
after_first d (v ∷ vs) = ap (λ (l : List ℕ). d ++ (letters " " ++ l)) (after_first (decimal v) vs) ∙ ap (λ (l : List ℕ). d ++ l) (sym (append_assoc (letters " ") (decimal v) (spaced_values vs)))

module _ (n : ℕ) (vs : List ℕ) where
  pub refusal_pieces : ((letters "refused " ++ decimal n) ++ spaced_values vs) ++ letters "\n" ≡ refusal_line n vs
  unfolding refusal_line line spaced letters
  refusal_pieces = ap (λ (l : List ℕ). (letters "refused " ++ l) ++ letters "\n") (sym (after_first (decimal n) vs))

  pub refusal_few : n < 2 ^ 64 → length (spaced_values vs) ≤ 42 → length (refusal_line n vs) ≤ 128
  unfolding letters
  refusal_few h l = rw (← refusal_pieces) (simp length-append (omega (arith, decimal_few n h, l)))

pub no_values : length (spaced_values []) ≤ 42
unfolding spaced_values
no_values = omega arith

pub one_value : (a : ℕ) → a < 2 ^ 64 → length (spaced_values (a ∷ [])) ≤ 42
unfolding spaced_values letters
one_value a h = simp length-append (omega (arith, decimal_few a h))

pub two_values : (a b : ℕ) → a < 2 ^ 64 → b < 2 ^ 64 → length (spaced_values (a ∷ b ∷ [])) ≤ 42
unfolding spaced_values letters
two_values a b h k = simp length-append (omega (arith, decimal_few a h, decimal_few b k))

-- ---- the inspector's lines

regroup : (a b c d e f : List ℕ) → ((((a ++ b) ++ c) ++ d) ++ e) ++ f ≡ a ++ (b ++ (c ++ (d ++ (e ++ f))))
regroup a b c d e f = simp append_assoc

pub header_pieces : (h : Header)
    → ((((((letters "version " ++ decimal h.version) ++ letters " variant ") ++ variant_name h.variant) ++ (letters " channels " ++ decimal h.channels))
    ++ (letters " rate " ++ decimal h.rate)) ++ (letters " samples " ++ decimal h.samples)) ++ letters "\n" ≡ header_line h
unfolding header_line line spaced letters
header_pieces h =
    ap (λ (l : List ℕ). (letters "version " ++ l) ++ letters "\n")
    (regroup (decimal h.version) (letters " variant ") (variant_name h.variant) (letters " channels " ++ decimal h.channels) (letters " rate " ++ decimal h.rate) (letters " samples " ++ decimal h.samples))

pub name_few : (v : Variant) → length (variant_name v) ≤ 2
unfolding variant_name letters
name_few H = omega arith
name_few L = omega arith
name_few LPlus = omega arith

pub header_few : (h : Header) → h.version < 2 ^ 64 → h.channels < 2 ^ 64 → h.rate < 2 ^ 64 → h.samples < 2 ^ 64 → length (header_line h) ≤ 128
unfolding letters
header_few h a b c d =
    rw (← (header_pieces h))
    (simp length-append (omega (arith, decimal_few h.version a, name_few h.variant, decimal_few h.channels b, decimal_few h.rate c, decimal_few h.samples d)))

pub fragment_pieces : (h : Header) (d : List ℕ) (p : ℕ) → let f = p / h.channels in let fragment = fragment_at_place h d p in
    (((((decimal f ++ (letters " " ++ decimal (p % h.channels))) ++ (letters " " ++ decimal (count h f))) ++ (letters " " ++ decimal (volume_byte fragment)))
    ++ letters " ") ++ index_field h.version fragment) ++ letters "\n" ≡ fragment_line h d p
unfolding fragment_line line spaced letters
fragment_pieces h d p =
    ap (λ (l : List ℕ). l ++ letters "\n")
    (regroup (decimal (p / h.channels)) (letters " " ++ decimal (p % h.channels)) (letters " " ++ decimal (count h (p / h.channels))) (letters " " ++ decimal (volume_byte (fragment_at_place h d p))) (letters " ") (index_field h.version (fragment_at_place h d p)))

pub index_few : (version : ℕ) (fragment : List ℕ) → index_byte fragment < 2 ^ 64 → length (index_field version fragment) ≤ 20
unfolding index_field letters
index_few version fragment h = go (anew version)
  where
    go : (b : Bool) → length (cond b (decimal (index_byte fragment)) (letters "-")) ≤ 20
    go true = decimal_few _ h
    go false = omega arith

pub fragment_few : (h : Header) (d : List ℕ) (p : ℕ) → p / h.channels < 2 ^ 64 → p % h.channels < 2 ^ 64 → count h (p / h.channels) < 2 ^ 64
    → volume_byte (fragment_at_place h d p) < 2 ^ 64 → length (index_field h.version (fragment_at_place h d p)) ≤ 20 → length (fragment_line h d p) ≤ 128
unfolding letters
fragment_few h d p a b c e f =
    rw (← (fragment_pieces h d p))
    (simp length-append (omega (arith, decimal_few _ a, decimal_few _ b, decimal_few _ c, decimal_few _ e, f)))
