-- The H step on raised numbers: what the code's bits say, what is taken off, and where the predictor lands. Assumes nothing.
use Rattle.std.proofs.Common.{◌≡◌, ℕ, ◌+◌, ◌-◌, ◌/◌, ◌<◌, ◌≤◌, min, Bool, true, false, cond, ltb, leb, get_or, ℤ, pos, negsuc, ◌+ℤ◌, ◌-ℤ◌, ◌^◌, refl, ◌∙◌, arith, le-ltb, lt-ltb}
use native.Mathlib.Decide.{dec_lt}
use lib.Signed.{mag}
use Rattle.std.proofs.lemmas.Int.{ints, clamps}
use Rattle.std.proofs.lemmas.Bool.Decides.{nat_tests}
use Rattle.signed.specs.Signed.{with_sign, clamp16, clamp_to, raised}
use mir.Syntax.{w32}
use mir.Val.{to_z, of_z}
use Rattle.signed.proofs.Laws.{back32, clamp_to_is, clamp_fits}
use Rattle.signed.proofs.Raised.{lower_is, raised-same, raised_less, raised-apart, raised_down, raised_up}
use Rattle.sqv4_format.specs.Layout.{encoder_version}
use Rattle.sqv4_format.specs.Tables.{h_index_adjust}
use Rattle.sqv4_format.specs.Step.{step_at, bit_set, part, h_size, difference, unclamped_predictor, unclamped_index, stepped}
use Rattle.sqv4_format.specs.Decode.{InRange}
use Rattle.sqv4_format.specs.Encode.{take_off, h_code}
use Rattle.sqv4_format.specs.declared.State.{State}
use Rattle.sqv4_format.specs.declared.Variant.TheVariants.{H}

-- ---- the code of four tests

abbrev code_of : Bool → Bool → Bool → Bool → ℕ
code_of a b c n = cond a 4 0 + cond b 2 0 + cond c 1 0 + cond n 8 0

record Bits (a b c n : Bool) (code : ℕ) : Type 0 where
  one : bit_set code 1 ≡ c
  two : bit_set code 2 ≡ b
  four : bit_set code 4 ≡ a
  eight : bit_set code 8 ≡ n
  adjust : get_or h_index_adjust code (pos 0) ≡ cond a (pos (2 + cond b 4 0 + cond c 2 0)) (negsuc 0)

bits : (a b c n : Bool) → Bits a b c n (code_of a b c n)
unfolding h_index_adjust
bits false false false false = record { one = refl; two = refl; four = refl; eight = refl; adjust = refl }
bits false false false true = record { one = refl; two = refl; four = refl; eight = refl; adjust = refl }
bits false false true false = record { one = refl; two = refl; four = refl; eight = refl; adjust = refl }
bits false false true true = record { one = refl; two = refl; four = refl; eight = refl; adjust = refl }
bits false true false false = record { one = refl; two = refl; four = refl; eight = refl; adjust = refl }
bits false true false true = record { one = refl; two = refl; four = refl; eight = refl; adjust = refl }
bits false true true false = record { one = refl; two = refl; four = refl; eight = refl; adjust = refl }
bits false true true true = record { one = refl; two = refl; four = refl; eight = refl; adjust = refl }
bits true false false false = record { one = refl; two = refl; four = refl; eight = refl; adjust = refl }
bits true false false true = record { one = refl; two = refl; four = refl; eight = refl; adjust = refl }
bits true false true false = record { one = refl; two = refl; four = refl; eight = refl; adjust = refl }
bits true false true true = record { one = refl; two = refl; four = refl; eight = refl; adjust = refl }
bits true true false false = record { one = refl; two = refl; four = refl; eight = refl; adjust = refl }
bits true true false true = record { one = refl; two = refl; four = refl; eight = refl; adjust = refl }
bits true true true false = record { one = refl; two = refl; four = refl; eight = refl; adjust = refl }
bits true true true true = record { one = refl; two = refl; four = refl; eight = refl; adjust = refl }

-- ---- what is taken off

taken : (t d : ℕ) → part (leb t d) t + take_off t d ≡ d
taken t d = grind (arith, nat_tests)

-- ---- the index

pub index_moved : (up : Bool) (index by : ℕ) → index ≤ 88 → clamp_to 88 (pos index +ℤ cond up (pos by) (negsuc 0)) ≡ cond up (min (index + by) 88) (index - 1)
index_moved true index by h = omega (arith, ints, clamps, clamp_to_is 88 (pos index +ℤ pos by))
index_moved false index by h = omega (arith, ints, clamps, clamp_to_is 88 (pos index +ℤ negsuc 0))

-- ---- a number that was lowered, read back

pub lowered : {u : ℕ} {z : ℤ} → u ≤ 65535 → mag z < 2 ^ 31 → z ≡ pos u -ℤ pos 32768
    → (raised (to_z w32 (of_z w32 z)) ≡ u) × (mag (to_z w32 (of_z w32 z)) ≤ 32767)
lowered h m e = rw (back32 _ m, e) (lower_is _ h)

-- ---- the step

module _ (s : State) (input : ℤ) (hs : InRange s) (hi : mag input ≤ 32767) (t x p d half quarter last : ℕ)
    (et : t ≡ step_at s.index) (ex : x ≡ raised input) (ep : p ≡ raised s.predictor) (ed : d ≡ x - p + (p - x))
    (eh : half ≡ take_off t d) (eq : quarter ≡ take_off (t / 2) half) (el : last ≡ take_off (t / 4) quarter) where
  abbrev code : ℕ
  code = code_of (leb t d) (leb (t / 2) half) (leb (t / 4) quarter) (ltb x p)

  told : Bits (leb t d) (leb (t / 2) half) (leb (t / 4) quarter) (ltb x p) code
  told = bits (leb t d) (leb (t / 2) half) (leb (t / 4) quarter) (ltb x p)

  code_is : h_code s input ≡ code
  unfolding h_code
  code_is =
      rw (
        raised-apart input s.predictor hi hs.predictor,
        raised_less input s.predictor hi hs.predictor,
        ← ex,
        ← ep,
        ← ed,
        ← et,
        ← eh,
        ← eq,
      )

  size_is : h_size t code + last ≡ t / 8 + d
  unfolding h_size
  size_is = rw (told.one, told.two, told.four) (omega (arith, taken t d, taken (t / 2) half, taken (t / 4) quarter))

  -- where the predictor lands
  lands : (u m : ℕ) → m + last ≡ t / 8 + d → (x < p → u ≡ x + last - t / 8) → (p ≤ x → u ≡ min (x + t / 8 - last) 65535)
      → u ≡ raised (clamp16 (s.predictor +ℤ with_sign (ltb x p) m))
  lands u m e low high = go (dec_lt x p)
    where
      go : Dec (x < p) → u ≡ raised (clamp16 (s.predictor +ℤ with_sign (ltb x p) m))
      go (yes l) = rw (lt-ltb x p l, raised_down s.predictor m hs.predictor, ← ep) (omega (arith, low l))
      go (no l) =
          let h : p ≤ x = omega arith in
          rw (le-ltb x p h, raised_up s.predictor m hs.predictor, ← ep) (omega (arith, high h))

  pub h_stepped : (q : ℤ) (i u by : ℕ) → (x < p → u ≡ x + last - t / 8) → (p ≤ x → u ≡ min (x + t / 8 - last) 65535)
      → raised q ≡ u → mag q ≤ 32767 → i ≡ cond (leb t d) (min (s.index + by) 88) (s.index - 1)
      → by ≡ 2 + cond (leb (t / 2) half) 4 0 + cond (leb (t / 4) quarter) 2 0
      → ◌≡◌ {A = State} (record { predictor = q; index = i }) (stepped encoder_version H s (h_code s input))
  unfolding stepped unclamped_predictor unclamped_index difference
  h_stepped q i u by low high er hq ei eb =
      rw (code_is, ← et, told.eight, told.adjust, index_moved (leb t d) s.index _ hs.index, ei, eb)
      (cc (raised-same q _ hq (clamp_fits (s.predictor +ℤ with_sign (ltb x p) (h_size t code))) (er ∙ lands u (h_size t code) size_is low high)))
