-- The L and L+ step on raised numbers: the eight candidates, the code that is chosen, and the state after it. Assumes nothing.
use Rattle.std.proofs.Common.{◌≡◌, ℕ, zero, suc, ◌+◌, ◌-◌, ◌*◌, ◌/◌, ◌%◌, ◌<◌, ◌≤◌, min, true, false, cond, ltb, get_or, ℤ, pos, negsuc, refl, sym, ap, ◌∙◌, arith}
use native.Mathlib.Decide.{dec_lt}
use lib.Signed.{mag}
use Rattle.lists.proofs.Least.{least_at}
use Rattle.signed.specs.Signed.{raised}
use Rattle.signed.proofs.Raised.{raised-same, raised-apart, raised_down, raised_up}
use Rattle.sqv4_format.specs.Tables.{l_index_adjust, l_levels, l_plus_levels}
use Rattle.sqv4_format.specs.Layout.{encoder_version, bits}
use Rattle.sqv4_format.specs.Step.{step_at, bit_set, l_size, level_of, unclamped_predictor, unclamped_index, stepped}
use Rattle.sqv4_format.specs.Decode.{InRange}
use Rattle.sqv4_format.specs.Encode.{Choice, choice, l_code}
use Rattle.sqv4_format.specs.declared.State.{State}
use Rattle.sqv4_format.specs.declared.Variant.{Variant}
use Rattle.sqv4_format.specs.declared.Variant.TheVariants.{H, L, LPlus}
use Rattle.sqv4_format.proofs.Range.{stepped_range}
use Rattle.adpcm.proofs.Bounds.{difference_three, adjustment_three, step_low}
use Rattle.encoder_step.specs.declared.Sizes.{Sizes}
use Rattle.encoder_step.specs.Advance.{size_at, Sized, Ordered, Landed}
use Rattle.encoder_step.proofs.Cascade.{index_moved}
use Rattle.encoder_step.proofs.Nearest.{apart, Picked, Chosen, chosen, Lowest, cut, rises, differ, first_only, up_near, up_far, down_near, down_far}

-- ---- the four sizes grow

record Grow (f : ℕ → ℕ) : Type 0 where
  some : 0 < f 0
  one : f 0 < f 1
  two : f 1 < f 2
  three : f 2 < f 3

grow : (variant : Variant) (step : ℕ) → bits variant ≡ 3 → 7 ≤ step → Grow (size_at variant step)
unfolding l_size level_of l_levels l_plus_levels
grow H step e h = let z : ⊥ = omega arith in absurd z
grow L step e h = record { some = omega arith; one = omega arith; two = omega arith; three = omega arith }
grow LPlus step e h = go (dec_lt step 8)
  where
    go : Dec (step < 8) → Grow (size_at LPlus step)
    go (yes l) =
        let q : step ≡ 7 = omega arith in
        rw q (record { some = omega arith; one = omega arith; two = omega arith; three = omega arith })
    go (no l) = record { some = omega arith; one = omega arith; two = omega arith; three = omega arith }

pub sized_order : (variant : Variant) (step : ℕ) {r : Sizes} → bits variant ≡ 3 → 7 ≤ step → Sized variant step r → Ordered r
sized_order variant step e h z =
    let g = grow variant step e h in
    record {
      first = omega (arith, z.first, z.fourth, g.one, g.two, g.three);
      second = omega (arith, z.second, z.fourth, g.two, g.three);
      third = omega (arith, z.third, z.fourth, g.three);
    }

-- each is at most the one after the next
pub sized_rise : (variant : Variant) (step : ℕ) {r : Sizes} → bits variant ≡ 3 → 7 ≤ step → Sized variant step r → (r.a ≤ r.c) × (r.b ≤ r.d)
sized_rise variant step e h z =
    let g = grow variant step e h in (omega (arith, z.first, z.third, g.one, g.two), omega (arith, z.second, z.fourth, g.two, g.three))

grows : {f : ℕ → ℕ} → Grow f → (i j : ℕ) → i < j → j < 4 → f i < f j
grows g zero (suc zero) h l = g.one
grows g zero (suc (suc zero)) h l = omega (arith, g.one, g.two)
grows g zero (suc (suc (suc zero))) h l = omega (arith, g.one, g.two, g.three)
grows g (suc zero) (suc (suc zero)) h l = g.two
grows g (suc zero) (suc (suc (suc zero))) h l = omega (arith, g.two, g.three)
grows g (suc (suc zero)) (suc (suc (suc zero))) h l = g.three
grows g i zero h l = let z : ⊥ = omega arith in absurd z
grows g i (suc (suc (suc (suc j)))) h l = let z : ⊥ = omega arith in absurd z
grows g (suc i) (suc zero) h l = let z : ⊥ = omega arith in absurd z
grows g (suc (suc i)) (suc (suc zero)) h l = let z : ⊥ = omega arith in absurd z
grows g (suc (suc (suc i))) (suc (suc (suc zero))) h l = let z : ⊥ = omega arith in absurd z

-- ---- what the code adds to the index

adjusted : (m : ℕ) → m < 4 → get_or l_index_adjust m (pos 0) ≡ cond (ltb 0 m) (pos (2 * m)) (negsuc 0)
unfolding l_index_adjust
adjusted zero h = refl
adjusted (suc zero) h = refl
adjusted (suc (suc zero)) h = refl
adjusted (suc (suc (suc zero))) h = refl
adjusted (suc (suc (suc (suc m)))) h = let z : ⊥ = omega arith in absurd z

-- ---- distances of a mark x from a place p, and of what lies s beyond p toward x or away from it

down_toward : (x r s : ℕ) → apart x (x + r - s) ≡ apart r (min s (x + r))
down_toward x r s = go (dec_lt (x + r) s)
  where
    go : Dec (x + r < s) → apart x (x + r - s) ≡ apart r (min s (x + r))
    go (yes l) = let e : x + r - s ≡ 0 = omega arith in let f : min s (x + r) ≡ x + r = omega arith in rw (e, f) (omega arith)
    go (no l) = let f : min s (x + r) ≡ s = omega arith in rw f (omega arith)

down_away : (x r s : ℕ) → x + r ≤ 65535 → apart x (min (x + r + s) 65535) ≡ r + min s (65535 - (x + r))
down_away x r s h = omega arith

shift : (p r s : ℕ) → apart (p + r) (p + s) ≡ apart r s
shift p r s = omega arith

at_top : (p r : ℕ) → p + r ≤ 65535 → apart (p + r) 65535 ≡ apart r (65535 - p)
at_top p r h = omega arith

up_toward : (p r s : ℕ) → p + r ≤ 65535 → apart (p + r) (min (p + s) 65535) ≡ apart r (min s (65535 - p))
up_toward p r s h = go (dec_lt 65535 (p + s))
  where
    go : Dec (65535 < p + s) → apart (p + r) (min (p + s) 65535) ≡ apart r (min s (65535 - p))
    go (yes l) =
        let e : min (p + s) 65535 ≡ 65535 = omega arith in
        let f : min s (65535 - p) ≡ 65535 - p = omega arith in
        rw (e, f) (at_top p r h)
    go (no l) =
        let e : min (p + s) 65535 ≡ p + s = omega arith in
        let f : min s (65535 - p) ≡ s = omega arith in
        rw (e, f) (shift p r s)

up_away : (p r s : ℕ) → apart (p + r) (p - s) ≡ r + min s p
up_away p r s = omega arith

down_short : (p s v : ℕ) → v ≡ min s p → p - v ≡ p - s
down_short p s v e = omega arith

up_short : (p s v : ℕ) → p ≤ 65535 → v ≡ min s (65535 - p) → p + v ≡ min (p + s) 65535
up_short p s v h e = omega arith

-- ---- a candidate, and its error

low_bit : (j : ℕ) → j < 4 → bit_set j 4 ≡ false
low_bit j h = let e : j / 4 % 2 ≡ 0 = omega arith in rw e

high_bit : (j : ℕ) → j < 4 → bit_set (4 + j) 4 ≡ true
high_bit j h = let e : (4 + j) / 4 % 2 ≡ 1 = omega arith in rw e

low_level : (variant : Variant) (j : ℕ) → level_of encoder_version variant (4 + j) ≡ level_of encoder_version variant j
unfolding level_of
low_level variant j = let e : (4 + j) % 4 ≡ j % 4 = omega arith in rw e

module _ (variant : Variant) (s : State) (input : ℤ) (three : bits variant ≡ 3) (hs : InRange s) (hi : mag input ≤ 32767) (t x p : ℕ)
    (et : t ≡ step_at s.index) (ex : x ≡ raised input) (ep : p ≡ raised s.predictor) where
  abbrev size : ℕ → ℕ
  size = size_at variant t

  landing : ℕ → ℕ
  landing code = raised (stepped encoder_version variant s code).predictor

  up_landing : (j : ℕ) → j < 4 → landing j ≡ min (p + size j) 65535
  unfolding landing stepped unclamped_predictor
  up_landing j h =
      rw (difference_three encoder_version variant (step_at s.index) j three, low_bit j h, raised_up s.predictor _ hs.predictor, ← ep, ← et)

  down_landing : (j : ℕ) → j < 4 → landing (4 + j) ≡ p - size j
  unfolding landing stepped unclamped_predictor
  down_landing j h =
      rw (difference_three encoder_version variant (step_at s.index) (4 + j) three, high_bit j h, low_level variant j, raised_down s.predictor _ hs.predictor, ← ep, ← et)

  abbrev cost : ℕ → ℕ
  cost code = (choice variant s input code).error

  cost_is : (code : ℕ) → cost code ≡ apart x (landing code)
  unfolding landing
  cost_is code = rw (raised-apart input _ hi (stepped_range encoder_version variant s code).predictor, ← ex)

  -- ---- the code that is chosen, and the state after it

  low : 7 ≤ t
  low = rw et (step_low s.index hs.index)

  order : (i j : ℕ) → i < j → j < 4 → size i < size j
  order = grows (grow variant t three low)

  some : 0 < size 0
  some = (grow variant t three low).some

  abbrev Stepped : ℤ → ℕ → Type 0
  Stepped q i = ◌≡◌ {A = State} (record { predictor = q; index = i }) (stepped encoder_version variant s (l_code variant s input))

  code_is : (code : ℕ) → Lowest cost code → l_code variant s input ≡ code
  unfolding l_code
  code_is code l =
      ap (λ (c : Choice). c.code) (least_at (λ (c : Choice). c.error) (choice variant s input) 7 code l.within l.least l.first)

  module _ (r headroom : ℕ) (er : r ≡ apart x p) (ed : x < p → headroom ≡ p) (eu : p ≤ x → headroom ≡ 65535 - p) (hx : x ≤ 65535) (hp : p ≤ 65535) where
    fits : r ≤ headroom
    fits = go (dec_lt x p)
      where
        go : Dec (x < p) → r ≤ headroom
        go (yes l) = omega (arith, ed l)
        go (no l) = let h : p ≤ x = omega arith in omega (arith, eu h)

    module _ {m v : ℕ} (picked : Picked r (cut size headroom) m v) {u : ℕ} (d : Landed x p (2 * r) v u) (q : ℤ) (i : ℕ)
        (eq : raised q ≡ u) (hq : mag q ≤ 32767) (ei : i ≡ cond (ltb 0 m) (min (s.index + 2 * m) 88) (s.index - 1)) where
      k : Chosen r (cut size headroom) m v
      k = chosen r (cut size headroom) (rises r headroom 0 size order some fits) (differ r headroom 0 size order some fits) picked

      ends : (code : ℕ) → code % 4 ≡ m → Lowest cost code → u ≡ landing code
          → Stepped q i
      unfolding landing stepped unclamped_predictor unclamped_index
      ends code em l e =
          rw (code_is code l, adjustment_three variant code three, em, adjusted m k.within, index_moved (ltb 0 m) s.index (2 * m) hs.index, ei)
          (cc (raised-same q (stepped encoder_version variant s code).predictor hq (stepped_range encoder_version variant s code).predictor (eq ∙ e)))

      stepped_down : x < p → Stepped q i
      stepped_down l = go (dec_lt v (2 * r + (65535 - p)))
        where
          e : p ≡ x + r
          e = omega arith

          toward : (j : ℕ) → j < 4 → cost (4 + j) ≡ apart r (cut size headroom j)
          toward j h = rw (cost_is (4 + j), down_landing j h, ed l, e) (down_toward x r (size j))

          away : (j : ℕ) → j < 4 → cost j ≡ r + cut size (65535 - p) j
          away j h = rw (cost_is j, up_landing j h, e) (down_away x r (size j) (rw e at hp))

          go : Dec (v < 2 * r + (65535 - p)) → Stepped q i
          go (yes h) =
              let f = rw (ed l) at k.value in
              ends (4 + m) (omega (arith, k.within))
              (down_near r headroom (65535 - p) size order some fits k cost toward away (omega arith) (rw k.value at h))
              (d.down l h ∙ down_short p (size m) v f ∙ sym (down_landing m k.within))
          go (no h) =
              let c : 2 * r + (65535 - p) ≤ v = omega arith in
              let z = rw k.value at c in
              let n = first_only r headroom (65535 - p) size order some fits k z in
              ends 0 (sym n) (down_far r headroom (65535 - p) size order some fits k cost toward away z)
              (d.top l c ∙ sym (up_landing 0 (omega arith) ∙ past (size 0) (rw n at z)))
            where
              past : (a : ℕ) → 2 * r + (65535 - p) ≤ min a headroom → min (p + a) 65535 ≡ 65535
              past a z = omega arith

      stepped_up : p ≤ x → Stepped q i
      stepped_up l = go (dec_lt (2 * r + p) v)
        where
          e : x ≡ p + r
          e = omega arith

          toward : (j : ℕ) → j < 4 → cost j ≡ apart r (cut size headroom j)
          toward j h = rw (cost_is j, up_landing j h, eu l, e) (up_toward p r (size j) (rw e at hx))

          away : (j : ℕ) → j < 4 → cost (4 + j) ≡ r + cut size p j
          away j h = rw (cost_is (4 + j), down_landing j h, e) (up_away p r (size j))

          go : Dec (2 * r + p < v) → Stepped q i
          go (yes h) =
              let z = rw k.value at h in
              let n = first_only r headroom p size order some fits k (omega arith) in
              ends 4 (sym n) (up_far r headroom p size order some fits k cost toward away z)
              (d.bottom l h ∙ sym (down_landing 0 (omega arith) ∙ past (size 0) (rw n at z)))
            where
              past : (a : ℕ) → 2 * r + p < min a headroom → p - a ≡ 0
              past a z = omega arith
          go (no h) =
              let c : v ≤ 2 * r + p = omega arith in
              let f = rw (eu l) at k.value in
              ends m (omega (arith, k.within)) (up_near r headroom p size order some fits k cost toward away (rw k.value at c))
              (d.up l c ∙ up_short p (size m) v hp f ∙ sym (up_landing m k.within))

      pub l_stepped : Stepped q i
      l_stepped = go (dec_lt x p)
        where
          go : Dec (x < p) → Stepped q i
          go (yes l) = stepped_down l
          go (no l) = stepped_up (omega arith)
