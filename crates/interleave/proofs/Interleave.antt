-- Writing an interleaved output fragment by fragment, in file order, gives the output that is defined by index.
-- Assumes nothing.
use Prim.Native.Nat.{ℕ, zero, suc, ◌+◌, ◌*◌, ◌-◌, ◌/◌, ◌%◌, ◌≤◌, ◌<◌, min}
use native.Mathlib.Omega.{arith}
use native.Mathlib.Nat.{div-add-mod', mod-lt, div-lt_iff_lt-mul}
use native.Mathlib.Decide.{dec_lt, ℕ_discrete}
use mathlib.Core.Path.{◌≡◌, refl, sym, ◌∙◌, ap}
use mathlib.Core.Logic.{◌≢◌}
use mathlib.Core.List.{List, ◌++◌}
use lib.Arith.{digits_lt, digits_div, digits_mod}
use lib.ListN.{length, get_or, take, drop, set, length-append, length-drop, length-set, get_or-append}
use lib.Seq.{get_or-take, get_or-set_same, get_or-set_other, get_or-drop, get_or-append_right, ext_get_or}
use Rattle.lists.specs.Lists.{tabulate}
use Rattle.lists.proofs.ByIndex.{length_tabulate, get_d_tabulate}
use Rattle.sqv4_format.specs.Layout.{rounded_up}
use Rattle.sqv4_format.proofs.Sizes.{frame_below}
use Rattle.interleave.specs.Interleave.{spread, out_after}

-- a place is of one sample of one channel
one_place : (a b : ℕ) {r s m : ℕ} → r < m → s < m → a * m + r ≡ b * m + s → (a ≡ b) × (r ≡ s)
one_place a b {m = m} hr hs e =
    (sym (digits_div a hr) ∙ ap (λ x. x / m) e ∙ digits_div b hs, sym (digits_mod a hr) ∙ ap (λ x. x % m) e ∙ digits_mod b hs)

module _ {A : Type 0} (d : A) (xs : List A) (first c ch : ℕ) where
  pub length_spread : (o : List A) (n : ℕ) → length (spread d o xs first c ch n) ≡ length o
  unfolding spread
  length_spread o zero = refl
  length_spread o (suc n) = length-set (spread d o xs first c ch n) ((first + n) * c + ch) (get_or xs n d) ∙ length_spread o n

  -- a place that no sample goes to
  spread_miss : (o : List A) (n j : ℕ) → ((w : ℕ) → w < n → j ≢ (first + w) * c + ch) → get_or (spread d o xs first c ch n) j d ≡ get_or o j d
  unfolding spread
  spread_miss o zero j h = refl
  spread_miss o (suc n) j h =
      get_or-set_other (spread d o xs first c ch n) ((first + n) * c + ch) j (get_or xs n d) d (h n (omega arith))
      ∙ spread_miss o n j (λ w l. h w (omega arith))

  -- the place of sample w
  spread_hit : (o : List A) (n w : ℕ) → ch < c → w < n → (first + w) * c + ch < length o
      → get_or (spread d o xs first c ch n) ((first + w) * c + ch) d ≡ get_or xs w d
  unfolding spread
  spread_hit o zero w hc h l = absurd (omega arith)
  spread_hit o (suc n) w hc h l = go (ℕ_discrete w n) (spread_hit o n w hc)
    where
      go : Dec (w ≡ n) → (w < n → (first + w) * c + ch < length o → get_or (spread d o xs first c ch n) ((first + w) * c + ch) d ≡ get_or xs w d)
          → get_or (set (spread d o xs first c ch n) ((first + n) * c + ch) (get_or xs n d)) ((first + w) * c + ch) d ≡ get_or xs w d
      go (yes e) ih =
          rw e (get_or-set_same (spread d o xs first c ch n) ((first + n) * c + ch) (get_or xs n d) d (rw (length_spread o n, ← e) l))
      go (no e) ih =
          get_or-set_other (spread d o xs first c ch n) ((first + n) * c + ch) ((first + w) * c + ch) (get_or xs n d) d
          (λ q. e (omega (arith, (one_place (first + w) (first + n) hc hc q).0)))
          ∙ ih (omega arith) l

-- only the samples that are put count
pub spread-take : {A : Type 0} (d : A) (o xs : List A) (first c ch n m : ℕ) → n ≤ m → spread d o (take m xs) first c ch n ≡ spread d o xs first c ch n
unfolding spread
spread-take d o xs first c ch zero m h = refl
spread-take d o xs first c ch (suc n) m h =
    rw (spread-take d o xs first c ch n m (omega arith), get_or-take m xs n d (omega arith))

module _ {A : Type 0} (d : A) (c whole total : ℕ) (xs : ℕ → List A) (hc : 0 < c) (hw : 0 < whole) (o : List A) where
  abbrev count : ℕ → ℕ
  count f = min whole (total - f * whole)

  length-out_after : (p : ℕ) → length (out_after d c whole total xs o p) ≡ length o
  unfolding out_after
  length-out_after zero = refl
  length-out_after (suc p) =
      length_spread d (xs p) (p / c * whole) c (p % c) (out_after d c whole total xs o p) (count (p / c)) ∙ length-out_after p

  -- two fragments that have a place in common are one
  one_fragment : (p q v w : ℕ) → v < count (p / c) → w < count (q / c) → (q / c * whole + w) * c + q % c ≡ (p / c * whole + v) * c + p % c → q ≡ p
  one_fragment p q v w hv hw e =
      let at = one_place (q / c * whole + w) (p / c * whole + v) (mod-lt q hc) (mod-lt p hc) e in
      let f : q / c ≡ p / c = (one_place (q / c) (p / c) {r = w} {s = v} {m = whole} (omega arith) (omega arith) at.0).0 in
      omega (arith, div-add-mod' q c, div-add-mod' p c, ap (◌* c) f, at.1)

  -- sample w of fragment q, once the fragment is put
  out_hit : (p q w : ℕ) → q < p → w < count (q / c) → (q / c * whole + w) * c + q % c < length o
      → get_or (out_after d c whole total xs o p) ((q / c * whole + w) * c + q % c) d ≡ get_or (xs q) w d
  unfolding out_after
  out_hit zero q w h m l = absurd (omega arith)
  out_hit (suc p) q w h m l = go (ℕ_discrete q p) (out_hit p q w)
    where
      go : Dec (q ≡ p)
          → (q < p → w < count (q / c) → (q / c * whole + w) * c + q % c < length o
          → get_or (out_after d c whole total xs o p) ((q / c * whole + w) * c + q % c) d ≡ get_or (xs q) w d)
          → get_or (spread d (out_after d c whole total xs o p) (xs p) (p / c * whole) c (p % c) (count (p / c))) ((q / c * whole + w) * c + q % c) d ≡ get_or (xs q) w d
      go (yes e) ih =
          rw e (spread_hit d (xs p) (p / c * whole) c (p % c) (out_after d c whole total xs o p) (count (p / c)) w (mod-lt p hc) (rw e at m) (rw (length-out_after p, ← e) l))
      go (no e) ih =
          spread_miss d (xs p) (p / c * whole) c (p % c) (out_after d c whole total xs o p) (count (p / c)) ((q / c * whole + w) * c + q % c) (λ v hv s. e (one_fragment p q v w hv m s))
          ∙ ih (omega arith) m l

  -- a place behind all samples
  out_miss : (p j : ℕ) → total * c ≤ j → get_or (out_after d c whole total xs o p) j d ≡ get_or o j d
  unfolding out_after
  out_miss zero j h = refl
  out_miss (suc p) j h =
      spread_miss d (xs p) (p / c * whole) c (p % c) (out_after d c whole total xs o p) (count (p / c)) j
      (λ w l e. let in_all : p / c * whole + w < total = omega arith in absurd (omega (arith, e, digits_lt in_all (mod-lt p hc))))
      ∙ out_miss p j h

  -- after the last fragment: sample t of channel k at t × c + k, and the later places unchanged
  pub out_whole : total * c ≤ length o
      → out_after d c whole total xs o (rounded_up total whole * c)
      ≡ tabulate (λ j. get_or (xs (j / c / whole * c + j % c)) (j / c % whole) d) (total * c) ++ drop (total * c) o
  out_whole room =
      ext_get_or d (out_after d c whole total xs o (F * c)) (tabulate S (total * c) ++ drop (total * c) o)
      (rw (length-out_after, length-append, length_tabulate, length-drop) (omega arith))
      (λ i h. go i (rw length-out_after at h) (dec_lt i (total * c)))
    where
      F : ℕ
      F = rounded_up total whole

      S : ℕ → A
      S j = get_or (xs (j / c / whole * c + j % c)) (j / c % whole) d

      go : (i : ℕ) → i < length o → Dec (i < total * c)
          → get_or (out_after d c whole total xs o (F * c)) i d ≡ get_or (tabulate S (total * c) ++ drop (total * c) o) i d
      go i h (yes l) =
          let t : i / c < total = (div-lt_iff_lt-mul hc).1 l in
          let q : ℕ = i / c / whole * c + i % c in
          let f : q / c ≡ i / c / whole = digits_div (i / c / whole) (mod-lt i hc) in
          let g : q % c ≡ i % c = digits_mod (i / c / whole) (mod-lt i hc) in
          let at : (q / c * whole + i / c % whole) * c + q % c ≡ i = rw (f, g, div-add-mod' (i / c) whole) (div-add-mod' i c) in
          let inside : i / c % whole < count (q / c) = rw f (omega (arith, div-add-mod' (i / c) whole, mod-lt (i / c) hw)) in
          rw at at (out_hit (F * c) q (i / c % whole) (digits_lt (frame_below (i / c) total whole hw t) (mod-lt i hc)) inside (rw at h))
          ∙ sym (get_or-append (tabulate S (total * c)) (drop (total * c) o) d i (rw length_tabulate l) ∙ get_d_tabulate S (total * c) i d l)
      go i h (no l) =
          out_miss (F * c) i (omega arith)
          ∙ sym (get_or-append_right (tabulate S (total * c)) (drop (total * c) o) i d (rw length_tabulate (omega arith))
          ∙ rw (length_tabulate, get_or-drop) (ap (λ n. get_or o n d) (back i l)))
        where
          back : (i : ℕ) → (i < total * c → ⊥) → total * c + (i - total * c) ≡ i
          back i l = omega arith
