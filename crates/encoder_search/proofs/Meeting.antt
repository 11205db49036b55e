-- Two trials that stand at one state go on alike: the marks of a trial, and what they say of another. Assumes nothing.
use mathlib.Core.Path.{◌≡◌, refl, sym, ◌∙◌, ap}
use mathlib.Core.List.{List, map}
use Prim.Native.Nat.{ℕ, zero, suc, ◌+◌, ◌-◌, ◌≤◌, ◌<◌}
use native.Mathlib.Nat.{zero-add, suc-add}
use native.Mathlib.Omega.{arith}
use lib.IntN.{ℤ, pos, nat_abs, ◌-ℤ◌}
use lib.ListN.{length, get_or, set}
use lib.Seq.{get_or-take}
use Rattle.std.proofs.lemmas.List.{get_or-map}
use Rattle.lists.proofs.ByIndex.{get_d_tabulate, Filled, filled_none, filled_more}
use mir.Syntax.{w16, w32}
use mir.Val.{SFits, to_z, of_z}
use Rattle.signed.proofs.Laws.{back16, read16}
use Rattle.signed.proofs.Raised.{raised-same}
use Rattle.sqv4_format.specs.Layout.{encoder_version}
use Rattle.sqv4_format.specs.Step.{stepped}
use Rattle.sqv4_format.specs.Gain.{output_gain}
use Rattle.sqv4_format.specs.Decode.{fragment_start, InRange}
use Rattle.sqv4_format.specs.Encode.{target, square, code_for, trial_step, trial_to}
use Rattle.sqv4_format.specs.declared.Settings.{Settings}
use Rattle.sqv4_format.specs.declared.State.{State}
use Rattle.sqv4_format.proofs.Range.{start_range, stepped_range}
use Rattle.encoder_search.specs.Search.{key, mark_of, Ran, equal_wins, Beaten}
use Rattle.encoder_search.specs.declared.Mark.{Mark}
use Rattle.encoder_search.specs.declared.Best.{Best}
use Rattle.encoder_search.proofs.Summed.{Summed, summed_none, summed_more, over_limit}

-- ---- a state and its key

same : (a b : ℤ) (i j : ℕ) → a ≡ b → i ≡ j → ◌≡◌ {A = State} (record { predictor = a; index = i }) (record { predictor = b; index = j })
same a b i j p q = rw (p, q)

key-same : (s t : State) → InRange s → InRange t → key s ≡ key t → s ≡ t
unfolding key
key-same s t hs ht e =
    let i : s.index ≡ t.index = omega (arith, hs.index, ht.index) in
    same s.predictor t.predictor s.index t.index (raised-same s.predictor t.predictor hs.predictor ht.predictor (omega arith)) i

module _ (k : Settings) (v : ℕ) (xs : List ℤ) where
  trial_range : (index n : ℕ) → InRange (trial_to k v xs index n).state
  unfolding trial_to trial_step
  trial_range index zero = start_range index
  trial_range index (suc n) = stepped_range encoder_version k.variant (trial_to k v xs index n).state _

  -- j samples on
  alike : (a b i : ℕ) → (trial_to k v xs a i).state ≡ (trial_to k v xs b i).state → (j : ℕ)
      → ((trial_to k v xs a (j + i)).state ≡ (trial_to k v xs b (j + i)).state)
      × ((trial_to k v xs a (j + i)).sum + (trial_to k v xs b i).sum ≡ (trial_to k v xs b (j + i)).sum + (trial_to k v xs a i).sum)
  unfolding trial_to trial_step
  alike a b i e zero = rw zero-add (e, omega arith)
  alike a b i e (suc j) = let h = alike a b i e j in rw (suc-add, h.0) (refl, omega (arith, h.1))

  -- ---- the loop of a trial that leaves its marks

  pub record Traced (index i : ℕ) (s : State) (sum : ℕ) (trace : List Mark) : Type 0 where
    pub summed : Summed k v xs index i s sum
    pub marked : Filled (λ i. mark_of (trial_to k v xs index i)) 63 i trace

  module _ {index : ℕ} where
    pub traced_none : {s : State} {trace : List Mark} → s ≡ fragment_start index → length trace ≡ 63 → Traced index 0 s 0 trace
    traced_none e h = record { summed = summed_none k v xs index e; marked = filled_none _ _ h }

    pub traced_more : {i : ℕ} {s t : State} {sum sum' key' : ℕ} {trace : List Mark} → Traced index i s sum trace → i < 63 → key' ≡ key s
        → Summed k v xs index (i + 1) t sum' → Traced index (i + 1) t sum' (set trace i (record { sum = sum; key = key' }))
    traced_more d h e m = record { summed = m; marked = filled_more _ _ d.marked h (rw (e, d.summed.state, d.summed.total)) }

    -- a sample more, toward its target, as the loop reads them
    pub traced_next : {i : ℕ} {s t : State} {sum q key' : ℕ} {trace : List Mark} {targets : List ℤ} → Traced index i s sum trace
        → i < length xs → length xs ≤ 63 → targets ≡ map (target k v) xs → SFits w16 (get_or targets i (pos 0)) → SFits w16 (get_or xs i (pos 0)) → InRange t
        → key' ≡ key s → t ≡ stepped encoder_version k.variant s (code_for k.variant s (to_z w16 (of_z w16 (get_or targets i (pos 0)))))
        → q ≡ square (nat_abs (to_z w16 (of_z w16 (get_or xs i (pos 0))) -ℤ output_gain encoder_version v (to_z w32 (of_z w32 t.predictor))))
        → q ≤ 4294967296 → Traced index (i + 1) t (sum + q) (set trace i (record { sum = sum; key = key' }))
    traced_next {i} {targets = targets} d h few et ft fx r ek es eq hq =
        let y : get_or targets i (pos 0) ≡ target k v (get_or xs i (pos 0)) = rw et (get_or-map (target k v) xs i (pos 0) (pos 0) h) in
        traced_more d (omega arith) ek
        (summed_more k v xs index d.summed h refl y (rw (back16 _ ft.sfits) at es) (rw (back16 _ fx.sfits, read16 _ r.predictor) at eq) hq)

    -- the sum so far is at most the whole
    pub stopped : {i sum : ℕ} {s : State} {trace : List Mark} {b : Best} → Traced index i s sum trace → b.found.sum + equal_wins index b.found.index ≤ sum
        → Beaten k v xs index b
    stopped d h = record { over = omega (arith, over_limit _ _ _ _ d.summed) }

  -- ---- the marks of the best trial

  mark_at : {b : Best} (d : Mark) → Ran k v xs b → (i : ℕ) → i < length xs → get_or b.marks i d ≡ mark_of (trial_to k v xs b.found.index i)
  mark_at {b} d r i h =
      sym (get_or-take (length xs) b.marks i d h)
      ∙ ap (λ (l : List Mark). get_or l i d) r.marked
      ∙ get_d_tabulate (λ j. mark_of (trial_to k v xs b.found.index j)) (length xs) i d h

  -- met at i samples
  pub met : {b : Best} {index i key' : ℕ} {s : State} {sum : ℕ} (d : Mark) → Ran k v xs b → Summed k v xs index i s sum → i < length xs → key' ≡ key s
      → (get_or b.marks i d).key ≡ key' → (get_or b.marks i d).sum + equal_wins index b.found.index ≤ sum → Beaten k v xs index b
  met {b} {index} {i} {key'} {s} {sum} d r t h ek e l =
      let m = mark_at d r i h in
      let ed : key (trial_to k v xs index i).state ≡ key (trial_to k v xs b.found.index i).state = ap key (sym t.state) ∙ sym ek ∙ sym e ∙ ap (λ (m : Mark). m.key) m in
      let es = key-same (trial_to k v xs index i).state (trial_to k v xs b.found.index i).state (trial_range index i) (trial_range b.found.index i) ed in
      let f : length xs - i + i ≡ length xs = omega arith in
      let w = rw f at (alike index b.found.index i es (length xs - i)).1 in
      record { over = omega (arith, ap (λ (m : Mark). m.sum) m, t.total, r.sum) }
