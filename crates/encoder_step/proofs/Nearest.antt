-- Of eight candidates, four on each side of a place, the first of those nearest to a mark on one side: by three comparisons, and one
-- where the other side is cut short. Assumes nothing.
use Rattle.std.proofs.Common.{◌≡◌, ℕ, ◌+◌, ◌-◌, ◌*◌, ◌<◌, ◌≤◌, min, ◌⊎◌, subst, inl, inr, ⊎_elim, arith}
use native.Mathlib.Decide.{dec_lt}

abbrev pub apart : ℕ → ℕ → ℕ
apart a b = a - b + (b - a)

-- ---- four offsets in order, and a mark r: the nearest, and the lowest of the nearest

-- the middles below m lie short of r, and those above do not
pub record Chosen (r : ℕ) (o : ℕ → ℕ) (m v : ℕ) : Type 0 where
  pub within : m < 4
  pub value : v ≡ o m
  pub below : (i : ℕ) → i < m → o i + o m < 2 * r
  pub above : (j : ℕ) → m < j → j < 4 → 2 * r ≤ o m + o j

-- the same of the two middles beside m alone
pub record Picked (r : ℕ) (o : ℕ → ℕ) (m v : ℕ) : Type 0 where
  pub within : m < 4
  pub value : v ≡ o m
  pub under : 0 < m → o (m - 1) + o m < 2 * r
  pub over : m < 3 → 2 * r ≤ o m + o (m + 1)

-- the offsets cut off at the headroom
abbrev pub cut : (ℕ → ℕ) → ℕ → ℕ → ℕ
cut size headroom j = min (size j) headroom

module _ (r : ℕ) (o : ℕ → ℕ) (rises : (i j : ℕ) → i ≤ j → j < 4 → o i ≤ o j) (differ : (i j : ℕ) → i < j → j < 4 → (o i < o j) ⊎ (r ≤ o j)) where
  pub chosen : {m v : ℕ} → Picked r o m v → Chosen r o m v
  chosen {m} {v} k =
      record {
        within = k.within;
        value = k.value;
        below = λ i h. omega (arith, k.under (omega arith), rises i (m - 1) (omega arith) (omega arith));
        above = λ j h l. omega (arith, k.over (omega arith), rises (m + 1) j (omega arith) l);
      }

  module _ {m v : ℕ} (k : Chosen r o m v) where
    pub lower_farther : (j : ℕ) → j < m → apart r (o m) < apart r (o j)
    lower_farther j l =
        ⊎_elim (λ (h : o j < o m). omega (arith, k.below j l)) (λ (h : r ≤ o m). omega (arith, k.below j l)) (differ j m l k.within)

    pub no_nearer : (j : ℕ) → j < 4 → apart r (o m) ≤ apart r (o j)
    no_nearer j l = go (dec_lt j m) (dec_lt m j)
      where
        go : Dec (j < m) → Dec (m < j) → apart r (o m) ≤ apart r (o j)
        go (yes a) b = omega (arith, lower_farther j a)
        go (no a) (yes b) = omega (arith, k.above j b l, rises m j (omega arith) l)
        go (no a) (no b) = let e : j ≡ m = omega arith in rw e (omega arith)

    -- past the first, the nearest is less than twice as far as the mark
    pub less_than_twice : 0 < m → o m < 2 * r
    less_than_twice h = omega (arith, k.below 0 h)

-- ---- eight costs, of which the first four and the last four are those of the two sides

pub record Lowest (e : ℕ → ℕ) (code : ℕ) : Type 0 where
  pub within : code ≤ 7
  pub least : (i : ℕ) → i ≤ 7 → e code ≤ e i
  pub first : (i : ℕ) → i < code → e code < e i

eights : (P : ℕ → Type 0) → ((j : ℕ) → j < 4 → P j) → ((j : ℕ) → j < 4 → P (4 + j)) → (i : ℕ) → i ≤ 7 → P i
eights P f g i h = go (dec_lt i 4)
  where
    go : Dec (i < 4) → P i
    go (yes l) = f i l
    go (no l) = let e : 4 + (i - 4) ≡ i = omega arith in subst P e (g (i - 4) (omega arith))

module _ (r headroom other : ℕ) (size : ℕ → ℕ) (grows : (i j : ℕ) → i < j → j < 4 → size i < size j) (some : 0 < size 0) (fits : r ≤ headroom) where
  no_less : (i j : ℕ) → i ≤ j → j < 4 → size i ≤ size j
  no_less i j h l = go (dec_lt i j)
    where
      go : Dec (i < j) → size i ≤ size j
      go (yes k) = omega (arith, grows i j k l)
      go (no k) = let e : i ≡ j = omega arith in rw e (omega arith)

  pub rises : (i j : ℕ) → i ≤ j → j < 4 → cut size headroom i ≤ cut size headroom j
  rises i j h l = omega (arith, no_less i j h l)

  pub differ : (i j : ℕ) → i < j → j < 4 → (cut size headroom i < cut size headroom j) ⊎ (r ≤ cut size headroom j)
  differ i j h l = go (dec_lt (size i) headroom)
    where
      go : Dec (size i < headroom) → (cut size headroom i < cut size headroom j) ⊎ (r ≤ cut size headroom j)
      go (yes k) = inl (omega (arith, grows i j h l))
      go (no k) = inr (omega (arith, grows i j h l))

  module _ {m v : ℕ} (k : Chosen r (cut size headroom) m v) where
    -- what is behind is no nearer, unless it is cut short
    behind : cut size headroom m ≤ 2 * r + other → (j : ℕ) → j < 4 → apart r (cut size headroom m) ≤ r + cut size other j
    behind h j l = go (dec_lt 0 m)
      where
        go : Dec (0 < m) → apart r (cut size headroom m) ≤ r + cut size other j
        go (yes n) = omega (arith, less_than_twice r (cut size headroom) rises differ k n)
        go (no n) = let e : m ≡ 0 = omega arith in let z = rw e at h in rw e (omega (arith, no_less 0 j (omega arith) l))

    behind_farther : 0 < r → cut size headroom m < 2 * r + other → (j : ℕ) → j < 4 → apart r (cut size headroom m) < r + cut size other j
    behind_farther h0 h j l = go (dec_lt 0 m)
      where
        go : Dec (0 < m) → apart r (cut size headroom m) < r + cut size other j
        go (yes n) = omega (arith, less_than_twice r (cut size headroom) rises differ k n, no_less 0 m (omega arith) k.within)
        go (no n) = let e : m ≡ 0 = omega arith in let z = rw e at h in rw e (omega (arith, no_less 0 j (omega arith) l))

    -- where it is cut short and nearer, the first is chosen, and all behind stand at the limit
    pub first_only : 2 * r + other ≤ cut size headroom m → m ≡ 0
    first_only h = go (dec_lt 0 m)
      where
        go : Dec (0 < m) → m ≡ 0
        go (yes n) = absurd (omega (arith, less_than_twice r (cut size headroom) rises differ k n))
        go (no n) = omega arith

    limit : 2 * r + other ≤ cut size headroom m → (j : ℕ) → j < 4 → cut size other j ≡ other
    limit h j l = let e = first_only h in let z = rw e at h in omega (arith, no_less 0 j (omega arith) l)

    -- the costs of the side toward the mark stand first
    pub up_near : (e : ℕ → ℕ) → ((j : ℕ) → j < 4 → e j ≡ apart r (cut size headroom j)) → ((j : ℕ) → j < 4 → e (4 + j) ≡ r + cut size other j)
        → cut size headroom m ≤ 2 * r + other → Lowest e m
    up_near e en ef h =
        record {
          within = omega (arith, k.within);
          least =
              eights (λ i. e m ≤ e i) (λ j l. omega (arith, en m k.within, en j l, no_nearer r (cut size headroom) rises differ k j l))
              (λ j l. omega (arith, en m k.within, ef j l, behind h j l));
          first = λ i l. omega (arith, en m k.within, en i (omega (arith, k.within)), lower_farther r (cut size headroom) rises differ k i l);
        }

    pub up_far : (e : ℕ → ℕ) → ((j : ℕ) → j < 4 → e j ≡ apart r (cut size headroom j)) → ((j : ℕ) → j < 4 → e (4 + j) ≡ r + cut size other j)
        → 2 * r + other < cut size headroom m → Lowest e 4
    up_far e en ef h =
        let c : 2 * r + other ≤ cut size headroom m = omega arith in
        let z : e 4 ≡ r + other = omega (arith, ef 0 (omega arith), limit c 0 (omega arith)) in
        record {
          within = omega arith;
          least =
              eights (λ i. e 4 ≤ e i) (λ j l. omega (arith, en j l, no_nearer r (cut size headroom) rises differ k j l))
              (λ j l. omega (arith, ef j l, limit c j l));
          first = λ i l. omega (arith, en i l, no_nearer r (cut size headroom) rises differ k i l);
        }

    -- they stand last
    pub down_near : (e : ℕ → ℕ) → ((j : ℕ) → j < 4 → e (4 + j) ≡ apart r (cut size headroom j)) → ((j : ℕ) → j < 4 → e j ≡ r + cut size other j)
        → 0 < r → cut size headroom m < 2 * r + other → Lowest e (4 + m)
    down_near e en ef h0 h =
        record {
          within = omega (arith, k.within);
          least =
              eights (λ i. e (4 + m) ≤ e i) (λ j l. omega (arith, en m k.within, ef j l, behind_farther h0 h j l))
              (λ j l. omega (arith, en m k.within, en j l, no_nearer r (cut size headroom) rises differ k j l));
          first = λ i l. before i l (dec_lt i 4);
        }
      where
        before : (i : ℕ) → i < 4 + m → Dec (i < 4) → e (4 + m) < e i
        before i l (yes n) = omega (arith, en m k.within, ef i n, behind_farther h0 h i n)
        before i l (no n) =
            let j : i - 4 < m = omega arith in
            let f : 4 + (i - 4) ≡ i = omega arith in
            subst (λ i. e (4 + m) < e i) f
            (omega (arith, en m k.within, en (i - 4) (omega (arith, k.within)), lower_farther r (cut size headroom) rises differ k (i - 4) j))

    pub down_far : (e : ℕ → ℕ) → ((j : ℕ) → j < 4 → e (4 + j) ≡ apart r (cut size headroom j)) → ((j : ℕ) → j < 4 → e j ≡ r + cut size other j)
        → 2 * r + other ≤ cut size headroom m → Lowest e 0
    down_far e en ef h =
        let z : e 0 ≡ r + other = omega (arith, ef 0 (omega arith), limit h 0 (omega arith)) in
        record {
          within = omega arith;
          least =
              eights (λ i. e 0 ≤ e i) (λ j l. omega (arith, ef j l, limit h j l))
              (λ j l. omega (arith, en j l, no_nearer r (cut size headroom) rises differ k j l));
          first = λ i l. absurd (omega arith);
        }
