-- Lists by index: what stands at each index, and the parts of joined lists; numbers by index. Assumes nothing.
use mathlib.Core.Path.{◌≡◌, refl, sym, ◌∙◌, ap, subst}
use Prim.Native.Nat.{ℕ, zero, suc, ◌+◌, ◌*◌, ◌-◌, ◌≤◌, ◌<◌, min}
use native.Mathlib.Omega.{arith}
use native.Mathlib.Nat.{mul-le-mul_right, le_of_eq, zero-add, suc-add, sub-add_cancel}
use native.Mathlib.Numerals.{add-one}
use native.Mathlib.Decide.{dec_lt}
use mathlib.Core.List.{List, [], ◌∷◌, ◌++◌}
use lib.ListN.{length, get_or, take, drop, set, length-append, length-take, length-drop, length-set, get_or-append}
use lib.Seq.{take-suc-set, drop_at, get_or_at, take_all, take-append-le, drop-append-le, ext_get_or, get_or-take, get_or-drop}
use Rattle.lists.specs.Lists.{tabulate, joined}

module _ {ℓ} {A : Type ℓ} where
  -- ---- tabulate

  pub length_tabulate : (f : ℕ → A) (n : ℕ) → length (tabulate f n) ≡ n
  unfolding tabulate
  length_tabulate f zero = refl
  length_tabulate f (suc n) = length-append (tabulate f n) (f n ∷ []) ∙ ap (◌+ 1) (length_tabulate f n) ∙ add-one n

  pub get_d_tabulate : (f : ℕ → A) (n i : ℕ) (d : A) → i < n → get_or (tabulate f n) i d ≡ f i
  unfolding tabulate
  get_d_tabulate f zero i d h = let z : ⊥ = omega arith in absurd z
  get_d_tabulate f (suc n) i d h = go (dec_lt i n) (get_d_tabulate f n i d)
    where
      go : Dec (i < n) → (i < n → get_or (tabulate f n) i d ≡ f i) → get_or (tabulate f n ++ (f n ∷ [])) i d ≡ f i
      go (yes l) ih = get_or-append (tabulate f n) (f n ∷ []) d i (rw length_tabulate l) ∙ ih l
      go (no l) ih =
          let e : i ≡ n = omega arith in
          rw e (get_or_at (tabulate f n) (f n) [] d n (length_tabulate f n))

  pub tabulate_ext : (f g : ℕ → A) (n : ℕ) → ((i : ℕ) → i < n → f i ≡ g i) → tabulate f n ≡ tabulate g n
  unfolding tabulate
  tabulate_ext f g zero e = refl
  tabulate_ext f g (suc n) e = cc (tabulate_ext f g n (λ i h. e i (omega arith)), e n (omega arith))

  -- the first of them
  pub take_tabulate : (f : ℕ → A) (n m : ℕ) → m ≤ n → take m (tabulate f n) ≡ tabulate f m
  unfolding tabulate
  take_tabulate f zero m h = let e : m ≡ 0 = omega arith in rw e
  take_tabulate f (suc n) m h = go (dec_lt m (suc n)) (take_tabulate f n m)
    where
      go : Dec (m < suc n) → (m ≤ n → take m (tabulate f n) ≡ tabulate f m) → take m (tabulate f n ++ (f n ∷ [])) ≡ tabulate f m
      go (yes l) ih =
          let k : m ≤ length (tabulate f n) = rw length_tabulate (omega arith) in
          rw take-append-le (ih (omega arith))
      go (no l) ih = let e : m ≡ suc n = omega arith in rw e (take_all (suc n) (tabulate f (suc n)) (le_of_eq (length_tabulate f (suc n))))

  -- a list is what stands at its indexes
  pub tabulate-get_or : (l : List A) (d : A) → tabulate (λ i. get_or l i d) (length l) ≡ l
  tabulate-get_or l d =
      ext_get_or d (tabulate (λ i. get_or l i d) (length l)) l (length_tabulate (λ i. get_or l i d) (length l))
      (λ i h. get_d_tabulate (λ i. get_or l i d) (length l) i d (rw length_tabulate at h))

  -- a loop that fills an array of which only the first places are meant: one turn more
  pub fill_next : (g : ℕ → A) (r : List A) (w : ℕ) (x : A) → w < length r → take w r ≡ tabulate g w → x ≡ g w → take (w + 1) (set r w x) ≡ tabulate g (w + 1)
  unfolding tabulate
  fill_next g r w x h e p = rw add-one (take-suc-set r w x h ∙ rw (e, p))

  -- ---- joined, of lists of one length

  module _ (f : ℕ → List A) (size : ℕ) (sized : (i : ℕ) → length (f i) ≡ size) where
    pub length-joined : (n : ℕ) → length (joined f n) ≡ n * size
    unfolding joined
    length-joined zero = omega arith
    length-joined (suc n) = simp length-append (omega (arith, length-joined n, sized n))

    -- part p is f p
    pub joined-part : (n p : ℕ) → p < n → take size (drop (p * size) (joined f n)) ≡ f p
    unfolding joined
    joined-part zero p h = let z : ⊥ = omega arith in absurd z
    joined-part (suc n) p h = go (dec_lt p n) (joined-part n p)
      where
        go : Dec (p < n) → (p < n → take size (drop (p * size) (joined f n)) ≡ f p) → take size (drop (p * size) (joined f n ++ f n)) ≡ f p
        go (yes l) ih =
            let k : p * size + size ≤ length (joined f n) = omega (arith, length-joined n, mul-le-mul_right size l) in
            let j : p * size ≤ length (joined f n) = omega arith in
            let m : size ≤ length (drop (p * size) (joined f n)) = simp length-drop (omega arith) in
            rw (drop-append-le, take-append-le) (ih l)
        go (no l) ih =
            let e : p ≡ n = omega arith in
            rw (e, drop_at (joined f n) (f n) (n * size) (length-joined n), take_all size (f n) (le_of_eq (sized n)))

module _ {A : Type 0} where
  -- a part of a list that is given by index
  pub tabulate_part : (g : ℕ → A) (d : A) (n k m : ℕ) → take m (drop k (tabulate g n)) ≡ tabulate (λ w. g (k + w)) (min m (n - k))
  tabulate_part g d n k m =
      ext_get_or d (take m (drop k (tabulate g n))) (tabulate (λ w. g (k + w)) (min m (n - k)))
      (len ∙ sym (length_tabulate (λ w. g (k + w)) (min m (n - k))))
      (λ i h. at i (rw len at h))
    where
      len : length (take m (drop k (tabulate g n))) ≡ min m (n - k)
      len = rw (length-take, length-drop, length_tabulate)

      at : (i : ℕ) → i < min m (n - k) → get_or (take m (drop k (tabulate g n))) i d ≡ get_or (tabulate (λ w. g (k + w)) (min m (n - k))) i d
      at i h =
          get_or-take m (drop k (tabulate g n)) i d (omega arith)
          ∙ get_or-drop k (tabulate g n) i d
          ∙ get_d_tabulate g n (k + i) d (omega arith)
          ∙ sym (get_d_tabulate (λ w. g (k + w)) (min m (n - k)) i d h)

-- ---- a loop that fills an array of n places: the first i of them are g's

pub record Filled {A : Type 0} (g : ℕ → A) (n i : ℕ) (r : List A) : Type 0 where
  pub within : i ≤ n
  pub long : length r ≡ n
  pub done : take i r ≡ tabulate g i

module _ {A : Type 0} (g : ℕ → A) (n : ℕ) where
  pub filled_none : {r : List A} → length r ≡ n → Filled g n 0 r
  unfolding tabulate
  filled_none e = record { within = omega arith; long = e; done = refl }

  pub filled_more : {i : ℕ} {r : List A} {x : A} → Filled g n i r → i < n → x ≡ g i → Filled g n (i + 1) (set r i x)
  filled_more {i} {r} {x} f h e =
      record {
        within = omega arith;
        long = simp length-set f.long;
        done = fill_next g r i x (omega (arith, f.long)) f.done e;
      }

-- ---- numbers by index

-- where no number is less than the one before it, none is less than any before it
pub rises : (f : ℕ → ℕ) → ((i : ℕ) → f i ≤ f (suc i)) → (i j : ℕ) → i ≤ j → f i ≤ f j
rises f step i j h = subst (λ (n : ℕ). f i ≤ f n) (sub-add_cancel h) (later (j - i))
  where
    later : (n : ℕ) → f i ≤ f (n + i)
    later zero = rw zero-add (omega arith)
    later (suc n) = rw suc-add (omega (arith, later n, step (n + i)))
