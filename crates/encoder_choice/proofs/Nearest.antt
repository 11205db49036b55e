-- The loop over the codes of L and L+: the best of the candidates so far, and one candidate more. Assumes nothing.
use mathlib.Core.Path.{◌≡◌, refl, ◌∙◌}
use Prim.Native.Nat.{ℕ, zero, suc, ◌+◌, ◌-◌, ◌≤◌, ◌<◌}
use native.Mathlib.Omega.{arith}
use Rattle.lists.specs.Lists.{least}
use Rattle.lists.proofs.Least.{least_taken, least_kept}
use Rattle.sqv4_format.specs.Encode.{Choice}

-- the best of the candidates 0..n has this code and this error
pub record Best (f : ℕ → Choice) (n code error : ℕ) : Type 0 where
  pub is : least (λ (c : Choice). c.error) f n ≡ record { code = code; error = error }

module _ (f : ℕ → Choice) where
  pub first : Best f 0 (f 0).code (f 0).error
  unfolding least
  first = record { is = refl }

  pub better : (n code error : ℕ) → 1 ≤ n → Best f (n - 1) code error → (f n).error < error → Best f (n + 1 - 1) (f n).code (f n).error
  better zero code error h b l = let z : ⊥ = omega arith in absurd z
  better (suc n) code error h b l =
      let e : suc n - 1 ≡ n = omega arith in
      let d : suc n + 1 - 1 ≡ suc n = omega arith in
      let i = rw e at b.is in
      record { is = rw d (least_taken (λ (c : Choice). c.error) f n (rw i l)) }

  pub as_good : (n code error : ℕ) → 1 ≤ n → Best f (n - 1) code error → error ≤ (f n).error → Best f (n + 1 - 1) code error
  as_good zero code error h b l = let z : ⊥ = omega arith in absurd z
  as_good (suc n) code error h b l =
      let e : suc n - 1 ≡ n = omega arith in
      let d : suc n + 1 - 1 ≡ suc n = omega arith in
      let i = rw e at b.is in
      record { is = rw d (least_kept (λ (c : Choice). c.error) f n (rw i l) ∙ i) }
