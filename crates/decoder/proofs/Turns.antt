-- Fragments in file order, each channel with a state of its own in one list: the channel whose turn it is has the state that its
-- own fragments alone lead to. Assumes nothing.
use Prim.Native.Nat.{ℕ, zero, suc, ◌+◌, ◌*◌, ◌/◌, ◌%◌, ◌≤◌, ◌<◌}
use native.Mathlib.Omega.{arith}
use native.Mathlib.Nat.{div-add-mod', mod-lt}
use native.Mathlib.Decide.{ℕ_discrete}
use mathlib.Core.Path.{◌≡◌, refl, sym, ◌∙◌, ap}
use mathlib.Core.List.{List}
use lib.Arith.{digits_mod}
use lib.ListN.{length, get_or, set, length-set}
use lib.Seq.{get_or-set_same, get_or-set_other}
use Rattle.std.proofs.lemmas.List.{length-replicate, get_or-replicate}
use Rattle.decoder.specs.Loops.{states_after}

-- the state of channel k after f of its own fragments
unfoldable pub chain : {S : Type 0} → S → ℕ → (ℕ → S → S) → ℕ → ℕ → S
chain z c g k zero = z
chain z c g k (suc f) = g (f * c + k) (chain z c g k f)

module _ {S : Type 0} (z : S) (c : ℕ) (g : ℕ → S → S) where
  pub length_states : (p : ℕ) → length (states_after z c g p) ≡ c
  unfolding states_after
  length_states zero = length-replicate c z
  length_states (suc p) = length-set (states_after z c g p) (p % c) _ ∙ length_states p

  -- channel k's state in a list, after f frames and r fragments of the next
  abbrev Has : List S → ℕ → ℕ → ℕ → Type 0
  Has s f r k = (k < r → get_or s k z ≡ chain z c g k (suc f)) × (r ≤ k → get_or s k z ≡ chain z c g k f)

  next : (k f : ℕ) → chain z c g k (suc f) ≡ g (f * c + k) (chain z c g k f)
  unfolding chain
  next k f = refl

  turn : (f r k : ℕ) → r < c → Has (states_after z c g (f * c + r)) f r k → Has (states_after z c g (f * c + suc r)) f (suc r) k
  unfolding states_after
  turn f r k hr has =
      let e : f * c + suc r ≡ suc (f * c + r) = omega arith in
      rw (e, digits_mod f hr) (go (ℕ_discrete k r))
    where
      s : List S
      s = states_after z c g (f * c + r)

      go : Dec (k ≡ r) → Has (set s r (g (f * c + r) (get_or s r z))) f (suc r) k
      go (yes q) =
          rw q (
            λ l. get_or-set_same s r (g (f * c + r) (get_or s r z)) z (rw length_states hr) ∙ ap (g (f * c + r)) ((rw q at has).1 (omega arith)) ∙ sym (next r f),
            λ l. absurd (omega arith),
          )
      go (no q) =
          let other : get_or (set s r (g (f * c + r) (get_or s r z))) k z ≡ get_or s k z = get_or-set_other s r k (g (f * c + r) (get_or s r z)) z q in
          (λ l. other ∙ has.0 (omega arith), λ l. other ∙ has.1 (omega arith))

  frame : (f : ℕ) → ((k : ℕ) → k < c → get_or (states_after z c g (f * c)) k z ≡ chain z c g k f) → (r k : ℕ) → r ≤ c → k < c → Has (states_after z c g (f * c + r)) f r k
  frame f before zero k hr hk = let e : f * c + 0 ≡ f * c = omega arith in rw e (λ l. absurd (omega arith), λ l. before k hk)
  frame f before (suc r) k hr hk = turn f r k hr (frame f before r k (omega arith) hk)

  frames : (f k : ℕ) → k < c → get_or (states_after z c g (f * c)) k z ≡ chain z c g k f
  unfolding states_after chain
  frames zero k hk = let e : 0 * c ≡ 0 = omega arith in rw e (get_or-replicate c k z z hk)
  frames (suc f) k hk = let e : suc f * c ≡ f * c + c = omega arith in rw e ((frame f (frames f) c k (omega arith) hk).0 hk)

  -- the channel whose turn it is
  pub turn_state_lem : 0 < c → (p : ℕ) → get_or (states_after z c g p) (p % c) z ≡ chain z c g (p % c) (p / c)
  turn_state_lem hc p =
      let k : p % c < c = mod-lt p hc in
      rw div-add-mod' at ((frame (p / c) (frames (p / c)) (p % c) (p % c) (omega arith) k).1 (omega arith))
