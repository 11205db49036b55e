-- The bytes that name no variant. Assumes nothing.
use mathlib.Core.Path.{◌≡◌, refl}
use Prim.Native.Nat.{ℕ, zero, suc}
use Rattle.outcome.specs.Table.{refusal}
use Rattle.outcome.specs.declared.Error.TheVariants.{InvalidVariant}
use Rattle.sqv4_format.specs.Layout.{variant_of}

-- a byte above 2 names no variant
pub no_variant : (b : ℕ) → (b ≡ 0 → ⊥) → (b ≡ 1 → ⊥) → (b ≡ 2 → ⊥) → refusal (InvalidVariant b) ≡ variant_of b
unfolding variant_of
no_variant zero h k l = absurd (h refl)
no_variant (suc zero) h k l = absurd (k refl)
no_variant (suc (suc zero)) h k l = absurd (l refl)
no_variant (suc (suc (suc b))) h k l = refl
