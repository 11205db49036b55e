-- Groups of codes: what a turn of the loop over them needs. Assumes nothing.
use Prim.Native.Nat.{ℕ, ◌+◌, ◌-◌, ◌*◌, ◌/◌, ◌%◌, ◌^◌, ◌<◌}
use native.Mathlib.Nat.{mul-le-mul_right, mul-add, mul-one}
use native.Mathlib.Omega.{arith}
use mathlib.Core.Path.{◌≡◌, ap, ◌∙◌}
use lib.Pow.{pow_mono}
use Rattle.decoder_fragment.specs.Groups.{Groups}

module _ {bits bytes codes length : ℕ} (g : Groups bits bytes codes length) where
  -- a power of two, as it is computed
  pub power : 1 * 2 ^ bits % 18446744073709551616 ≡ 2 ^ bits
  power = omega (arith, pow_mono g.bits_few)

  pub room : {i j : ℕ} → i < length / bytes → j < codes → codes * i + j < 64
  room {i} {j} h k = omega (arith, mul-le-mul_right codes h, g.full)

  -- a group is read
  pub read : 0 + 8 * bytes ≡ bits * (codes - 0)
  read =
      let e : codes - 0 ≡ codes = omega arith in
      omega (arith, g.same, ap (λ (n : ℕ). bits * n) e)

  -- a code of it is written
  pub write : {j : ℕ} → j < codes → bits * (codes - j) ≡ bits * (codes - (j + 1)) + bits
  write {j} h =
      let e : codes - j ≡ codes - (j + 1) + 1 = omega arith in
      ap (λ (n : ℕ). bits * n) e ∙ omega (arith, mul-add bits (codes - (j + 1)) 1, mul-one bits)
