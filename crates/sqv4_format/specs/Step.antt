-- One code: the difference that it stands for, and the state after it. Assumes nothing.
use Rattle.std.specs.Prelude.{ℕ, ◌+◌, ◌*◌, ◌/◌, ◌%◌, Bool, cond, List, [], ◌∷◌, map, eqb, ℤ, pos, nat_abs, ◌+ℤ◌, get_or}
use Rattle.signed.specs.Signed.{with_sign, clamp16, clamp_to}
use Rattle.sqv4_format.specs.Tables.{steps, h_index_adjust, l_index_adjust, l_levels, l_plus_levels, legacy_l_plus_levels}
use Rattle.sqv4_format.specs.declared.Variant.{Variant}
use Rattle.sqv4_format.specs.declared.Variant.TheVariants.{H, L, LPlus}
use Rattle.sqv4_format.specs.declared.State.{State}

unfoldable pub step_at : ℕ → ℕ
step_at index = nat_abs (get_or steps index (pos 0))

-- the code's bit of that value (1, 2, 4, 8) is set
abbrev pub bit_set : ℕ → ℕ → Bool
bit_set code value = eqb (code / value % 2) 1

-- x where the flag is set, else nothing
abbrev pub part : Bool → ℕ → ℕ
part on x = cond on x 0

-- H: step/8, plus step/4, step/2, step for code bits 1, 2, 4
unfoldable pub h_size : ℕ → ℕ → ℕ
h_size step code =
    step / 8 + part (bit_set code 1) (step / 4) + part (bit_set code 2) (step / 2) + part (bit_set code 4) step

-- L, L+: (level × step + 4) / 8
unfoldable pub l_size : ℕ → ℕ → ℕ
l_size level step = (level * step + 4) / 8

-- the levels by version and variant; H has none, and zeros stand for them
abbrev pub levels : ℕ → Variant → List ℤ
levels version H = map pos (0 ∷ 0 ∷ 0 ∷ 0 ∷ [])
levels version L = l_levels
levels version LPlus = cond (eqb version 1) legacy_l_plus_levels l_plus_levels

unfoldable pub level_of : ℕ → Variant → ℕ → ℕ
level_of version variant code = nat_abs (get_or (levels version variant) (code % 4) (pos 0))

-- the size of a code's difference, and the bit that negates it
abbrev pub size_of : ℕ → Variant → ℕ → ℕ → ℕ
size_of version H step code = h_size step code
size_of version L step code = l_size (level_of version L code) step
size_of version LPlus step code = l_size (level_of version LPlus code) step

abbrev pub sign_bit : Variant → ℕ
sign_bit H = 8
sign_bit L = 4
sign_bit LPlus = 4

unfoldable pub difference : ℕ → Variant → ℕ → ℕ → ℤ
difference version variant step code = with_sign (bit_set code (sign_bit variant)) (size_of version variant step code)

abbrev pub adjustment : Variant → ℕ → ℤ
adjustment H code = get_or h_index_adjust code (pos 0)
adjustment L code = get_or l_index_adjust (code % 4) (pos 0)
adjustment LPlus code = get_or l_index_adjust (code % 4) (pos 0)

-- predictor and index after a code, before their clamps
unfoldable pub unclamped_predictor : ℕ → Variant → State → ℕ → ℤ
unclamped_predictor version variant s code = s.predictor +ℤ difference version variant (step_at s.index) code

unfoldable pub unclamped_index : Variant → State → ℕ → ℤ
unclamped_index variant s code = pos s.index +ℤ adjustment variant code

-- the state after a code: predictor clamps to −32768..32767, index to 0..88
unfoldable pub stepped : ℕ → Variant → State → ℕ → State
stepped version variant s code =
    record {
      predictor = clamp16 (unclamped_predictor version variant s code);
      index = clamp_to 88 (unclamped_index variant s code);
    }
