-- PCM samples: signed 16-bit, two's complement, little-endian. Assumes nothing.
use Rattle.std.specs.Prelude.{ℕ, ◌*◌, ◌/◌, List, [], ◌∷◌, ltb, ℤ, length}
use Rattle.outcome.specs.Outcome.{Outcome, result, refuse_if, ◌⟫◌}
use Rattle.lists.specs.Lists.{tabulate}
use Rattle.digits.specs.Digits.{field}
use Rattle.signed.specs.Signed.{of_twos}

-- sample i is in the bytes 2 i and 2 i + 1; a last odd byte is no sample
unfoldable pub samples_of : List ℕ → List ℤ
samples_of bytes = tabulate (λ i. of_twos (field 2 (2 * i) bytes)) (length bytes / 2)

-- reading them into an output of so many places
unfoldable pub samples_call : List ℕ → ℕ → Outcome (List ℤ)
samples_call bytes room = refuse_if (ltb room (length bytes / 2)) 13 (length bytes / 2 ∷ []) ⟫ result (samples_of bytes)
