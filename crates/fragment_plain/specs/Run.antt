-- A run of codes: the sample that each of them gives. Assumes nothing.
use Rattle.std.specs.Prelude.{ℕ, suc, List, ℤ}
use Rattle.sqv4_format.specs.Gain.{output_gain}
use Rattle.sqv4_format.specs.Decode.{after}
use Rattle.sqv4_format.specs.declared.Variant.{Variant}
use Rattle.sqv4_format.specs.declared.State.{State}

-- sample i: the state after code i, at the volume
unfoldable pub sample_at : ℕ → Variant → List ℕ → State → ℕ → ℕ → ℤ
sample_at version variant codes s volume i = output_gain version volume (after version variant codes s (suc i)).predictor
