-- The calls for lengths, each with its refusals in their order, and the library's version. Assumes nothing.
use Rattle.std.specs.Prelude.{ℕ, [], ◌∷◌}
use Rattle.outcome.specs.Outcome.{Outcome, result, need, ◌⟫◌, and_then}
use Rattle.sqv4_format.specs.Layout.{known_version, channels_fit, fragment_size, frame_samples, variant_of, rounded_up, stream_length}

-- major * 10000 + minor * 100 + patch, of 1.0.0
abbrev pub library_version : ℕ
library_version = 10000

-- bytes of a fragment: 8, 7
unfoldable pub fragment_size_for_c : ℕ → ℕ → Outcome ℕ
fragment_size_for_c version variant =
    and_then (variant_of variant) λ v.
    need (known_version version) 7 (version ∷ [])
    ⟫ result (fragment_size version v)

-- frames of a stream of so many samples a channel: 7
unfoldable pub frame_count_for_c : ℕ → ℕ → Outcome ℕ
frame_count_for_c version samples =
    need (known_version version) 7 (version ∷ [])
    ⟫ result (rounded_up samples (frame_samples version))

-- bytes of a whole stream, whatever its rate: 8, 7, 1
unfoldable pub stream_length_for_c : ℕ → ℕ → ℕ → ℕ → Outcome ℕ
stream_length_for_c version variant channels samples =
    and_then (variant_of variant) λ v.
    need (known_version version) 7 (version ∷ [])
    ⟫ need (channels_fit version channels) 1 (channels ∷ [])
    ⟫ result (stream_length (record { version = version; variant = v; channels = channels; rate = 0; samples = samples }))
