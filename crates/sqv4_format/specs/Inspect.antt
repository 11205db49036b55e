-- Inspection, and the whole-stream decoder call that begins with it. Assumes nothing.
use Rattle.std.specs.Prelude.{◌≡◌, ℕ, ◌+◌, ◌*◌, ◌/◌, ◌<◌, Bool, ◌&&◌, List, [], ◌∷◌, ltb, eqb, ℤ, pos, length, get_or}
use Rattle.outcome.specs.Outcome.{Outcome, result, refuse_if, need, ◌⟫◌, and_then, in_order}
use Rattle.digits.specs.Digits.{rest_zero}
use Rattle.sqv4_format.specs.Layout.{known_version, anew, channels_fit, bits, payload, index_byte, variant_of, header_of, frames, count, stream_length, fragment_at_place, fragment_at}
use Rattle.sqv4_format.specs.Decode.{channel_sample, decoded}
use Rattle.sqv4_format.specs.declared.Header.{Header}

-- the first four bytes are "SQV4"
unfoldable pub same_letters : List ℕ → Bool
same_letters d = eqb (get_or d 0 0) 83 && eqb (get_or d 1 0) 81 && eqb (get_or d 2 0) 86 && eqb (get_or d 3 0) 52

-- 1, 9, 2, 10
unfoldable pub field_checks : List ℕ → Header → Outcome Header
field_checks d h =
    let reserved = get_or d 7 0 in
    need (channels_fit h.version h.channels) 1 (h.channels ∷ [])
    ⟫ need (eqb reserved 0) 9 (reserved ∷ [])
    ⟫ refuse_if (eqb h.rate 0) 2 []
    ⟫ need (eqb (length d) (stream_length h)) 10 (stream_length h ∷ length d ∷ [])
    ⟫ result h

-- 5, 6, 7, 8, then 1, 9, 2, 10
unfoldable pub header_checks : List ℕ → Outcome Header
header_checks d =
    let version = get_or d 4 0 in
    refuse_if (ltb (length d) 16) 5 []
    ⟫ need (same_letters d) 6 []
    ⟫ need (known_version version) 7 (version ∷ [])
    ⟫ and_then (variant_of (get_or d 5 0)) λ variant. field_checks d (header_of d variant)

-- an index above 88, where an index is stored
unfoldable pub index_too_high : ℕ → List ℕ → Bool
index_too_high version fragment = anew version && ltb 88 (index_byte fragment)

-- the bits after the codes of frame f are zero
unfoldable pub unused_zero : Header → ℕ → List ℕ → Bool
unused_zero h f fragment = rest_zero (bits h.variant * count h f) (payload h.version fragment)

-- a fragment of frame f: 11 (version 3 only), then 12
unfoldable pub fragment_checks : Header → ℕ → List ℕ → Outcome Header
fragment_checks h f fragment =
    refuse_if (index_too_high h.version fragment) 11 (index_byte fragment ∷ [])
    ⟫ need (unused_zero h f fragment) 12 []
    ⟫ result h

-- inspection: the header, then the fragments in file order. 01's "accepted": inspection refuses nothing
unfoldable pub inspected : List ℕ → Outcome Header
inspected d =
    and_then (header_checks d) λ h.
    in_order h (λ p. fragment_checks h (p / h.channels) (fragment_at_place h d p)) (frames h * h.channels)

-- ---- the whole-stream decoder

pub record Sound : Type 0 where
  pub header : Header
  pub samples : List ℤ

-- a call with room for so many samples: inspection, then 13
unfoldable pub decode_call : List ℕ → ℕ → Outcome Sound
decode_call d room =
    and_then (inspected d) λ h.
    refuse_if (ltb room (h.samples * h.channels)) 13 (h.samples * h.channels ∷ [])
    ⟫ result (record { header = h; samples = decoded h d })

-- what channel separation says of two decodings: each has all its samples, and sample t of channel c is the same in both, and the
-- definition's in each

pub record Agree (h : Header) (c : ℕ) (d e : List ℕ) (xs ys : List ℤ) : Type 0 where
  pub length_first : length xs ≡ h.samples * h.channels
  pub length_second : length ys ≡ h.samples * h.channels
  pub each_other : (t : ℕ) → t < h.samples → get_or xs (t * h.channels + c) (pos 0) ≡ get_or ys (t * h.channels + c) (pos 0)
  pub first : (t : ℕ) → t < h.samples → get_or xs (t * h.channels + c) (pos 0) ≡ channel_sample h (fragment_at h d c) t
  pub second : (t : ℕ) → t < h.samples → get_or ys (t * h.channels + c) (pos 0) ≡ channel_sample h (fragment_at h e c) t
