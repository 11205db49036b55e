-- The claims at work, from their statements. Assumes nothing.
use mathlib.Core.Path.{◌≡◌, refl, sym, ◌∙◌}
use mathlib.Core.Logic.{◌⊎◌, inl, inr}
use mathlib.Core.List.{List, [], ◌∷◌, ◌++◌}
use Prim.Native.Nat.{ℕ, ◌+◌}
use native.Mathlib.Omega.{arith}
use native.Mathlib.Decide.{ℕ_discrete}
use Rattle.lists.specs.Lists.{SameBut}
use Rattle.outcome.specs.Outcome.{result, refused}
use Rattle.outcome.proofs.Laws.{one_way}
use Rattle.wav_format.specs.Wave.{read_wave, read_strict, part_of}
use Rattle.wav_format.specs.Extended.{chunk_start}
use Rattle.wav_format.specs.Cases.{fields, file, fmt_of, pcm, extended}
use Rattle.wav_format.specs.Compute.{computing}
use Rattle.wav_format.specs.declared.Wave.{Wave}
use Rattle.wav_format.proofs.Within.{format_found}
use Rattle.wav_format.proofs.Claims as claims

-- ---- fmt chunks of 16 and 18 bytes

-- no other size is accepted
pub strict_has_16_or_18 : (s : List ℕ) (w : Wave) → read_strict s ≡ result w → (w.format.size ≡ 16) ⊎ (w.format.size ≡ 18)
strict_has_16_or_18 s w e = go (ℕ_discrete w.format.size 16) (ℕ_discrete w.format.size 18)
  where
    go : Dec (w.format.size ≡ 16) → Dec (w.format.size ≡ 18) → (w.format.size ≡ 16) ⊎ (w.format.size ≡ 18)
    go (yes h) d = inl h
    go (no g) (yes h) = inr h
    go (no g) (no h) = absurd (one_way (sym (claims.strict_size_refused s w (claims.strict_gives s w e) g h) ∙ e))

-- of a file that plain reading accepts the two bytes are those behind the first sixteen of the part that it names
pub two_bytes_of_accepted : (s t : List ℕ) (w : Wave) → read_wave s ≡ result w → w.format.size ≡ 18
    → SameBut (w.format.start + 16) (w.format.start + 18) s t
    → (read_strict t ≡ read_strict s) × (part_of t (read_strict t) ≡ part_of s (read_strict s))
two_bytes_of_accepted s t w e size same =
    let c = format_found s w e in
    claims.two_bytes_ignored s t c.number (record { letters = c.letters; size = sym c.size ∙ size }) (rw c.start at same)

-- whatever they are, the file of the cases is accepted and shows its sample
pub any_two_bytes : (a b : ℕ) → (w : Wave) × (read_strict (extended a b) ≡ result w) × (part_of (extended a b) (read_strict (extended a b)) ≡ 1 ∷ 0 ∷ [])
unfolding chunk_start computing
any_two_bytes a b =
    let w : Wave = record { channels = 1; rate = 8000; samples = record { start = 46; size = 2 }; format = record { start = 20; size = 18 }; end = 48 } in
    let accepted = claims.strict-accepts (extended 0 0) w refl (inr refl) (omega arith) refl in
    let same = claims.two_bytes_ignored (extended 0 0) (extended a b) 0 (record { letters = refl; size = refl }) (record { long = refl; before = refl; behind = refl }) in
    (w, same.0 ∙ accepted, same.1)

-- and one with another encoding and fmt behind data, so that it is chunk 1, is refused as plain reading refuses it
abbrev pub another : ℕ → ℕ → List ℕ
another a b = file (pcm 2 ++ fmt_of 18 (fields 2 1 8000 16000 2 16 ++ (a ∷ b ∷ [])))

pub any_two_bytes_refused : (a b : ℕ) → read_strict (another a b) ≡ refused 27 []
unfolding chunk_start computing
any_two_bytes_refused a b =
    let same = claims.two_bytes_ignored (another 0 0) (another a b) 1 (record { letters = refl; size = refl }) (record { long = refl; before = refl; behind = refl }) in
    same.0 ∙ claims.strict-refuses (another 0 0) 27 [] refl
