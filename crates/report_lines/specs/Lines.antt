-- The lines that the programs print. Assumes nothing.
use Rattle.std.specs.Prelude.{ℕ, ◌/◌, ◌%◌, cond, List, [], ◌∷◌, ◌++◌, map}
use Rattle.sqv4_format.specs.Layout.{anew, volume_byte, index_byte, count, fragment_at_place}
use Rattle.sqv4_format.specs.declared.Variant.{Variant}
use Rattle.sqv4_format.specs.declared.Variant.TheVariants.{H, L, LPlus}
use Rattle.sqv4_format.specs.declared.Header.{Header}
use Rattle.text.specs.Text.{letters, decimal, line}

-- a refusal: `refused`, the number, and any returned numbers
unfoldable pub refusal_line : ℕ → List ℕ → List ℕ
refusal_line number values = line (letters "refused" ∷ decimal number ∷ map decimal values)

-- returned numbers as the code prints them: a space before each
unfoldable pub spaced_values : List ℕ → List ℕ
spaced_values [] = []
spaced_values (v ∷ vs) = (letters " " ++ decimal v) ++ spaced_values vs

-- ---- the inspector's report

unfoldable pub variant_name : Variant → List ℕ
variant_name H = letters "H"
variant_name L = letters "L"
variant_name LPlus = letters "L+"

unfoldable pub header_line : Header → List ℕ
header_line h =
    line
    (letters "version" ∷ decimal h.version ∷ letters "variant" ∷ variant_name h.variant ∷ letters "channels" ∷ decimal h.channels
    ∷ letters "rate" ∷ decimal h.rate ∷ letters "samples" ∷ decimal h.samples ∷ [])

-- the index, and - in versions 1, 2
unfoldable pub index_field : ℕ → List ℕ → List ℕ
index_field version fragment = cond (anew version) (decimal (index_byte fragment)) (letters "-")

-- the fragment at place p of the file order: frame, channel, sample count, volume, index
unfoldable pub fragment_line : Header → List ℕ → ℕ → List ℕ
fragment_line h d p =
    let f = p / h.channels in
    let fragment = fragment_at_place h d p in
    line (decimal f ∷ decimal (p % h.channels) ∷ decimal (count h f) ∷ decimal (volume_byte fragment) ∷ index_field h.version fragment ∷ [])
