-- Samples of one channel that go into an interleaved list, by the stores themselves. Assumes nothing.
use Rattle.std.specs.Prelude.{ℕ, zero, suc, ◌+◌, ◌*◌, ◌-◌, ◌/◌, ◌%◌, min, List, get_or, set}

-- an output after n samples of a fragment: sample w of xs goes to place (first + w) × c + ch
unfoldable pub spread : {A : Type 0} → A → List A → List A → ℕ → ℕ → ℕ → ℕ → List A
spread d o xs first c ch zero = o
spread d o xs first c ch (suc n) = set (spread d o xs first c ch n) ((first + n) * c + ch) (get_or xs n d)

-- an output after the first p fragments in file order, of frames of `whole` samples; xs p are the samples of fragment p
unfoldable pub out_after : {A : Type 0} → A → ℕ → ℕ → ℕ → (ℕ → List A) → List A → ℕ → List A
out_after d c whole total xs o zero = o
out_after d c whole total xs o (suc p) =
    spread d (out_after d c whole total xs o p) (xs p) (p / c * whole) c (p % c) (min whole (total - p / c * whole))
