-- A part of some bytes. Assumes nothing.
use Rattle.std.specs.Prelude.{ℕ, List, take, drop}
use Rattle.parts.specs.declared.Part.{Part}

abbrev pub part_in : List ℕ → Part → List ℕ
part_in bytes part = take part.size (drop part.start bytes)
