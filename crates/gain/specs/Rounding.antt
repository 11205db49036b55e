-- The half that is added to a magnitude's product before it is divided by 255. Assumes nothing.
use Rattle.std.specs.Prelude.{ℕ, cond}
use Rattle.sqv4_format.specs.Layout.{anew}

-- to nearest from version 3 on, cut in versions 1, 2
abbrev pub rounding : ℕ → ℕ
rounding version = cond (anew version) 127 0
