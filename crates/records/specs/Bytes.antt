-- What recorded answers hold. Assumes nothing.
use Rattle.std.specs.Prelude.{ℕ, ℤ, pos, negsuc, neg_ℤ, List, [], ◌∷◌, ◌++◌, cond, leb, eqb, unsigned_abs, take}
use Rattle.std.specs.Int.{is_negative, to_le_bytes, w64}
use Rattle.std.specs.declared.option.Option.{Option}
use Rattle.std.specs.declared.option.Option.TheVariants.{None, Some}
use Rattle.sqv4_format.specs.declared.State.{State}
use Rattle.text.specs.declared.Printer.{Printer}

-- a decoder's state: 1 where the predictor is negative and else 0, its magnitude, and the index
unfoldable pub state_bytes : State → List ℕ
state_bytes s = ((cond (is_negative s.predictor) 1 0 ∷ []) ++ to_le_bytes w64 (unsigned_abs s.predictor)) ++ to_le_bytes w64 s.index

-- the predictor of a sign byte and a magnitude, which is negative for 1; a magnitude that is too large gives the least predictor
unfoldable pub predictor_of : ℕ → ℕ → ℤ
predictor_of sign magnitude = cond (leb 2147483648 magnitude) (negsuc 2147483647) (cond (eqb sign 1) (neg_ℤ (pos magnitude)) (pos magnitude))

-- what a question is answered: what was put, and no bytes where it has no answer
unfoldable pub answer_bytes : Option (Unit {0}) → Printer → List ℕ
answer_bytes None page = []
answer_bytes (Some _) page = take page.at page.out.now
