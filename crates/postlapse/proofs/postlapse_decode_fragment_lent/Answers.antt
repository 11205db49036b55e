-- `postlapse::postlapse_decode_fragment_lent` meets its contract: what is stored is the state after the call, and where nothing is stored,
-- the call does not change it. Assumes nothing.
use mir.Facts.{to_z-of_z}
use mir.Syntax.{w32}
use mir.Val.{SFits}
use mathlib.Core.Path.{sym, ◌∙◌}
use borrow.Author.Rules.{rules}
use Rattle.postlapse.proofs.Laws.{plays_shown, plays_unmoved}
use Rattle.postlapse.proofs.postlapse_decode_fragment_lent.Goals as goal
use Rattle.postlapse.proofs.postlapse_decode_fragment_lent.Goals.{then-moves, else-moves}

pub returns : goal.returns
returns c =
    let p = c.play-played.ensures in
    let f : SFits w32 c.play-played.result.state.predictor = search rules in
    elim c.if-moves.branch [
      | then-moves w ↦ rw (w.state-is, to_z-of_z f) (plays_shown p c.from.ensures)
      | else-moves w ↦ rw w.state-is (plays_shown (plays_unmoved _ _ _ _ _ p (sym c.moves.ensures ∙ w.if-moves.false)) c.from.ensures)
    ]
