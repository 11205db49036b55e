-- `decoder_tables::Tables::step` meets its contract. Assumes nothing.
use mathlib.Core.Path.{◌≡◌, refl, ◌∙◌}
use Rattle.sqv4_format.proofs.Range.{stepped_range}
use Rattle.sqv4_format.specs.Step.{stepped}
use Rattle.decoder_tables.specs.Lookup.{Held, kept, state_of}
use Rattle.decoder_tables.proofs.Steps.{kept_back, held, held_needs, held_step}
use Rattle.decoder_tables.proofs.Tables.step.Goals as goal
use Rattle.decoder_tables.proofs.Tables.step.Goals.{Start, After-step-table_state}

-- the state that comes in is one of these tables
held_in : (c : Start) → Held c.args.self.coding.variant c.args.kept.table_state
held_in c = rw c.requires.0 at c.args.kept.held

pub step-table_state-requires : goal.step-table_state-requires
step-table_state-requires c = held_needs c.args.self.looked_up (held_in (goal.at.step-table_state-requires c).Start) c.args.code c.requires.1

-- the state after the code
next : (c : After-step-table_state) → Held c.args.self.coding.variant c.args.kept.table_state → let t = c.args.self in
    c.step-table_state.result ≡ kept t.coding.variant (stepped t.coding.version t.coding.variant (state_of t.coding.variant c.args.kept.table_state) c.args.code)
next c h = c.step-table_state.ensures.0 ∙ held_step c.args.self.looked_up h c.args.code c.requires.1

pub invariant_of-result : goal.invariant_of-result
invariant_of-result c =
    record { held = rw (next (goal.at.invariant_of-result c).After-step-table_state (held_in (goal.at.invariant_of-result c).Start)) (held _ _ (stepped_range _ _ _ _)) }

pub returns : goal.returns
returns c = (refl, rw (next (goal.at.returns c).After-step-table_state (held_in (goal.at.returns c).Start)) (kept_back _ _ (stepped_range _ _ _ _)))
