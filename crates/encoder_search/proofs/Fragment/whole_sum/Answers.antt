-- `encoder_search::Fragment::whole_sum` meets its contract. Assumes nothing.
use native.Mathlib.Omega.{arith}
use borrow.Author.Rules.{rules}
use Rattle.encoder_search.proofs.Meeting.{traced_none, traced_next}
use Rattle.encoder_search.proofs.Fragment.whole_sum.Goals as goal

pub loop-i-init : goal.loop-i-init
loop-i-init c = traced_none _ _ _ c.fragment_start-state.ensures c.told-trace

pub loop-i-preserved : goal.loop-i-preserved
loop-i-preserved c =
    let a = c.args.self.now in
    traced_next _ _ _ c.loop-i.invariant (omega arith) a.few a.full_scale (search rules) (search rules) c.next-state.result.in_range
    c.key_of.ensures c.next-state.ensures c.squared_error-sum.ensures.0 c.squared_error-sum.ensures.1
