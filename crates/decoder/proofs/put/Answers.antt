-- `decoder::put` meets its contract. Assumes nothing.
use native.Mathlib.Nat.{le_trans, mul-le-mul_right}
use native.Mathlib.Omega.{arith}
use mathlib.Core.Path.{◌≡◌, ◌∙◌}
use Prim.Native.Nat.{◌+◌, ◌≤◌}
use lib.IntN.{pos}
use lib.ListN.{length, take, length-take}
use Rattle.interleave.proofs.Interleave.{spread-take}
use Rattle.decoder.proofs.put.Goals as goal
use Rattle.decoder.proofs.put.Goals.{After-samples}

taken : (c : After-samples) → length (take c.samples.result c.args.samples.now) ≡ c.samples.result
taken c = simp length-take (omega (arith, c.told-samples, c.samples.ensures.high))

pub spread-requires : goal.spread-requires
spread-requires c =
    let inside : c.first.result + c.samples.result ≤ c.args.place.header.samples = rw c.first.ensures c.samples.ensures.inside in
    (c.channel.ensures.1, rw (taken (goal.at.spread-requires c).After-samples) (le_trans (mul-le-mul_right c.args.place.header.channels inside) c.requires))

pub returns : goal.returns
returns c =
    let n = c.samples.result in
    (rw (taken (goal.at.returns c).After-samples) at c.spread.ensures) ∙ spread-take (pos 0) c.args.out.now c.args.samples.now c.first.result c.args.place.header.channels c.channel.result n n (omega arith)
    ∙ rw (c.first.ensures, c.channel.ensures.0, c.samples.ensures.value)
