-- `decoder::decode_lanes` meets its contract. Assumes nothing.
use native.Mathlib.Omega.{arith}
use Rattle.layout.proofs.Places.{places_few}
use Rattle.decoder.proofs.Lanes.{lane_more}
use Rattle.decoder.proofs.decode_lanes.Goals as goal

pub play-after-requires : goal.play-after-requires
play-after-requires g c =
    let few = places_few c.args.player.stream.header (omega arith) (omega arith) in
    (omega arith, (omega arith, (c.requires.some, c.requires.within)))

pub offset_bounds-samples-k : goal.offset_bounds-samples-k
offset_bounds-samples-k g c =
    omega (arith, places_few c.args.player.stream.header (omega arith) (omega arith))

pub loop-k-2-preserved : goal.loop-k-2-preserved
loop-k-2-preserved g c = λ o t.
    let k = c.loop-k-2.k in
    let l = c.loop-k-2-test.true in
    let z = c.state-item-in-loop-k-2.result in
    rw (c.put.ensures, c.place.ensures.0, c.place.ensures.1)
    (lane_more c.requires.in_step c.args.player.stream.channels t (c.loop-k-2.invariant o t) l _ _ z _ (c.loop-k.invariant.each k (omega arith) z) (c.play-after.ensures k l z))
