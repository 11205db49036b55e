-- `decoder_fragment::Player::play` meets its contract. Assumes nothing.
use native.Mathlib.Omega.{arith}
use Prim.Native.Nat.{◌/◌, ◌≤◌, ◌<◌}
use mathlib.Core.Path.{sym, ◌∙◌}
use mathlib.Core.List.{[]}
use Rattle.sqv4_format.specs.Layout.{frame_samples}
use Rattle.sqv4_format.proofs.Sizes.{count_whole, place_length}
use Rattle.fragment_plain.proofs.Fragments.{codes_small}
use Rattle.sqv4_format.specs.declared.Reached.{Reached}
use Rattle.std.proofs.lemmas.List.{get_or_read, get_or-replicate}
use Rattle.decoder_fragment.proofs.Running.{played}
use Rattle.layout.proofs.Places.{places_few}
use Rattle.decoder_fragment.proofs.Lanes.{each_more}
use Rattle.decoder_fragment.proofs.Player.play.Goals as goal

pub start-requires : goal.start-requires
start-requires g c =
    let s = c.args.self in
    rw (c.fragment.ensures, s.same_version, s.same_variant) (place_length s.stream.header s.stream.file.now _ s.stream.whole (omega arith))

pub loop-k-preserved : goal.loop-k-preserved
loop-k-preserved g c =
    let r = c.index-states-k in
    let same = λ (d : Reached). sym r.is ∙ get_or_read c.args.states c.loop-k.k r.result (omega arith) r.is d in
    each_more _ c.loop-k.invariant c.loop-k-test.true (λ d. rw (← same d) (rw c.fragment.ensures at c.start.ensures))

pub run-requires : goal.run-requires
run-requires g c =
    let t = c.args.self.tables.coding in
    let few = places_few c.args.self.stream.header (omega arith) (omega arith) in
    let each = c.loop-k.invariant.each in (
      omega arith,
      (
        omega arith,
        (
          omega arith,
          (
            c.samples-n.ensures.high,
            (
              λ k l d. (each k (omega arith) [] d c.zero.result).variant_is,
              (
                λ k i l. codes_small t.version t.variant _ (each k (omega arith) [] c.keep-lanes.result c.zero.result).codes_are i,
                λ k l. rw get_or-replicate,
              ),
            ),
          ),
        ),
      ),
    )

pub loop-k-2-preserved : goal.loop-k-2-preserved
loop-k-2-preserved g c =
    let a = c.args in
    let h = a.self.stream.header in
    let k = c.loop-k-2.k in
    let l : k < g.row.N = c.loop-k-2-test.true in
    let r = c.index-states-k-in-loop-k-2 in
    let same = λ (d : Reached). sym r.is ∙ get_or_read a.states k r.result (omega arith) r.is d in
    let first = c.place.ensures in
    let n = rw (first.0, first.1) at c.samples-n.ensures.value in
    let few : c.samples-n.result ≤ frame_samples a.self.tables.coding.version = rw (n, a.self.same_version) (count_whole h (a.p / h.channels)) in
    let lane = c.index-lanes-k-in-loop-k-2.result in
    let started = c.loop-k.invariant.each k (omega arith) [] lane r.result in
    let ran = c.run.ensures.each k l lane in
    let finished = rw c.fragment-fragment.ensures at c.finish.ensures in
    let p = played few started ran finished a.self.same_version a.self.same_variant n in
    each_more _ c.loop-k-2.invariant l (λ d. rw (← same d) (record { state = p.0; samples_are = p.1 }))

pub returns : goal.returns
returns g c = λ k l d. c.loop-k-2.invariant.each k (omega arith) d [] d
