-- `encoder::put_fragments` meets its contract. Assumes nothing.
use mathlib.Core.Path.{◌≡◌, refl, ◌∙◌}
use Prim.Native.Nat.{◌+◌, ◌-◌, ◌*◌, ◌/◌, ◌≤◌, min}
use native.Mathlib.Nat.{le_trans, mul-le-mul_right}
use native.Mathlib.Omega.{arith}
use borrow.Author.Rules.{rules}
use lib.IntN.{pos}
use lib.ListN.{length, take, replicate, length-take, length-drop}
use lib.Seq.{length-take-le}
use Rattle.sqv4_format.specs.Layout.{encoder_version, fragment_size, size_in}
use Rattle.encoder.proofs.EncodeLoop.{writing_none, writing_more, written_size, written_frame, written_samples, written_count}
use Rattle.encoder.proofs.put_fragments.Goals as goal
use Rattle.encoder.proofs.put_fragments.Goals.{In-loop-p, After-samples, After-start-at}

size : (c : In-loop-p) → c.fragment_size-size.result ≡ fragment_size encoder_version c.args.coder.now.settings.variant
size c = rw (c.fragment_size-size.ensures.value, c.coding.ensures) (written_size _ _ _ _ _ c.requires.written)

-- the bytes of this turn's fragment lie in the output
here : (c : After-start-at) → c.start-at.result + c.fragment_size-size.result ≤ length c.args.out.now
here c =
    let same : c.fragment_size-size.result ≡ size_in c.args.h = rw (c.fragment_size-size.ensures.value, c.coding.ensures) refl in
    rw same (le_trans c.start-at.ensures.1 c.requires.long)

-- this turn's samples
n_is : (c : After-samples) → c.samples.result ≡ min 63 (length c.args.pcm.now / c.args.h.channels - c.loop-p.p / c.args.h.channels * 63)
n_is c = c.samples.ensures.value ∙ written_count _ _ _ _ _ c.requires.written (c.loop-p.p / c.args.h.channels)

few : (c : After-samples) → c.samples.result ≤ 63
few c = omega (arith, n_is c)

taken : (c : After-samples) → length (take c.samples.result (replicate 63 (pos 0))) ≡ c.samples.result
taken c = length-take-le c.samples.result (replicate 63 (pos 0)) (few c)

pub loop-p-init : goal.loop-p-init
loop-p-init c = writing_none _ _ _ _

pub gather-requires : goal.gather-requires
gather-requires c =
    let inside : c.first.result + c.samples.result ≤ c.args.h.samples = rw c.first.ensures c.samples.ensures.inside in
    let all = written_samples _ _ _ _ _ c.requires.written in
    (c.channel.ensures.1, rw (taken (goal.at.gather-requires c).After-samples) (le_trans (mul-le-mul_right c.args.h.channels inside) all))

pub slice_bounds-samples-end : goal.slice_bounds-samples-end
slice_bounds-samples-end c = let n = few (goal.at.slice_bounds-samples-end c).After-samples in search rules

pub slice_bounds-samples-end-in-loop-p : goal.slice_bounds-samples-end-in-loop-p
slice_bounds-samples-end-in-loop-p c = let n = few (goal.at.slice_bounds-samples-end-in-loop-p c).After-samples in search rules

pub encode_fragment-requires : goal.encode_fragment-requires
encode_fragment-requires c =
    let at = goal.at.encode_fragment-requires c in
    let n = few at.After-samples in
    let e = size at.In-loop-p in
    let h = here at.After-start-at in
    let long = c.loop-p.auto.out in
    (rw (c.gather.auto.samples, taken at.After-samples) n, simp (length-take, length-drop) (omega arith))

pub loop-p-preserved : goal.loop-p-preserved
loop-p-preserved c =
    let at = goal.at.loop-p-preserved c in
    let w = c.requires.written in
    let start = rw (written_size _ _ _ _ _ w) at c.start-at.ensures.0 in
    let samples = rw (taken at.After-samples, n_is at.After-samples, c.first.ensures, written_frame _ _ _ _ _ w, c.channel.ensures.0) at c.gather.ensures in
    writing_more _ _ _ _ _ _ _ start (size at.In-loop-p) c.loop-p.invariant (omega (arith, c.requires.long)) samples c.encode_fragment.ensures
