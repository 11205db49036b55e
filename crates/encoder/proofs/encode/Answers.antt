-- `encoder::encode` meets its contract. Assumes nothing.
use mathlib.Core.Path.{◌≡◌, refl}
use mathlib.Core.Bool.{true}
use Prim.Native.Nat.{◌/◌, ◌≤◌, ◌<◌}
use native.Mathlib.Omega.{arith}
use lib.ListN.{length}
use Rattle.sqv4_format.proofs.Sizes.{channels_few}
use Rattle.sqv4_format.specs.Layout.{version_for, channels_fit}
use Rattle.sqv4_format.specs.Encode.{header_written, too_many, encode_call}
use Rattle.outcome.proofs.Flags.{via}
use Rattle.outcome.proofs.Laws.{checks}
use Rattle.encoder.proofs.Encoding.{as_written, headed_length}
use Rattle.encoder.proofs.encode.Goals as goal
use Rattle.encoder.proofs.encode.Goals.{Else-rate-eq0}

-- past the check 1
fit : (c : Else-rate-eq0) → channels_fit (version_for c.args.channels) c.args.channels ≡ true
fit c = via _ _ _ (rw c.version_for-version.ensures at c.channels_fit.ensures) c.if-not-channels_fit.false

few : (c : Else-rate-eq0) → (0 < c.args.channels) × (c.args.channels ≤ 2)
few c = channels_few _ _ (fit c)

pub nonzero_rem-pcm : goal.nonzero_rem-pcm
nonzero_rem-pcm c = (few c).0

pub nonzero_div-pcm : goal.nonzero_div-pcm
nonzero_div-pcm c = (few (goal.at.nonzero_div-pcm c).Else-rate-eq0).0

pub put_fragments-requires : goal.put_fragments-requires
unfolding header_written
put_fragments-requires c =
    let v = c.version_for-version.ensures in
    let headed = headed_length _ c.args.out.now _ _ (rw v at c.put_header.ensures) (rw v at c.stream_length-needed.ensures) c.if-out-needed.false in
    record { some = (few (goal.at.put_fragments-requires c).Else-rate-eq0).0; written = rw (c.new.ensures, c.in-Ok.ensures.1, v) refl; long = rw v headed }

pub returns : goal.returns
unfolding header_written encode_call too_many
returns c =
    let v = c.version_for-version.ensures in
    let count = c.in-Ok.ensures.1 in
    let fits = fit (goal.at.returns c).Else-rate-eq0 in
    let few : length c.args.pcm.now / c.args.channels ≤ 4294967295 = omega (arith, c.in-Ok.ensures.0) in
    let enough = rw (c.stream_length-needed.ensures, count, v) at c.if-out-needed.false in
    as_written _ _ _ _ _ _ _ _ _ (search checks depth 12) (rw (count, v) refl) c.stream_length-needed.ensures c.put_header.ensures (rw (c.new.ensures, count, v) at c.put_fragments.ensures)
