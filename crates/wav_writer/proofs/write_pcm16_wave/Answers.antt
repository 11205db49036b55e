-- `wav_writer::write_pcm16_wave` meets its contract: the header goes to the front, and the samples behind it. Assumes nothing.
use mathlib.Core.Path.{sym, ap, ◌∙◌}
use Prim.Native.Nat.{◌+◌, ◌*◌, ◌≤◌}
use lib.ListN.{length}
use Rattle.std.proofs.lemmas.List.{length-take-le}
use native.Mathlib.Omega.{arith}
use Rattle.outcome.proofs.Laws.{checks}
use Rattle.wav_format.specs.Wave.{frame_bytes}
use Rattle.wav_writer.specs.Writer.{write_call}
use Rattle.wav_writer.proofs.Written.{as_written, length-header}
use Rattle.wav_writer.proofs.write_pcm16_wave.Goals as goal

pub wave_header-header-requires : goal.wave_header-header-requires
wave_header-header-requires c = (
  (rw (c.in_ok-byte_rate.ensures.ok_part, c.frame_bytes.ensures) at c.checked_mul.ensures).1,
  (rw c.in_ok-riff.ensures.ok_part at c.checked_add.ensures).1,
)

pub copy_from_slice-requires : goal.copy_from_slice-requires
copy_from_slice-requires c =
    length-take-le 44 c.args.out.now (omega arith) ∙ sym (ap length c.wave_header-header.ensures ∙ length-header _ _ _)

pub slice_bounds-copy_from_slice-end-2 : goal.slice_bounds-copy_from_slice-end-2
slice_bounds-copy_from_slice-end-2 c = sym (length-take-le 44 c.args.out.now (omega arith))

pub returns : goal.returns
unfolding write_call
returns c =
    let few : 2 * length c.args.samples.now ≤ 4294967295 = omega (arith, c.in-Ok.ensures.0) in
    let riff = rw c.in_ok-riff.ensures.ok_part at c.checked_add.ensures in
    let riff_few : 2 * length c.args.samples.now + 36 ≤ 4294967295 = omega (arith, c.in-Ok.ensures.1, riff.0) in
    let rate = rw (c.in_ok-byte_rate.ensures.ok_part, c.frame_bytes.ensures) at c.checked_mul.ensures in
    let slow : c.args.rate * frame_bytes c.args.channels ≤ 4294967295 = omega (arith, rate.0) in
    let enough : 44 + 2 * length c.args.samples.now ≤ length c.args.out.now = omega (arith, c.in-Ok.ensures.1) in
    let header = c.copy_from_slice.ensures.after ∙ rw c.in-Ok.ensures.1 at c.wave_header-header.ensures in
    rw c.in-Ok.ensures.1 (as_written _ _ _ _ _ _ (search checks depth 12) header c.put_samples.ensures)
