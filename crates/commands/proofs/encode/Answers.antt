-- `commands::encode` meets its contract. Assumes nothing.
use mathlib.Core.Path.{◌≡◌, sym, ap, ◌∙◌}
use Prim.Native.Nat.{◌/◌}
use native.Mathlib.Omega.{arith}
use lib.ListN.{length, length-take, take}
use Rattle.wav_format.specs.Samples.{samples_of}
use Rattle.wav_format.proofs.Plain.{plain}
use Rattle.wav_format.proofs.Steps.{one_or_two_is}
use Rattle.wav_samples.proofs.Samples.{length_samples}
use Rattle.commands.proofs.Printing as printing
use Rattle.commands.proofs.Printing.{loaded}
use Rattle.outcome.proofs.Table.{gives_refused, gives_passed_on, not_refused}
use Rattle.wav_format.proofs.Claims.{load_accepts}
use Rattle.outcome.specs.declared.Error.TheVariants.{InputSize}
use Rattle.commands.proofs.encode.Goals as goal
use Rattle.commands.proofs.encode.Goals.{In_ok-count}

pub returns-in_default : goal.returns-in_default
returns-in_default c = gives_refused InputSize (printing.short_refused _ c.in_default.len_below)

pub returns-in_err-try_from : goal.returns-in_err-try_from
returns-in_err-try_from c =
    gives_passed_on _ _ c.from_residual.ensures.1 (printing.variant_refused _ c.in-len2-up.len_at_least c.requires c.in_err-try_from.ensures)

pub returns-in_err-wave : goal.returns-in_err-wave
returns-in_err-wave c =
    gives_passed_on _ _ c.from_residual-in_err-wave.ensures.1
    (printing.wave_refused _ c.in-len2-up.len_at_least c.requires _ c.in_ok-try_from.ensures c.in_err-wave.ensures)

pub returns-in_err-count : goal.returns-in_err-count
returns-in_err-count c =
    let room = printing.part_few _ c.in-len2-up.len_at_least c.requires _ c.in_ok-try_from.ensures c.in_ok-wave.wave in
    not_refused (load_accepts _ _ (rw c.shown-samples.ensures room)) (rw c.in_err-count.was at c.load_samples.ensures)

pub overflow_cast-channels : goal.overflow_cast-channels
overflow_cast-channels c = omega (arith, one_or_two_is _ (plain _ _ (sym c.in_ok-wave.ensures)).channels)

-- the samples that are loaded
all : (c : In_ok-count) → (c.in_ok-count.count ≡ length c.shown-samples.result.now / 2) × (take c.in_ok-count.count c.load_samples.new.out ≡ samples_of c.shown-samples.result.now)
all c =
    let room = printing.part_few _ c.in-len2-up.len_at_least c.requires _ c.in_ok-try_from.ensures c.in_ok-wave.wave in
    loaded _ _ _ (rw c.shown-samples.ensures room) _ (rw c.in_ok-count.was at c.load_samples.ensures)

as_many : (c : In_ok-count) → c.in_ok-count.count ≡ length (take c.in_ok-count.count c.load_samples.new.out)
as_many c = let s = all c in s.0 ∙ sym (ap length s.1 ∙ length_samples _)

pub slice_bounds-pcm-end : goal.slice_bounds-pcm-end
slice_bounds-pcm-end c = omega (arith, simp length-take at (as_many c))

pub slice_bounds-encode-end : goal.slice_bounds-encode-end
slice_bounds-encode-end c = as_many (goal.at.slice_bounds-encode-end c).In_ok-count

pub returns : goal.returns
returns c =
    let s = all (goal.at.returns c).In_ok-count in
    let whole = printing.wave_encoded _ c.in-len2-up.len_at_least c.requires _ c.in_ok-try_from.ensures _ c.in_ok-wave.ensures (length c.args.out.now) (omega arith) in
    rw (s.1, c.shown-samples.ensures, whole) at c.encode.ensures
