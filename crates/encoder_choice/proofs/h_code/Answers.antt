-- `encoder_choice::h_code` meets its contract. Assumes nothing.
use native.Mathlib.Omega.{arith}
use Rattle.sqv4_format.specs.Encode.{h_code}
use Rattle.signed.proofs.Laws.{read16, sample_read}
use Rattle.encoder_choice.proofs.h_code.Goals as goal

pub returns : goal.returns
unfolding h_code
returns c =
    let s = c.args.state in (
      rw (
        c.part_of.ensures.0,
        c.part_of-2.ensures.0,
        c.part_of-3.ensures.0,
        c.part_of-4.ensures.0,
        c.take_off-after_half.ensures,
        c.take_off-after_step.ensures,
        c.abs_diff-d.ensures,
        c.step_size-step.ensures.value,
        c.index.ensures,
      ) (rw (sample_read c.ranges.input, read16 s.state.predictor s.in_range.predictor)),
      omega arith,
    )
