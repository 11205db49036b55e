-- An outcome as the struct that a caller gets: 0 and what the call gives, or the number in 01's table and the numbers returned with
-- it, 0 where there are none. Assumes nothing.
use Rattle.std.specs.Prelude.{ℕ, get_or}
use Rattle.outcome.specs.Outcome.{Outcome, result, refused}
use Rattle.sqv4_format.specs.Layout.{variant_byte}
use Rattle.sqv4_format.specs.declared.Header.{Header}
use Rattle.sqv4_format.specs.declared.State.{State}
use Rattle.wav_format.specs.declared.Wave.{Wave}
use Rattle.postlapse.specs.declared.Answer.{Answer}
use Rattle.postlapse.specs.declared.HeaderAnswer.{HeaderAnswer}
use Rattle.postlapse.specs.declared.WaveAnswer.{WaveAnswer}
use Rattle.postlapse.specs.declared.FragmentAnswer.{FragmentAnswer}

-- of a count
unfoldable pub answer_of : Outcome ℕ → Answer
answer_of (result n) = record { refusal = 0; first = n; second = 0 }
answer_of (refused n vs) = record { refusal = n; first = get_or vs 0 0; second = get_or vs 1 0 }

-- of a header, its variant as the byte of a stream
unfoldable pub header_answer_of : Outcome Header → HeaderAnswer
header_answer_of (result h) =
    record {
      refusal = 0;
      first = 0;
      second = 0;
      version = h.version;
      variant = variant_byte h.variant;
      channels = h.channels;
      rate = h.rate;
      samples = h.samples;
    }
header_answer_of (refused n vs) =
    record {
      refusal = n;
      first = get_or vs 0 0;
      second = get_or vs 1 0;
      version = 0;
      variant = 0;
      channels = 0;
      rate = 0;
      samples = 0;
    }

-- of a WAV file: where its sample bytes lie; no refusal of reading returns numbers
unfoldable pub wave_answer_of : Outcome Wave → WaveAnswer
wave_answer_of (result w) =
    record { refusal = 0; channels = w.channels; rate = w.rate; start = w.samples.start; size = w.samples.size }
wave_answer_of (refused n vs) = record { refusal = n; channels = 0; rate = 0; start = 0; size = 0 }

-- of a count and a channel's state, in one struct; the refusals of the fragment decoder return one number at most
abbrev pub with_state : Answer → State → FragmentAnswer
with_state a s = record { refusal = a.refusal; first = a.first; predictor = s.predictor; index = s.index }
