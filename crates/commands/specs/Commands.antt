-- What the two programs print for what they read. Assumes nothing.
use Rattle.std.specs.Prelude.{ℕ, ◌*◌, List, [], ◌++◌, ltb, ℤ, length, get_or, drop}
use Rattle.outcome.specs.Outcome.{Outcome, result, refused, refuse_if, ◌⟫◌, and_then, on_result}
use Rattle.lists.specs.Lists.{joined}
use Rattle.sqv4_format.specs.Layout.{variant_of, frames, stream_length}
use Rattle.sqv4_format.specs.Encode.{header_written, encode_call}
use Rattle.sqv4_format.specs.Inspect.{inspected}
use Rattle.sqv4_format.specs.declared.Header.{Header}
use Rattle.sqv4_format.specs.declared.Settings.{Settings}
use Rattle.wav_format.specs.Wave.{read_wave, part_of}
use Rattle.wav_format.specs.Samples.{samples_of}
use Rattle.report_lines.specs.Lines.{refusal_line, header_line, fragment_line}

-- ---- what either prints

-- the result; on a refusal only its line
unfoldable pub printed : Outcome (List ℕ) → List ℕ
printed (result text) = text
printed (refused number values) = refusal_line number values

-- ---- the converter: variant byte, gain byte and a WAV

-- the encoder, given all the room that it needs
unfoldable pub encode_whole : Settings → List ℤ → ℕ → ℕ → Outcome (List ℕ)
encode_whole k pcm channels rate = encode_call k pcm channels rate (stream_length (header_written k pcm channels rate))

-- plain WAV reading, then the encoder
unfoldable pub encode_wave : Settings → List ℕ → Outcome (List ℕ)
encode_wave k file = and_then (read_wave file) λ w. encode_whole k (samples_of (part_of file (result w))) w.channels w.rate

-- 38 (under 2 or over 65,536 bytes), then 8
unfoldable pub converted : List ℕ → Outcome (List ℕ)
converted input =
    let gain = get_or input 1 0 in
    refuse_if (ltb (length input) 2) 38 []
    ⟫ refuse_if (ltb 65536 (length input)) 38 []
    ⟫ and_then (variant_of (get_or input 0 0)) λ variant. encode_wave (record { variant = variant; gain = gain }) (drop 2 input)

-- ---- the inspector: a stream

-- the header's line, then a line for each fragment
unfoldable pub report : List ℕ → Header → List ℕ
report d h = header_line h ++ joined (fragment_line h d) (frames h * h.channels)

-- 38 (over 65,536 bytes), then as inspection does
unfoldable pub reported : List ℕ → Outcome (List ℕ)
reported d = refuse_if (ltb 65536 (length d)) 38 [] ⟫ on_result (report d) (inspected d)
