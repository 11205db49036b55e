-- What the encoder promises, by the ways in which it returns. Assumes nothing.
use mathlib.Core.Path.{◌≡◌, refl, sym, ◌∙◌, ap}
use mathlib.Core.List.{List, ◌++◌}
use Prim.Native.Nat.{ℕ, ◌*◌, ◌≤◌}
use lib.IntN.{ℤ}
use native.Mathlib.Omega.{arith}
use lib.ListN.{length, drop, length-append, length-drop}
use Rattle.std.specs.declared.result.Result.TheVariants.{Ok}
use Rattle.outcome.specs.Outcome.{result}
use Rattle.outcome.proofs.Table.{gives_result}
use Rattle.sqv4_format.specs.Layout.{header_bytes, frames, stream_length}
use Rattle.sqv4_format.specs.Encode.{header_written, fragment_for, encoded, encode_call}
use Rattle.outcome.specs.Table.{Gives}
use Rattle.sqv4_format.proofs.Sizes.{length-header}
use Rattle.sqv4_format.proofs.Encoder.{length_encoded}
use Rattle.lists.specs.Lists.{joined, written}
use Rattle.lists.proofs.Parts.{written_front, then_written}
use Rattle.sqv4_format.specs.declared.Header.{Header}
use Rattle.sqv4_format.specs.declared.Settings.{Settings}

module _ (k : Settings) (pcm : List ℤ) (channels rate : ℕ) (out : List ℕ) where
  -- the header is written, and the fragments behind it
  pub as_written : (n : ℕ) (h : Header) (headed r : List ℕ) → result (encoded k pcm channels rate) ≡ encode_call k pcm channels rate (length out)
      → h ≡ header_written k pcm channels rate → n ≡ stream_length h → headed ≡ header_bytes h ++ drop 16 out
      → r ≡ written headed 16 (joined (fragment_for k pcm channels) (frames (header_written k pcm channels rate) * channels))
      → Gives (encode_call k pcm channels rate (length out)) out (Ok n) r
  unfolding encoded
  as_written n h headed r q eh en ed er =
      let header = header_bytes h in
      let fragments = joined (fragment_for k pcm channels) (frames (header_written k pcm channels rate) * channels) in
      let count : n ≡ length (encoded k pcm channels rate) = en ∙ ap stream_length eh ∙ sym (length_encoded k pcm channels rate) in
      let front : headed ≡ written out 0 header = ed ∙ sym (written_front out header ∙ rw length-header refl) in
      let whole : r ≡ written out 0 (header ++ fragments) =
      er ∙ rw front (ap (λ m. written (written out 0 header) m fragments) (omega (arith, length-header h)) ∙ then_written out 0 (omega arith) header fragments) in
      gives_result _ q count (whole ∙ rw eh (written_front out _) ∙ ap (λ m. encoded k pcm channels rate ++ drop m out) (sym count))

-- writing the header keeps the output's length
pub headed_length : (h : Header) (out headed : List ℕ) (n : ℕ) → headed ≡ header_bytes h ++ drop 16 out → n ≡ stream_length h → n ≤ length out → stream_length h ≤ length headed
headed_length h out headed n e en l = rw (e, length-append, length-header, length-drop) (omega arith)
