-- The encoder's loop, fragment by fragment behind the header, gives the definition's bytes. Assumes nothing.
use mathlib.Core.Path.{◌≡◌, sym, ◌∙◌, ap}
use mathlib.Core.List.{List, ◌++◌}
use Prim.Native.Nat.{ℕ, ◌+◌, ◌*◌, ◌-◌, ◌/◌, ◌%◌, ◌≤◌, min}
use native.Mathlib.Numerals.{add-one}
use native.Mathlib.Nat.{div-mul-le_self}
use lib.IntN.{ℤ, pos}
use lib.ListN.{length, get_or, take, drop}
use Rattle.lists.specs.Lists.{tabulate, joined, written}
use Rattle.lists.proofs.Parts.{written_none, more_written}
use Rattle.lists.proofs.ByIndex.{tabulate_part, length-joined}
use Rattle.sqv4_format.specs.Layout.{encoder_version, fragment_size, whole_frame, size_in, count}
use Rattle.sqv4_format.specs.Encode.{encoded_fragment, channel, fragment_for, header_written}
use Rattle.sqv4_format.proofs.Encoder.{sized}
use Rattle.sqv4_format.specs.declared.Header.{Header}
use Rattle.sqv4_format.specs.declared.Settings.{Settings}

-- what the loop reads of the header that is written
module _ (k : Settings) (pcm : List ℤ) (channels rate : ℕ) (h : Header) (written : h ≡ header_written k pcm channels rate) where
  pub written_size : size_in h ≡ fragment_size encoder_version k.variant
  unfolding header_written
  written_size = ap (λ (x : Header). size_in x) written

  pub written_frame : whole_frame h ≡ 63
  unfolding header_written
  written_frame = ap (λ (x : Header). whole_frame x) written

  pub written_samples : h.samples * channels ≤ length pcm
  unfolding header_written
  written_samples = rw written (div-mul-le_self (length pcm) channels)

  pub written_count : (f : ℕ) → count h f ≡ min 63 (length pcm / channels - f * 63)
  unfolding count header_written
  written_count f = ap (λ (x : Header). count x f) written

-- ---- the loop

module _ (k : Settings) (pcm : List ℤ) (c : ℕ) (o : List ℕ) where
  abbrev size : ℕ
  size = fragment_size encoder_version k.variant

  -- after p fragments, behind the first 16 bytes of the output as it was
  pub record Writing (p : ℕ) (out : List ℕ) : Type 0 where
    pub out_is : out ≡ written o 16 (joined (fragment_for k pcm c) p)

  pub writing_none : Writing 0 o
  unfolding joined
  writing_none = record { out_is = sym (written_none o 16) }

  -- one fragment more: its samples are gathered, encoded, and come back in the part of the output that was lent
  pub writing_more : (p at len : ℕ) {out : List ℕ} {s : List ℤ} {bytes : List ℕ} → at ≡ 16 + p * size → len ≡ size → Writing p out → 16 ≤ length o
      → s ≡ tabulate (λ w. get_or pcm ((p / c * 63 + w) * c + p % c) (pos 0)) (min 63 (length pcm / c - p / c * 63)) → bytes ≡ encoded_fragment k s
      → Writing (p + 1) (take at out ++ (bytes ++ drop (at + len - at) (drop at out)))
  unfolding fragment_for channel joined
  writing_more p at len ea el w l es eb =
      let same = es ∙ sym (tabulate_part (λ t. get_or pcm (t * c + p % c) (pos 0)) (pos 0) (length pcm / c) (p / c * 63) 63) in
      let before = length-joined (fragment_for k pcm c) size (sized k pcm c 0) p in
      record {
        out_is = rw add-one (more_written o 16 l (joined (fragment_for k pcm c) p) (fragment_for k pcm c p) (ea ∙ ap (λ n. 16 + n) (sym before)) (el ∙ sym (sized k pcm c 0 p)) w.out_is (eb ∙ ap (encoded_fragment k) same));
      }
