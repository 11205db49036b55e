-- Channel separation of the encoder, and that inspection accepts what the encoder writes. Assumes nothing.
use mathlib.Core.Path.{◌≡◌, refl, sym, ◌∙◌, ap}
use mathlib.Core.Bool.{true, false}
use mathlib.Core.List.{List, ◌++◌, map}
use Prim.Native.Nat.{ℕ, ◌+◌, ◌*◌, ◌/◌, ◌%◌, ◌^◌, ◌≤◌, ◌<◌}
use native.Mathlib.Omega.{arith}
use native.Mathlib.Nat.{div-one, mod-one, mod-eq_of_lt, mul-le-mul_left}
use borrow.Author.Tests.{le-ltb, eq-eqb, ne_eqb, eqb-true, ltb-false}
use lib.Arith.{digits_lt, digits_div, digits_mod}
use lib.Dec.{eqb}
use lib.IntN.{ℤ, pos}
use lib.ListN.{length, get_or, take, length-append, length-take, length-drop, length-map}
use lib.Seq.{drop-append-add}
use Rattle.outcome.specs.Outcome.{result}
use Rattle.outcome.proofs.Laws.{clear, pass, cleared, passed, then_result, order_all}
use Rattle.lists.specs.Lists.{joined}
use Rattle.lists.proofs.ByIndex.{length_tabulate, tabulate_ext, tabulate-get_or, length-joined, joined-part}
use Rattle.digits.specs.Digits.{number, digits, packed}
use Rattle.digits.proofs.Laws.{length_digits, number_digits, rest_packed, rest_less}
use Rattle.sqv4_format.specs.Layout.{known_version, encoder_version, version_for, channels_fit, bits, payload_bytes, fragment_size, variant_byte, variant_of, header_bytes, header_of, frames, count, stream_length, fragment_at_place, fragment_at}
use Rattle.sqv4_format.specs.Gain.{pregained, own_volume}
use Rattle.sqv4_format.specs.Encode.{Trial, best_or_silent, fragment_bytes, encoded_fragment, channel, frame_of, header_written, fragment_for, encoded, too_many, encode_call, OwnFragments}
use Rattle.sqv4_format.specs.Inspect.{field_checks, same_letters, header_checks, index_too_high, unused_zero, fragment_checks, inspected}
use Rattle.sqv4_format.proofs.Sizes.{length-header, channels_fit_lem}
use Rattle.sqv4_format.proofs.Trials.{best_or_silent_wrote}
use Rattle.sqv4_format.specs.declared.Variant.{Variant}
use Rattle.sqv4_format.specs.declared.Variant.TheVariants.{H, L, LPlus}
use Rattle.sqv4_format.specs.declared.Header.{Header}
use Rattle.sqv4_format.specs.declared.Settings.{Settings}

-- ---- sizes

length_fragment : (k : Settings) (xs : List ℤ) → length (encoded_fragment k xs) ≡ fragment_size encoder_version k.variant
unfolding encoded_fragment fragment_bytes
length_fragment k xs = simp length_digits (omega arith)

pub length-channel : (pcm : List ℤ) (channels c : ℕ) → length (channel pcm channels c) ≡ length pcm / channels
unfolding channel
length-channel pcm channels c = length_tabulate (λ t. get_or pcm (t * channels + c) (pos 0)) (length pcm / channels)

-- ---- one encoding

module _ (k : Settings) (pcm : List ℤ) (channels rate : ℕ) where
  pub sized : (p : ℕ) → length (fragment_for k pcm channels p) ≡ fragment_size encoder_version k.variant
  unfolding fragment_for
  sized p = length_fragment k _

  -- the fragment at place p
  pub placed : (p : ℕ) → p < frames (header_written k pcm channels rate) * channels
      → fragment_at_place (header_written k pcm channels rate) (encoded k pcm channels rate) p ≡ fragment_for k pcm channels p
  unfolding fragment_at_place encoded header_bytes digits header_written
  placed p h =
      let f = fragment_for k pcm channels in
      let size : ℕ = fragment_size encoder_version k.variant in
      ap (take size) (drop-append-add (header_bytes (header_written k pcm channels rate)) (joined f (frames (header_written k pcm channels rate) * channels)) (p * size))
      ∙ joined-part f size sized (frames (header_written k pcm channels rate) * channels) p h

  -- channel c's fragment of frame f is the one that is encoded from channel c's own samples of that frame
  pub encoded_fragment_lem : (c f : ℕ) → c < channels → f < frames (header_written k pcm channels rate)
      → fragment_at (header_written k pcm channels rate) (encoded k pcm channels rate) c f ≡ encoded_fragment k (frame_of (channel pcm channels c) f)
  unfolding fragment_for header_written
  encoded_fragment_lem c f hc hf = placed (f * channels + c) (digits_lt hf hc) ∙ rw (digits_mod f hc, digits_div f hc)

  -- an accepted call gives the encoding
  pub given : (room : ℕ) {bytes : List ℕ} → encode_call k pcm channels rate room ≡ result bytes → encoded k pcm channels rate ≡ bytes
  unfolding encode_call
  given room e =
      let last = (cleared _ _ _ _ (cleared _ _ _ _ (passed _ _ _ _ (cleared _ _ _ _ (passed _ _ _ _ e).1).1).1).1).1 in
      cc

  -- a call that the table does not refuse gives the encoding
  pub encode_accepts : (room : ℕ) → 0 < channels → channels ≤ 2 → 0 < rate → length pcm % channels ≡ 0 → length pcm / channels ≤ 4294967295
      → stream_length (header_written k pcm channels rate) ≤ room → encode_call k pcm channels rate room ≡ result (encoded k pcm channels rate)
  unfolding encode_call too_many
  encode_accepts room one two some whole few l =
      sym
      (pass _ _ _ _ _ (channels_fit_lem (version_for channels) channels one two)
      (clear _ _ _ _ _ (ne_eqb _ _ (λ (z : rate ≡ 0). omega arith))
      (pass _ _ _ _ _ (eq-eqb _ _ whole)
      (clear _ _ _ _ _ (le-ltb _ _ few)
      (clear _ _ _ _ _ (le-ltb _ _ l) refl)))))

-- ---- a channel alone

-- the samples of a mono stream are those of its channel
channel_alone : (xs : List ℤ) → channel xs 1 0 ≡ xs
unfolding channel
channel_alone xs =
    rw div-one
    (tabulate_ext (λ t. get_or xs (t * 1 + 0) (pos 0)) (λ t. get_or xs t (pos 0)) (length xs) (λ t h. ap (λ n. get_or xs n (pos 0)) (omega arith))
    ∙ tabulate-get_or xs (pos 0))

frames_alone : (k : Settings) (pcm : List ℤ) (channels rate c : ℕ)
    → frames (header_written k pcm channels rate) ≡ frames (header_written k (channel pcm channels c) 1 rate)
unfolding frames header_written
frames_alone k pcm channels rate c = rw (length-channel, div-one)

pub encoding_own : (k : Settings) (pcm : List ℤ) (channels rate c room : ℕ) (bytes : List ℕ) → c < channels
    → encode_call k pcm channels rate room ≡ result bytes → OwnFragments k pcm channels rate c bytes
encoding_own k pcm channels rate c room bytes hc e =
    record {
      same_frames = frames_alone k pcm channels rate c;
      fragments = λ f hf. rw (← given k pcm channels rate room e) (encoded_fragment_lem k pcm channels rate c f hc hf);
    }

-- both calls, for the channel among others and for the channel alone in mono, write the same fragments
pub encoding_alone : (k : Settings) (pcm : List ℤ) (channels rate c room room' : ℕ) (bytes alone : List ℕ) → c < channels
    → encode_call k pcm channels rate room ≡ result bytes → encode_call k (channel pcm channels c) 1 rate room' ≡ result alone
    → (f : ℕ) → f < frames (header_written k pcm channels rate)
    → fragment_at (header_written k pcm channels rate) bytes c f ≡ fragment_at (header_written k (channel pcm channels c) 1 rate) alone 0 f
encoding_alone k pcm channels rate c room room' bytes alone hc e e' f hf =
    let xs = channel pcm channels c in
    let many = encoding_own k pcm channels rate c room bytes hc e in
    let one = encoding_own k xs 1 rate 0 room' alone (omega arith) e' in
    many.fragments f hf ∙ ap (λ l. encoded_fragment k (frame_of l f)) (sym (channel_alone xs)) ∙ sym (one.fragments f (rw many.same_frames at hf))

-- where the encoding of all channels is accepted, so is that of one of them alone, given the room
pub alone_accepted : (k : Settings) (pcm : List ℤ) (channels rate c room room' : ℕ) (bytes : List ℕ)
    → encode_call k pcm channels rate room ≡ result bytes → stream_length (header_written k (channel pcm channels c) 1 rate) ≤ room'
    → encode_call k (channel pcm channels c) 1 rate room' ≡ result (encoded k (channel pcm channels c) 1 rate)
unfolding encode_call channels_fit
alone_accepted k pcm channels rate c room room' bytes e l =
    let p2 = cleared _ _ _ _ (passed _ _ _ _ e).1 in
    let p4 = cleared _ _ _ _ (passed _ _ _ _ p2.1).1 in
    sym
    (pass _ _ _ _ _ refl
    (clear _ _ _ _ _ p2.0
    (pass _ _ _ _ _ (rw mod-one refl)
    (clear _ _ _ _ _ (rw (div-one, length-channel) p4.0)
    (clear _ _ _ _ _ (le-ltb _ _ l) refl)))))

-- whatever the other channels' samples are: two accepted calls with the same samples in channel c write the same fragments of c
pub encoder_blind : (k : Settings) (pcm pcm' : List ℤ) (channels rate c room room' : ℕ) (bytes bytes' : List ℕ) → c < channels
    → encode_call k pcm channels rate room ≡ result bytes → encode_call k pcm' channels rate room' ≡ result bytes'
    → channel pcm channels c ≡ channel pcm' channels c
    → (f : ℕ) → f < frames (header_written k pcm channels rate)
    → fragment_at (header_written k pcm channels rate) bytes c f ≡ fragment_at (header_written k pcm' channels rate) bytes' c f
unfolding frames header_written
encoder_blind k pcm pcm' channels rate c room room' bytes bytes' hc e e' same f hf =
    let long : length pcm / channels ≡ length pcm' / channels = sym (length-channel pcm channels c) ∙ ap length same ∙ length-channel pcm' channels c in
    (encoding_own k pcm channels rate c room bytes hc e).fragments f hf
    ∙ ap (λ l. encoded_fragment k (frame_of l f)) same
    ∙ sym ((encoding_own k pcm' channels rate c room' bytes' hc e').fragments f (rw long at hf))

-- ---- what the encoder writes, inspection accepts

header-passes : (d : List ℕ) (h : Header) (v : Variant) → header_of d v ≡ h → 16 ≤ length d → same_letters d ≡ true → known_version (get_or d 4 0) ≡ true
    → variant_of (get_or d 5 0) ≡ result v → channels_fit h.version h.channels ≡ true → get_or d 7 0 ≡ 0 → eqb h.rate 0 ≡ false → length d ≡ stream_length h
    → header_checks d ≡ result h
unfolding header_checks field_checks
header-passes d h v e l letters version variant channels reserved rate size =
    sym
    (clear _ _ _ _ _ (le-ltb _ _ l)
    (pass _ _ _ _ _ letters
    (pass _ _ _ _ _ version
    (then_result _ v _ _ (sym variant)
    (rw e
    (pass _ _ _ _ _ channels
    (pass _ _ _ _ _ (eq-eqb _ _ reserved)
    (clear _ _ _ _ _ rate
    (pass _ _ _ _ _ (eq-eqb _ _ size) refl)))))))))

variant_back : (v : Variant) → variant_of (variant_byte v) ≡ result v
unfolding variant_of
variant_back H = refl
variant_back L = refl
variant_back LPlus = refl

payload_room : (v : Variant) (n : ℕ) → n ≤ 63 → bits v * n ≤ 8 * payload_bytes v
payload_room H n h = omega arith
payload_room L n h = omega arith
payload_room LPlus n h = omega arith

-- the header is read as it was written
header_back : (h : Header) (rest : List ℕ) → h.rate < 2 ^ 32 → h.samples < 2 ^ 32 → header_of (header_bytes h ++ rest) h.variant ≡ h
unfolding header_of header_bytes digits
header_back h rest hr hs = fields _ _ (back h.rate hr) (back h.samples hs)
  where
    fields : (r n : ℕ) → r ≡ h.rate → n ≡ h.samples
        → record { version = h.version; variant = h.variant; channels = h.channels; rate = r; samples = n } ≡ h
    fields r n b c = rw (b, c)

    back : (x : ℕ) → x < 2 ^ 32 → number 8 (digits 8 4 x) ≡ x
    back x l = number_digits 8 4 x ∙ mod-eq_of_lt l

-- a fragment of at most 63 samples passes for its own frame
fragment_passes : (k : Settings) (xs : List ℤ) (h : Header) (f : ℕ) → h.version ≡ encoder_version → h.variant ≡ k.variant → length xs ≡ count h f → length xs ≤ 63
    → fragment_checks h f (encoded_fragment k xs) ≡ result h
unfolding fragment_checks index_too_high unused_zero encoded_fragment fragment_bytes
fragment_passes k xs h f ev eV el short =
    let ys = map (pregained k.gain) xs in
    let t : Trial = best_or_silent k (own_volume ys) ys in
    let w = best_or_silent_wrote k (own_volume ys) ys in
    let long : length ys ≡ length xs = length-map xs (pregained k.gain) in
    let few : length t.codes ≤ length xs = omega (arith, w.few, long) in
    let zero : number 8 (packed (bits k.variant) (payload_bytes k.variant) t.codes) / 2 ^ (bits k.variant * length t.codes) ≡ 0 =
    eqb-true _ _ (rest_packed (bits k.variant) (payload_bytes k.variant) t.codes w.small (payload_room k.variant (length t.codes) (omega arith))) in
    rw (← el, ev, eV)
    (sym
    (clear _ _ _ _ _ (le-ltb _ _ w.start)
    (pass _ _ _ _ _ (eq-eqb _ _ (rest_less _ (mul-le-mul_left (bits k.variant) few) zero)) refl)))

module _ (k : Settings) (pcm : List ℤ) (channels rate : ℕ) where
  pub length_encoded : length (encoded k pcm channels rate) ≡ stream_length (header_written k pcm channels rate)
  unfolding encoded header_written
  length_encoded =
      let h : Header = header_written k pcm channels rate in
      length-append (header_bytes h) (joined (fragment_for k pcm channels) (frames h * channels))
      ∙ (omega (arith, length-header h, length-joined (fragment_for k pcm channels) (fragment_size encoder_version k.variant) (sized k pcm channels rate) (frames h * channels)))

  pub frame_count : (c f : ℕ) → length (frame_of (channel pcm channels c) f) ≡ count (header_written k pcm channels rate) f
  unfolding count header_written
  frame_count c f = simp (length-take, length-drop, length-channel)

  place_passes : (p : ℕ) → p < frames (header_written k pcm channels rate) * channels
      → fragment_checks (header_written k pcm channels rate) (p / channels)
      (fragment_at_place (header_written k pcm channels rate) (encoded k pcm channels rate) p)
      ≡ result (header_written k pcm channels rate)
  unfolding fragment_for header_written count
  place_passes p l =
      let xs = frame_of (channel pcm channels (p % channels)) (p / channels) in
      let long = frame_count (p % channels) (p / channels) in
      rw (placed k pcm channels rate p l)
      (fragment_passes k xs (header_written k pcm channels rate) (p / channels) refl refl long (omega (arith, long)))

  header_accepted : rate < 2 ^ 32 → length pcm / channels < 2 ^ 32 → channels_fit (version_for channels) channels ≡ true → eqb rate 0 ≡ false
      → header_checks (encoded k pcm channels rate) ≡ result (header_written k pcm channels rate)
  unfolding encoded header_bytes digits header_written same_letters known_version
  header_accepted hr hs hc hz =
      let h : Header = header_written k pcm channels rate in
      header-passes (encoded k pcm channels rate) h k.variant
      (header_back h (joined (fragment_for k pcm channels) (frames h * channels)) hr hs) (omega (arith, length_encoded)) refl refl
      (variant_back k.variant) hc refl hz length_encoded

  -- what the encoder writes, inspection accepts, with the header that was asked for
  pub encoding-accepted : (room : ℕ) (bytes : List ℕ) → rate < 2 ^ 32 → encode_call k pcm channels rate room ≡ result bytes
      → inspected bytes ≡ result (header_written k pcm channels rate)
  unfolding encode_call inspected too_many header_written
  encoding-accepted room bytes hr e =
      let p1 = passed _ _ _ _ e in
      let p2 = cleared _ _ _ _ p1.1 in
      let p4 = cleared _ _ _ _ (passed _ _ _ _ p2.1).1 in
      let h : Header = header_written k pcm channels rate in
      rw (← given k pcm channels rate room e)
      (sym
      (then_result _ h _ _
      (sym (header_accepted hr (omega (arith, ltb-false 4294967295 (length pcm / channels) p4.0)) p1.0 p2.0))
      (sym (order_all h _ (frames h * channels) place_passes))))
