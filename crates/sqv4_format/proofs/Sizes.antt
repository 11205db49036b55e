-- Sizes and places in a stream. Assumes nothing.
use mathlib.Core.Path.{◌≡◌, refl}
use mathlib.Core.Bool.{Bool, true, false, cond}
use mathlib.Core.List.{List}
use Prim.Native.Nat.{ℕ, ◌+◌, ◌-◌, ◌*◌, ◌/◌, ◌≤◌, ◌<◌}
use native.Mathlib.Omega.{arith}
use native.Mathlib.Nat.{mul-le-mul_left, mul-le-mul_right, le-div_iff_mul-le, div-lt_iff_lt-mul, div-mul-le_self}
use lib.Dec.{eqb}
use borrow.Author.Tests.{eqb-true}
use lib.ListN.{length, length-take, length-drop}
use Rattle.std.specs.Int.{div_ceil}
use Rattle.outcome.proofs.Flags.{either_elim, one_or_two_lem}
use Rattle.sqv4_format.specs.Layout.{anew, channels_fit, bits, payload_bytes, header_bytes, rounded_up, whole_frame, frames, count, size_in, stream_length, fragment_at_place}
use Rattle.sqv4_format.specs.declared.Variant.{Variant}
use Rattle.sqv4_format.specs.declared.Variant.TheVariants.{H, L, LPlus}
use Rattle.sqv4_format.specs.declared.Header.{Header}
use Rattle.digits.specs.Digits.{digits}

pub bits_few : (v : Variant) → bits v ≤ 4
bits_few H = omega arith
bits_few L = omega arith
bits_few LPlus = omega arith

pub payload_few : (v : Variant) → (24 ≤ payload_bytes v) × (payload_bytes v ≤ 32)
payload_few H = (omega arith, omega arith)
payload_few L = (omega arith, omega arith)
payload_few LPlus = (omega arith, omega arith)

-- 63 codes rounded up to whole bytes
pub payload_rounded : (v : Variant) → div_ceil (63 * bits v) 8 ≡ payload_bytes v
payload_rounded H = refl
payload_rounded L = refl
payload_rounded LPlus = refl

pub length-header : (h : Header) → length (header_bytes h) ≡ 16
unfolding header_bytes digits
length-header h = refl

pub frame_pos : (h : Header) → 0 < whole_frame h
frame_pos h = go (anew h.version)
  where
    go : (b : Bool) → 0 < cond b 63 64
    go true = omega arith
    go false = omega arith

pub count_whole : (h : Header) (f : ℕ) → count h f ≤ whole_frame h
unfolding count
count_whole h f = omega arith

-- the frames hold every sample
pub frame_below : (t s w : ℕ) → 0 < w → t < s → t / w < rounded_up s w
frame_below t s w hw h = (le-div_iff_mul-le hw).1 (omega (arith, div-mul-le_self t w))

pub place_below : (frames channels c f : ℕ) → c < channels → f < frames → f * channels + c < frames * channels
place_below frames channels c f hc hf = omega (arith, mul-le-mul_right channels hf)

-- a fragment in a stream of the right length is whole
pub place_length : (h : Header) (d : List ℕ) (p : ℕ) → length d ≡ stream_length h → p < frames h * h.channels → length (fragment_at_place h d p) ≡ size_in h
unfolding fragment_at_place
place_length h d p e l =
    let k : p * size_in h + size_in h ≤ frames h * h.channels * size_in h = place_end (frames h * h.channels) p (size_in h) l in
    simp (length-take, length-drop, e) (omega arith)
  where
    place_end : (n p size : ℕ) → p < n → p * size + size ≤ n * size
    place_end n p size h = omega (arith, mul-le-mul_right size h)

-- a part that is taken or not
pub part_le : (b : Bool) (x : ℕ) → cond b x 0 ≤ x
part_le true x = omega arith
part_le false x = omega arith

-- one channel or two
pub channels_few : (version channels : ℕ) → channels_fit version channels ≡ true → (0 < channels) × (channels ≤ 2)
unfolding channels_fit
channels_few version channels =
    either_elim (eqb channels 1) (eqb channels 2)
    (λ e. let q = eqb-true channels 1 e in (omega arith, omega arith)) (λ e. let q = eqb-true channels 2 e in (omega arith, omega arith))

pub channels_fit_lem : (version channels : ℕ) → 0 < channels → channels ≤ 2 → channels_fit version channels ≡ true
unfolding channels_fit
channels_fit_lem version = one_or_two_lem

-- ---- frames

-- a quotient rounded up
module _ (s w : ℕ) (pos : 0 < w) where
  up_few : rounded_up s w ≤ s
  up_few = let l : rounded_up s w < s + 1 = (div-lt_iff_lt-mul pos).1 (omega (arith, mul-le-mul_left s pos)) in omega arith

  up_in : (f : ℕ) → f < rounded_up s w → f * w < s
  up_in f l = let m : (f + 1) * w ≤ s + (w - 1) = (le-div_iff_mul-le pos).0 (omega arith) in omega arith

module _ (h : Header) where
  -- no frame is empty, so that there are no more frames than samples
  pub frames_few : frames h ≤ h.samples
  unfolding frames
  frames_few = up_few h.samples (whole_frame h) (frame_pos h)

  -- a frame begins at a sample
  pub frame_in : (f : ℕ) → f < frames h → f * whole_frame h < h.samples
  unfolding frames
  frame_in = up_in h.samples (whole_frame h) (frame_pos h)
