-- Where the fragments of a stream lie. Assumes nothing.
use Prim.Native.Nat.{ℕ, ◌+◌, ◌-◌, ◌*◌, ◌/◌, ◌^◌, ◌≤◌, ◌<◌}
use native.Mathlib.Omega.{arith}
use native.Mathlib.Nat.{mul-le-mul, mul-le-mul_right, lt_of_mul-lt-mul_left, lt_of_mul-lt-mul_right, div-lt_iff_lt-mul, div-mul-le_self, div-add-mod', mod-lt, add-sub_cancel_left}
use native.Mathlib.Decide.{dec_lt}
use mathlib.Core.Bool.{cond}
use borrow.Author.Tests.{lt-ltb, le-ltb}
use lib.Dec.{ltb}
use mathlib.Core.List.{List}
use lib.ListN.{take, drop}
use mathlib.Core.Path.{◌≡◌}
use Rattle.sqv4_format.specs.Layout.{whole_frame, frames, count, size_in, stream_length, fragment_at_place}
use Rattle.sqv4_format.proofs.Sizes.{frames_few, frame_in}
use Rattle.sqv4_format.specs.declared.Header.{Header}

-- the part of a stream from a fragment's first byte to its end, as a part of a slice is given
pub part_place : (h : Header) (d : List ℕ) (p : ℕ) → take (16 + p * size_in h + size_in h - (16 + p * size_in h)) (drop (16 + p * size_in h) d) ≡ fragment_at_place h d p
unfolding fragment_at_place
part_place h d p = rw (add-sub_cancel_left (16 + p * size_in h) (size_in h))

-- there are few
pub places_few : (h : Header) → h.samples ≤ 4294967295 → h.channels ≤ 255 → frames h * h.channels < 2 ^ 40
places_few h s c = let f : frames h ≤ 4294967295 = omega (arith, frames_few h) in omega (arith, mul-le-mul f c)

-- a place of the file order
module _ (h : Header) (p : ℕ) (l : p < frames h * h.channels) where
  abbrev c : ℕ
  c = h.channels

  abbrev f : ℕ
  f = p / h.channels

  pub some : 0 < h.channels
  some = lt_of_mul-lt-mul_left (frames h) (omega arith)

  f_in : f < frames h
  f_in = (div-lt_iff_lt-mul some).1 l

  -- its samples lie in its channel
  pub frame_start : p / h.channels * whole_frame h ≤ h.samples
  frame_start = omega (arith, frame_in h f f_in)

  pub frame_end : p / h.channels * whole_frame h + count h (p / h.channels) ≤ h.samples
  unfolding count
  frame_end = omega (arith, frame_start)

  -- its bytes lie in the stream
  pub place_end : 16 + p * size_in h + size_in h ≤ stream_length h
  place_end = omega (arith, mul-le-mul_right (size_in h) l)

  -- it is in a whole frame where another frame follows it, and else in the last one
  low : f * c ≤ p
  low = div-mul-le_self p c

  high : p < f * c + c
  high = omega (arith, div-add-mod' p c, mod-lt p some)

  pub count_at_place : cond (ltb (p + h.channels) (frames h * h.channels)) (whole_frame h) (count h (frames h - 1)) ≡ count h (p / h.channels)
  unfolding count
  count_at_place = go (dec_lt (p + c) (frames h * c))
    where
      go : Dec (p + c < frames h * c) → cond (ltb (p + c) (frames h * c)) (whole_frame h) (count h (frames h - 1)) ≡ count h f
      go (yes more) =
          let next : f + 1 < frames h = lt_of_mul-lt-mul_right c (omega (arith, low)) in
          rw (lt-ltb _ _ more) (omega (arith, frame_in h (f + 1) next))
      go (no none) =
          let above : frames h < f + 2 = lt_of_mul-lt-mul_right c (omega (arith, high)) in
          let here : f ≡ frames h - 1 = omega (arith, f_in) in
          rw (le-ltb (p + c) (frames h * c) (omega arith), here)
