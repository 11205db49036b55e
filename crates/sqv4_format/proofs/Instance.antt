-- A stream and a list of calls that meet the premises of separation, by computation, and on which a player that keeps one state
-- for both channels goes wrong. Assumes nothing.
use mathlib.Core.Path.{◌≡◌, refl}
use mathlib.Core.Bool.{true, not}
use mathlib.Core.List.{List, [], ◌∷◌, ◌++◌}
use Prim.Native.Nat.{ℕ, zero, suc}
use native.Mathlib.Omega.{arith}
use lib.Dec.{T}
use lib.IntN.{ℤ, pos}
use lib.ListN.{replicate}
use Rattle.outcome.specs.Outcome.{result, Refuses}
use Rattle.lists.specs.Lists.{joined}
use Rattle.lists.specs.Tests.{same_samples}
use Rattle.digits.specs.Digits.{packed}
use Rattle.sqv4_format.specs.Layout.{anew, header_bytes, fragment_at}
use Rattle.sqv4_format.specs.Decode.{zero_state, decoded_fragment, frame_decoded}
use Rattle.sqv4_format.specs.Inspect.{inspected}
use Rattle.sqv4_format.specs.Calls.{Call, takes, other, channel_of, done, Due, Listed, InStream}
use Rattle.sqv4_format.specs.Compute.{computing}
use Rattle.sqv4_format.specs.declared.Variant.TheVariants.{H, L}
use Rattle.sqv4_format.specs.declared.Header.{Header}

-- version 2, two channels, a whole frame and one of 1 sample: the fragments in file order
pub header : Header
header = record { version = 2; variant = H; channels = 2; rate = 8000; samples = 65 }

pub fragment : ℕ → List ℕ
fragment zero = 200 ∷ packed 4 32 (replicate 64 7)
fragment (suc zero) = 100 ∷ packed 4 32 (replicate 64 12)
fragment (suc (suc p)) = 50 ∷ packed 4 32 (3 ∷ [])

pub stream : List ℕ
stream = header_bytes header ++ joined fragment 4

-- five calls, right before left, two of them refused (7 and 14), ended before the left channel's second fragment
blank : ℕ → List ℤ
blank n = replicate n (pos 1)

pub calls : List Call
calls =
    other 0 9 H [] (blank 2) ∷ takes 1 0 (blank 64) ∷ other 1 2 H [] (blank 3) ∷ takes 0 0 (blank 64) ∷ takes 1 1 (blank 1) ∷ []

pub accepted_here : inspected stream ≡ result header
unfolding stream header fragment computing
accepted_here = refl

pub listed_here : Listed header stream (λ c. zero_state) (λ c. 0) calls
unfolding Listed Refuses Due calls channel_of done header blank stream fragment computing
listed_here =
    (omega arith, tt, (omega arith, omega arith, refl, refl, (omega arith, tt, (omega arith, omega arith, refl, refl, (omega arith, omega arith, refl, refl, tt)))))

-- version 3, two channels, L, a whole frame and one of 1 sample; five calls: the last frame first, one refused (14), one that takes a
-- fragment again
pub header3 : Header
header3 = record { version = 3; variant = L; channels = 2; rate = 8000; samples = 64 }

pub fragment3 : ℕ → List ℕ
fragment3 zero = 200 ∷ 40 ∷ packed 3 24 (replicate 63 3)
fragment3 (suc zero) = 100 ∷ 88 ∷ packed 3 24 (replicate 63 6)
fragment3 (suc (suc p)) = 50 ∷ 7 ∷ packed 3 24 (2 ∷ [])

pub stream3 : List ℕ
stream3 = header_bytes header3 ++ joined fragment3 4

pub calls3 : List Call
calls3 = takes 1 1 (blank 1) ∷ takes 0 0 (blank 63) ∷ other 0 1 L [] (blank 2) ∷ takes 1 0 (blank 63) ∷ takes 1 1 (blank 1) ∷ []

pub accepted3_here : inspected stream3 ≡ result header3
unfolding stream3 header3 fragment3 computing
accepted3_here = refl

pub anew3_here : anew header3.version ≡ true
unfolding header3
anew3_here = refl

pub in_stream_here : InStream header3 calls3
unfolding InStream Refuses calls3 header3 blank computing
in_stream_here =
    (omega arith, omega arith, refl, (omega arith, omega arith, refl, (omega arith, tt, (omega arith, omega arith, refl, (omega arith, omega arith, refl, tt)))))

-- the right channel's first fragment, decoded from the state that the left channel's first one left, gives other samples
pub one_state_differs : T (not (same_samples
    (decoded_fragment 2 H (decoded_fragment 2 H zero_state (fragment 0) 64).state (fragment 1) 64).samples
    (frame_decoded header (fragment_at header stream 1) 0).samples))
unfolding header stream fragment computing
one_state_differs = tt
