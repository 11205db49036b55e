-- The predictors of a run of codes, as depths, before the output gain. Assumes nothing.
use Rattle.std.specs.Prelude.{◌≡◌, ℕ, suc, ◌<◌, cond, pos, ◌-ℤ◌, List, [], ℤ, length, get_or, take}
use Rattle.lists.specs.Lists.{tabulate}
use Rattle.signed.specs.Signed.{depth}
use Rattle.digits.specs.Digits.{unpacked}
use Rattle.sqv4_format.specs.Layout.{anew, bits, payload, volume_byte, fragment_at_place}
use Rattle.sqv4_format.specs.Gain.{output_gain}
use Rattle.sqv4_format.specs.Decode.{start_state, after, decoded_fragment}
use Rattle.sqv4_format.specs.declared.Variant.{Variant}
use Rattle.sqv4_format.specs.declared.State.{State}
use Rattle.sqv4_format.specs.declared.Header.{Header}
use Rattle.decoder_tables.specs.Lookup.{state_of}
use Rattle.decoder_tables.specs.declared.Kept.{Kept}

-- how far the predictor after code i lies below 32767
abbrev pub depth_at : ℕ → Variant → List ℕ → State → ℕ → ℕ
depth_at version variant codes s i = depth (after version variant codes s (suc i)).predictor

-- i codes are run from a state: their depths are at the front, and what the tables hold is the state after them
pub record Ran (version : ℕ) (variant : Variant) (codes : List ℕ) (s : State) (i : ℕ) (depths : List ℕ) (lane : Kept) : Type 0 where
  pub long : length depths ≡ 64
  pub variant_is : lane.variant ≡ variant
  pub done : take i depths ≡ tabulate (depth_at version variant codes s) i
  pub state : state_of variant lane.table_state ≡ after version variant codes s i

-- the same of each of n lanes
pub record AllRan (version : ℕ) (variant : Variant) (codes : List (List ℕ)) (starts : List Kept) (n i : ℕ) (depths : List (List ℕ)) (lanes : List Kept) : Type 0 where
  pub depths_long : length depths ≡ n
  pub lanes_long : length lanes ≡ n
  pub each : (k : ℕ) → k < n → (d : Kept) → Ran version variant (get_or codes k []) (state_of variant (get_or starts k d).table_state) i (get_or depths k []) (get_or lanes k d)

-- a fragment is unpacked, and its lane stands at the state before its first code
pub record Started (version : ℕ) (variant : Variant) (fragment : List ℕ) (s : State) (codes : List ℕ) (lane : Kept) : Type 0 where
  pub codes_are : codes ≡ unpacked (bits variant) 64 (payload version fragment)
  pub variant_is : lane.variant ≡ variant
  pub state : state_of variant lane.table_state ≡ start_state version s fragment

-- all depths of a fragment are samples at its volume, and r is the state after it, where its last code leads to the state `end`
pub record Finished (version : ℕ) (fragment : List ℕ) (s end : State) (depths : List ℕ) (samples : List ℤ) (r : State) : Type 0 where
  pub samples_are : samples ≡ tabulate (λ i. output_gain version (volume_byte fragment) (pos 32767 -ℤ pos (get_or depths i 0))) 64
  pub state : r ≡ cond (anew version) s end

-- a fragment is played: n of its samples are at the front, and r is the state after them
pub record Played (h : Header) (file : List ℕ) (p n : ℕ) (s r : State) (samples : List ℤ) : Type 0 where
  pub state : r ≡ (decoded_fragment h.version h.variant s (fragment_at_place h file p) n).state
  pub samples_are : take n samples ≡ (decoded_fragment h.version h.variant s (fragment_at_place h file p) n).samples
