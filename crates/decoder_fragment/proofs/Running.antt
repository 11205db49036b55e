-- A run of codes by the tables, and the samples of a fragment from its depths. Assumes nothing.
use Prim.Native.Nat.{ℕ, suc, ◌+◌, ◌≤◌, ◌<◌}
use native.Mathlib.Numerals.{add-one}
use native.Mathlib.Decide.{ℕ_discrete}
use native.Mathlib.Omega.{arith}
use mathlib.Core.Path.{◌≡◌, refl, sym, ap, ◌∙◌}
use mathlib.Core.List.{List, []}
use lib.IntN.{ℤ, pos, ◌-ℤ◌}
use lib.ListN.{length, get_or, set, take, length-set}
use lib.Seq.{get_or-set_same, get_or-set_other, get_or-take}
use Rattle.std.proofs.lemmas.List.{get_or_read}
use Rattle.lists.specs.Lists.{tabulate}
use Rattle.lists.proofs.ByIndex.{fill_next, get_d_tabulate, take_tabulate, tabulate_ext}
use Rattle.signed.specs.Signed.{depth}
use Rattle.signed.proofs.Laws.{depth_back}
use Rattle.sqv4_format.specs.Layout.{anew, frame_samples, volume_byte}
use Rattle.sqv4_format.specs.Gain.{output_gain}
use Rattle.sqv4_format.proofs.Range.{stepped_range}
use Rattle.sqv4_format.specs.Step.{stepped}
use Rattle.sqv4_format.specs.Decode.{after, decoded_fragment}
use Rattle.sqv4_format.specs.declared.Variant.{Variant}
use Rattle.sqv4_format.specs.declared.State.{State}
use Rattle.decoder_tables.specs.Lookup.{state_of}
use Rattle.decoder_tables.specs.declared.Kept.{Kept}
use Rattle.fragment_plain.specs.Run.{sample_at}
use Rattle.fragment_plain.proofs.Fragments.{frame_few, run_samples, run_state}
use Rattle.decoder_fragment.specs.Play.{depth_at, Ran, AllRan, Started, Finished}

-- in turn i the first j lanes have run it, and the others not yet
pub record Turning (version : ℕ) (variant : Variant) (codes : List (List ℕ)) (starts : List Kept) (n i j : ℕ) (depths : List (List ℕ)) (lanes : List Kept) : Type 0 where
  pub depths_long : length depths ≡ n
  pub lanes_long : length lanes ≡ n
  pub before : (k : ℕ) → k < j → (d : Kept) → Ran version variant (get_or codes k []) (state_of variant (get_or starts k d).table_state) (i + 1) (get_or depths k []) (get_or lanes k d)
  pub behind : (k : ℕ) → j ≤ k → k < n → (d : Kept) → Ran version variant (get_or codes k []) (state_of variant (get_or starts k d).table_state) i (get_or depths k []) (get_or lanes k d)

module _ {version : ℕ} {variant : Variant} where
  -- ---- one lane

  module _ {codes : List ℕ} {s : State} where
    pub ran_none : {depths : List ℕ} {lane : Kept} → length depths ≡ 64 → lane.variant ≡ variant → s ≡ state_of variant lane.table_state
        → Ran version variant codes s 0 depths lane
    unfolding after tabulate
    ran_none l v e = record { long = l; variant_is = v; done = refl; state = sym e }

    pub ran_more : {i x : ℕ} {depths : List ℕ} {lane next : Kept} → Ran version variant codes s i depths lane → i < 64 → next.variant ≡ variant
        → state_of variant next.table_state ≡ stepped version variant (state_of variant lane.table_state) (get_or codes i 0)
        → x ≡ depth (state_of variant next.table_state).predictor
        → Ran version variant codes s (i + 1) (set depths i x) next
    unfolding after
    ran_more {i} {x} {depths} {lane} {next} r l v e ex =
        let here : state_of variant next.table_state ≡ after version variant codes s (suc i) = e ∙ rw r.state in
        record {
          long = simp length-set r.long;
          variant_is = v;
          done = fill_next (depth_at version variant codes s) depths i x (omega (arith, r.long)) r.done (ex ∙ rw here);
          state = rw add-one here;
        }

  -- ---- the lanes side by side

  module _ {codes : List (List ℕ)} {starts : List Kept} {n i : ℕ} where
    pub turning_none : {depths : List (List ℕ)} {lanes : List Kept} → AllRan version variant codes starts n i depths lanes → Turning version variant codes starts n i 0 depths lanes
    turning_none r = record { depths_long = r.depths_long; lanes_long = r.lanes_long; before = λ k l d. absurd (omega arith); behind = λ k m l d. r.each k l d }

    pub turning_all : {depths : List (List ℕ)} {lanes : List Kept} {j : ℕ} → Turning version variant codes starts n i j depths lanes → n ≤ j → AllRan version variant codes starts n (i + 1) depths lanes
    turning_all t h = record { depths_long = t.depths_long; lanes_long = t.lanes_long; each = λ k l d. t.before k (omega arith) d }

    pub turning_more : {depths : List (List ℕ)} {lanes : List Kept} {j x : ℕ} (lane next : Kept) → Turning version variant codes starts n i j depths lanes → j < n → i < 64
        → lane ≡ get_or lanes j lane → next.variant ≡ variant
        → state_of variant next.table_state ≡ stepped version variant (state_of variant (get_or lanes j lane).table_state) (get_or (get_or codes j []) i 0)
        → x ≡ depth (state_of variant next.table_state).predictor
        → Turning version variant codes starts n i (j + 1) (set depths j (set (get_or depths j []) i x)) (set lanes j next)
    turning_more {depths} {lanes} {j} {x} lane next t h l is v e ex =
        record {
          depths_long = simp length-set t.depths_long;
          lanes_long = simp length-set t.lanes_long;
          before = λ k m d. go k d (ℕ_discrete k j) (omega arith);
          behind = λ k m o d.
              rw (get_or-set_other depths j k (set (get_or depths j []) i x) [] (omega arith), get_or-set_other lanes j k next d (omega arith))
              (t.behind k (omega arith) o d);
        }
      where
        now : (d : Kept) → Ran version variant (get_or codes j []) (state_of variant (get_or starts j d).table_state) (i + 1) (set (get_or depths j []) i x) next
        now d =
            let same : get_or lanes j lane ≡ get_or lanes j d = sym is ∙ get_or_read lanes j lane (omega (arith, t.lanes_long)) is d in
            ran_more (t.behind j (omega arith) h d) l v (e ∙ ap (λ q. stepped version variant (state_of variant q.table_state) (get_or (get_or codes j []) i 0)) same) ex

        go : (k : ℕ) (d : Kept) → Dec (k ≡ j) → k ≤ j
            → Ran version variant (get_or codes k []) (state_of variant (get_or starts k d).table_state) (i + 1)
            (get_or (set depths j (set (get_or depths j []) i x)) k []) (get_or (set lanes j next) k d)
        go k d (yes q) m =
            rw (
              q,
              get_or-set_same depths j (set (get_or depths j []) i x) [] (omega (arith, t.depths_long)),
              get_or-set_same lanes j next d (omega (arith, t.lanes_long)),
            )
            (now d)
        go k d (no q) m =
            rw (get_or-set_other depths j k (set (get_or depths j []) i x) [] q, get_or-set_other lanes j k next d q)
            (t.before k (omega arith) d)

-- ---- a fragment: its codes unpacked, run, and made samples

module _ {version : ℕ} {variant : Variant} {fragment : List ℕ} {s : State} {codes depths : List ℕ} {start lane : Kept} {n : ℕ} (few : n ≤ frame_samples version)
    (started : Started version variant fragment s codes start) (ran : Ran version variant codes (state_of variant start.table_state) n depths lane)
    {samples : List ℤ} {r : State} (finished : Finished version fragment s (state_of lane.variant lane.table_state) depths samples r) where
  same_depth : (i : ℕ) → i < n → get_or depths i 0 ≡ depth_at version variant codes (state_of variant start.table_state) i
  same_depth i l = sym (get_or-take n depths i 0 l) ∙ rw ran.done (get_d_tabulate (depth_at version variant codes (state_of variant start.table_state)) n i 0 l)

  played_samples : take n samples ≡ (decoded_fragment version variant s fragment n).samples
  unfolding sample_at after
  played_samples =
      let gain = output_gain version (volume_byte fragment) in
      run_samples version variant fragment s n few started.state started.codes_are refl
      (rw (finished.samples_are, take_tabulate (λ i. gain (pos 32767 -ℤ pos (get_or depths i 0))) 64 n (omega (arith, frame_few (anew version))))
      (tabulate_ext _ _ n
      (λ i l. ap gain (rw (same_depth i l) (depth_back _ (stepped_range version variant (after version variant codes (state_of variant start.table_state) i) (get_or codes i 0)).predictor)))))

  played_state : r ≡ (decoded_fragment version variant s fragment n).state
  played_state =
      run_state version variant fragment s n few started.state started.codes_are (ran.state) (rw ran.variant_is at finished.state)

  -- both, by a stream's own version, variant and count
  pub played : {v : ℕ} {w : Variant} {m : ℕ} → version ≡ v → variant ≡ w → n ≡ m
      → (r ≡ (decoded_fragment v w s fragment m).state) × (take m samples ≡ (decoded_fragment v w s fragment m).samples)
  played e f g = rw (← e, ← f, ← g) (played_state, played_samples)
