-- What it means that inspection accepts a stream. Assumes nothing.
use mathlib.Core.Path.{◌≡◌, subst}
use mathlib.Core.Bool.{true, false}
use mathlib.Core.List.{List}
use Prim.Native.Nat.{ℕ, zero, suc, ◌*◌, ◌/◌, ◌<◌}
use borrow.Author.Tests.{eqb-true}
use lib.ListN.{length}
use Rattle.outcome.specs.Outcome.{result, in_order}
use Rattle.outcome.proofs.Laws.{cleared, passed, then_passed, order_passed}
use Rattle.sqv4_format.specs.Layout.{known_version, channels_fit, header_of, frames, stream_length, fragment_at_place}
use Rattle.sqv4_format.specs.Inspect.{field_checks, header_checks, index_too_high, fragment_checks, inspected}
use Rattle.sqv4_format.specs.declared.Header.{Header}

pub record Accepted (d : List ℕ) (h : Header) : Type 0 where
  pub version : known_version h.version ≡ true
  pub channels : channels_fit h.version h.channels ≡ true
  pub size : length d ≡ stream_length h
  pub index : (p : ℕ) → p < frames h * h.channels → index_too_high h.version (fragment_at_place h d p) ≡ false

-- inspection answers the header that its first checks found
same-header : (h : Header) (f : ℕ → List ℕ) (frame : ℕ → ℕ) (n : ℕ) {r : Header} → in_order h (λ p. fragment_checks h (frame p) (f p)) n ≡ result r → h ≡ r
unfolding in_order fragment_checks
same-header h f frame zero e = cc
same-header h f frame (suc n) e =
    let last : result h ≡ result _ = (passed _ _ _ _ (cleared _ _ _ _ (then_passed _ _ e).2).1).1 in
    cc

-- what the header's checks tell
pub record Headed (d : List ℕ) (h : Header) : Type 0 where
  pub version : known_version h.version ≡ true
  pub channels : channels_fit h.version h.channels ≡ true
  pub size : length d ≡ stream_length h

pub headed : (d : List ℕ) (h : Header) → header_checks d ≡ result h → Headed d h
unfolding header_checks field_checks
headed d h e =
    let p7 = passed _ _ _ _ (passed _ _ _ _ (cleared _ _ _ _ e).1).1 in
    let t = then_passed _ _ p7.1 in
    let p1 = passed _ _ _ _ t.2 in
    let p9 = passed _ _ _ _ p1.1 in
    let p10 = passed _ _ _ _ (cleared _ _ _ _ p9.1).1 in
    let last : result (header_of d t.0) ≡ result h = p10.1 in
    let same : header_of d t.0 ≡ h = cc in
    subst (λ (x : Header). Headed d x) same (unfold header_of in (record { version = p7.0; channels = p1.0; size = eqb-true _ _ p10.0 }))

pub accepted : (d : List ℕ) (h : Header) → inspected d ≡ result h → Accepted d h
unfolding inspected
accepted d h e =
    let t = then_passed (header_checks d) _ e in
    let same : t.0 ≡ h = same-header t.0 (fragment_at_place t.0 d) (λ p. p / t.0.channels) _ t.2 in
    let facts = headed d t.0 t.1 in
    subst (λ (x : Header). Accepted d x) same
    (record {
      version = facts.version;
      channels = facts.channels;
      size = facts.size;
      index = λ p l. unfold fragment_checks in (cleared _ _ _ _ (order_passed _ _ p _ t.2 l).1).0;
    })
