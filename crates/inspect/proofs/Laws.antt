-- The checks of one fragment. Assumes nothing.
use mathlib.Core.Path.{◌≡◌, sym}
use mathlib.Core.List.{List}
use Prim.Native.Nat.{ℕ, ◌/◌}
use Rattle.outcome.specs.Outcome.{Outcome, result}
use Rattle.outcome.proofs.Laws.{cleared, passed}
use Rattle.sqv4_format.specs.Layout.{fragment_at_place}
use Rattle.sqv4_format.specs.Inspect.{fragment_checks}
use Rattle.sqv4_format.specs.declared.Header.{Header}

-- the checks of the fragment at place p
abbrev pub check_at : Header → List ℕ → ℕ → Outcome Header
check_at h d p = fragment_checks h (p / h.channels) (fragment_at_place h d p)

-- where they pass, they return the header
pub same-header : (h : Header) (f : ℕ) (fragment : List ℕ) {x : Header} → result x ≡ fragment_checks h f fragment → fragment_checks h f fragment ≡ result h
unfolding fragment_checks
same-header h f fragment {x} e =
    let last : result h ≡ result x = (passed _ _ _ _ (cleared _ _ _ _ (sym e)).1).1 in
    cc
