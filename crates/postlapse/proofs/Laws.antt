-- What the proofs of the calls cite. Assumes nothing.
use mathlib.Core.Path.{◌≡◌, refl, sym, ◌∙◌, ap}
use Prim.Native.Nat.{ℕ}
use mathlib.Core.Bool.{true, false}
use mathlib.Core.List.{List}
use lib.IntN.{ℤ}
use lib.ListN.{length}
use Rattle.std.specs.Result.{is_ok}
use Rattle.std.specs.declared.result.Result.{Result}
use Rattle.std.specs.declared.result.Result.TheVariants.{Ok, Err}
use Rattle.outcome.specs.Outcome.{Outcome, result, refused, and_then, on_result, output_after}
use Rattle.sqv4_format.specs.Layout.{variant_of, anew}
use Rattle.sqv4_format.specs.Decode.{DecodedFragment, fragment_call, state_left, moves}
use Rattle.outcome.specs.Table.{answered}
use Rattle.outcome.specs.declared.Error.{Error}
use Rattle.sqv4_format.specs.declared.State.{State}
use Rattle.sqv4_format.specs.declared.Variant.{Variant}
use Rattle.sqv4_format.proofs.Range.{unmoved}
use Rattle.postlapse.specs.Answers.{answer_of}
use Rattle.postlapse.specs.Promises.{fragment_for_c, Plays, PlaysAs}
use Rattle.postlapse.specs.declared.Answer.{Answer}

-- ---- the fragment decoder: its promise, and whether the call changes the channel's state

pub plays_none : {o : Outcome DecodedFragment} {s : State} {out : List ℤ} {n : ℕ} {vs : List ℕ} → refused n vs ≡ o
    → PlaysAs o s out (refused n vs) s out
unfolding on_result output_after state_left
plays_none e = record { answered = rw (← e); state_after = rw (← e); output_left = rw (← e) }

-- a result changes it where fragments don't start anew
pub moves_carried : (version : ℕ) (r : Result ℕ Error) → anew version ≡ false → is_ok r ≡ moves version (answered r)
unfolding moves
moves_carried version (Ok n) h = rw h
moves_carried version (Err e) h = refl

pub moves_anew : (version : ℕ) (r : Result ℕ Error) → anew version ≡ true → false ≡ moves version (answered r)
unfolding moves
moves_anew version (Ok n) h = rw h
moves_anew version (Err e) h = refl

-- it goes by whether there is a result, and not by which
moves_on : {A B : Type 0} (version : ℕ) (f : A → B) (o : Outcome A) → moves version (on_result f o) ≡ moves version o
unfolding moves on_result
moves_on version f (result a) = refl
moves_on version f (refused n vs) = refl

-- the answer as a struct
pub plays_shown : {o : Outcome DecodedFragment} {s state : State} {out output : List ℤ} {x : Outcome ℕ} {answer : Answer}
    → PlaysAs o s out x state output → answer ≡ answer_of x → Plays o s out answer state output
plays_shown p e = record { answered = e ∙ ap answer_of p.answered; state_after = p.state_after; output_left = p.output_left }

-- where a call does not change the state, what it promises of the state after it holds of the one that it was given
pub plays_unmoved : (version variant : ℕ) (s : State) (fragment : List ℕ) (n : ℕ) {out output : List ℤ} {x : Outcome ℕ} {state : State}
    → PlaysAs (fragment_for_c version variant s fragment n) s out x state output → moves version x ≡ false
    → PlaysAs (fragment_for_c version variant s fragment n) s out x s output
unfolding fragment_for_c and_then state_left
plays_unmoved version variant s fragment n p e =
    let still : moves version (fragment_for_c version variant s fragment n) ≡ false =
    sym (moves_on version (λ (r : DecodedFragment). length r.samples) _) ∙ ap (moves version) (sym p.answered) ∙ e in
    record { answered = p.answered; state_after = sym (go (variant_of variant) still); output_left = p.output_left }
  where
    -- a byte that names no variant is refused first; else it is the fragment decoder's law
    call : Variant → Outcome DecodedFragment
    call v = fragment_call version v s fragment n

    go : (o : Outcome Variant) → moves version (and_then o call) ≡ false → state_left s (and_then o call) ≡ s
    go (result v) e = unmoved version v s fragment n e
    go (refused m vs) e = refl
