-- What the whole-stream decoder promises, by the three ways in which it returns. Assumes nothing.
use Prim.Native.Nat.{ℕ, ◌*◌, ◌≤◌, ◌<◌}
use mathlib.Core.Path.{◌≡◌, refl, sym, ◌∙◌, ap}
use mathlib.Core.List.{List, ◌++◌}
use lib.IntN.{ℤ}
use lib.ListN.{length, drop}
use borrow.Author.Tests.{lt-ltb, le-ltb}
use Rattle.outcome.specs.Outcome.{result, on_result, output_after}
use Rattle.outcome.proofs.Laws.{met, clear, then_result, then_refused, on_result_lem, output_result}
use Rattle.sqv4_format.specs.Layout.{frames}
use Rattle.sqv4_format.specs.Decode.{decoded}
use Rattle.sqv4_format.specs.Inspect.{Sound, inspected, decode_call}
use Rattle.outcome.specs.Table.{refusal}
use Rattle.sqv4_format.specs.Promises.{AsDecoded}
use Rattle.sqv4_format.proofs.Agreement.{length-decoded}
use Rattle.sqv4_format.specs.declared.Header.{Header}
use Rattle.outcome.specs.declared.Error.{Error}
use Rattle.std.specs.declared.result.Result.TheVariants.{Ok, Err}
use Rattle.decoder.specs.Loops.{loop_out}
use Rattle.decoder.proofs.DecodeLoop.{loop_decodes}
use Rattle.outcome.specs.declared.Error.TheVariants as E

module _ (d : List ℕ) (out : List ℤ) where
  pub as_refused : (e : Error) → refusal e ≡ decode_call d (length out) → AsDecoded d out (Err e) out
  unfolding on_result output_after
  as_refused e q = record { answered = rw (← q); output_left = rw (← q) }

  -- inspection refuses
  pub decode_stopped : (e : Error) → refusal e ≡ inspected d → AsDecoded d out (Err e) out
  unfolding decode_call
  decode_stopped e q = as_refused e (then_refused _ _ _ _ q)

  module _ (h : Header) (q : result h ≡ inspected d) where
    -- the output is too short
    pub decode_short : length out < h.samples * h.channels → AsDecoded d out (Err (E.OutputTooShort (h.samples * h.channels))) out
    unfolding decode_call
    decode_short l = as_refused (E.OutputTooShort _) (then_result _ h _ _ q (met _ _ _ _ (lt-ltb _ _ l)))

    -- the loop has filled it
    pub decode_filled : h.samples * h.channels ≤ length out → 0 < h.channels → (r : List ℤ)
        → r ≡ loop_out h d out (frames h * h.channels) → AsDecoded d out (Ok h) r
    unfolding decode_call
    decode_filled l hc r e =
        let s : Sound = record { header = h; samples = decoded h d } in
        let k : result s ≡ decode_call d (length out) = then_result _ h _ _ q (clear _ _ _ _ _ (le-ltb _ _ l) refl) in
        record {
          answered = sym (on_result_lem (λ (s : Sound). s.header) (decode_call d (length out)) (sym k));
          output_left =
              e ∙ loop_decodes h d hc out l
              ∙ ap (λ n. decoded h d ++ drop n out) (sym (length-decoded h d))
              ∙ sym (output_result _ (decoded h d) out (on_result_lem (λ (s : Sound). s.samples) (decode_call d (length out)) (sym k)));
        }
