-- `commands::run` meets its contract. Assumes nothing.
use mathlib.Core.Path.{◌≡◌}
use mathlib.Core.List.{List, []}
use Prim.Native.Nat.{ℕ}
use lib.ListN.{take}
use Rattle.std.specs.Option.{IfSome, option_map}
use Rattle.std.specs.declared.option.Option.{Option}
use Rattle.std.specs.declared.option.Option.TheVariants.{None, Some}
use Rattle.std.specs.Io.KnownBytes.{Appends}
use Rattle.std.proofs.lemmas.Result.{on_ok_weaker}
use Rattle.commands.specs.declared.TheConstants.{READ_AT_MOST}
use Rattle.commands.proofs.run.Goals as goal

pub slice_bounds-out-end : goal.slice_bounds-out-end
slice_bounds-out-end g c = (c.requires.prints _ _ _ _ c.command-count.ensures).0

pub slice_bounds-write_all-end : goal.slice_bounds-write_all-end
slice_bounds-write_all-end g c = (c.requires.prints _ _ _ _ c.command-count.ensures).1

-- what is read of known bytes is what they begin with
front : (n : ℕ) (known : Option (List ℕ)) (bytes : List ℕ) → IfSome (option_map (take n) known) (Appends (Some []) (Some bytes))
    → IfSome known (λ all. bytes ≡ take n all)
front n None bytes p = tt
front n (Some all) bytes p = p

pub returns : goal.returns
returns g c =
    let read = front READ_AT_MOST (g.R.Read.remaining c.args.source) c.copy.new.writer.items (rw (c.new-input.ensures, c.take.ensures.limit, c.take.ensures.inner) at c.in_ok-copy.ensures.bytes) in
    on_ok_weaker c.write_all.result (λ written. (_, _, _, _, c.command-count.ensures, c.as_slice.ensures.fits, rw c.as_slice.ensures.value read, written)) c.write_all.ensures.bytes
