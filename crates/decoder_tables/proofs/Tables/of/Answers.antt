-- `decoder_tables::Tables::of` meets its contract. Assumes nothing.
use borrow.Author.Tests.{ne_eqb}
use Rattle.decoder_tables.proofs.Contents.{h_differences, l_differences, l_plus_differences, legacy_l_plus_differences, h_nexts, l_nexts, l_plus_nexts}
use Rattle.decoder_tables.proofs.Tables.of.Goals as goal

pub new-requires : goal.new-requires
new-requires c = rw c.in-H.is (record { difference = h_differences c.args.coding.version; next = h_nexts })

pub new-requires-in-L : goal.new-requires-in-L
new-requires-in-L c = rw c.in-L.is (record { difference = l_differences c.args.coding.version; next = l_nexts })

pub new-requires-then-coding-eq1 : goal.new-requires-then-coding-eq1
new-requires-then-coding-eq1 c =
    rw (c.in-LPlus.is, c.if-coding-eq1.true) (record { difference = legacy_l_plus_differences; next = l_plus_nexts })

pub new-requires-else-coding-eq1 : goal.new-requires-else-coding-eq1
new-requires-else-coding-eq1 c =
    rw c.in-LPlus.is (record { difference = l_plus_differences c.args.coding.version (ne_eqb _ _ c.if-coding-eq1.false); next = l_plus_nexts })
