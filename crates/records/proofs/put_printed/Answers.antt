-- `records::put_printed` meets its contract. Assumes nothing.
use Rattle.records.proofs.put_printed.Goals as goal

pub slice_bounds-out-end : goal.slice_bounds-out-end
slice_bounds-out-end g c = (c.requires.prints _ _ _ _ c.command-count.ensures).0

pub slice_bounds-put-end : goal.slice_bounds-put-end
slice_bounds-put-end g c = (c.requires.prints _ _ _ _ c.command-count.ensures).1
