-- `layout::Place::samples` meets its contract. Assumes nothing.
use mathlib.Core.Path.{◌≡◌, ◌∙◌}
use borrow.Author.Tests.{lt-ltb, le-ltb}
use Rattle.sqv4_format.specs.Layout.{whole_frame}
use Rattle.layout.proofs.Places.{count_at_place, frame_end}
use Rattle.layout.proofs.Place.samples.Goals as goal

pub returns-then-self-header : goal.returns-then-self-header
returns-then-self-header c =
    let place = c.args.self in
    let h = place.header in
    let all = count_at_place h place.p place.within in
    let more = rw c.fragment_count-fragments.ensures.0 at c.if-self-header.true in
    let whole : c.frame_samples.result ≡ whole_frame h = rw (c.frame_samples.ensures.value, c.coding.ensures) in
    let is = whole ∙ (rw (lt-ltb _ _ more) at all) in
    record { value = is; high = c.frame_samples.ensures.high; inside = rw is (frame_end h place.p place.within) }

pub returns-else-self-header : goal.returns-else-self-header
returns-else-self-header c =
    let place = c.args.self in
    let h = place.header in
    let all = count_at_place h place.p place.within in
    let none = rw c.fragment_count-fragments.ensures.0 at c.if-self-header.false in
    let is = c.last_count.ensures.0 ∙ (rw (le-ltb _ _ none) at all) in
    record { value = is; high = c.last_count.ensures.1; inside = rw is (frame_end h place.p place.within) }
