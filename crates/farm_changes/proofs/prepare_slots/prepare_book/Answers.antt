use Rattle.std.proofs.Common.{sym, ◌∙◌}
use Rattle.farm_changes.proofs.MadeChanges.{book_makes}
use Rattle.farm_changes.proofs.prepare_slots.prepare_book.Goals as goal

pub returns : goal.returns
returns c =
    book_makes c.args.books.now.farm c.args.slot c.args.host c.args.moment c.in-Some-slot.was c.in-Some.row c.in_ok-rows.rows c.change_of.result c.requires.whole.kept.rows c.requires.ahead c.requires.allowed
    (sym c.slot.ensures ∙ c.in-Some-slot.is) (sym c.booked_at.ensures.row ∙ c.in-Some.is) c.in_ok-rows.ensures.hosts c.in_ok-rows.ensures.slots c.change_of.ensures
