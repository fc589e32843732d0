use Rattle.std.proofs.Common.{◌∙◌, sym}
use Rattle.farm_books.proofs.BookedRow.{booking_makes}
use Rattle.farm_books.proofs.books.Books.parts.Goals as goal

pub returns-clause-makes : goal.returns-clause-makes
returns-clause-makes c = λ moment.
    booking_makes c.args.self.now.farm c.args.slot c.args.host moment c.in-Some.row c.in-Some-frame.frame c.in-Some-job.job.now c.in-Some-layer.layer.now c.in-Some-host.host_row.now c.in-Ok.sub
    (sym c.slot.ensures ∙ c.in-Some.is) c.in-Some-frame.is (sym c.in-Some-job.ensures) (sym c.in-Some-layer.ensures) (sym c.in-Some-host.ensures)
    c.in-Ok.ensures.number (sym c.in-Ok.ensures.allowed)
