use Rattle.std.proofs.Common.{◌∙◌, ap, subst, sym}
use Rattle.farm_types.specs.Farm.{Farm}
use Rattle.farm_types.specs.Run.{IsLegalStep}
use Rattle.farm_types.specs.Step.{after}
use Rattle.farm_books.specs.Books.{FarmBooks}
use Rattle.farm_books.specs.Bookings.{IsBooking, entry_of}
use Rattle.farm_changes.proofs.FreeSlots.{waiting_free}
use Rattle.farm_core.proofs.Kept.{whole_booked}
use Rattle.farm_core.proofs.farm.Farm.book.Goals as goal

pub book-requires-clause-booking : goal.book-requires-clause-booking
book-requires-clause-booking c = subst (λ (g : Farm). IsBooking g c.args.booking.now.booked) (sym c.self.view_is) c.requires.booked

pub book-requires-clause-free : goal.book-requires-clause-free
book-requires-clause-free c =
    let f = c.self.inside.books.farm in
    let b = c.args.booking.now.booked in
    let legal = subst (λ (g : Farm). IsLegalStep g (entry_of b)) (sym c.self.view_is) c.requires.legal in
    waiting_free f b.slot b.host c.self.invariant.kept.rows.sound legal.condition

pub invariant_of-self : goal.invariant_of-self
invariant_of-self c =
    let v = c.self.inside.books in
    let b = c.args.booking.now.booked in
    let legal = subst (λ (g : Farm). IsLegalStep g (entry_of b)) (sym c.self.view_is) c.requires.legal in
    whole_booked v c.self.invariant c.kept.ensures.book b.slot b.host b.moment legal c.book.new.self c.book.ensures

pub returns : goal.returns
returns c =
    ap (λ (w : FarmBooks). w.farm) c.book.ensures ∙ ap (λ (g : Farm). after g (entry_of c.args.booking.now.booked)) c.self.view_is
