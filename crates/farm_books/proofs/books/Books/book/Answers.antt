use Rattle.std.proofs.Common.{◌≡◌, ◌∙◌, ◌≤◌, ap, length, subst, sym, arith}
use Rattle.std.specs.List.{slice_set}
use Rattle.farm_types.specs.declared.limits.TheConstants.{MOST_HOSTS}
use Rattle.farm_types.specs.Step.{after, at_moment, moment_of}
use Rattle.farm_books.specs.Books.{FarmBooks, with_farm}
use Rattle.farm_books.specs.Bookings.{entry_of}
use Rattle.farm_books.specs.Install.{CanInstall}
use Rattle.farm_books.proofs.BookedRow.{booked_at_moment, booked_row_installs, booked_row_leaves}
use Rattle.farm_books.proofs.books.Books.book.Goals as goal

pub install_slot-requires : goal.install_slot-requires
install_slot-requires c =
    let f = c.args.self.now.farm in
    let b = c.args.booking.now in
    let few : length f.hosts ≤ MOST_HOSTS = omega (arith, c.count_hosts-hosts.ensures.value, c.count_hosts-hosts.ensures.within) in
    subst (λ (v : FarmBooks). CanInstall v.farm.subs v.farm.slots b.slot b.row) (sym c.advance_to.ensures)
    (booked_row_installs f b.slot b.host (moment_of f b.moment) b.row c.requires.booking c.requires.free few)

pub returns : goal.returns
returns c =
    let f = c.args.self.now.farm in
    let b = c.args.booking.now in
    let now = moment_of f b.moment in
    let g = at_moment f now in
    let farm : record g { slots = slice_set g.slots b.slot b.row } ≡ after f (entry_of b) =
    booked_row_leaves g b.slot b.host now b.row (booked_at_moment f b.slot b.host now now ∙ c.requires.booking) in
    c.install_slot.ensures
    ∙ (ap (λ (v : FarmBooks). with_farm v (record v.farm { slots = slice_set v.farm.slots b.slot b.row })) c.advance_to.ensures
    ∙ (ap (λ n. with_farm c.args.self.now (record (at_moment f n) { slots = slice_set f.slots b.slot b.row })) c.later_of.ensures ∙ ap (with_farm c.args.self.now) farm))
