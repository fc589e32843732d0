use Rattle.std.proofs.Common.{◌<◌, ◌^◌, ◌∙◌, ap, arith, refl, subst, sym}
use Rattle.farm_types.specs.Booking.{may_record}
use Rattle.farm_types.specs.Farm.{Farm}
use Rattle.farm_types.specs.Run.{IsLegalStep}
use Rattle.farm_types.specs.Step.{moment_of}
use Rattle.booking_reasons.specs.WhyNot.{why_not_record}
use Rattle.farm_books.specs.Bookings.{entry_of}
use Rattle.farm_books.proofs.BookedRow.{booked_row_allowed}
use Rattle.farm_core.specs.Bookings.{IsBookingOf}
use Rattle.farm_core.proofs.farm.Farm.recordable.Goals as goal

pub returns-in-Err-clause-may : goal.returns-in-Err-clause-may
returns-in-Err-clause-may c = c.in-Err.ensures.may ∙ ap (λ (g : Farm). may_record g c.args.slot c.args.host) c.self.view_is

pub returns-in-Err-clause-why : goal.returns-in-Err-clause-why
returns-in-Err-clause-why c = c.in-Err.ensures.why ∙ ap (λ (g : Farm). why_not_record g c.args.slot c.args.host) c.self.view_is

pub returns-clause-may : goal.returns-clause-may
returns-clause-may c = c.in-Ok.ensures.may ∙ ap (λ (g : Farm). may_record g c.args.slot c.args.host) c.self.view_is

pub returns-clause-why : goal.returns-clause-why
returns-clause-why c = c.in-Ok.ensures.why ∙ ap (λ (g : Farm). why_not_record g c.args.slot c.args.host) c.self.view_is

pub returns-clause-booking : goal.returns-clause-booking
returns-clause-booking c =
    let f = c.self.inside.books.farm in
    let b = c.in-Ok.booked in
    let within : c.args.moment < 2 ^ 64 = omega arith in
    let legal : IsLegalStep f (entry_of b) =
    record {
      formed = record { moment_within = subst (λ n. n < 2 ^ 64) (sym c.in-Ok.ensures.asked.moment_is) within; act_formed = tt };
      accepted = refl;
      condition = booked_row_allowed f b.slot b.host (moment_of f b.moment) b.row c.in-Ok.ensures.row;
    }
    in
    let made : IsBookingOf f (record { booked = b; rows = c.rows_of_booking-rows.result }) =
    record { booked = c.in-Ok.ensures.row; legal = legal; rows = c.rows_of_booking-rows.ensures } in
    subst (λ (g : Farm). IsBookingOf g (record { booked = b; rows = c.rows_of_booking-rows.result })) c.self.view_is made
