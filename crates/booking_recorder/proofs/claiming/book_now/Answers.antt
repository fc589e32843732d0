use Rattle.std.proofs.Common.{◌≡◌, [], ◌∷◌, sym, subst}
use Rattle.std.specs.Prelude.{Result}
use Rattle.farm_types.specs.Step.{after}
use Rattle.recorder.specs.Recording.{HasSameRows, Records, booking}
use Rattle.recorder.specs.Telling.{TellsOf}
use Rattle.recorder.proofs.Recorded.{as_asked}
use Rattle.booking_recorder.specs.declared.refusal.ConfirmRefusal.{ConfirmRefusal}
use Rattle.booking_recorder.specs.Claims.{BooksNow, TellsAhead}
use Rattle.booking_recorder.proofs.Booked.{books_now, told_now}
use Rattle.booking_recorder.proofs.claiming.book_now.Goals as goal

pub returns-clause-farm : goal.returns-clause-farm
returns-clause-farm g c = λ slot host moment asked.
    let f = c.args.plain.now.farm in
    let now = c.record_booking.new.self.farm in
    subst (λ (r : Result (Unit {0}) ConfirmRefusal). BooksNow f slot host moment r now) (sym c.stopped.ensures)
    (books_now f now slot host moment c.record_booking.result
    (as_asked (λ slot host moment. Records f (after f (booking slot host moment)) c.record_booking.result now) slot host moment c.args.decided.now.booked asked
    c.record_booking.ensures.farm))

pub returns-clause-same : goal.returns-clause-same
returns-clause-same g c = λ slot host moment asked.
    let f = c.args.plain.now.farm in
    as_asked (λ slot host moment. HasSameRows f (after f (booking slot host moment)) → c.record_booking.new.self.keeper ≡ c.args.plain.now.keeper) slot host moment
    c.args.decided.now.booked asked c.record_booking.ensures.same

pub returns-clause-told : goal.returns-clause-told
returns-clause-told g c = λ slot host moment asked.
    let f = c.args.plain.now.farm in
    let before = c.args.plain.now.keeper in
    let now = c.record_booking.new.self.keeper in
    subst (λ (r : Result (Unit {0}) ConfirmRefusal). TellsAhead g.K.Keeper.commits f slot host moment r before now) (sym c.stopped.ensures)
    (told_now g.K.Keeper.commits f slot host moment c.record_booking.result before now
    (as_asked (λ slot host moment. TellsOf g.K.Keeper.commits f (booking slot host moment ∷ []) c.record_booking.result before now) slot host moment
    c.args.decided.now.booked asked c.record_booking.ensures.told))
