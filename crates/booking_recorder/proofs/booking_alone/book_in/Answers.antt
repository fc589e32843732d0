use Rattle.std.proofs.Common.{ℕ, ◌≡◌, ◌∙◌, ap, false, length, subst, sym}
use Rattle.farm_types.specs.declared.entry.Entry.{Entry}
use Rattle.farm_types.specs.Farm.{Farm}
use Rattle.farm_types.specs.Step.{after}
use Rattle.farm_keeper.proofs.KeepingLaws.{Continues-as, Continues-same}
use Rattle.booking_rule.specs.declared.view.View.{View}
use Rattle.booking_table.specs.Seats.{view}
use Rattle.recorder.specs.Recording.{HasSameRows, booking}
use Rattle.booking_recorder.specs.Alone.{BooksAlone, EntersBook, TellsBook, is_store_book}
use Rattle.booking_recorder.proofs.AloneBooked.{book_then, books_lost, enters_alone, enters_lost, room_lost, same_by, store_lost, told_lost}
use Rattle.booking_recorder.proofs.AloneClaims.{leads_then}
use Rattle.booking_recorder.proofs.AloneViews.{rests_alone}
use Rattle.booking_recorder.proofs.booking_alone.book_in.Goals as goal

-- ---- the claim was made

pub book_own-requires-clause-owns : goal.book_own-requires-clause-owns
book_own-requires-clause-owns g c = c.in-Ok.ensures.answer.owns

pub book_own-requires-clause-leads : goal.book_own-requires-clause-leads
book_own-requires-clause-leads g c =
    leads_then c.args.plain.now.farm (view c.args.seat.now) (view c.claim_alone.new.seat) c.requires.leads c.in-Ok.ensures.answer.went

pub book_own-requires-clause-counted : goal.book_own-requires-clause-counted
book_own-requires-clause-counted g c =
    c.requires.counted ∙ sym (ap (λ (x : View). length x.journal) c.in-Ok.ensures.answer.went.like)

pub returns-in-Ok-clause-farm : goal.returns-in-Ok-clause-farm
returns-in-Ok-clause-farm g c =
    let is = c.in-Ok.ensures.answer in
    subst (λ (x : ℕ × ℕ). BooksAlone c.args.plain.now.farm c.args.count x.0 x.1 c.args.moment c.book_own.result c.book_own.new.plain.farm)
    (λ i. (is.at i, is.on i)) c.book_own.ensures.farm

pub returns-in-Ok-clause-journal : goal.returns-in-Ok-clause-journal
returns-in-Ok-clause-journal g c =
    let v = view c.args.seat.now in
    let u = view c.claim_alone.new.seat in
    let w = view c.book_own.new.seat in
    let is = c.in-Ok.ensures.answer in
    let e : Entry = booking c.args.slot c.args.host c.args.moment in
    let enters = subst (λ (x : ℕ × ℕ). EntersBook u (booking x.0 x.1 c.args.moment) c.book_own.result w) (λ i. (is.at i, is.on i)) c.book_own.ensures.journal in
    enters_alone v w e c.book_own.result c.requires.rests c.book_own.ensures.rests (book_then v u w e c.book_own.result is.went enters)

pub returns-in-Ok-clause-told : goal.returns-in-Ok-clause-told
returns-in-Ok-clause-told g c =
    let is = c.in-Ok.ensures.answer in
    subst (λ (x : ℕ × ℕ). TellsBook g.K.Keeper.commits c.args.plain.now.farm x.0 x.1 c.args.moment c.book_own.result c.args.plain.now.keeper
    c.book_own.new.plain.keeper)
    (λ i. (is.at i, is.on i)) c.book_own.ensures.told

pub returns-in-Ok-clause-same : goal.returns-in-Ok-clause-same
returns-in-Ok-clause-same g c =
    λ rows.
    let is = c.in-Ok.ensures.answer in
    let f : Farm = c.args.plain.now.farm in
    let books = subst (λ (x : ℕ × ℕ). BooksAlone f c.args.count x.0 x.1 c.args.moment c.book_own.result c.book_own.new.plain.farm) (λ i. (is.at i, is.on i))
    c.book_own.ensures.farm in
    let told = subst (λ (x : ℕ × ℕ). TellsBook g.K.Keeper.commits f x.0 x.1 c.args.moment c.book_own.result c.args.plain.now.keeper c.book_own.new.plain.keeper)
    (λ i. (is.at i, is.on i)) c.book_own.ensures.told in
    let same = subst (λ (x : ℕ × ℕ). HasSameRows f (after f (booking x.0 x.1 c.args.moment)) → c.book_own.new.plain.keeper ≡ c.args.plain.now.keeper)
    (λ i. (is.at i, is.on i)) c.book_own.ensures.same in
    same_by g.K.Keeper.commits f c.args.slot c.args.host c.args.moment c.args.count c.book_own.new.plain.farm c.book_own.result c.args.plain.now.keeper
    c.book_own.new.plain.keeper books told same rows

-- ---- a step before it was lost

pub returns-in-Err-clause-rests : goal.returns-in-Err-clause-rests
returns-in-Err-clause-rests g c = rests_alone (view c.claim_alone.new.seat) c.in-Err.ensures.answer.goes.alone

pub returns-in-Err-clause-leads : goal.returns-in-Err-clause-leads
returns-in-Err-clause-leads g c =
    leads_then c.args.plain.now.farm (view c.args.seat.now) (view c.claim_alone.new.seat) c.requires.leads c.in-Err.ensures.answer.goes.went

pub returns-in-Err-clause-farm : goal.returns-in-Err-clause-farm
returns-in-Err-clause-farm g c =
    let is = c.in-Err.ensures.answer in
    subst (λ (x : Farm). BooksAlone x c.args.count c.args.slot c.args.host c.args.moment c.in-Err.lost x) c.read.ensures
    (books_lost c.read.result.now c.args.count c.args.slot c.args.host c.args.moment c.in-Err.lost is.lost is.may)

pub returns-in-Err-clause-journal : goal.returns-in-Err-clause-journal
returns-in-Err-clause-journal g c =
    let v = view c.args.seat.now in
    let w = view c.claim_alone.new.seat in
    let is = c.in-Err.ensures.answer in
    let e : Entry = booking c.args.slot c.args.host c.args.moment in
    enters_alone v w e c.in-Err.lost c.requires.rests (rests_alone w is.goes.alone) (enters_lost v w e c.in-Err.lost is.lost is.goes.went)

pub returns-in-Err-clause-room : goal.returns-in-Err-clause-room
returns-in-Err-clause-room g c = room_lost c.args.count c.in-Err.lost c.in-Err.ensures.answer.lost

pub returns-in-Err-clause-keeper : goal.returns-in-Err-clause-keeper
returns-in-Err-clause-keeper g c =
    Continues-as g.K.Keeper.tells g.K.Keeper.faults c.args.plain.now.keeper c.args.plain.now.keeper false (is_store_book c.in-Err.lost)
    (sym (store_lost c.in-Err.lost c.in-Err.ensures.answer.lost)) (Continues-same g.K.Keeper.tells g.K.Keeper.faults c.args.plain.now.keeper)

pub returns-in-Err-clause-told : goal.returns-in-Err-clause-told
returns-in-Err-clause-told g c =
    told_lost g.K.Keeper.commits c.args.plain.now.farm c.args.slot c.args.host c.args.moment c.in-Err.lost c.args.plain.now.keeper
    c.in-Err.ensures.answer.lost
