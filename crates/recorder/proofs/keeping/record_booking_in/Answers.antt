use Rattle.std.proofs.Common.{[], ◌∷◌, subst, sym}
use Rattle.farm_types.specs.Step.{after}
use Rattle.farm_rows.specs.Changes.{NamesExactly}
use Rattle.farm_keeper.proofs.KeepingLaws.{Continues-as}
use Rattle.farm_books.specs.Bookings.{entry_of}
use Rattle.recorder.specs.Faults.{is_store_fault}
use Rattle.recorder.specs.Recording.{HasRecorded}
use Rattle.recorder.proofs.Recorded.{booking_at_fault, passed_on, stays_at_fault}
use Rattle.recorder.proofs.Told.{told_on}
use Rattle.recorder.proofs.keeping.record_booking_in.Goals as goal

pub book-requires : goal.book-requires
book-requires g c = c.requires

pub returns-in_err-keep-clause-farm : goal.returns-in_err-keep-clause-farm
returns-in_err-keep-clause-farm g c =
    let f = c.args.farm.now in
    let e = entry_of c.args.booking.now.booked in
    let names = subst (NamesExactly f (after f e)) (sym c.batch.ensures) c.requires.rows in
    booking_at_fault (g.K.Keeper.holds c.args.keeper.now) (g.K.Keeper.left c.args.keeper.now) (g.K.Keeper.holds c.keep.new.keeper) (g.K.Keeper.left c.keep.new.keeper) f e
    _ c.from_residual.result c.from_residual.ensures.1 (c.in_err-keep.ensures.kept f e c.kept.ensures c.requires.legal names)

pub returns-in_err-keep-clause-kept : goal.returns-in_err-keep-clause-kept
returns-in_err-keep-clause-kept g c =
    let f = c.args.farm.now in
    let e = entry_of c.args.booking.now.booked in
    let names = subst (NamesExactly f (after f e)) (sym c.batch.ensures) c.requires.rows in
    stays_at_fault (g.K.Keeper.holds c.args.keeper.now) (g.K.Keeper.left c.args.keeper.now) (g.K.Keeper.holds c.keep.new.keeper) (g.K.Keeper.left c.keep.new.keeper) f e _
    (c.in_err-keep.ensures.kept f e c.kept.ensures c.requires.legal names)

pub returns-in_err-keep-clause-same : goal.returns-in_err-keep-clause-same
returns-in_err-keep-clause-same g c =
    let f = c.args.farm.now in
    let e = entry_of c.args.booking.now.booked in
    let names = subst (NamesExactly f (after f e)) (sym c.batch.ensures) c.requires.rows in
    c.in_err-keep.ensures.same f e c.kept.ensures c.requires.legal names

pub returns-in_err-keep-clause-keeper : goal.returns-in_err-keep-clause-keeper
returns-in_err-keep-clause-keeper g c =
    Continues-as g.K.Keeper.tells g.K.Keeper.faults c.args.keeper.now c.keep.new.keeper _ (is_store_fault c.from_residual.result)
    (passed_on _ c.from_residual.result c.from_residual.ensures.1) c.in_err-keep.ensures.keeper

pub returns-in_err-keep-clause-told : goal.returns-in_err-keep-clause-told
returns-in_err-keep-clause-told g c =
    let f = c.args.farm.now in
    let e = entry_of c.args.booking.now.booked in
    let names = subst (NamesExactly f (after f e)) (sym c.batch.ensures) c.requires.rows in
    told_on g.K.Keeper.commits f (e ∷ []) c.args.keeper.now c.keep.new.keeper _ c.from_residual.result c.from_residual.ensures.1
    (c.in_err-keep.ensures.told f e c.kept.ensures c.requires.legal names)

pub returns-clause-kept : goal.returns-clause-kept
returns-clause-kept g c =
    let f = c.args.farm.now in
    let e = entry_of c.args.booking.now.booked in
    let names = subst (NamesExactly f (after f e)) (sym c.batch.ensures) c.requires.rows in
    λ has.
    subst (HasRecorded (g.K.Keeper.holds c.keep.new.keeper) (g.K.Keeper.left c.keep.new.keeper)) (sym c.book.ensures)
    (c.in_ok-keep.ensures.kept f e c.kept.ensures c.requires.legal names has)

pub returns-clause-same : goal.returns-clause-same
returns-clause-same g c =
    let f = c.args.farm.now in
    let e = entry_of c.args.booking.now.booked in
    let names = subst (NamesExactly f (after f e)) (sym c.batch.ensures) c.requires.rows in
    c.in_ok-keep.ensures.same f e c.kept.ensures c.requires.legal names

pub returns-clause-told : goal.returns-clause-told
returns-clause-told g c =
    let f = c.args.farm.now in
    let e = entry_of c.args.booking.now.booked in
    let names = subst (NamesExactly f (after f e)) (sym c.batch.ensures) c.requires.rows in
    c.in_ok-keep.ensures.told f e c.kept.ensures c.requires.legal names
