use Rattle.std.proofs.Common.{false, ◌≡◌, ◌∙◌, ◌+◌, List, ◌∷◌, [], drop, take, ap, sym, subst, arith}
use Rattle.std.proofs.lemmas.List.{drop_all, drop_more, take_all}
use Rattle.std.proofs.lemmas.List.Elements.{All-get_or}
use Rattle.farm_load.specs.booking_recorder.specs.Going.{Journals}
use Rattle.farm_load.specs.booking_recorder.proofs.Journaled.{journals_none}
use Rattle.farm_types.specs.declared.entry.Entry.{Entry}
use Rattle.farm_keeper.proofs.KeepingLaws.{Continues-same, Continues-then}
use Rattle.session.specs.Opening.{IsUnbooked}
use Rattle.session.proofs.OpenedRun.{IsUnderWay, way_ends, way_next, way_start, way_stops}
use Rattle.session.proofs.SeatLemmas.{journal_next, next_room}
use Rattle.session.proofs.opening.record_each.Goals as goal

pub returns-in_err-record-clause-farm : goal.returns-in_err-record-clause-farm
returns-in_err-record-clause-farm g c =
    let first = c.args.recorder.now.farm in
    let es = c.args.entries.now in
    let i = c.loop-entry.entry-index in
    let e = c.entry-item.result in
    let rest = drop (i + 1) es in
    let now = c.loop-entry.recorder.farm in
    let here : drop i es ≡ e ∷ rest = drop_more es i e (omega arith) ∙ ap (λ (x : Entry). x ∷ rest) (sym c.entry-item.is) in
    way_stops first es now c.record.new.recorder.farm e rest _ c.from_residual.result c.from_residual.ensures.1 c.in_err-record.ensures.farm
    (subst (IsUnderWay first es now) here c.loop-entry.invariant.way)

pub loop-entry-init : goal.loop-entry-init
loop-entry-init g c =
    record {
      way = way_start c.args.recorder.now.farm c.args.entries.now c.requires.legal;
      keeper = Continues-same g.K.Keeper.tells g.K.Keeper.faults c.args.recorder.now.keeper;
      journals = journals_none c.args.recorder.now.view;
    }

pub record-requires-clause-unbooked : goal.record-requires-clause-unbooked
record-requires-clause-unbooked g c =
    let es = c.args.entries.now in
    let i = c.loop-entry.entry-index in
    let e = c.entry-item.result in
    subst IsUnbooked (sym c.entry-item.is) (All-get_or IsUnbooked es i e (omega arith) c.requires.unbooked)

pub record-requires-clause-alone : goal.record-requires-clause-alone
record-requires-clause-alone g c = c.loop-entry.invariant.journals.split ∙ c.requires.alone

pub record-requires-clause-room : goal.record-requires-clause-room
record-requires-clause-room g c =
    next_room c.args.recorder.now.view c.loop-entry.recorder.view c.args.entries.now c.loop-entry.entry-index (omega arith) c.loop-entry.invariant.journals c.requires.room

pub loop-entry-preserved : goal.loop-entry-preserved
loop-entry-preserved g c =
    let first = c.args.recorder.now.farm in
    let es = c.args.entries.now in
    let i = c.loop-entry.entry-index in
    let e = c.entry-item.result in
    let rest = drop (i + 1) es in
    let now = c.loop-entry.recorder.farm in
    let here : drop i es ≡ e ∷ rest = drop_more es i e (omega arith) ∙ ap (λ (x : Entry). x ∷ rest) (sym c.entry-item.is) in
    record {
      way = way_next first es now c.record.new.recorder.farm e rest c.in_ok-record.ensures.farm (subst (IsUnderWay first es now) here c.loop-entry.invariant.way);
      keeper = Continues-then g.K.Keeper.tells g.K.Keeper.faults c.args.recorder.now.keeper c.loop-entry.recorder.keeper c.record.new.recorder.keeper false c.loop-entry.invariant.keeper
          c.in_ok-record.ensures.keeper;
      journals =
          journal_next c.args.recorder.now.view c.loop-entry.recorder.view c.record.new.recorder.view es i e (omega arith) c.entry-item.is c.loop-entry.invariant.journals
          c.in_ok-record.ensures.journal;
    }

pub returns-clause-farm : goal.returns-clause-farm
returns-clause-farm g c =
    let first = c.args.recorder.now.farm in
    let es = c.args.entries.now in
    let i = c.loop-entry.entry-index in
    let none : drop i es ≡ [] = drop_all i es (omega arith) in
    way_ends first es c.loop-entry.recorder.farm (subst (IsUnderWay first es c.loop-entry.recorder.farm) none c.loop-entry.invariant.way)

pub returns-clause-journal : goal.returns-clause-journal
returns-clause-journal g c =
    let es = c.args.entries.now in
    let all : take c.loop-entry.entry-index es ≡ es = take_all c.loop-entry.entry-index es (omega arith) in
    subst (λ (xs : List Entry). Journals c.args.recorder.now.view c.loop-entry.recorder.view xs) all c.loop-entry.invariant.journals
