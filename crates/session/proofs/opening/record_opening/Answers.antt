use Rattle.std.proofs.Common.{◌<◌, ◌+◌, ◌^◌, ◌∙◌, length, sym, subst}
use Rattle.std.specs.Prelude.{IfOk}
use Rattle.farm_load.specs.booking_recorder.specs.Going.{Journals}
use Rattle.session.specs.declared.words.Form.{Form}
use Rattle.session.specs.Opening.{GoesThrough}
use Rattle.session.specs.Words.{Demo, Load, opening_entries, word_form}
use Rattle.session.proofs.OpenedRun.{later_entries, opening_goes, opening_stops}
use Rattle.session.proofs.SeatLemmas.{first_room, later_room, opening_journals}
use Rattle.session.proofs.opening.record_opening.Goals as goal

pub returns-in_err-record_opened-clause-farm : goal.returns-in_err-record_opened-clause-farm
returns-in_err-record_opened-clause-farm g c =
    opening_stops c.args.recorder.now.farm c.record_opened.new.recorder.farm (word_form c.args.form) c.args.moment c.opened_at.result _ c.from_residual.result c.opened_at.ensures
    c.from_residual.ensures.1 c.in_err-record_opened.ensures.farm

pub returns-in-Demo-clause-farm : goal.returns-in-Demo-clause-farm
returns-in-Demo-clause-farm g c =
    opening_goes c.args.recorder.now.farm c.record_opened.new.recorder.farm c.record_demo.new.recorder.farm (word_form c.args.form) c.args.moment c.opened_at.result c.record_demo.result
    c.opened_at.ensures c.in_ok-record_opened.ensures.farm
    (subst (λ (form : Form). GoesThrough c.record_opened.new.recorder.farm (later_entries (word_form form) c.args.moment) c.record_demo.result c.record_demo.new.recorder.farm)
    (sym c.in-Demo.is) c.record_demo.ensures.farm)

pub returns-in-Load-clause-farm : goal.returns-in-Load-clause-farm
returns-in-Load-clause-farm g c =
    opening_goes c.args.recorder.now.farm c.record_opened.new.recorder.farm c.record_load.new.recorder.farm (word_form c.args.form) c.args.moment c.opened_at.result c.record_load.result
    c.opened_at.ensures c.in_ok-record_opened.ensures.farm
    (subst (λ (form : Form). GoesThrough c.record_opened.new.recorder.farm (later_entries (word_form form) c.args.moment) c.record_load.result c.record_load.new.recorder.farm)
    (sym c.in-Load.is) c.record_load.ensures.farm)

pub record_opened-requires-clause-room : goal.record_opened-requires-clause-room
record_opened-requires-clause-room g c = first_room (word_form c.args.form) c.args.moment _ c.requires.room

pub record_demo-requires-clause-alone : goal.record_demo-requires-clause-alone
record_demo-requires-clause-alone g c = c.in_ok-record_opened.ensures.journal.split ∙ c.requires.alone

pub record_load-requires-clause-alone : goal.record_load-requires-clause-alone
record_load-requires-clause-alone g c = c.in_ok-record_opened.ensures.journal.split ∙ c.requires.alone

pub record_demo-requires-clause-room : goal.record_demo-requires-clause-room
record_demo-requires-clause-room g c =
    later_room Demo c.args.moment c.opened_at.result c.args.recorder.now.view c.record_opened.new.recorder.view c.in_ok-record_opened.ensures.journal
    (subst (λ (form : Form). length c.args.recorder.now.view.journal + length (opening_entries (word_form form) c.args.moment) < 2 ^ 64) c.in-Demo.is c.requires.room)

pub record_load-requires-clause-room : goal.record_load-requires-clause-room
record_load-requires-clause-room g c =
    later_room (Load c.in-Load.n) c.args.moment c.opened_at.result c.args.recorder.now.view c.record_opened.new.recorder.view c.in_ok-record_opened.ensures.journal
    (subst (λ (form : Form). length c.args.recorder.now.view.journal + length (opening_entries (word_form form) c.args.moment) < 2 ^ 64) c.in-Load.is c.requires.room)

pub returns-in-Demo-clause-journal : goal.returns-in-Demo-clause-journal
returns-in-Demo-clause-journal g c =
    opening_journals c.args.recorder.now.view c.record_opened.new.recorder.view c.record_demo.new.recorder.view (word_form c.args.form) c.args.moment c.opened_at.result
    c.record_demo.result c.opened_at.ensures c.in_ok-record_opened.ensures.journal
    (subst (λ (form : Form). IfOk c.record_demo.result (λ done. Journals c.record_opened.new.recorder.view c.record_demo.new.recorder.view (later_entries (word_form form) c.args.moment)))
    (sym c.in-Demo.is) c.record_demo.ensures.journal)

pub returns-in-Load-clause-journal : goal.returns-in-Load-clause-journal
returns-in-Load-clause-journal g c =
    opening_journals c.args.recorder.now.view c.record_opened.new.recorder.view c.record_load.new.recorder.view (word_form c.args.form) c.args.moment c.opened_at.result
    c.record_load.result c.opened_at.ensures c.in_ok-record_opened.ensures.journal
    (subst (λ (form : Form). IfOk c.record_load.result (λ done. Journals c.record_opened.new.recorder.view c.record_load.new.recorder.view (later_entries (word_form form) c.args.moment)))
    (sym c.in-Load.is) c.record_load.ensures.journal)
