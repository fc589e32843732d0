-- What was recorded is the report's entry, and what is taken is the report.
use Rattle.std.proofs.Common.{refl, ◌∙◌}
use Rattle.line_answers.proofs.HearLemmas.{alone_after, room_after, unhindered_report}
use Rattle.line_answers.proofs.ReportLemmas.{tells_host, unstored_heard}
use Rattle.line_answers.proofs.answer_report.take_report.Goals as goal

pub take_recorded-requires-clause-host : goal.take_recorded-requires-clause-host
take_recorded-requires-clause-host g c =
    tells_host c.args.recorder.now.farm c.hear-recorded.new.recorder.farm c.args.report c.args.moment c.hear-recorded.result c.hear-recorded.ensures.farm

pub take_recorded-requires-clause-unhindered : goal.take_recorded-requires-clause-unhindered
take_recorded-requires-clause-unhindered g c =
    unhindered_report _ c.hear-recorded.result (c.hear-recorded.ensures.alone c.requires.alone) c.hear-recorded.ensures.spent c.requires.room

pub take_recorded-requires-clause-alone : goal.take_recorded-requires-clause-alone
take_recorded-requires-clause-alone g c =
    alone_after c.args.recorder.now.view c.hear-recorded.new.recorder.view _ c.hear-recorded.result c.requires.alone c.hear-recorded.ensures.journal

pub take_recorded-requires-clause-room : goal.take_recorded-requires-clause-room
take_recorded-requires-clause-room g c =
    room_after c.args.recorder.now.view c.hear-recorded.new.recorder.view _ c.hear-recorded.result c.requires.room c.hear-recorded.ensures.journal

pub returns-clause-taken : goal.returns-clause-taken
returns-clause-taken g c =
    c.take_recorded.ensures.taken c.args.recorder.now c.args.report (refl, c.as_slice.ensures)
    (record {
      farm = c.hear-recorded.ensures.farm;
      journal = c.hear-recorded.ensures.journal;
      keeper = c.hear-recorded.ensures.keeper;
      told = c.hear-recorded.ensures.told;
    })

pub returns-clause-same : goal.returns-clause-same
returns-clause-same g c = λ none.
    c.take_recorded.ensures.same c.args.recorder.now.farm c.args.report (refl, c.as_slice.ensures) c.hear-recorded.ensures.farm none
    ∙ c.hear-recorded.ensures.same (unstored_heard c.args.recorder.now.farm c.args.report c.args.moment none)
