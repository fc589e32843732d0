use Rattle.std.proofs.Common.{◌∙◌, refl}
use Rattle.world_answers.proofs.Recorded.{was_taken}
use Rattle.world_answers.proofs.Started.{has_room}
use Rattle.world_answers.proofs.on_words.answer_report_with.Goals as goal

pub take_report-taken-requires-clause-room : goal.take_report-taken-requires-clause-room
take_report-taken-requires-clause-room g c = has_room c.args.recorder.now.view c.requires.alone c.requires.fresh

pub returns : goal.returns
returns g c =
    was_taken _ _ c.args.recorder.now.farm c.args.due c.args.recorder.now c.take_report-taken.new.recorder refl c.requires.keeper c.args.report c.args.moment
    c.take_report-taken.result c.take_report-taken.ensures.taken c.in_ok-farm.farm (c.in_ok-farm.ensures ∙ c.read.ensures)
