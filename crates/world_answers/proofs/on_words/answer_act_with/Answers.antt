use Rattle.std.proofs.Common.{◌∙◌, refl}
use Rattle.world_answers.proofs.Recorded.{marked}
use Rattle.world_answers.proofs.Started.{unhindered}
use Rattle.world_answers.proofs.on_words.answer_act_with.Goals as goal

-- nothing hinders an entry of a recorder alone, with an empty journal
pub unreachable-requires : goal.unreachable-requires
unreachable-requires g c =
    absurd (unhindered c.args.recorder.now.view c.requires.alone c.requires.fresh _ _ _ _ c.in-Err.ensures.hindered.hinders)

pub returns : goal.returns
returns g c =
    marked _ _ c.args.recorder.now.farm c.args.due c.args.recorder.now c.answer_entry.new.recorder refl c.requires.keeper c.args.entry.now c.in-Ok.line
    c.in-Ok.ensures.answer c.in_ok-farm.farm (c.in_ok-farm.ensures ∙ c.read.ensures)
