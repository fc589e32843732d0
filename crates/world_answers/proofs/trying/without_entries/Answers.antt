use Rattle.std.proofs.Common.{◌∙◌, sym}
use Rattle.line_answers.specs.Lines.{shown}
use Rattle.world_answers.proofs.Replied.{alone_trial}
use Rattle.world_answers.proofs.trying.without_entries.Goals as goal

pub returns-clause-replied : goal.returns-clause-replied
returns-clause-replied c =
    alone_trial c.args.farm.now c.args.refused (shown c.args.told.now) c.in_ok-reply.reply c.in_ok-farm.farm c.reply_alone.result
    (sym c.is_some.ensures ∙ c.if-is_some.false) c.in_ok-farm.ensures c.in_ok-reply.ensures c.reply_alone.ensures
