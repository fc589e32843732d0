use Rattle.std.proofs.Common.{sym, ◌∙◌}
use Rattle.world_answers.proofs.OneEntry.{acts_without_memory, refused_acts, refused_such}
use Rattle.world_answers.proofs.acting.refused_act.Goals as goal

pub returns-then-is_some : goal.returns-then-is_some
returns-then-is_some c = refused_such c.args.farm.now c.args.entry.now c.requires.refuses c.args.refused (sym c.is_some.ensures ∙ c.if-is_some.true)

pub returns-in_err-left : goal.returns-in_err-left
returns-in_err-left c =
    acts_without_memory c.args.farm.now c.args.entry.now c.args.refused c.from_residual.result c.from_residual.ensures.1

pub returns : goal.returns
returns c =
    refused_acts c.args.farm.now c.args.entry.now c.requires.refuses c.args.refused (sym c.is_some.ensures ∙ c.if-is_some.false) c.in_ok-left.left
    c.in_ok-left.ensures
