use Rattle.std.proofs.Common.{subst}
use Rattle.world_answers.specs.Reporting.{Plans}
use Rattle.world_answers.proofs.reporting.try_report.Goals as goal

pub refused_report-requires-clause-refuses : goal.refused_report-requires-clause-refuses
refused_report-requires-clause-refuses c =
    subst (Plans c.args.farm.now c.args.report c.args.moment) c.in-None.is
    (c.in_ok-plan_of.ensures c.args.report (c.in_ok-entry.ensures c.args.report c.requires.asks))

pub taken_report-requires-clause-plan : goal.taken_report-requires-clause-plan
taken_report-requires-clause-plan c =
    subst (Plans c.args.farm.now c.args.report c.args.moment) c.in-Some.is
    (c.in_ok-plan_of.ensures c.args.report (c.in_ok-entry.ensures c.args.report c.requires.asks))
