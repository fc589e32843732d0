use Rattle.farm_lines.specs.declared.asked.Asked.TheVariants as asked
use Rattle.world_answers.proofs.Replied.{tries_what}
use Rattle.world_answers.proofs.trying.try_asked.Goals as goal

pub returns-in-Report : goal.returns-in-Report
returns-in-Report c =
    tries_what c.args.farm.now c.args.moment c.args.refused c.try_report.result c.args.asked (asked.Report c.in-Report.report) c.in-Report.is
    c.try_report.ensures

pub returns-in-Act : goal.returns-in-Act
returns-in-Act c = tries_what c.args.farm.now c.args.moment c.args.refused c.try_act.result c.args.asked (asked.Act c.in-Act.act) c.in-Act.is c.try_act.ensures
