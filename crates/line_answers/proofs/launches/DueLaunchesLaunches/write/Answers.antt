-- The list begins, has its launches, and ends.
use Rattle.std.proofs.Common.{◌∙◌, [], List, ap, append-nil}
use Rattle.json.specs.Token.{Token}
use Rattle.farm_lines.specs.declared.launch.Launch.{Launch}
use Rattle.line_answers.specs.Launches.{launch_tokens, launches_due}
use Rattle.object_writer.specs.Tokens.{added}
use Rattle.line_answers.proofs.launches.DueLaunchesLaunches.write.Goals as goal

pub returns-clause-text : goal.returns-clause-text
returns-clause-text c =
    let launches = launches_due c.args.self.now in
    c.in_ok-end_list.ensures ∙ c.in_ok-launched.ensures.text []
    ∙ ap (λ (ls : List Launch). added c.begin_list.new.self (launch_tokens ls)) (append-nil launches)
    ∙ ap (λ (out : List Token). added out (launch_tokens launches)) c.in_ok-begin_list.ensures
