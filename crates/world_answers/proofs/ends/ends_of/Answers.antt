use Rattle.std.proofs.Common.{◌∙◌, List, ap}
use Rattle.farm_types.specs.declared.attempt.DoneItem.{DoneItem}
use Rattle.world_law.specs.Ends.{ends_in}
use Rattle.world_answers.proofs.Ended.{ends_heard}
use Rattle.world_answers.proofs.ends.ends_of.Goals as goal

pub returns : goal.returns
returns c =
    ends_heard c.args.farm.now c.args.heard.now c.args.moment c.args.host c.requires c.in_ok-now.now c.in_ok-now.ensures c.in_ok-ends.ends
    (c.in_ok-ends.ensures ∙ ap (λ (ds : List DoneItem). ends_in c.in_ok-now.now c.args.host c.args.heard.now.boot ds) c.as_slice.ensures)
