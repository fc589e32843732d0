use Rattle.cue_query.proofs.Paged.{all_passed}
use Rattle.cue_query.proofs.page.Page.skip.Goals as goal

pub returns-clause-rows : goal.returns-clause-rows
returns-clause-rows c = λ listed count. all_passed c.args.self.now c.args.left c.passed_by-passed.result listed c.passed_by-passed.ensures.value count
