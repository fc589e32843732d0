use Rattle.std.proofs.Common.{arith}
use Rattle.cue_query.proofs.Listed.{passed_rows}
use Rattle.cue_query.proofs.page.Page.next_row.Goals as goal

pub returns-clause-rows : goal.returns-clause-rows
returns-clause-rows c = λ all count. passed_rows c.args.self.now c.skip.new.self c.args.place c.skip.result all c.skip.ensures.rows (omega (arith, count, c.skip.ensures.within))
