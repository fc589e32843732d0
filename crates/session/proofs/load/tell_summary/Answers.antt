-- A front of the summary was written.
use Rattle.std.proofs.Common.{◌≡◌, rules, take}
use Rattle.farm_load.specs.Summaries.{summary_text}
use Rattle.session.proofs.LoadLemmas.{summary_part}
use Rattle.session.proofs.load.tell_summary.Goals as goal

pub returns-clause-told : goal.returns-clause-told
returns-clause-told g c =
    let part = c.in-Err.ensures.err in
    let is : c.as_bytes.result.now ≡ summary_text c.args.summary.now = search rules in
    (take part.count c.as_bytes.result.now, part.adds, summary_part c.as_bytes.result.now (summary_text c.args.summary.now) part.count is part.cut)
