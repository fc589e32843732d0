-- A front of the line was written.
use Rattle.std.proofs.Common.{◌≡◌, rules, take}
use Rattle.farm_lines.specs.Reply.{bad_store_line}
use Rattle.session.proofs.RunLemmas.{told_part}
use Rattle.session.proofs.run.tell_row.Goals as goal

pub returns-clause-told : goal.returns-clause-told
returns-clause-told g c =
    let part = c.in-Err.ensures.err in
    let is : c.as_slice.result.now ≡ bad_store_line c.args.kind c.args.id = search rules in
    (take part.count c.as_slice.result.now, part.adds, told_part c.as_slice.result.now (bad_store_line c.args.kind c.args.id) part.count is part.cut)
