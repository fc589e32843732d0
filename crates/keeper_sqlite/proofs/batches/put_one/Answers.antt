use Rattle.std.proofs.Common.{rules, ◌≡◌, ◌∙◌, pos, SFits, w64, to_z-of_z}
use Rattle.keeper_sqlite.proofs.batches.put_one.Goals as goal

pub returns-clause-put : goal.returns-clause-put
returns-clause-put g c clean inside =
    let number : c.in-Ok.id ≡ pos c.args.row.now.id = search rules in
    let fits : SFits w64 c.in-Ok.id = search rules in
    rw (c.from.ensures, c.as_slice.ensures) at (c.in_ok-put_row.ensures.put clean inside c.args.row.now.id (to_z-of_z fits ∙ number))
