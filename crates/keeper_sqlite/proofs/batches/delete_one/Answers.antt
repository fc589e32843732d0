use Rattle.std.proofs.Common.{rules, ◌≡◌, ◌∙◌, pos, SFits, w64, to_z-of_z}
use Rattle.keeper_sqlite.proofs.batches.delete_one.Goals as goal

pub returns-clause-deleted : goal.returns-clause-deleted
returns-clause-deleted g c clean inside =
    let number : c.in-Ok.id ≡ pos c.args.key.now.1 = search rules in
    let fits : SFits w64 c.in-Ok.id = search rules in
    rw c.from.ensures at (c.in_ok-delete_row.ensures.deleted clean inside c.args.key.now.1 (to_z-of_z fits ∙ number))
