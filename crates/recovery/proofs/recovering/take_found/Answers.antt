use Rattle.std.proofs.Common.{◌∙◌, sym}
use Rattle.std.proofs.lemmas.Bool.{eq-eqb}
use Rattle.farm_rows.specs.Rows.{row_id}
use Rattle.recovery.specs.Recovered.{read_id}
use Rattle.recovery.proofs.recovering.take_found.Goals as goal
use Rattle.recovery.proofs.Taken.{take_joined}

pub returns-then-id : goal.returns-then-id
returns-then-id c =
    let old = c.args.draft.now in
    let row = c.args.row.now in
    let spelled = c.rows_are_read_as_spelled.ensures old.format row.kind (read_id row.kind row.id) row.bytes c.args.found c.requires.found in
    let same = eq-eqb (row_id c.args.found) row.id (sym c.id.ensures ∙ c.if-id.true) in
    take_joined old row c.requires.next c.add.new.draft c.args.found c.requires.found spelled.0 same c.add.result c.add.ensures
