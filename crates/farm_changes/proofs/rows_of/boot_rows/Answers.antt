use Rattle.std.proofs.Common.{◌≡◌, Some, None, sym, subst, ◌∙◌}
use Rattle.std.specs.Prelude.{IfOk}
use Rattle.farm_types.specs.Step.{at_moment, expire}
use Rattle.farm_draft.specs.Drafted.{Drafted, with_farm}
use Rattle.farm_draft.specs.Rows.{installed}
use Rattle.farm_changes.specs.RowsOf.{lives_ended}
use Rattle.farm_changes.proofs.DraftedRows.{begun, boot_is, framed_begun, lost_ends, silenced_ends, silenced_is}
use Rattle.farm_changes.proofs.rows_of.boot_rows.Goals as goal
use Rattle.farm_changes.proofs.rows_of.boot_rows.Goals.{in-Some+in_ok-lose, in_default}

pub expire-requires-clause-framed : goal.expire-requires-clause-framed
expire-requires-clause-framed c = framed_begun c.args.books.now.farm c.args.moment c.new-draft.result c.requires.kept c.new-draft.ensures

pub lose-requires : goal.lose-requires
lose-requires c =
    silenced_ends c.args.books.now.farm c.args.moment c.expire.new.self c.requires.kept
    (silenced_is c.args.books.now.farm c.args.moment c.new-draft.result c.expire.new.self c.new-draft.ensures c.in_ok-expire.ensures)

pub into_rows-requires : goal.into_rows-requires
into_rows-requires c =
    let f = c.args.books.now.farm in
    let m = c.args.moment in
    let silenced = silenced_is f m c.new-draft.result c.expire.new.self c.new-draft.ensures c.in_ok-expire.ensures in
    elim c.match-ending_life.branch [
      | in-Some+in_ok-lose w ↦ lost_ends f m (Some w.in-Some.host) c.expire.new.self c.match-ending_life.draft c.requires.kept silenced (w.draft-is ∙ w.in_ok-lose.ensures)
      | in_default w ↦ lost_ends f m None c.expire.new.self c.match-ending_life.draft c.requires.kept silenced w.draft-is
    ]

pub returns-clause-farm : goal.returns-clause-farm
returns-clause-farm c =
    let f = c.args.books.now.farm in
    let m = c.args.moment in
    let line = c.args.line.now in
    let silenced = silenced_is f m c.new-draft.result c.expire.new.self c.new-draft.ensures c.in_ok-expire.ensures in
    let is : c.match-ending_life.draft ≡ with_farm (begun f m) (lives_ended (expire (at_moment f m) m) line) =
    elim c.match-ending_life.branch [
      | in-Some+in_ok-lose w ↦ boot_is f m line (Some w.in-Some.host) c.expire.new.self c.match-ending_life.draft silenced (sym w.in-Some.is ∙ c.ending_life.ensures) (w.draft-is ∙ w.in_ok-lose.ensures)
      | in_default w ↦ boot_is f m line None c.expire.new.self c.match-ending_life.draft silenced (sym w.in_default.is ∙ c.ending_life.ensures) w.draft-is
    ] in
    subst (λ (d : Drafted). IfOk c.into_rows.result (λ rows. installed (at_moment d.base d.moment) rows ≡ d.farm)) is c.into_rows.ensures.farm
