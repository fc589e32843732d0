use Rattle.std.proofs.Common.{◌∙◌, ◌++◌, ◌∷◌, [], ap}
use Rattle.farm_types.specs.declared.rows.JobRow.{JobRow}
use Rattle.farm_rows.specs.declared.farm_row.FarmRow.TheVariants as row
use Rattle.farm_rows.specs.declared.row_change.RowChange.TheVariants as change
use Rattle.farm_draft.specs.Rows.{put_slots}
use Rattle.farm_finish.proofs.RowLemmas.RowOfJob.{row_finished}
use Rattle.farm_finish.proofs.rows_job.put_job.Goals as goal

pub returns : goal.returns
returns c = λ j at.
    let b = c.args.book.now in
    let same = row_finished (put_slots b.slots c.args.rows.now) c.args.finish c.args.job b.jobs c.row_of-old.result.now j c.done_after-done.result c.row_of-old.ensures at c.done_after-done.ensures in
    c.in_ok-push.ensures.items ∙ ap (λ (r : JobRow). c.args.changes.now.items ++ change.Put (row.Job r) ∷ []) (c.in_ok-row.ensures ∙ same)
