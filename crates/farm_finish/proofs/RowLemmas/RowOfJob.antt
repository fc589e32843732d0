-- The row of a job that finishes, by the counts of its frames.
use Rattle.std.proofs.Common.{◌≡◌, ℕ, eqb, List, Some, sym, ap, ◌∙◌}
use Rattle.std.specs.List.{find}
use Rattle.std.proofs.lemmas.Bool.{eqb-true}
use Rattle.std.proofs.lemmas.Option.{same_Some}
use Rattle.farm_types.specs.declared.rows.JobRow.{JobRow}
use Rattle.farm_types.specs.declared.slot_row.SlotRow.{SlotRow}
use Rattle.farm_types.specs.declared.states.JobState.TheVariants.{Finished}
use Rattle.farm_types.specs.Finish.{count_where, finished_row, has_succeeded, was_eaten}
use Rattle.farm_types.proofs.Lists.{found_is}
use Rattle.farm_finish.specs.Versions.{done_in}
use Rattle.farm_finish.specs.declared.rows_job.Done.{Done}

pub row_finished : (slots : List SlotRow) (finish job : ℕ) (jobs : List JobRow) (row j : JobRow) (done : Done) → Some row ≡ find (λ (k : JobRow). eqb k.job job) jobs → find (λ (k : JobRow). eqb k.job job) jobs ≡ Some j → done ≡ done_in job slots
    → record row { state = Finished; finish = finish; eaten = done.eaten; succeeded = done.succeeded } ≡ finished_row slots finish j
row_finished slots finish job jobs row j done read at counted =
    let same : row ≡ j = same_Some row j (read ∙ at) in
    let number : j.job ≡ job = eqb-true j.job job (found_is (λ (k : JobRow). eqb k.job job) jobs j at) in
    let eaten : done.eaten ≡ count_where j.job was_eaten slots = ap (λ (d : Done). d.eaten) counted ∙ ap (λ (n : ℕ). count_where n was_eaten slots) (sym number) in
    let succeeded : done.succeeded ≡ count_where j.job has_succeeded slots = ap (λ (d : Done). d.succeeded) counted ∙ ap (λ (n : ℕ). count_where n has_succeeded slots) (sym number) in
    λ i. record (same i) { state = Finished; finish = finish; eaten = eaten i; succeeded = succeeded i }
