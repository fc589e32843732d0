use Rattle.std.proofs.Common.{◌∙◌, ap, ℕ, Option, length, sym, List, Bool}
use Rattle.std.specs.Prelude.{option_map}
use Rattle.std.proofs.lemmas.List.{length-map}
use Rattle.farm_types.specs.Finish.{finishes}
use Rattle.farm_types.specs.declared.rows.JobRow.{JobRow}
use Rattle.farm_rows.specs.Recovery.{first_job}
use Rattle.stored_rows.specs.Known.{first_ending, has_left}
use Rattle.stored_rows.specs.Told.{Told}
use Rattle.stored_rows.proofs.KnownEnds.{at_job, ending_known}
use Rattle.stored_rows.proofs.stored_rows.StoredRows.job_finishing.Goals as goal

pub first_ending-requires : goal.first_ending-requires
first_ending-requires c =
    let a = c.self.inside in
    let jobs = a.lists.jobs.items in
    record {
      left = ap (λ (bs : List Bool). length bs) (c.left.ensures ∙ c.self.invariant.told.of_jobs.left) ∙ length-map jobs (has_left a.lists.slots.items) ∙ sym (ap (λ (js : List JobRow). length js) c.as_slice.ensures.value);
    }

pub returns : goal.returns
returns c =
    let a = c.self.inside in
    let slots = a.lists.slots.items in
    let jobs = a.lists.jobs.items in
    let left = c.left.ensures ∙ c.self.invariant.told.of_jobs.left in
    let found = c.first_ending.ensures ∙ (λ i. first_ending (c.as_slice.ensures.value i) (left i)) in
    ap (λ (o : Option ℕ). option_map at_job o) found ∙ ending_known slots jobs ∙ ap (λ (t : Told). first_job (finishes t.farm.slots) t.farm.jobs) c.self.view_is
