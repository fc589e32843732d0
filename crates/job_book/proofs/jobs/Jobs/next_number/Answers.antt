use Rattle.std.proofs.Common.{◌∙◌, ◌&&◌, eqb, find, sym, ap}
use Rattle.std.specs.List.{list_all}
use Rattle.farm_types.specs.declared.rows.JobRow.{JobRow}
use Rattle.farm_types.specs.declared.rows.LayerRow.{LayerRow}
use Rattle.farm_types.specs.Jobs.{JobLists}
use Rattle.job_book.specs.Inside.{is_below}
use Rattle.job_book.proofs.PlacementLemmas.NewNumber.{no_job_new, no_layer_new}
use Rattle.job_book.proofs.jobs.Jobs.next_number.Goals as goal

pub returns-clause-no_job : goal.returns-clause-no_job
returns-clause-no_job c =
    let inside = c.self.inside in
    sym (ap (λ (b : JobLists). find (λ (j : JobRow). eqb j.job b.next_job) b.jobs) c.self.view_is) ∙ no_job_new 0 inside.entries.rows inside.entries.next c.self.invariant.lists.jobs_rise

pub returns-clause-no_layer : goal.returns-clause-no_layer
returns-clause-no_layer c place =
    let inside = c.self.inside in
    sym (ap (λ (b : JobLists). find (λ (l : LayerRow). eqb l.job b.next_job && eqb l.place place) b.layers) c.self.view_is)
    ∙ no_layer_new 0 inside.entries.layers inside.entries.next place c.self.invariant.lists.layers_rise

pub returns-clause-no_frame : goal.returns-clause-no_frame
returns-clause-no_frame c = sym (ap (λ (b : JobLists). list_all (is_below b.next_job) b.slots) c.self.view_is) ∙ c.self.invariant.lists.frames_below
