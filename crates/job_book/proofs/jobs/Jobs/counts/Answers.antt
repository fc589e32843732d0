use Rattle.std.proofs.Common.{◌≡◌, ◌∙◌, List, Some, sym, ap, eqb}
use Rattle.std.specs.List.{position_or_len, slice_get}
use Rattle.farm_types.specs.declared.rows.JobRow.{JobRow}
use Rattle.farm_types.specs.Jobs.{JobLists}
use Rattle.job_entries.specs.declared.counts.Counts.{Counts}
use Rattle.job_book.specs.Book.{counts_of, has_job}
use Rattle.job_book.specs.Inside.{counts_for}
use Rattle.job_book.proofs.JobPlaces.{at_place, counts_there}
use Rattle.job_book.proofs.jobs.Jobs.counts.Goals as goal

pub unreachable-requires : goal.unreachable-requires
unreachable-requires c =
    let inside = c.self.inside in
    let jobs = inside.entries.rows in
    let slots = inside.slots.items in
    counts_there c.args.job jobs slots (ap (λ (b : JobLists). has_job b c.args.job) c.self.view_is ∙ c.requires)
    (ap (λ (cs : List Counts). slice_get cs (position_or_len (λ (j : JobRow). eqb j.job c.args.job) jobs)) (sym c.self.invariant.counts_are) ∙ sym c.in_default.ensures)

pub returns : goal.returns
returns c =
    let inside = c.self.inside in
    let jobs = inside.entries.rows in
    let slots = inside.slots.items in
    let at : slice_get (counts_for jobs slots) (position_or_len (λ (j : JobRow). eqb j.job c.args.job) jobs) ≡ Some c.in-Some.counts =
    ap (λ (cs : List Counts). slice_get cs (position_or_len (λ (j : JobRow). eqb j.job c.args.job) jobs)) (sym c.self.invariant.counts_are) ∙ sym c.in-Some.ensures in
    at_place (λ job. counts_of job slots) c.args.job jobs c.in-Some.counts at ∙ ap (λ (b : JobLists). counts_of c.args.job b.slots) c.self.view_is
