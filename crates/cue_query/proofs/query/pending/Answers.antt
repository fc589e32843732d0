use Rattle.std.proofs.Common.{◌≡◌, ◌∙◌, ℕ, List, Option, None, option_map, ap}
use Rattle.std.specs.List.{find}
use Rattle.farm_types.specs.declared.rows.JobRow.{JobRow}
use Rattle.farm_types.specs.DependActs.{pending_named}
use Rattle.farm_types.specs.Jobs.{JobLists, is_pending_named}
use Rattle.farm_types.specs.Step.{lists_of}
use Rattle.cue_query.proofs.NoJob.{none_finds}
use Rattle.cue_query.proofs.query.pending.Goals as goal

abbrev number : Option JobRow → Option ℕ
number o = option_map (λ (j : JobRow). j.job) o

pub returns-in_default : goal.returns-in_default
returns-in_default c =
    let f = c.args.farm.now in
    let name = c.args.name.now in
    let none : None ≡ number (pending_named f name) =
    c.in_default.ensures ∙ (ap (λ (b : JobLists). number (find (is_pending_named c.as_str.result.now) b.jobs)) (c.jobs-jobs.ensures ∙ ap lists_of c.books.ensures.farm) ∙ ap (λ (text : List ℕ). number (find (is_pending_named text) f.jobs)) c.as_str.ensures) in
    none_finds f name c.jobs-jobs.result.now c.missing.result (c.jobs-jobs.ensures ∙ ap lists_of c.books.ensures.farm) none c.missing.ensures
