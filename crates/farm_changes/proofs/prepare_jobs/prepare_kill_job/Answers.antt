use Rattle.std.proofs.Common.{◌≡◌, refl, sym, ap, ◌∙◌}
use Rattle.farm_types.specs.declared.entry.Act.TheVariants as act
use Rattle.farm_types.specs.declared.states.FrameState.TheVariants as frame_state
use Rattle.farm_types.specs.Jobs.{JobLists}
use Rattle.job_book.specs.Book.{count_in}
use Rattle.job_entries.specs.declared.counts.Counts.{Counts}
use Rattle.farm_changes.proofs.OperatedJobs.{job_refuses, kill_makes, named_is, named_there}
use Rattle.farm_changes.proofs.prepare_jobs.prepare_kill_job.Goals as goal

pub returns-in_default : goal.returns-in_default
returns-in_default c =
    let f = c.args.books.now.farm in
    let name = c.args.job.now in
    let is = named_is f name c.as_str.result.now c.jobs-jobs.result.now c.pending.result c.as_str.ensures c.jobs-jobs.ensures c.pending.ensures in
    job_refuses f c.args.moment (act.KillJob name) name c.jobs-jobs.result.now c.missing.result c.jobs-jobs.ensures refl (sym is ∙ c.in_default.is) c.missing.ensures

pub counts-ended-requires : goal.counts-ended-requires
counts-ended-requires c =
    let f = c.args.books.now.farm in
    let name = c.args.job.now in
    let is = named_is f name c.as_str.result.now c.jobs-jobs.result.now c.pending.result c.as_str.ensures c.jobs-jobs.ensures c.pending.ensures in
    named_there f name c.jobs-jobs.result.now c.in-Some.job c.jobs-jobs.ensures (sym is ∙ c.in-Some.is)

pub returns : goal.returns
returns c =
    let f = c.args.books.now.farm in
    let name = c.args.job.now in
    let is = named_is f name c.as_str.result.now c.jobs-jobs.result.now c.pending.result c.as_str.ensures c.jobs-jobs.ensures c.pending.ensures in
    let job = c.in-Some.job in
    let count : c.counts-ended.result.running ≡ count_in job frame_state.Running f.slots =
    ap (λ (n : Counts). n.running) c.counts-ended.ensures ∙ ap (λ (b : JobLists). count_in job frame_state.Running b.slots) c.jobs-jobs.ensures in
    kill_makes f name c.args.moment job c.counts-ended.result.running c.in_ok-rows.rows c.change_of.result c.requires.kept c.requires.ahead (sym is ∙ c.in-Some.is) count
    c.in_ok-rows.ensures.farm c.in_ok-rows.ensures.ready c.change_of.ensures
