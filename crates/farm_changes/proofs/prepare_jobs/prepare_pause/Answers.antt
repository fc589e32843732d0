use Rattle.std.proofs.Common.{refl, sym, ◌∙◌}
use Rattle.farm_types.specs.declared.entry.Act.TheVariants as act
use Rattle.farm_changes.proofs.OperatedJobs.{job_refuses, named_is, pause_makes}
use Rattle.farm_changes.proofs.prepare_jobs.prepare_pause.Goals as goal

pub returns : goal.returns
returns c =
    let f = c.args.books.now.farm in
    let name = c.args.job.now in
    let is = named_is f name c.as_str.result.now c.jobs-jobs.result.now c.pending.result c.as_str.ensures c.jobs-jobs.ensures c.pending.ensures in
    pause_makes f name c.args.paused c.args.moment c.in-Some.job c.none.result c.change_of.result c.requires.ahead (sym is ∙ c.in-Some.is)
    (record { hosts = c.none.ensures.hosts; slots = c.none.ensures.slots }) c.change_of.ensures

pub returns-in_default : goal.returns-in_default
returns-in_default c =
    let f = c.args.books.now.farm in
    let name = c.args.job.now in
    let is = named_is f name c.as_str.result.now c.jobs-jobs.result.now c.pending.result c.as_str.ensures c.jobs-jobs.ensures c.pending.ensures in
    job_refuses f c.args.moment (act.Pause name c.args.paused) name c.jobs-jobs.result.now c.missing.result c.jobs-jobs.ensures refl (sym is ∙ c.in_default.is) c.missing.ensures
