use Rattle.std.proofs.Common.{ℕ, Bool, List, None, Some, Option, subst}
use Rattle.world_answers.specs.Reporting.{Counts}
use Rattle.world_answers.proofs.Reported.{no_such}
use Rattle.world_answers.proofs.reporting.cut_report.Goals as goal

pub returns-in_default : goal.returns-in_default
returns-in_default c =
    let counts =
    subst (λ (bs : List Bool). Counts bs c.args.number None) c.as_slice.ensures
    (subst (λ (o : Option ℕ). Counts c.as_slice.result.now c.args.number o) c.in_default.is c.commits_before.ensures) in
    no_such c.args.farm.now c.args.report c.args.moment c.args.plan c.requires.plan c.farms_differ_in_their_stores.ensures c.legal_runs_keep_farms.ensures.runs
    c.kept.ensures c.args.number counts

pub cut_after-requires-clause-counts : goal.cut_after-requires-clause-counts
cut_after-requires-clause-counts c =
    subst (λ (bs : List Bool). Counts bs c.args.number (Some c.in-Some.due)) c.as_slice.ensures
    (subst (λ (o : Option ℕ). Counts c.as_slice.result.now c.args.number o) c.in-Some.is c.commits_before.ensures)
