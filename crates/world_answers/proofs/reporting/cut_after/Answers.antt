use Rattle.std.proofs.Common.{◌∙◌, ◌+◌, List, ap, take}
use Rattle.farm_types.specs.declared.entry.Entry.{Entry}
use Rattle.farm_types.specs.Run.{run_of}
use Rattle.world_answers.proofs.Reported.{cut_trial}
use Rattle.world_answers.proofs.reporting.cut_after.Goals as goal

pub returns : goal.returns
returns c =
    let made_is =
    c.in_ok-cut.ensures.1 ∙ ap (λ (es : List Entry). run_of c.args.farm.now (take (c.args.number + 1) es)) c.as_slice.ensures in
    cut_trial c.args.farm.now c.args.report c.args.moment c.args.plan c.requires.plan c.farms_differ_in_their_stores.ensures
    c.legal_runs_keep_farms.ensures.runs c.kept.ensures c.args.number c.args.due c.requires.counts c.in_ok-cut.cut.left c.in_ok-cut.ensures.0
    c.in_ok-cut.cut.made made_is c.first_entries.result c.first_entries.ensures
    c.in_ok-early.early c.in_ok-early.ensures c.has_entries.result c.has_entries.ensures
