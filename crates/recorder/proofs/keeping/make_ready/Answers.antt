use Rattle.std.proofs.Common.{◌∙◌, ap}
use Rattle.farm_core.specs.declared.change.Change as changes
use Rattle.recorder.proofs.Recorded.{names_then, on_ok, ran_out, unchanged}
use Rattle.recorder.proofs.Told.{not_told}
use Rattle.recorder.proofs.keeping.make_ready.Goals as goal

pub returns-in_err-reserve-clause-kept : goal.returns-in_err-reserve-clause-kept
returns-in_err-reserve-clause-kept g c =
    unchanged (g.K.Keeper.holds c.args.keeper.now) (g.K.Keeper.left c.args.keeper.now) c.args.farm.now c.args.entry.now c.from_residual.result c.from_residual.ensures.1

pub returns-clause-ok : goal.returns-clause-ok
returns-clause-ok g c = on_ok c.keep.result c.in_ok-reserve.ensures.ok

pub returns-clause-kept : goal.returns-clause-kept
returns-clause-kept g c =
    let shown = c.batch.ensures ∙ ap (λ (x : changes.Change). x.rows) c.in_ok-reserve.ensures.ok in
    c.keep.ensures.kept c.args.farm.now c.args.entry.now c.kept.ensures c.requires.legal
    (names_then c.args.farm.now c.args.entry.now c.args.change.now c.requires.makes c.batch.result.now shown)

pub returns-in_err-reserve-clause-keeper : goal.returns-in_err-reserve-clause-keeper
returns-in_err-reserve-clause-keeper g c = ran_out g.K.Keeper.tells g.K.Keeper.faults c.args.keeper.now c.from_residual.result c.from_residual.ensures.1

pub returns-clause-same : goal.returns-clause-same
returns-clause-same g c =
    let shown = c.batch.ensures ∙ ap (λ (x : changes.Change). x.rows) c.in_ok-reserve.ensures.ok in
    c.keep.ensures.same c.args.farm.now c.args.entry.now c.kept.ensures c.requires.legal
    (names_then c.args.farm.now c.args.entry.now c.args.change.now c.requires.makes c.batch.result.now shown)

pub returns-in_err-reserve-clause-told : goal.returns-in_err-reserve-clause-told
returns-in_err-reserve-clause-told g c =
    not_told g.K.Keeper.commits c.args.farm.now c.args.entry.now c.args.keeper.now c.from_residual.result c.from_residual.ensures.1

pub returns-clause-told : goal.returns-clause-told
returns-clause-told g c =
    let shown = c.batch.ensures ∙ ap (λ (x : changes.Change). x.rows) c.in_ok-reserve.ensures.ok in
    c.keep.ensures.told c.args.farm.now c.args.entry.now c.kept.ensures c.requires.legal
    (names_then c.args.farm.now c.args.entry.now c.args.change.now c.requires.makes c.batch.result.now shown)
