use Rattle.std.proofs.Common.{sym, ◌∙◌}
use Rattle.recorder.proofs.Stays.{empty_list, filled_list, none_named, told_entry, told_stays, untold, untold_stays}
use Rattle.recorder.proofs.keeping.keep.Goals as goal

pub returns-then-is_empty-clause-kept : goal.returns-then-is_empty-clause-kept
returns-then-is_empty-clause-kept g c =
    λ f e kept legal names.
    untold_stays c.batches_make_the_rows.ensures.rows c.farms_differ_in_their_stores.ensures c.legal_runs_keep_farms.ensures.runs f e kept legal c.args.changes.now names
    (empty_list c.args.changes.now (sym c.is_empty.ensures ∙ c.if-is_empty.true)) (g.K.Keeper.holds c.args.keeper.now) (g.K.Keeper.left c.args.keeper.now)

pub returns-clause-kept : goal.returns-clause-kept
returns-clause-kept g c =
    λ f e kept legal names.
    told_stays c.batches_make_the_rows.ensures.rows c.farms_differ_in_their_stores.ensures c.legal_runs_keep_farms.ensures.runs f e kept legal c.args.changes.now names
    (filled_list c.args.changes.now (sym c.is_empty.ensures ∙ c.if-is_empty.false)) (g.K.Keeper.holds c.args.keeper.now) (g.K.Keeper.left c.args.keeper.now)
    (g.K.Keeper.holds c.commit.new.keeper) (g.K.Keeper.left c.commit.new.keeper) c.commit.result c.commit.ensures.taken c.commit.ensures.kept c.commit.ensures.left_ok c.commit.ensures.left_err

pub returns-clause-same : goal.returns-clause-same
returns-clause-same g c =
    λ f e kept legal names.
    none_named c.batches_make_the_rows.ensures.rows c.farms_differ_in_their_stores.ensures c.legal_runs_keep_farms.ensures.runs f e kept legal c.args.changes.now names
    (filled_list c.args.changes.now (sym c.is_empty.ensures ∙ c.if-is_empty.false))

pub returns-then-is_empty-clause-told : goal.returns-then-is_empty-clause-told
returns-then-is_empty-clause-told g c =
    λ f e kept legal names.
    untold c.batches_make_the_rows.ensures.rows c.farms_differ_in_their_stores.ensures c.legal_runs_keep_farms.ensures.runs f e kept legal c.args.changes.now names
    (empty_list c.args.changes.now (sym c.is_empty.ensures ∙ c.if-is_empty.true)) g.K.Keeper.commits c.args.keeper.now

pub returns-clause-told : goal.returns-clause-told
returns-clause-told g c =
    λ f e kept legal names.
    told_entry c.batches_make_the_rows.ensures.rows c.farms_differ_in_their_stores.ensures c.legal_runs_keep_farms.ensures.runs f e kept legal c.args.changes.now names
    (filled_list c.args.changes.now (sym c.is_empty.ensures ∙ c.if-is_empty.false)) g.K.Keeper.commits c.commit.result c.args.keeper.now c.commit.new.keeper c.commit.ensures.told
