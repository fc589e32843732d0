use Rattle.world_answers.proofs.Begun.{began}
use Rattle.world_answers.proofs.walking.begin_by.Goals as goal

pub returns : goal.returns
returns c =
    began c.batches_make_the_rows.ensures.rows c.farms_differ_in_their_stores.ensures c.legal_runs_keep_farms.ensures.runs c.args.farm.now c.args.entry.now
    c.args.change c.kept.ensures c.requires.condition c.requires.formed c.requires.makes c.batch.result.now c.batch.ensures c.is_empty-stored.result
    c.is_empty-stored.ensures c.heard-heard.result c.heard-heard.ensures c.in_ok-farm.farm c.in_ok-farm.ensures
