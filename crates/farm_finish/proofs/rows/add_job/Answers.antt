use Rattle.std.proofs.Common.{◌∙◌, ◌++◌, List, map, nat_eq, ap}
use Rattle.farm_types.specs.declared.rows.LayerRow.{LayerRow}
use Rattle.indexmap.specs.IndexMap.{get}
use Rattle.farm_finish.specs.Gone.{layer_gone}
use Rattle.farm_finish.proofs.RowLemmas.AddedJob.{adds_job}
use Rattle.farm_finish.proofs.rows.add_job.Goals as goal

pub returns : goal.returns
returns c =
    let turn = c.args.turn in
    adds_job c.args.book.now c.args.rows.now c.args.depends.now turn.finish turn.gone turn.job (get nat_eq c.args.versions.now) c.requires.laid c.requires.there
    c.args.changes.now.items c.put_job.new.changes.items c.job_goes.new.changes.items c.layers_go.new.changes.items c.frames_go.new.changes.items c.depends_go.new.changes.items
    c.in_ok-put_job.ensures c.in_ok-job_goes.ensures
    (c.in_ok-layers_go.ensures ∙ ap (λ (ls : List LayerRow). c.job_goes.new.changes.items ++ map (layer_gone turn.job) ls) c.layers_of.ensures)
    c.in_ok-frames_go.ensures c.in_ok-depends_go.ensures
