use Rattle.std.proofs.Common.{List, subst}
use Rattle.farm_types.specs.declared.rows.LayerRow.{LayerRow}
use Rattle.farm_books.specs.Cleared.{IsCleared, is_in_layers}
use Rattle.farm_books.proofs.ClearedFlags.{all_undone}
use Rattle.farm_books.proofs.clearing.clear_frames.Goals as goal

pub returns : goal.returns
returns c =
    let b = c.args.jobs.now in
    let cleared = subst (λ (ls : List LayerRow). IsCleared (is_in_layers b.slots c.args.job ls) c.args.depends.now c.clear_layers.new.depends) c.layers_of.ensures c.clear_layers.ensures in
    all_undone b.layers b.slots c.args.job c.args.depends.now c.clear_layers.new.depends c.requires.kept cleared
