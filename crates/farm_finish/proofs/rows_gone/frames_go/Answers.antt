use Rattle.std.proofs.Common.{◌∙◌, List, nat_eq, ap}
use Rattle.std.proofs.lemmas.Result.{on_ok_weaker}
use Rattle.farm_types.specs.declared.rows.LayerRow.{LayerRow}
use Rattle.indexmap.specs.IndexMap.{get}
use Rattle.farm_finish.specs.Adding.{is_of_job}
use Rattle.farm_books.specs.Cleared.{is_in_layers}
use Rattle.farm_finish.proofs.RowLemmas.AddedFrames.{adds_as}
use Rattle.farm_books.proofs.ClearedFlags.{all_in}
use Rattle.farm_finish.proofs.rows_gone.frames_go.Goals as goal

pub returns : goal.returns
returns c =
    let b = c.args.book.now in
    let job = c.args.job in
    on_ok_weaker c.layers_free.result
    (λ a. adds_as b.slots (get nat_eq c.args.versions.now) (is_in_layers b.slots job c.layers_of.result.now) (is_of_job b.slots job) c.args.changes.now.items c.layers_free.new.changes.items a
    (λ n. ap (λ (ls : List LayerRow). is_in_layers b.slots job ls n) c.layers_of.ensures ∙ all_in b.layers b.slots job n c.requires.kept)) c.layers_free.ensures
