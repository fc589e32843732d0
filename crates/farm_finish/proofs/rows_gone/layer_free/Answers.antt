use Rattle.std.proofs.Common.{sym}
use Rattle.std.proofs.lemmas.Result.{on_ok_weaker}
use Rattle.farm_books.proofs.ClearedLayer.{layer_listed}
use Rattle.farm_finish.proofs.rows_gone.layer_free.Goals as goal

pub returns : goal.returns
returns c =
    let slots = c.args.book.now.slots in
    let list = c.layer_slots.result.now in
    on_ok_weaker c.slots_free.result (λ e. record { frames = list; frames_are = λ n. sym (layer_listed slots c.args.job c.args.place list c.requires c.layer_slots.ensures n); items = e }) c.slots_free.ensures
