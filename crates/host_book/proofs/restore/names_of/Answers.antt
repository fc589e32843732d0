use Rattle.std.proofs.Common.{◌≡◌, ◌∙◌, ◌≤◌, length, string_bytes, take, refl, sym, ap, arith}
use Rattle.std.proofs.lemmas.List.{length-map, length-take-le}
use Rattle.std.proofs.lemmas.Option.{slice_get_read}
use Rattle.host_book.specs.Inside.{name_of}
use Rattle.host_book.proofs.Restored.{next_unnamed}
use Rattle.host_book.proofs.restore.names_of.Goals as goal

pub add_name-requires-clause-new : goal.add_name-requires-clause-new
add_name-requires-clause-new c =
    let rows = c.args.rows.now in
    let i = c.loop-row.row-index in
    let row = c.row-item.result in
    let at = slice_get_read rows (length rows) i row refl c.loop-row-test.true c.row-item.is in
    let name : string_bytes c.in_ok-name.name ≡ row.name = c.in_ok-name.ensures.ok ∙ c.as_str.ensures in
    next_unnamed string_bytes c.loop-row.names.keys rows i row (string_bytes c.in_ok-name.name) c.requires.differ at name c.loop-row.invariant.named

pub add_name-requires-clause-capacity : goal.add_name-requires-clause-capacity
add_name-requires-clause-capacity c =
    let rows = c.args.rows.now in
    let i = c.loop-row.row-index in
    let keys = c.loop-row.names.keys in
    let low : i ≤ length rows = omega arith in
    let count : length keys ≡ i = sym (length-map keys string_bytes) ∙ ap length c.loop-row.invariant.named ∙ length-map (take i rows) name_of ∙ length-take-le i rows low in
    omega (arith, count, c.loop-row.invariant.capacity, c.requires.count)
