use Rattle.std.proofs.Common.{◌≡◌, ◌++◌, ◌∙◌, List, map, ap}
use Rattle.std.proofs.lemmas.Result.{on_ok_weaker}
use Rattle.farm_types.specs.declared.rows.AllocRow.{AllocRow}
use Rattle.farm_types.specs.declared.rows.HostRow.{HostRow}
use Rattle.farm_types.specs.declared.rows.JobRow.{JobRow}
use Rattle.farm_types.specs.declared.rows.LayerRow.{LayerRow}
use Rattle.farm_types.specs.declared.rows.ShowRow.{ShowRow}
use Rattle.farm_types.specs.declared.rows.SubRow.{SubRow}
use Rattle.farm_types.specs.declared.slot_row.SlotRow.{SlotRow}
use Rattle.farm_rows.specs.declared.farm_row.FarmRow.TheVariants as row
use Rattle.farm_rows.specs.Rows.{numbered, slot_rows}
use Rattle.farm_books.specs.Books.{FarmBooks}
use Rattle.farm_books.specs.Rows.{book_rows}
use Rattle.farm_books.proofs.PushedRows.{then_more}
use Rattle.farm_books.proofs.books.Books.push_rows.Goals as goal

pub returns : goal.returns
returns c =
    let old = c.args.rows.now.items in
    let r1 = c.push_shows.new.rows.items in
    let r2 = c.push_allocs.new.rows.items in
    let r3 = c.push_subs.new.rows.items in
    let r4 = c.push_hosts.new.rows.items in
    let r5 = c.push_jobs.new.rows.items in
    let r6 = c.push_layers.new.rows.items in
    let r7 = c.push_slots.new.rows.items in
    let shows = c.in_ok-push_shows.ensures ∙ ap (λ (xs : List ShowRow). old ++ numbered row.Show 0 xs) c.rows.ensures.value in
    let allocs = c.in_ok-push_allocs.ensures ∙ ap (λ (xs : List AllocRow). r1 ++ numbered row.Alloc 0 xs) c.rows-2.ensures.value in
    let subs = c.in_ok-push_subs.ensures ∙ ap (λ (xs : List SubRow). r2 ++ map row.Sub xs) (c.in_ok-rows.ensures ∙ c.subs.ensures.rows) in
    let hosts = c.in_ok-push_hosts.ensures ∙ ap (λ (xs : List HostRow). r3 ++ numbered row.Host 0 xs) c.rows-4.ensures.value in
    let jobs = c.in_ok-push_jobs.ensures ∙ ap (λ (xs : List JobRow). r4 ++ map row.Job xs) c.in_ok-job_rows.ensures in
    let layers = c.in_ok-push_layers.ensures ∙ ap (λ (xs : List LayerRow). r5 ++ map row.Layer xs) c.in_ok-layer_rows.ensures in
    on_ok_weaker c.push_slots.result
    (λ (done : r7 ≡ r6 ++ slot_rows 0 c.slots.result.now).
    let slots = done ∙ ap (λ (xs : List SlotRow). r6 ++ slot_rows 0 xs) c.slots.ensures.value in
    let six = then_more r5 r6 r7 _ _ slots layers in
    let five = then_more r4 r5 r7 _ _ six jobs in
    let four = then_more r3 r4 r7 _ _ five hosts in
    let three = then_more r2 r3 r7 _ _ four subs in
    let two = then_more r1 r2 r7 _ _ three allocs in
    let all = then_more old r1 r7 _ _ two shows in
    all ∙ ap (λ (v : FarmBooks). old ++ book_rows v.farm) c.self.view_is)
    c.push_slots.ensures
