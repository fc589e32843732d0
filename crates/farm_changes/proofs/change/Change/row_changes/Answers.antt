use Rattle.std.proofs.Common.{◌∙◌, ◌++◌, ℕ, List, map, ap}
use Rattle.host_book.specs.declared.life.HostLife.{HostLife}
use Rattle.farm_draft.specs.declared.slot_change.SlotChange.{SlotChange}
use Rattle.farm_changes.specs.RowChanges.{lives_put, more_put, slot_put}
use Rattle.farm_changes.specs.Change.{with_rows}
use Rattle.farm_changes.proofs.LimitsSet.{sets_limit}
use Rattle.farm_changes.proofs.RowsPut.{all_put, makes_books}
use Rattle.farm_changes.proofs.change.Change.row_changes.Goals as goal

pub returns : goal.returns
returns c =
    let f = c.args.books.now.farm in
    let change = c.args.self.now in
    let left = c.leaving-left.result in
    let rest = more_put f change.rows.hosts.items change.moment left change.more in
    let all = all_put (lives_put f.hosts c.as_slice.result.now) (map slot_put c.as_slice-2.result.now) rest c.new-changes.result.items c.put_lives.new.into.items c.put_slots.new.into.items c.put_more.new.into.items c.new-changes.ensures.items
    c.in_ok-put_lives.ensures c.in_ok-put_slots.ensures c.in_ok-put_more.ensures in
    makes_books f change left c.put_more.new.into.items c.requires.rows.hosts_there c.requires.rows.slots_ready c.leaving-left.ensures (sets_limit (with_rows f change) change.more c.requires.more)
    (all ∙ ap (λ (lives : List (ℕ × HostLife)). lives_put f.hosts lives ++ (map slot_put c.as_slice-2.result.now ++ rest)) c.as_slice.ensures.value
    ∙ ap (λ (slots : List SlotChange). lives_put f.hosts change.rows.hosts.items ++ (map slot_put slots ++ rest)) c.as_slice-2.ensures.value)
