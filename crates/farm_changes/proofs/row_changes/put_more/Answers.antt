use Rattle.std.proofs.Common.{subst}
use Rattle.host_book.specs.Book.{alloc_of}
use Rattle.farm_changes.specs.Change.{FitsMore, with_rows}
use Rattle.farm_changes.proofs.RowsPut.{has_boots, places_job}
use Rattle.farm_changes.proofs.row_changes.put_more.Goals as goal

pub put_boot-requires : goal.put_boot-requires
put_boot-requires c =
    let f = c.args.books.now.farm in
    let change = c.args.change.now in
    has_boots f.hosts change.rows.hosts.items c.in-Boot.line (alloc_of c.in-Boot.plan) c.in-Boot.plan (subst (FitsMore (with_rows f change)) c.in-Boot.is c.requires.more)

pub put_job-requires : goal.put_job-requires
put_job-requires c =
    let f = c.args.books.now.farm in
    let change = c.args.change.now in
    places_job f change c.in-Job.placing c.in-Job.spec c.requires.rows.slots_ready (subst (FitsMore (with_rows f change)) c.in-Job.is c.requires.more)
