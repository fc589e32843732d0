use Rattle.std.proofs.Common.{◌≡◌, drop, length}
use Rattle.farm_books.specs.Books.{with_farm}
use Rattle.farm_draft.specs.Rows.{AreInstallable, put_lives, put_slots}
use Rattle.farm_changes.proofs.applying.install_rows.Given as goal

abbrev pub invariant-loop-entry : goal.invariant-loop-entry
invariant-loop-entry l =
    record {
      count : length l.books.farm.hosts ≡ length l.fn.books.farm.hosts;
      put : with_farm l.books (record l.books.farm { hosts = put_lives l.books.farm.hosts (drop l.entry-index l.fn.rows.hosts.items) })
          ≡ with_farm l.fn.books (record l.fn.books.farm { hosts = put_lives l.fn.books.farm.hosts l.fn.rows.hosts.items });
    }

abbrev pub invariant-loop-entry-2 : goal.invariant-loop-entry-2
invariant-loop-entry-2 l =
    record {
      ready : AreInstallable l.books.farm.subs l.books.farm.slots (drop l.entry-index l.fn.rows.slots.items);
      put : with_farm l.books (record l.books.farm { slots = put_slots l.books.farm.slots (drop l.entry-index l.fn.rows.slots.items) })
          ≡ with_farm l.fn.books (record l.fn.books.farm { hosts = put_lives l.fn.books.farm.hosts l.fn.rows.hosts.items; slots = put_slots l.fn.books.farm.slots l.fn.rows.slots.items });
    }
