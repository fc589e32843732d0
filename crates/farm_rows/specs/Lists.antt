-- The farm of plain lists.
use Rattle.std.specs.Prelude.{[]}
use Rattle.farm_types.specs.Farm.{Farm}
use Rattle.farm_rows.specs.declared.book_lists.BookLists.{BookLists}

-- without depends
abbrev pub farm_in : BookLists → Farm
farm_in l =
    record {
      shows = l.shows.items;
      allocs = l.allocs.items;
      subs = l.subs.items;
      limits = l.limits.items;
      hosts = l.hosts.items;
      jobs = l.jobs.items;
      layers = l.layers.items;
      slots = l.slots.items;
      depends = [];
      met = [];
      next_job = l.next_job;
      next_depend = 1;
      next_finish = l.next_finish;
      moment = l.moment;
      recorded = l.recorded;
    }
