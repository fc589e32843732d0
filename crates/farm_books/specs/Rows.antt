-- The rows of the store that the books have.
use Rattle.std.specs.Prelude.{List, map, ◌++◌}
use Rattle.farm_types.specs.Farm.{Farm}
use Rattle.farm_rows.specs.declared.farm_row.FarmRow.{FarmRow}
use Rattle.farm_rows.specs.declared.farm_row.FarmRow.TheVariants as row
use Rattle.farm_rows.specs.Rows.{numbered, slot_rows}

-- shows, allocations, subscriptions, hosts, jobs, layers, and the slots that were ever used
abbrev pub book_rows : Farm → List FarmRow
book_rows f =
    numbered row.Show 0 f.shows ++ (numbered row.Alloc 0 f.allocs ++ (map row.Sub f.subs ++ (numbered row.Host 0 f.hosts
    ++ (map row.Job f.jobs ++ (map row.Layer f.layers ++ slot_rows 0 f.slots)))))
