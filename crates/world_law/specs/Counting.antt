-- How completions are counted: those that change the farm, each with the line in which it stands.
use Rattle.std.specs.Prelude.{ℕ, List, [], ◌++◌, map, Option, None, Some}
use Rattle.farm_types.specs.declared.attempt.DoneItem.{DoneItem}
use Rattle.farm_types.specs.declared.entry.Entry.{Entry}
use Rattle.farm_types.specs.Run.{run_of}
use Rattle.world_law.specs.declared.counted.Counted.{Counted}
use Rattle.world_law.specs.Ends.{ends_along}
use Rattle.world_law.specs.World.{History}

-- a completion that stands in the host's line of that number
abbrev pub count_of : ℕ → ℕ → DoneItem → Counted
count_of line host d = record { attempt = d.attempt; host = host; exit = d.exit; line = line }

-- those of a line, by the host that sent it; operators report nothing
abbrev pub counts_from : ℕ → Option ℕ → List DoneItem → List Counted
counts_from line None ds = []
counts_from line (Some host) ds = map (count_of line host) ds

-- the history once entries of that line are recorded
abbrev pub with_entries : History → ℕ → Option ℕ → List Entry → History
with_entries h line host es = record { farm = run_of h.farm es; counted = h.counted ++ counts_from line host (ends_along h.farm es) }
