-- The completions that change a farm, with their exits.
use Rattle.std.specs.Prelude.{ℕ, List, [], ◌∷◌, ◌++◌, Option, None, Some, if◌then◌else◌}
use Rattle.farm_types.specs.declared.attempt.DoneItem.{DoneItem}
use Rattle.farm_types.specs.declared.entry.Act.{Act}
use Rattle.farm_types.specs.declared.entry.Act.TheVariants.{Heard}
use Rattle.farm_types.specs.declared.entry.Entry.{Entry}
use Rattle.farm_types.specs.declared.entry.HeardAct.{HeardAct}
use Rattle.farm_types.specs.Farm.{Farm, changed_at, host_named}
use Rattle.farm_types.specs.Hosts.{heard_row}
use Rattle.farm_types.specs.Step.{after, at_moment, end_attempt, expire, is_live, moment_of}

-- those of a list, in order
abbrev pub ends_in : Farm → ℕ → ℕ → List DoneItem → List DoneItem
ends_in f host boot [] = []
ends_in f host boot (d ∷ ds) =
    if is_live f host boot d.attempt.slot d.attempt.version then d ∷ ends_in (end_attempt f host boot d) host boot ds else ends_in f host boot ds

-- those of a report, once its host was heard
abbrev pub ends_of : Farm → HeardAct → ℕ → Option ℕ → List DoneItem
ends_of f act moment None = []
ends_of f act moment (Some host) = ends_in (record f { hosts = changed_at f.hosts host (heard_row act.seq moment) }) host act.boot act.done

abbrev pub ends_by : Farm → ℕ → Act → List DoneItem
ends_by f moment (Heard act) = ends_of (expire f moment) act moment (host_named f act.host)
ends_by f moment act = []

-- those of an entry, and of entries one after the other
abbrev pub ends_at : Farm → Entry → List DoneItem
ends_at f e = ends_by (at_moment f (moment_of f e.moment)) (moment_of f e.moment) e.act

abbrev pub ends_along : Farm → List Entry → List DoneItem
ends_along f [] = []
ends_along f (e ∷ es) = ends_at f e ++ ends_along (after f e) es
