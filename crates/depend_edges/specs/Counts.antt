-- What becomes of the counts of a depend.
use Rattle.std.specs.Prelude.{ℕ, ◌&&◌, ◌+◌, ◌-◌, Bool, true, not}
use Rattle.farm_types.specs.declared.depend.Group.{Group}
use Rattle.farm_types.specs.Farm.{changed_at}
use Rattle.depend_edges.specs.Listed.{ListedLists, is_enough}
use Rattle.depend_edges.specs.declared.listed.Count.{Count}

abbrev pub fewer : Count → Count
fewer c = record c { undone = c.undone - 1 }

abbrev pub more : Count → Count
more c = record c { undone = c.undone + 1 }

abbrev pub met_count : Count → Count
met_count c = record c { met = true }

-- a target of the group is done, or isn't any more
abbrev pub lowered : ℕ → ListedLists → ListedLists
lowered group d = record d { counts = changed_at d.counts group fewer }

abbrev pub raised : ℕ → ListedLists → ListedLists
raised group d = record d { counts = changed_at d.counts group more }

-- the group is met
abbrev pub met_at : ℕ → ListedLists → ListedLists
met_at group d = record d { counts = changed_at d.counts group met_count; unmet = d.unmet - 1 }

-- the group isn't met, and lacks no target
abbrev pub is_due : Group → Count → Bool
is_due g c = not c.met && is_enough g c.undone

-- the group isn't met, lacks that many targets, and would lack none with one fewer
abbrev pub becomes_due : Group → Count → ℕ → Bool
becomes_due g c lacked = not c.met && (not (is_enough g lacked) && is_enough g (lacked - 1))
