-- A small farm that recovery gives back, and rows at fault.
use Rattle.std.specs.Prelude.{ℕ, [], ◌∷◌, codes, map, None, Some, Result}
use Rattle.farm_types.specs.declared.rows.LayerRow.{LayerRow}
use Rattle.farm_types.specs.declared.slot_row.SlotRow.{SlotRow}
use Rattle.farm_types.specs.declared.states.FrameState.TheVariants as frame_state
use Rattle.farm_types.specs.Farm.{Farm}
use Rattle.farm_rows.specs.Examples.{attempt, frame_in, host_one, limit_called, small_farm, used}
use Rattle.farm_rows.specs.Recovery.{Said, StoredKey, farm_said}
use Rattle.farm_rows.specs.Rows.{rows_in, rows_of}

-- a frame runs, one is blocked by it, and a slot is free
abbrev pub runs_first : SlotRow
runs_first = record { version = 1; frame = Some (record (frame_in 0) { state = frame_state.Running }); proc = Some (record attempt { slot = 0 }) }

abbrev pub waits_blocked : SlotRow
waits_blocked = record { version = 0; frame = Some (record (frame_in 1) { state = frame_state.Depend }); proc = None }

abbrev pub whole_farm : Farm
whole_farm = record small_farm { slots = runs_first ∷ waits_blocked ∷ used 0 ∷ used 3 ∷ []; met = [] }

-- what the farm's rows say, in each format
abbrev pub said_of : Farm → Result Said StoredKey
said_of f = farm_said (rows_of f)

abbrev pub said_in : ℕ → Farm → Result Said StoredKey
said_in format f = farm_said (rows_in format f)

-- the farm without its limits
abbrev pub without_limit : LayerRow → LayerRow
without_limit l = record l { limit = None }

abbrev pub old_farm : Farm
old_farm = record whole_farm { limits = []; layers = map without_limit whole_farm.layers }

-- the farm with something wrong in it
abbrev pub lacking_a_limit : Farm
lacking_a_limit = record whole_farm { limits = limit_called (codes "arnold") ∷ [] }

abbrev pub without_blocking : Farm
without_blocking = record whole_farm { slots = runs_first ∷ record waits_blocked { frame = Some (frame_in 1) } ∷ used 0 ∷ used 3 ∷ [] }

abbrev pub down_host : Farm
down_host = record whole_farm { hosts = record host_one { boot = 2 } ∷ [] }

abbrev pub lacking_a_frame : Farm
lacking_a_frame = record whole_farm { slots = runs_first ∷ [] }

abbrev pub without_the_show : Farm
without_the_show = record whole_farm { shows = [] }
