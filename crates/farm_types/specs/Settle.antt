-- What follows once frames are done, or depends came or went: groups are met, depends satisfied, and frames opened or blocked.
use Rattle.std.specs.Prelude.{ℕ, ◌&&◌, ◌||◌, ◌+◌, Bool, true, false, not, List, [], ◌∷◌, ◌++◌, map, filter, option_map, nat_lt, if◌then◌else◌}
use Rattle.std.specs.List.{list_all}
use Rattle.farm_types.specs.declared.depend.DependRow.{DependRow}
use Rattle.farm_types.specs.declared.depend.Group.{Group}
use Rattle.farm_types.specs.declared.depend.MetRow.{MetRow}
use Rattle.farm_types.specs.declared.slot_row.Frame.{Frame}
use Rattle.farm_types.specs.declared.slot_row.SlotRow.{SlotRow}
use Rattle.farm_types.specs.declared.states.FrameState.{FrameState}
use Rattle.farm_types.specs.declared.states.FrameState.TheVariants as frame_state
use Rattle.farm_types.specs.Booking.{is_waiting}
use Rattle.farm_types.specs.Depends.{are_done, groups_of, is_done, is_met, is_open}
use Rattle.farm_types.specs.Farm.{Farm, for_some}
use Rattle.farm_types.specs.declared.limits.TheConstants.{LAST_VERSION}

-- ---- groups and depends

-- a group is met now: it was, or its targets are done
abbrev pub is_met_now : Farm → DependRow → Group → Bool
is_met_now f d g = is_met f d g || are_done (is_done f.slots) g

-- a depend is satisfied once all its groups are met, at once where it has none
abbrev pub settled_row : Farm → DependRow → DependRow
settled_row f d = record d { met_all = d.met_all || list_all (is_met_now f d) (groups_of f d) }

abbrev pub met_row : DependRow → Group → MetRow
met_row d g = record { depend = d.depend; position = g.position }

-- the met groups of a depend that isn't satisfied, in order
abbrev pub met_rows_of : Farm → DependRow → List MetRow
met_rows_of f d = if (settled_row f d).met_all then [] else map (met_row d) (filter (is_met_now f d) (groups_of f d))

abbrev pub met_rows : Farm → List DependRow → List MetRow
met_rows f [] = []
met_rows f (d ∷ ds) = met_rows_of f d ++ met_rows f ds

-- the farm in which each group is marked that is met now
abbrev pub with_met : Farm → Farm
with_met f = record f { depends = map (settled_row f) f.depends; met = met_rows f f.depends }

-- ---- frames

abbrev pub is_blocked : FrameState → Bool
is_blocked frame_state.Depend = true
is_blocked other = false

-- the slot with its frame in that state
abbrev pub in_state : FrameState → SlotRow → SlotRow
in_state state s = record s { frame = option_map (λ (x : Frame). record x { state = state }) s.frame }

-- a blocked frame that is open waits
abbrev pub opens : Farm → ℕ → SlotRow → Bool
opens f slot s = for_some s.frame (λ x. is_blocked x.state) && is_open f slot

abbrev pub opened_from : Farm → ℕ → List SlotRow → List SlotRow
opened_from f slot [] = []
opened_from f slot (s ∷ ss) = (if opens f slot s then in_state frame_state.Waiting s else s) ∷ opened_from f (slot + 1) ss

abbrev pub with_opened : Farm → Farm
with_opened f = record f { slots = opened_from f 0 f.slots }

-- Each group is marked that is met now, and each blocked frame that waits in no other waits to be booked.
unfoldable pub settle : Farm → Farm
settle f = with_opened (with_met f)

-- how many frames open
abbrev pub count_opened : Farm → ℕ → List SlotRow → ℕ
count_opened f slot [] = 0
count_opened f slot (s ∷ ss) = (if opens f slot s then 1 else 0) + count_opened f (slot + 1) ss

unfoldable pub opened_by : Farm → ℕ
opened_by f = count_opened (with_met f) 0 f.slots

-- ---- new depends

-- one version more, up to the last
abbrev pub raised : ℕ → ℕ
raised version = if nat_lt version LAST_VERSION then version + 1 else version

abbrev pub kept_version : ℕ → ℕ
kept_version version = version

-- a frame that waits and isn't open is blocked, with its slot's version changed so
abbrev pub blocks : Farm → ℕ → SlotRow → Bool
blocks f slot s = for_some s.frame (λ x. is_waiting x.state) && not (is_open f slot)

abbrev pub blocked_row : (ℕ → ℕ) → SlotRow → SlotRow
blocked_row change s = record (in_state frame_state.Depend s) { version = change s.version }

abbrev pub blocked_from : (ℕ → ℕ) → Farm → ℕ → List SlotRow → List SlotRow
blocked_from change f slot [] = []
blocked_from change f slot (s ∷ ss) = (if blocks f slot s then blocked_row change s else s) ∷ blocked_from change f (slot + 1) ss

unfoldable pub with_blocked : (ℕ → ℕ) → Farm → Farm
with_blocked change f = record f { slots = blocked_from change f 0 f.slots }
