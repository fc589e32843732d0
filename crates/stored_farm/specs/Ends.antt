-- The checks of depends after the last row, over plain lists.
use Rattle.std.specs.Prelude.{ℕ, ◌==◌, ◌&&◌, ◌||◌, ◌+◌, Bool, false, not, List, [], ◌∷◌, Option, None, Some, slice_get, if◌then◌else◌}
use Rattle.std.specs.List.{list_all, list_any}
use Rattle.farm_types.specs.declared.depend.DependRow.{DependRow}
use Rattle.farm_types.specs.declared.depend.Group.{Group}
use Rattle.farm_types.specs.declared.depend.MetRow.{MetRow}
use Rattle.farm_types.specs.declared.slot_row.SlotRow.{SlotRow}
use Rattle.farm_types.specs.Booking.{is_waiting}
use Rattle.farm_types.specs.DependActs.{is_running, or_else}
use Rattle.farm_types.specs.Depends.{are_done, is_done, waits_in}
use Rattle.farm_types.specs.Farm.{for_some}
use Rattle.farm_types.specs.Settle.{is_blocked}
use Rattle.farm_rows.specs.Recovery.{StoredKey}

-- ---- marks

abbrev pub is_mark_of : ℕ → ℕ → MetRow → Bool
is_mark_of depend position m = m.depend == depend && m.position == position

-- the group of the depend is marked
abbrev pub is_marked_in : List MetRow → ℕ → Group → Bool
is_marked_in met depend g = list_any (is_mark_of depend g.position) met

-- the group is met by now, and isn't marked
abbrev pub lacks_mark : List MetRow → List SlotRow → ℕ → Group → Bool
lacks_mark met slots depend g = not (is_marked_in met depend g) && are_done (is_done slots) g

-- all groups of a depend that isn't satisfied are marked, or one isn't that is met by now
abbrev pub is_marked_wrongly : List MetRow → List SlotRow → DependRow → List Group → Bool
is_marked_wrongly met slots d groups =
    not d.met_all && (list_all (is_marked_in met d.depend) groups || list_any (lacks_mark met slots d.depend) groups)

-- the first depend that is marked wrongly
abbrev pub first_wrong : List MetRow → List SlotRow → List DependRow → List (List Group) → Option StoredKey
first_wrong met slots [] groups = None
first_wrong met slots (d ∷ ds) [] = None
first_wrong met slots (d ∷ ds) (gs ∷ groups) = if is_marked_wrongly met slots d gs then Some (9, d.depend) else first_wrong met slots ds groups

-- ---- frames that wait for others

-- the frame in the slot waits in one of the groups that isn't marked
abbrev pub waits_unmarked : List MetRow → ℕ → List Group → ℕ → Bool
waits_unmarked met depend groups slot = list_any (λ (g : Group). not (is_marked_in met depend g) && waits_in slot g) groups

-- in one of those of the depends
abbrev pub waits_unmet : List MetRow → List DependRow → List (List Group) → ℕ → Bool
waits_unmet met [] groups slot = false
waits_unmet met (d ∷ ds) [] slot = false
waits_unmet met (d ∷ ds) (gs ∷ groups) slot = waits_unmarked met d.depend gs slot || waits_unmet met ds groups slot

-- the flag of a slot, false past the last one
abbrev pub is_set : List Bool → ℕ → Bool
is_set flags slot = for_some (slice_get flags slot) (λ b. b)

-- the slot's frame waits or runs, though its slot's flag says that it is to wait for others
abbrev pub goes_on : Bool → SlotRow → Bool
goes_on waits s = for_some s.frame (λ x. is_waiting x.state || is_running x.state) && waits

-- it is blocked, though it has nothing to wait for
abbrev pub hangs : Bool → SlotRow → Bool
hangs waits s = for_some s.frame (λ x. is_blocked x.state) && not waits

-- the first slot that passes with its flag, counted from a place
abbrev pub first_flagged : (Bool → SlotRow → Bool) → List Bool → ℕ → List SlotRow → Option StoredKey
first_flagged test flags place [] = None
first_flagged test flags place (s ∷ ss) = if test (is_set flags place) s then Some (8, place) else first_flagged test flags (place + 1) ss

-- the first frame that goes on, then the first that hangs
abbrev pub first_stuck : List Bool → List SlotRow → Option StoredKey
first_stuck flags slots = or_else (first_flagged goes_on flags 0 slots) (first_flagged hangs flags 0 slots)
