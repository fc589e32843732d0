-- Depends that come and go, and when the farm refuses them.
use Rattle.std.specs.Prelude.{ℕ, ℤ, ◌==◌, ◌+◌, ◌∷◌, [], ◌++◌, Bool, true, false, not, List, map, filter, length, sum_by, Option, None, Some, find, option_map, slice_get, nat_lt, nat_le, bytes_eq, decimal, if◌then◌else◌}
use Rattle.std.specs.List.{list_any}
use Rattle.std.specs.Ordering.{int_eq}
use Rattle.farm_types.specs.declared.depend.DependEnd.{DependEnd}
use Rattle.farm_types.specs.declared.depend.DependRow.{DependRow}
use Rattle.farm_types.specs.declared.depend.DependSpec.{DependSpec}
use Rattle.farm_types.specs.declared.depend.Group.{Group}
use Rattle.farm_types.specs.declared.depend.Place.{Place}
use Rattle.farm_types.specs.declared.refusal.Counted.TheVariants as counted
use Rattle.farm_types.specs.declared.refusal.Refusal.{Refusal}
use Rattle.farm_types.specs.declared.refusal.Refusal.TheVariants.{Finished, Unknown, Satisfied, SelfDepend, Started, Full}
use Rattle.farm_types.specs.declared.rows.JobRow.{JobRow}
use Rattle.farm_types.specs.declared.rows.LayerRow.{LayerRow}
use Rattle.farm_types.specs.declared.slot_row.Frame.{Frame}
use Rattle.farm_types.specs.declared.slot_row.SlotRow.{SlotRow}
use Rattle.farm_types.specs.declared.states.FrameState.{FrameState}
use Rattle.farm_types.specs.declared.states.FrameState.TheVariants as frame_state
use Rattle.farm_types.specs.Depends.{groups_left, groups_of, is_met}
use Rattle.farm_types.specs.Farm.{Farm, for_some, layer_at, layers_of}
use Rattle.farm_types.specs.Jobs.{is_finished_named, is_pending_named}
use Rattle.farm_types.specs.Names.{frame_name}
use Rattle.farm_types.specs.Ranges.{range_numbers}
use Rattle.farm_types.specs.Settle.{kept_version, raised, settle, with_blocked}
use Rattle.farm_types.specs.declared.limits.TheConstants.{LAST_DEPEND, MOST_DEPENDS, MOST_GROUPS}

-- ---- what a depend names

-- the pending job of that name
abbrev pub pending_named : Farm → List ℕ → Option JobRow
pending_named f name = find (is_pending_named name) f.jobs

-- the layer of that name in a job
abbrev pub layer_of_name : Farm → ℕ → List ℕ → Option LayerRow
layer_of_name f job name = find (λ (l : LayerRow). bytes_eq l.name name) (layers_of f.layers job)

abbrev pub has_number : ℤ → LayerRow → Bool
has_number number l = list_any (int_eq number) (range_numbers l.range)

-- the frame is there in its layer, where one is named
abbrev pub frame_refusal : LayerRow → Option ℤ → Option Refusal
frame_refusal l None = None
frame_refusal l (Some number) = if has_number number l then None else Some (Unknown (frame_name number l.name))

abbrev pub layer_refusal : List ℕ → Option ℤ → Option LayerRow → Option Refusal
layer_refusal name frame None = Some (Unknown name)
layer_refusal name frame (Some l) = frame_refusal l frame

-- the layer is there in the job, where one is named, then its frame
abbrev pub part_refusal : Farm → ℕ → Option (List ℕ) → Option ℤ → Option Refusal
part_refusal f job None frame = None
part_refusal f job (Some name) frame = layer_refusal name frame (layer_of_name f job name)

-- no pending job has the name: a finished one of these has it, or none
abbrev pub missing_among : List JobRow → List ℕ → Refusal
missing_among jobs name = if list_any (is_finished_named name) jobs then Finished name else Unknown name

abbrev pub job_missing : Farm → List ℕ → Refusal
job_missing f name = missing_among f.jobs name

abbrev pub end_refusal : Farm → Place → Option JobRow → Option Refusal
end_refusal f p None = Some (job_missing f p.job)
end_refusal f p (Some j) = part_refusal f j.job p.layer p.frame

-- the job of an end is there, then its layer, then its frame
abbrev pub place_refusal : Farm → Place → Option Refusal
place_refusal f p = end_refusal f p (pending_named f p.job)

abbrev pub number_of : Option JobRow → ℕ
number_of None = 0
number_of (Some j) = j.job

-- the end, with its job's number
abbrev pub end_of : Farm → Place → DependEnd
end_of f p = record { job = number_of (pending_named f p.job); layer = p.layer; frame = p.frame }

-- the next depend, of which nothing is met
abbrev pub new_depend : Farm → DependSpec → DependRow
new_depend f spec =
    record { depend = f.next_depend; kind = spec.kind; any = spec.any; met_all = false; waiter = end_of f spec.waiter; target = end_of f spec.target }

abbrev pub new_groups : Farm → DependSpec → List Group
new_groups f spec = groups_of f (new_depend f spec)

-- ---- refusals of a depend

abbrev pub layer_name_of : Option LayerRow → List ℕ
layer_name_of None = []
layer_name_of (Some l) = l.name

abbrev pub name_of_frame : Farm → Option Frame → List ℕ
name_of_frame f None = []
name_of_frame f (Some x) = frame_name x.number (layer_name_of (layer_at f x.job x.layer))

abbrev pub name_of_slot : Farm → Option SlotRow → List ℕ
name_of_slot f None = []
name_of_slot f (Some s) = name_of_frame f s.frame

-- the name of the frame in a slot
abbrev pub frame_name_at : Farm → ℕ → List ℕ
frame_name_at f slot = name_of_slot f (slice_get f.slots slot)

-- what the first gives, and else the second
abbrev pub or_else : {X : Type 0} → Option X → Option X → Option X
or_else None other = other
or_else (Some x) other = Some x

-- the first waiting frame that is among the targets of its own group
abbrev pub waits_for_itself : List Group → Option ℕ
waits_for_itself [] = None
waits_for_itself (g ∷ gs) = or_else (find (λ w. list_any (λ t. t == w) g.targets) g.waiters) (waits_for_itself gs)

abbrev pub is_running : FrameState → Bool
is_running frame_state.Running = true
is_running other = false

abbrev pub runs_at : List SlotRow → ℕ → Bool
runs_at slots slot = for_some (slice_get slots slot) (λ (s : SlotRow). for_some s.frame (λ x. is_running x.state))

-- the first waiting frame that runs
abbrev pub runs_already : List SlotRow → List Group → Option ℕ
runs_already slots [] = None
runs_already slots (g ∷ gs) = or_else (find (runs_at slots) g.waiters) (runs_already slots gs)

-- there is room for the depend, for its groups, and a number for it
abbrev pub depends_full : Farm → ℕ → Option Refusal
depends_full f groups =
    if nat_le MOST_DEPENDS (length f.depends) then Some (Full MOST_DEPENDS counted.Depends)
    else (if nat_lt MOST_GROUPS (groups_left f + groups) then Some (Full MOST_GROUPS counted.Groups)
    else (if nat_lt LAST_DEPEND f.next_depend then Some (Full LAST_DEPEND counted.DependNumbers) else None))

-- no frame waits for itself, then none that is to wait runs, then there is room
abbrev pub groups_refusal : Farm → List Group → Option Refusal
groups_refusal f groups =
    or_else (option_map (λ slot. SelfDepend (frame_name_at f slot)) (waits_for_itself groups))
    (or_else (option_map (λ slot. Started (frame_name_at f slot)) (runs_already f.slots groups)) (depends_full f (length groups)))

-- the waiting end is there, then the other, then its groups may come
unfoldable pub depend_refusal : Farm → DependSpec → Option Refusal
depend_refusal f spec = or_else (place_refusal f spec.waiter) (or_else (place_refusal f spec.target) (groups_refusal f (new_groups f spec)))

-- ---- depends that come

-- the farm with a depend, of which nothing is met
abbrev pub add_depend : Farm → DependSpec → Farm
add_depend f spec = record f { depends = f.depends ++ new_depend f spec ∷ []; next_depend = f.next_depend + 1 }

abbrev pub add_depends : Farm → List DependSpec → Farm
add_depends f [] = f
add_depends f (spec ∷ specs) = add_depends (add_depend f spec) specs

-- the first refusal of the depends in turn
abbrev pub depends_refusal : Farm → List DependSpec → Option Refusal
depends_refusal f [] = None
depends_refusal f (spec ∷ specs) = or_else (depend_refusal f spec) (depends_refusal (add_depend f spec) specs)

-- Frames that wait are blocked, and leave their version.
abbrev pub after_depend : Farm → DependSpec → Farm
after_depend f spec = with_blocked raised (settle (add_depend f spec))

-- The frames of a new job are blocked at the version of their slots.
abbrev pub with_depends : Farm → List DependSpec → Farm
with_depends f [] = f
with_depends f (spec ∷ specs) = with_blocked kept_version (settle (add_depends f (spec ∷ specs)))

-- how many frames wait in those groups of the depend that aren't met
abbrev pub unmet_in : Farm → Option DependRow → ℕ
unmet_in f None = 0
unmet_in f (Some d) = sum_by (λ (g : Group). length g.waiters) (filter (λ g. not (is_met f d g)) (groups_of f d))

abbrev pub depend_at : Farm → ℕ → Option DependRow
depend_at f depend = find (λ (d : DependRow). d.depend == depend) f.depends

unfoldable pub unmet_of : Farm → ℕ → ℕ
unmet_of f depend = unmet_in f (depend_at f depend)

-- ---- depends that go

abbrev pub drop_refusal : ℕ → Option DependRow → Option Refusal
drop_refusal depend None = Some (Unknown (decimal depend))
drop_refusal depend (Some d) = if d.met_all then Some Satisfied else None

abbrev pub satisfied_row : ℕ → DependRow → DependRow
satisfied_row depend d = if d.depend == depend then record d { met_all = true } else d

-- the farm in which all groups of the depend are met
abbrev pub dropped : Farm → ℕ → Farm
dropped f depend = record f { depends = map (satisfied_row depend) f.depends; met = filter (λ m. not (m.depend == depend)) f.met }
