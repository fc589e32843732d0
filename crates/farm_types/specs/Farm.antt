-- The farm: plain lists, each in the order of its numbers.
use Rattle.std.specs.Prelude.{ℕ, ◌==◌, ◌&&◌, ◌+◌, ◌*◌, Bool, false, true, List, [], ◌∷◌, ◌++◌, filter, Option, None, Some, slice_get, slice_set, find, bytes_eq, if◌then◌else◌}
use Rattle.std.specs.List.{list_any}
use Rattle.farm_types.specs.declared.rows.ShowRow.{ShowRow}
use Rattle.farm_types.specs.declared.rows.AllocRow.{AllocRow}
use Rattle.farm_types.specs.declared.rows.SubRow.{SubRow}
use Rattle.farm_types.specs.declared.rows.LimitRow.{LimitRow}
use Rattle.farm_types.specs.declared.rows.HostRow.{HostRow}
use Rattle.farm_types.specs.declared.rows.JobRow.{JobRow}
use Rattle.farm_types.specs.declared.rows.LayerRow.{LayerRow}
use Rattle.farm_types.specs.declared.slot_row.Frame.{Frame}
use Rattle.farm_types.specs.declared.slot_row.SlotRow.{SlotRow}
use Rattle.farm_types.specs.declared.depend.DependRow.{DependRow}
use Rattle.farm_types.specs.declared.depend.MetRow.{MetRow}

-- Shows, allocations, limits and hosts are numbered by their places. Subscriptions, jobs, layers, depends and met groups carry their numbers.
-- A slot is numbered by its place, and the list ends with the last slot that was ever used: a slot past it is free, at version 0.
-- An entry sets `recorded`, which only the empty farm lacks.
pub record Farm : Type 0 where
  pub shows : List ShowRow
  pub allocs : List AllocRow
  pub subs : List SubRow
  pub limits : List LimitRow
  pub hosts : List HostRow
  pub jobs : List JobRow
  pub layers : List LayerRow
  pub slots : List SlotRow
  pub depends : List DependRow
  pub met : List MetRow
  pub next_job : ℕ
  pub next_depend : ℕ
  pub next_finish : ℕ
  pub moment : ℕ
  pub recorded : Bool

-- what a test says of a thing, and false where there is none
abbrev pub for_some : {X : Type 0} → Option X → (X → Bool) → Bool
for_some None test = false
for_some (Some x) test = test x

-- what a test says of a thing, and true where there is none
abbrev pub for_any : {X : Type 0} → Option X → (X → Bool) → Bool
for_any None test = true
for_any (Some x) test = test x

-- the list with the item at that place changed
abbrev pub changed_by : {X : Type 0} → List X → ℕ → (X → X) → Option X → List X
changed_by xs place change None = xs
changed_by xs place change (Some x) = slice_set xs place (change x)

abbrev pub changed_at : {X : Type 0} → List X → ℕ → (X → X) → List X
changed_at xs place change = changed_by xs place change (slice_get xs place)

-- the subscription, the job, and the layer at that place of a job, of that number
abbrev pub sub_at : Farm → ℕ → Option SubRow
sub_at f sub = find (λ s. s.sub == sub) f.subs

abbrev pub job_at : Farm → ℕ → Option JobRow
job_at f job = find (λ j. j.job == job) f.jobs

abbrev pub layer_in : List LayerRow → ℕ → ℕ → Option LayerRow
layer_in layers job place = find (λ l. l.job == job && l.place == place) layers

abbrev pub layer_at : Farm → ℕ → ℕ → Option LayerRow
layer_at f job place = layer_in f.layers job place

-- the layers of a job, in order
abbrev pub layers_of : List LayerRow → ℕ → List LayerRow
layers_of layers job = filter (λ (l : LayerRow). l.job == job) layers

-- whether the frame is that of the job, its layer and its position
abbrev pub is_placed : ℕ → ℕ → ℕ → Frame → Bool
is_placed job layer position x = x.job == job && x.layer == layer && x.position == position

-- the first slot with a frame that passes the test, counted from a place
abbrev pub slot_from : ℕ → (Frame → Bool) → List SlotRow → Option ℕ
slot_from place test [] = None
slot_from place test (s ∷ ss) = if for_some s.frame test then Some place else slot_from (place + 1) test ss

-- the number of a show's subscription to an allocation
abbrev pub sub_of : ℕ → ℕ → ℕ
sub_of show alloc = 16 * show + alloc

-- the number of the first host of that name, counted from a place
abbrev pub host_from : ℕ → List ℕ → List HostRow → Option ℕ
host_from place name [] = None
host_from place name (row ∷ rows) = if bytes_eq row.name name then Some place else host_from (place + 1) name rows

abbrev pub host_named : Farm → List ℕ → Option ℕ
host_named f name = host_from 0 name f.hosts

-- the number of the first show of that name, counted from a place
abbrev pub show_from : ℕ → List ℕ → List ShowRow → Option ℕ
show_from place name [] = None
show_from place name (row ∷ rows) = if bytes_eq row.name name then Some place else show_from (place + 1) name rows

abbrev pub show_named : Farm → List ℕ → Option ℕ
show_named f name = show_from 0 name f.shows

-- the number of the first limit of that name, counted from a place
abbrev pub limit_from : ℕ → List ℕ → List LimitRow → Option ℕ
limit_from place name [] = None
limit_from place name (row ∷ rows) = if bytes_eq row.name name then Some place else limit_from (place + 1) name rows

abbrev pub limit_named : Farm → List ℕ → Option ℕ
limit_named f name = limit_from 0 name f.limits

-- a facility is there when an allocation has it
abbrev pub is_facility : List ℕ → List AllocRow → Bool
is_facility facility allocs = list_any (λ row. bytes_eq row.facility facility) allocs

abbrev pub has_facility : Farm → List ℕ → Bool
has_facility f facility = is_facility facility f.allocs

-- an allocation's name: its facility, a point, and its tag
abbrev pub alloc_name : List ℕ → List ℕ → List ℕ
alloc_name facility tag = facility ++ 46 ∷ tag

-- the number of the first allocation of that name, counted from a place
abbrev pub alloc_from : ℕ → List ℕ → List AllocRow → Option ℕ
alloc_from place name [] = None
alloc_from place name (row ∷ rows) = if bytes_eq (alloc_name row.facility row.tag) name then Some place else alloc_from (place + 1) name rows

abbrev pub alloc_named : Farm → List ℕ → Option ℕ
alloc_named f name = alloc_from 0 name f.allocs

-- the farm of no rows, which no entry has made yet
abbrev pub empty_farm : Farm
empty_farm =
    record {
      shows = [];
      allocs = [];
      subs = [];
      limits = [];
      hosts = [];
      jobs = [];
      layers = [];
      slots = [];
      depends = [];
      met = [];
      next_job = 1;
      next_depend = 1;
      next_finish = 1;
      moment = 0;
      recorded = false;
    }
