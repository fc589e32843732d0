-- The changes of the store's rows that a change of the farm comes to.
use Rattle.std.specs.Prelude.{ℕ, ◌≡◌, ◌<◌, ◌==◌, ◌&&◌, ◌+◌, Bool, false, List, [], ◌∷◌, ◌++◌, find, map, length, slice_get, Option, None, Some}
use Rattle.std.specs.Prelude.{option_map, if◌then◌else◌}
use Rattle.farm_types.specs.declared.boot.BootLine.{BootLine}
use Rattle.farm_types.specs.declared.job.JobSpec.{JobSpec}
use Rattle.farm_types.specs.declared.job.LayerSpec.{LayerSpec}
use Rattle.farm_types.specs.declared.rows.HostRow.{HostRow}
use Rattle.farm_types.specs.declared.rows.JobRow.{JobRow}
use Rattle.farm_types.specs.declared.rows.LayerRow.{LayerRow}
use Rattle.farm_types.specs.declared.slot_row.Frame.{Frame}
use Rattle.farm_types.specs.declared.slot_row.SlotRow.{SlotRow}
use Rattle.farm_types.specs.declared.limits.TheConstants.{LAST_BOOT}
use Rattle.farm_types.specs.Farm.{Farm, host_named, job_at}
use Rattle.farm_types.specs.Hosts.{booted_row, is_same_life, new_host}
use Rattle.farm_types.specs.Jobs.{JobLists, frames_of, fresh_slot, is_free, job_row, layer_row, limit_in, slot_with, without_finished}
use Rattle.farm_types.specs.SpecLimits.{JobKeepsLimits}
use Rattle.farm_types.specs.Step.{limit_row, lists_of}
use Rattle.host_book.specs.Book.{alloc_of}
use Rattle.host_book.specs.Life.{with_life}
use Rattle.host_book.specs.declared.life.HostLife.{HostLife}
use Rattle.limit_book.specs.Book.{number_in}
use Rattle.job_book.specs.Book.{placing_of, with_pause, without_job}
use Rattle.job_book.specs.declared.placement.placing.Placing.{Placing}
use Rattle.job_book.specs.Lowest.{slot_for}
use Rattle.farm_rows.specs.declared.farm_row.FarmRow.TheVariants as row
use Rattle.farm_rows.specs.declared.row_key.RowKey.TheVariants as key
use Rattle.farm_rows.specs.declared.row_change.RowChange.{RowChange}
use Rattle.farm_rows.specs.declared.row_change.RowChange.TheVariants as change
use Rattle.farm_rows.specs.Changes.{slot_change}
use Rattle.farm_rows.specs.Rows.{frame_row}
use Rattle.farm_draft.specs.declared.slot_change.SlotChange.{SlotChange}
use Rattle.farm_changes.specs.declared.change.Change.{Change}
use Rattle.farm_changes.specs.declared.change.More.{More}
use Rattle.farm_changes.specs.declared.change.More.TheVariants as more

-- ---- hosts and slots

-- the host's row, with another life
abbrev pub life_put : ℕ × HostLife → Option HostRow → List RowChange
life_put e None = []
life_put e (Some r) = change.Put (row.Host e.0 (with_life e.1 r)) ∷ []

abbrev pub lives_put : List HostRow → List (ℕ × HostLife) → List RowChange
lives_put hosts [] = []
lives_put hosts (e ∷ es) = life_put e (slice_get hosts e.0) ++ lives_put hosts es

abbrev pub slot_put : SlotChange → RowChange
slot_put c = slot_change c.slot c.row

-- the last of the lives that are told of that host
abbrev pub last_life : ℕ → List (ℕ × HostLife) → Option HostLife → Option HostLife
last_life host [] life = life
last_life host (e ∷ es) life = last_life host es (if e.0 == host then Some e.1 else life)

abbrev pub life_over : Option HostLife → HostRow → HostRow
life_over None r = r
life_over (Some life) r = with_life life r

-- ---- a host that boots

abbrev pub reboot_put : BootLine → ℕ → ℕ → Option HostRow → List RowChange
reboot_put line moment host None = []
reboot_put line moment host (Some r) = change.Put (row.Host host (booted_row line moment r)) ∷ []

-- the host of the boot's name, where hosts got those lives before
abbrev pub boot_put : List HostRow → List (ℕ × HostLife) → BootLine → ℕ → ℕ → Option ℕ → List RowChange
boot_put hosts lives line alloc moment None = change.Put (row.Host (length hosts) (new_host line alloc moment)) ∷ []
boot_put hosts lives line alloc moment (Some host) = reboot_put line moment host (option_map (life_over (last_life host lives None)) (slice_get hosts host))

-- the host begins the life that is known, or has a boot number left for a new one
abbrev pub HasBootsLeft : BootLine → Option HostRow → Type 0
HasBootsLeft line None = Unit {0}
HasBootsLeft line (Some r) = is_same_life line r ≡ false → r.boot < LAST_BOOT

abbrev pub HasBoots : List HostRow → BootLine → Option ℕ → Type 0
HasBoots hosts line None = Unit {0}
HasBoots hosts line (Some host) = HasBootsLeft line (slice_get hosts host)

-- ---- jobs

abbrev pub paused_put : Bool → Option JobRow → List RowChange
paused_put paused None = []
paused_put paused (Some j) = change.Put (row.Job (with_pause paused j)) ∷ []

-- the finished job of that number leaves
abbrev pub left_put : Option ℕ → List RowChange
left_put None = []
left_put (Some job) = change.Delete (key.Job job) ∷ []

-- the layers of a job with these limits, from a place on
abbrev pub layers_put : ℕ → List (Option ℕ) → ℕ → List LayerSpec → List RowChange
layers_put job limits place [] = []
layers_put job limits place (l ∷ ls) = change.Put (row.Layer (layer_row job place (limit_in limits place) l)) ∷ layers_put job limits (place + 1) ls

-- a frame in the slot at a place
abbrev pub frame_put : ℕ → SlotRow → RowChange
frame_put place s = change.Put (row.Frame (frame_row place s))

-- the frames in order, each in the lowest free slot, where the slots are counted from a place
abbrev pub frames_put : ℕ → List SlotRow → List Frame → List RowChange
frames_put place [] [] = []
frames_put place [] (x ∷ xs) = frame_put place (fresh_slot x) ∷ frames_put (place + 1) [] xs
frames_put place (s ∷ ss) [] = []
frames_put place (s ∷ ss) (x ∷ xs) = if is_free s then frame_put place (slot_with x s) ∷ frames_put (place + 1) ss xs else frames_put (place + 1) ss (x ∷ xs)

-- a job of the next number, where that finished one leaves
abbrev pub job_put : JobLists → Option ℕ → ℕ → List (Option ℕ) → JobSpec → List RowChange
job_put b left show limits spec =
    left_put left
    ++ (change.Put (row.Job (job_row b.next_job show spec))
    ∷ (layers_put b.next_job limits 0 spec.layers ++ frames_put 0 b.slots (frames_of b.next_job 0 spec.layers)))

-- ---- the whole change

-- the row that owns texts, and what comes with it, where hosts got those lives before and that finished job leaves
abbrev pub more_put : Farm → List (ℕ × HostLife) → ℕ → Option ℕ → More → List RowChange
more_put f lives moment left more.Nothing = []
more_put f lives moment left (more.Show name) = change.Put (row.Show (length f.shows) (record { name = name })) ∷ []
more_put f lives moment left (more.Alloc facility tag) = change.Put (row.Alloc (length f.allocs) (record { facility = facility; tag = tag })) ∷ []
more_put f lives moment left (more.Sub sub size burst) = change.Put (row.Sub (record { sub = sub; size = size; burst = burst })) ∷ []
more_put f lives moment left (more.Limit planned name most) = change.Put (row.Limit (number_in planned) (limit_row name most)) ∷ []
more_put f lives moment left (more.Boot planned line) = boot_put f.hosts lives line (alloc_of planned) moment (host_named f line.host)
more_put f lives moment left (more.Paused job paused) = paused_put paused (job_at f job)
more_put f lives moment left (more.Job placing spec) = job_put (lists_of f) left placing.show placing.limits spec

-- one after the other: lives of hosts, slots, and the row that owns texts
abbrev pub changes_of : Farm → Change → Option ℕ → List RowChange
changes_of f c left = lives_put f.hosts c.rows.hosts.items ++ (map slot_put c.rows.slots.items ++ more_put f c.rows.hosts.items c.moment left c.more)

-- where a job is placed, the finished job of its name is the one that leaves, and no job and no layer has its number
pub record Leaves (b : JobLists) (left : Option ℕ) (spec : JobSpec) : Type 0 where
  pub without : without_finished spec.name b.jobs ≡ without_job left b.jobs
  pub no_job : find (λ (j : JobRow). j.job == b.next_job) b.jobs ≡ None
  pub no_layer : (place : ℕ) → find (λ (l : LayerRow). l.job == b.next_job && l.place == place) b.layers ≡ None

abbrev pub IsLeft : Farm → Option ℕ → More → Type 0
IsLeft f left (more.Job placing spec) = Leaves (lists_of f) left spec
IsLeft f left other = Unit {0}

-- the job keeps its limits, and is placed where these lists place it
pub record Places (b : JobLists) (placing : Placing) (spec : JobSpec) : Type 0 where
  pub limits : JobKeepsLimits spec
  pub placed : placing ≡ placing_of b placing.show placing.limits spec

-- ---- frames in slots that were found

-- the frames in order, each in its slot
abbrev pub rows_put : List SlotRow → List ℕ → List Frame → List RowChange
rows_put slots [] frames = []
rows_put slots (p ∷ ps) [] = []
rows_put slots (p ∷ ps) (x ∷ xs) = frame_put p (slot_for x (slice_get slots p)) ∷ rows_put slots ps xs
