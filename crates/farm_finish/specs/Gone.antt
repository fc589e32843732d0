-- The changes of rows as one job finishes.
use Rattle.std.specs.Prelude.{ℕ, ◌-◌, List, [], ◌∷◌, ◌++◌, map, nat_lt, slice_get, Option, None, Some, if◌then◌else◌}
use Rattle.farm_types.specs.declared.rows.JobRow.{JobRow}
use Rattle.farm_types.specs.declared.rows.LayerRow.{LayerRow}
use Rattle.farm_types.specs.declared.slot_row.SlotRow.{SlotRow}
use Rattle.farm_types.specs.Finish.{finished_row}
use Rattle.farm_types.specs.Settle.{raised}
use Rattle.farm_types.specs.declared.limits.TheConstants.{MOST_FINISHED}
use Rattle.farm_rows.specs.declared.farm_row.FarmRow.TheVariants as row
use Rattle.farm_rows.specs.declared.row_change.RowChange.{RowChange}
use Rattle.farm_rows.specs.declared.row_change.RowChange.TheVariants as change
use Rattle.farm_rows.specs.declared.row_key.RowKey.TheVariants as key
use Rattle.depend_graph.specs.Graph.{Watched}

-- a slot that was never used has version 0
abbrev pub version_in : Option SlotRow → ℕ
version_in None = 0
version_in (Some s) = s.version

-- the slot is free, one version later
abbrev pub freed_frame : List SlotRow → ℕ → RowChange
freed_frame slots slot = change.Put (row.Frame (record { slot = slot; version = raised (version_in (slice_get slots slot)); frame = None }))

-- the finished job that leaves, where one does
abbrev pub job_gone : Option ℕ → List RowChange
job_gone None = []
job_gone (Some job) = change.Delete (key.Job job) ∷ []

abbrev pub layer_gone : ℕ → LayerRow → RowChange
layer_gone job l = change.Delete (key.Layer job l.place)

abbrev pub mark_gone : ℕ → Watched → RowChange
mark_gone depend w = change.Delete (key.Met depend w.group.position)

-- the depend, with a mark for each of its groups
abbrev pub depend_gone : (ℕ → List Watched) → ℕ → List RowChange
depend_gone groups n = change.Delete (key.Depend n) ∷ map (mark_gone n) (groups n)

abbrev pub depends_gone : (ℕ → List Watched) → List ℕ → List RowChange
depends_gone groups [] = []
depends_gone groups (n ∷ ns) = depend_gone groups n ++ depends_gone groups ns

-- what goes with a job: its layers, the frames in these slots, and these depends
abbrev pub rows_gone : List SlotRow → (ℕ → List Watched) → ℕ → List LayerRow → List ℕ → List ℕ → List RowChange
rows_gone slots groups job layers frames depends = map (layer_gone job) layers ++ (map (freed_frame slots) frames ++ depends_gone groups depends)

abbrev pub job_put : List SlotRow → ℕ → JobRow → List RowChange
job_put slots finish j = change.Put (row.Job (finished_row slots finish j)) ∷ []

-- Once so many jobs have finished, first those that were and then these in turn, more than are kept: the first one that is still there, which leaves.
abbrev pub leaving : List ℕ → List ℕ → ℕ → Option ℕ
leaving finished jobs count = if nat_lt MOST_FINISHED count then slice_get (finished ++ jobs) (count - MOST_FINISHED - 1) else None
