-- What asking for a list answers.
use Rattle.std.specs.Prelude.{◌≡◌, ℕ, List, [], ◌∷◌, Option, None, Some, option_and_then, option_map, slice_get, Result, Ok, Err, ⊤}
use Rattle.farm_types.specs.declared.refusal.Refusal.{Refusal}
use Rattle.farm_types.specs.declared.rows.JobRow.{JobRow}
use Rattle.farm_types.specs.declared.rows.LayerRow.{LayerRow}
use Rattle.farm_types.specs.declared.slot_row.SlotRow.{SlotRow}
use Rattle.farm_types.specs.DependActs.{job_missing, pending_named}
use Rattle.farm_types.specs.Farm.{Farm}
use Rattle.farm_lines.specs.declared.list_row.ListRow.{ListRow}
use Rattle.farm_lines.specs.declared.reply.ListReply.{ListReply}
use Rattle.farm_lines.specs.Lists.{frame_row, proc_in}
use Rattle.farm_types.specs.declared.fault.FarmFault.{FarmFault}
use Rattle.farm_types.specs.declared.fault.FarmFault.TheVariants as fault
use Rattle.cue_query.specs.declared.page.Page.{Page}
use Rattle.cue_query.specs.Pages.{offered_all}

-- the page that was to be shown, or exactly its refusal; out of memory needs no cause
abbrev pub Shows : Result ListReply Refusal → Result ListReply FarmFault → Type 0
Shows shown (Ok page) = shown ≡ Ok page
Shows shown (Err (fault.Refused why)) = shown ≡ Err why
Shows shown (Err fault.NoMemory) = Unit {0}

-- these rows were listed on the page
abbrev pub HasListed : Result (List ListRow) Refusal → Page → Page → Type 0
HasListed (Ok rows) old new = new ≡ offered_all old rows
HasListed (Err why) old new = ⊥

-- these rows were listed on the page, or they are refused
abbrev pub IsListed : Result (List ListRow) Refusal → Page → Result ⊤ FarmFault → Page → Type 0
IsListed listed old (Ok none) new = HasListed listed old new
IsListed listed old (Err (fault.Refused why)) new = listed ≡ Err why
IsListed listed old (Err fault.NoMemory) new = Unit {0}

-- the number of the pending job of that name, or why there is none
abbrev pub FindsJob : Farm → List ℕ → Result ℕ FarmFault → Type 0
FindsJob f name (Ok job) = option_map (λ (j : JobRow). j.job) (pending_named f name) ≡ Some job
FindsJob f name (Err (fault.Refused why)) = (pending_named f name ≡ None) × (why ≡ job_missing f name)
FindsJob f name (Err fault.NoMemory) = Unit {0}

-- ---- parts of lists

-- the layer is one of the farm's
abbrev pub IsLayerOf : Farm → LayerRow → Type 0
IsLayerOf f l = (place : ℕ) × (slice_get f.layers place ≡ Some l)

-- one row, or none
abbrev pub rows_if : Option ListRow → List ListRow
rows_if None = []
rows_if (Some row) = row ∷ []

abbrev pub rows_of_slot : List ℕ → SlotRow → List ListRow
rows_of_slot layer s = rows_if (frame_row layer s)

-- the row of the frame in the slot of that number, of the layer of that name
abbrev pub frame_at : Farm → List ℕ → ℕ → Option ListRow
frame_at f layer slot = option_and_then (frame_row layer) (slice_get f.slots slot)

abbrev pub rows_of_proc : Farm → SlotRow → List ListRow
rows_of_proc f s = rows_if (proc_in f s)
