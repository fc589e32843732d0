-- Flags of frames that are cleared in the book of depends.
use Rattle.std.specs.Prelude.{ℕ, ◌≡◌, ◌==◌, ◌&&◌, Bool, not, List, [], ◌∷◌, length, slice_get}
use Rattle.std.specs.List.{list_any}
use Rattle.farm_types.specs.declared.rows.LayerRow.{LayerRow}
use Rattle.farm_types.specs.declared.slot_row.Frame.{Frame}
use Rattle.farm_types.specs.declared.slot_row.SlotRow.{SlotRow}
use Rattle.farm_types.specs.Farm.{for_some}
use Rattle.farm_types.specs.Finish.{is_frame_of}
use Rattle.depend_graph.specs.Graph.{is_flagged}
use Rattle.depend_book.specs.Book.{DependLists}

abbrev pub is_listed : List ℕ → ℕ → Bool
is_listed slots slot = list_any (λ n. n == slot) slots

-- the flags of the slots that pass are cleared, and all else is as it was
pub record IsCleared (test : ℕ → Bool) (old new : DependLists) : Type 0 where
  pub rest : new ≡ record old { graph = record old.graph { done = new.graph.done } }
  pub count : length new.graph.done ≡ length old.graph.done
  pub flags : (n : ℕ) → is_flagged new.graph.done n ≡ (is_flagged old.graph.done n && not (test n))

-- the slot has a frame of the job's layer at that place
abbrev pub is_in_layer : List SlotRow → ℕ → ℕ → ℕ → Bool
is_in_layer slots job place slot = for_some (slice_get slots slot) (λ (s : SlotRow). for_some s.frame (λ (x : Frame). x.job == job && place == x.layer))

-- the slot has a frame of one of these layers of the job
abbrev pub is_in_layers : List SlotRow → ℕ → List LayerRow → ℕ → Bool
is_in_layers slots job layers slot =
    for_some (slice_get slots slot) (λ (s : SlotRow). for_some s.frame (λ (x : Frame). x.job == job && list_any (λ (l : LayerRow). l.place == x.layer) layers))

-- ---- the job

-- for each slot whether its frame is done and isn't one of the job
abbrev pub undone_flags : ℕ → List SlotRow → List Bool → List Bool
undone_flags job [] done = done
undone_flags job (s ∷ ss) [] = []
undone_flags job (s ∷ ss) (flag ∷ flags) = (flag && not (is_frame_of job s)) ∷ undone_flags job ss flags

-- no frame of the job is done
abbrev pub undone : ℕ → List SlotRow → DependLists → DependLists
undone job slots b = record b { graph = record b.graph { done = undone_flags job slots b.graph.done } }
