-- Changes of one slot's row.
use Rattle.std.specs.Prelude.{ℕ, ◌≡◌, [], ◌∷◌, false, None, Some, slice_get}
use Rattle.farm_types.specs.declared.answer.Answer.TheVariants as answer
use Rattle.farm_types.specs.declared.slot_row.SlotRow.{SlotRow}
use Rattle.farm_types.specs.Farm.{Farm}
use Rattle.farm_types.specs.Operators.{count_at}
use Rattle.farm_changes.specs.declared.act_answer.ActAnswer.TheVariants as known
use Rattle.farm_changes.specs.declared.change.Change.{Change}
use Rattle.farm_changes.specs.declared.change.More.TheVariants as more
use Rattle.farm_changes.specs.declared.change.Reserved.TheVariants as taken

-- the change sets that row of the slot in place of the old one, by which so many attempts end
pub record SetsRow (moment slot ended : ℕ) (old row : SlotRow) (change : Change) : Type 0 where
  pub hosts : change.rows.hosts.items ≡ []
  pub slots : change.rows.slots.items ≡ record { slot = slot; was = old; row = row } ∷ []
  pub is : change
      ≡ record { moment = moment; answer = known.Whole (answer.Ended ended); heard = None; rows = change.rows; more = more.Nothing; reserved = false; memory = taken.None }

-- the change sets what becomes of the row that stands in the slot, whose attempt ends
pub record ChangesRow (f : Farm) (moment slot : ℕ) (become : SlotRow → SlotRow) (change : Change) : Type 0 where
  pub old : SlotRow
  pub stands : slice_get f.slots slot ≡ Some old
  pub sets : SetsRow moment slot (count_at (Some old)) old (become old) change
