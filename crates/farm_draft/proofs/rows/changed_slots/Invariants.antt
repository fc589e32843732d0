use Rattle.std.proofs.Common.{List, nat_eq}
use Rattle.indexmap.specs.IndexMap.{get}
use Rattle.farm_types.specs.declared.slot_row.SlotRow.{SlotRow}
use Rattle.farm_draft.specs.Rows.{AreChangesOf}
use Rattle.farm_draft.proofs.PutRows.{Picks}
use Rattle.farm_draft.proofs.rows.changed_slots.Given as goal

-- the changes that were kept, with those that are left, come to what all come to
abbrev pub invariant-loop-slot : goal.invariant-loop-slot
invariant-loop-slot l = (slots : List SlotRow) (changes : AreChangesOf slots (get nat_eq l.fn.over)) → Picks slots l.fn.over.entries changes l.changes.items l.slot-iterator
