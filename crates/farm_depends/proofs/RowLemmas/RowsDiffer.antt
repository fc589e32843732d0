-- The slots of a change's rows differ.
use Rattle.std.proofs.Common.{map}
use Rattle.std.specs.Prelude.{nat_eq}
use Rattle.std.specs.List.{IsDistinct}
use Rattle.farm_types.specs.declared.entry.Entry.{Entry}
use Rattle.farm_types.specs.Farm.{Farm}
use Rattle.farm_changes.specs.Change.{Makes}
use Rattle.farm_changes.specs.declared.change.Change.{Change}
use Rattle.farm_draft.specs.Rows.{slot_of}

pub rows_differ : (f : Farm) (e : Entry) (change : Change) → Makes f e change → IsDistinct nat_eq (map slot_of change.rows.slots.items)
rows_differ f e change made = made.ready.rows.slots_differ
