-- The draft that the code's fields hold.
use Rattle.std.specs.Prelude.{ℕ, Option, nat_eq}
use Rattle.indexmap.specs.IndexMap.{get}
use Rattle.farm_types.specs.Farm.{Farm}
use Rattle.farm_types.specs.Step.{at_moment}
use Rattle.host_book.specs.Life.{with_life}
use Rattle.host_book.specs.declared.life.HostLife.{HostLife}
use Rattle.farm_draft.specs.Drafted.{Drafted}
use Rattle.farm_draft.specs.Laid.{laid}
use Rattle.farm_draft.specs.Rows.{AreChangesOf, put_row}
use Rattle.farm_draft.specs.declared.draft.Draft.TheInside.{Inside}
use Rattle.farm_draft.specs.declared.slot_change.SlotChange.{SlotChange}

-- the farm at the moment, with lives of hosts and rows of slots laid over it
abbrev pub over_farm : Farm → ℕ → (ℕ → Option HostLife) → (ℕ → Option SlotChange) → Drafted
over_farm f moment hosts slots =
    record { base = f; moment = moment; farm = record (at_moment f moment) { hosts = laid with_life hosts f.hosts; slots = laid put_row slots f.slots } }

abbrev pub drafted_of : Inside → Drafted
drafted_of a = over_farm a.books.now.farm a.moment (get nat_eq a.hosts) (get nat_eq a.slots)

-- each change is of its slot, and of the row that the books have there
abbrev pub KeepsChanges : Inside → Type 0
KeepsChanges a = AreChangesOf a.books.now.farm.slots (get nat_eq a.slots)
