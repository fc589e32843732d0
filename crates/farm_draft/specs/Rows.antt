-- Rows that are put in, one after another.
use Rattle.std.specs.Prelude.{ℕ, ◌≡◌, ◌≢◌, ◌<◌, List, [], ◌∷◌, map, length, nat_eq, slice_get, slice_set, Option, None, Some, All}
use Rattle.std.specs.List.{IsDistinct}
use Rattle.farm_types.specs.declared.rows.HostRow.{HostRow}
use Rattle.farm_types.specs.declared.rows.SubRow.{SubRow}
use Rattle.farm_types.specs.declared.slot_row.SlotRow.{SlotRow}
use Rattle.farm_types.specs.Farm.{Farm, changed_at}
use Rattle.farm_books.specs.Install.{CanInstall}
use Rattle.host_book.specs.Life.{life_of, with_life}
use Rattle.host_book.specs.declared.life.HostLife.{HostLife}
use Rattle.farm_draft.specs.Laid.{laid}
use Rattle.farm_draft.specs.declared.rows.Rows.{Rows}
use Rattle.farm_draft.specs.declared.slot_change.SlotChange.{SlotChange}

abbrev pub put_lives : List HostRow → List (ℕ × HostLife) → List HostRow
put_lives hosts [] = hosts
put_lives hosts (e ∷ es) = put_lives (changed_at hosts e.0 (with_life e.1)) es

abbrev pub put_slots : List SlotRow → List SlotChange → List SlotRow
put_slots slots [] = slots
put_slots slots (c ∷ cs) = put_slots (slice_set slots c.slot c.row) cs

-- the farm with those rows
abbrev pub installed : Farm → Rows → Farm
installed f rows = record f { hosts = put_lives f.hosts rows.hosts.items; slots = put_slots f.slots rows.slots.items }

-- each row of a slot may be put in at its turn
abbrev pub AreInstallable : List SubRow → List SlotRow → List SlotChange → Type 0
AreInstallable subs slots [] = Unit {0}
AreInstallable subs slots (c ∷ cs) = CanInstall subs slots c.slot c.row × AreInstallable subs (slice_set slots c.slot c.row) cs

-- ---- what a draft hands out

abbrev pub slot_of : SlotChange → ℕ
slot_of c = c.slot

abbrev pub row_of : SlotChange → SlotRow
row_of c = c.row

-- the slot has the row that is said to stand in it
abbrev pub Stood : List SlotRow → SlotChange → Type 0
Stood slots c = slice_get slots c.slot ≡ Some c.was

-- the change is of that slot, and of the row that stands in it
pub record IsChangeOf (slots : List SlotRow) (slot : ℕ) (c : SlotChange) : Type 0 where
  pub slot_is : c.slot ≡ slot
  pub stood : Stood slots c

-- each change is of its slot
abbrev pub AreChangesOf : List SlotRow → (ℕ → Option SlotChange) → Type 0
AreChangesOf slots over = (n : ℕ) (c : SlotChange) → over n ≡ Some c → IsChangeOf slots n c

-- the slot gets another row
abbrev pub IsChanged : SlotChange → Type 0
IsChanged c = c.was ≢ c.row

-- the row that a slot gets, in place of the other one
abbrev pub put_row : SlotChange → SlotRow → SlotRow
put_row c s = c.row

-- of the changes that are laid over the slots, exactly those that give them other rows, each once
pub record ArePicked (slots : List SlotRow) (over : ℕ → Option SlotChange) (cs : List SlotChange) : Type 0 where
  pub same : put_slots slots cs ≡ laid put_row over slots
  pub differ : All IsChanged cs
  pub over_are : All (λ c. over c.slot ≡ Some c) cs
  pub distinct : IsDistinct nat_eq (map slot_of cs)

-- the host is there and has another life
abbrev pub HasOtherLife : Option HostRow → HostLife → Type 0
HasOtherLife None life = ⊥
HasOtherLife (Some row) life = life_of row ≢ life

abbrev pub IsOtherLife : List HostRow → ℕ × HostLife → Type 0
IsOtherLife hosts e = HasOtherLife (slice_get hosts e.0) e.1

-- the host isn't there, or has that life
abbrev pub HasSameLife : Option HostRow → HostLife → Type 0
HasSameLife None life = Unit {0}
HasSameLife (Some row) life = life_of row ≡ life

-- the hosts are there, each row of a slot may be put in and takes the place of the one that stands there, and no slot has two rows
pub record AreReady (f : Farm) (rows : Rows) : Type 0 where
  pub hosts_there : All (λ e. e.0 < length f.hosts) rows.hosts.items
  pub slots_ready : AreInstallable f.subs f.slots rows.slots.items
  pub slots_stood : All (Stood f.slots) rows.slots.items
  pub slots_differ : IsDistinct nat_eq (map slot_of rows.slots.items)
