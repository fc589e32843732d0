-- The recorder's seat, which a call gives back: what its journal has.
use Rattle.std.specs.Prelude.{◌≡◌, ◌<◌, ◌+◌, ◌*◌, ◌^◌, List, Option, None, Some, length}
use Rattle.atomic_table.specs.declared.shared.Seat.{Seat}
use Rattle.cue_io.specs.declared.limits.TheConstants.{BYTE_LIMIT}
use Rattle.farm_types.specs.declared.entry.Entry.{Entry}
use Rattle.farm_types.specs.Farm.{Farm}
use Rattle.booking_rule.specs.declared.view.View.{View}
use Rattle.booking_rule.specs.Link.{opening_of}
use Rattle.booking_table.specs.Seats.{view}
use Rattle.farm_load.specs.line_answers.specs.declared.limits.TheConstants.{ENTRIES_EACH}
use Rattle.farm_load.specs.recording_turns.specs.Resting.{IsAtRest, split_in}

-- Each word shows what the farm of the journal says, and the seat holds nothing. The journal starts from this farm and has exactly these entries.
pub record HasJournal (v : View) (first : Farm) (entries : List Entry) : Type 0 where
  pub rests : IsAtRest v
  pub opening : v.opening ≡ opening_of first
  pub journal : v.journal ≡ entries

-- a seat was given back, and it has that journal
abbrev pub GivesSeat : Option (Seat (Unit {0}) View) → Farm → List Entry → Type 0
GivesSeat None first entries = ⊥
GivesSeat (Some seat) first entries = HasJournal (view seat) first entries

-- ---- before the first line

-- The journal starts from this farm and has exactly these entries. No seat was split off, so that no host is held by another one.
pub record IsBegun (v : View) (first : Farm) (entries : List Entry) : Type 0 where
  pub opening : v.opening ≡ opening_of first
  pub journal : v.journal ≡ entries
  pub alone : split_in v.desk ≡ 0

-- the entries of all lines that one session takes fit into the journal, those of a load too
abbrev pub HasRoom : View → Type 0
HasRoom v = length v.journal + ENTRIES_EACH * (BYTE_LIMIT + 2) < 2 ^ 64
