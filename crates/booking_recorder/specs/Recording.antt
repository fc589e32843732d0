-- A farm with its keeper and the recorder's seat.
use Rattle.std.specs.Prelude.{◌≡◌, ◌≤◌, ℕ, [], length}
use Rattle.atomic_table.specs.Seated.{TableId}
use Rattle.atomic_table.specs.declared.shared.Seat.{Seat}
use Rattle.farm_types.specs.Farm.{Farm}
use Rattle.farm_types.specs.Kept.{IsKeptFarm}
use Rattle.farm_types.specs.Run.{IsLegal}
use Rattle.booking_rule.specs.declared.view.View.{View}
use Rattle.booking_rule.specs.Kept.{farm_in}
use Rattle.booking_rule.specs.Link.{farm_of}
use Rattle.booking_table.specs.Seats.{view, IsSeatOf}
use Rattle.recording_turns.specs.Resting.{IsAtRest, split_in}

-- the farm, the keeper, what the seat knows, and how often the keeper's store failed since the recorder was made
pub record Recording (K : Type 0) : Type 0 where
  pub farm : Farm
  pub keeper : K
  pub view : View
  pub faults : ℕ

abbrev pub no_table : TableId
no_table = record { words = 0; slots = 0; views_name = 0; atom = 0; block = 0; offset = 0; slot_names = [] }

-- how many entries a journal can count, and how many seats there may be beside the recorder's
abbrev pub most_entries : ℕ
most_entries = 18446744073709551615

abbrev pub most_seats : ℕ
most_seats = 64

-- The seat is the recorder's of that table, between two entries, and its journal leads to the farm, and is a legal run from the farm with which the words
-- began. The journal's entries, and the seats that were split off, are counted.
pub record IsHome (t : TableId) (f : Farm) (s : Seat (Unit {0}) View) (count split : ℕ) : Type 0 where
  pub seat : IsSeatOf t s
  pub rests : IsAtRest (view s)
  pub farm : f ≡ farm_in (view s)
  pub begins : IsKeptFarm (farm_of (view s).opening)
  pub legal : IsLegal (farm_of (view s).opening) (view s).journal
  pub counted : count ≡ length (view s).journal
  pub split_off : split ≡ split_in (view s).desk
  pub few : split ≤ most_seats
