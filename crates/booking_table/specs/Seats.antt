-- Seats of a table.
use Rattle.std.specs.Prelude.{◌≡◌, []}
use Rattle.atomic_table.specs.Seated.{TableId}
use Rattle.atomic_table.specs.declared.shared.Seat.{Seat}
use Rattle.booking_rule.specs.declared.view.View.{View}

-- what a seat knows
abbrev pub view : Seat (Unit {0}) View → View
view s = s.me.0

-- it is a seat of that table
abbrev pub IsSeatOf : TableId → Seat (Unit {0}) View → Type 0
IsSeatOf t s = (s.table_id ≡ t) × (s.me.1 ≡ [])

-- it is the same seat, whatever it knows
abbrev pub IsSameSeat : Seat (Unit {0}) View → Seat (Unit {0}) View → Type 0
IsSameSeat old new = (new.table_id ≡ old.table_id) × (new.id ≡ old.id) × (new.me.1 ≡ [])
