-- Bookings, and the rows that they leave.
use Rattle.std.specs.Prelude.{ℕ, ◌≡◌, ◌+◌, Option, None, Some, option_map, option_and_then, slice_get, if◌then◌else◌}
use Rattle.farm_types.specs.declared.entry.Act.TheVariants as act
use Rattle.farm_types.specs.declared.entry.Entry.{Entry}
use Rattle.farm_types.specs.declared.rows.HostRow.{HostRow}
use Rattle.farm_types.specs.declared.rows.LayerRow.{LayerRow}
use Rattle.farm_types.specs.declared.slot_row.Frame.{Frame}
use Rattle.farm_types.specs.declared.slot_row.SlotRow.{SlotRow}
use Rattle.farm_types.specs.declared.states.FrameState.TheVariants as frame_state
use Rattle.farm_types.specs.Booking.{may_record}
use Rattle.farm_types.specs.Farm.{Farm}
use Rattle.farm_types.specs.Step.{booked_row, moment_of, new_proc}
use Rattle.farm_books.specs.declared.begin.Booking.{Booking}

-- the slot's row with the attempt that a booking of its frame on the host adds, where that may be recorded
abbrev pub booked_at : Farm → ℕ → ℕ → ℕ → Option SlotRow
booked_at f slot host moment =
    if may_record f slot host
    then option_and_then (λ s. option_map (λ p. booked_row p s) (new_proc f slot host moment)) (slice_get f.slots slot)
    else None

-- the row with the attempt of that version, frame, layer, host's row and subscription
abbrev pub row_of_booking : ℕ → ℕ → ℕ → ℕ → Frame → LayerRow → HostRow → ℕ → SlotRow
row_of_booking slot host moment version frame layer row sub =
    record {
      version = version + 1;
      frame = Some (record frame { state = frame_state.Running });
      proc =
          Some (record {
            slot = slot;
            version = version + 1;
            host = host;
            boot = row.boot;
            cores = layer.cores;
            memory = layer.memory;
            sub = sub;
            since = moment;
          });
    }

-- ---- what was decided

-- the entry that the booking is of
abbrev pub entry_of : Booking → Entry
entry_of b = record { moment = b.moment; act = act.Book b.slot b.host }

-- the booking is the one that was asked for
pub record IsAsked (slot host moment : ℕ) (b : Booking) : Type 0 where
  pub slot_is : b.slot ≡ slot
  pub host_is : b.host ≡ host
  pub moment_is : b.moment ≡ moment

-- the booking may be recorded in the farm, and its row is the one that its entry leaves in the slot
abbrev pub IsBooking : Farm → Booking → Type 0
IsBooking f b = booked_at f b.slot b.host (moment_of f b.moment) ≡ Some b.row
