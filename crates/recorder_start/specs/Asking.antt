-- Requests ask for no booking: a claim is booked by its own call.
use Rattle.farm_types.specs.declared.entry.Entry.{Entry}
use Rattle.farm_types.specs.Formed.{IsFormed}
use Rattle.farm_lines.specs.declared.asked.Asked.{Asked}
use Rattle.farm_lines.specs.declared.asked.Asked.TheVariants as asked
use Rattle.recording_core.specs.Machine.{IsBooking}

abbrev pub IsUnbooked : Asked → Type 0
IsUnbooked (asked.Report report) = Unit {0}
IsUnbooked (asked.Act does) = IsBooking does → ⊥
IsUnbooked (asked.List query) = Unit {0}

-- an entry that may be committed
abbrev pub MayCommit : Entry → Type 0
MayCommit e = IsFormed e × (IsBooking e.act → ⊥)
