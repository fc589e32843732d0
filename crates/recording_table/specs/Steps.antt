-- What a step of the recorder's seat asks, and what it tells.
use Rattle.std.specs.Prelude.{◌≡◌, ◌≢◌, ℕ, ◌<◌, ◌^◌, true, false, length}
use mathlib.Core.Option.{some}
use lib.ListN.{get_elem?}
use Rattle.atomic_table.specs.Table.{Step}
use Rattle.frame_words.specs.declared.frame_word.FrameWord.{FrameWord}
use Rattle.frame_words.specs.Bits.{frame_bits, frame_of, sub_of, limit_of}
use Rattle.booking_rule.specs.declared.view.View.{View}
use Rattle.booking_rule.specs.Kept.{Holds, Sat}
use Rattle.booking_rule.specs.Rule.{is_booked, word_of, ShowsFrame}
use Rattle.booking_core.specs.Kinds.{setup_for}
use Rattle.booking_core.specs.Machine.{Table, word}
use Rattle.recording_core.specs.Records.{RecorderKind, place, wrote, knows, records_in, running_for}
use Rattle.recording_core.specs.Records.RecorderKind.{opens, closes, records, books, confirms, withdraws, leaves, ends, turns, sets_amount, sets_burst, sets_most, sets_size}
use Rattle.recording_core.specs.Records.RecorderKind.{places, places_size, places_burst, places_most}
use Rattle.booking_table.specs.Holds.{claim_with}
use Rattle.booking_table.specs.Steps.{FindsOwn}
use Rattle.recording_table.specs.declared.doing.Doing.{Doing}
use Rattle.recording_table.specs.declared.doing.Doing.TheVariants as doing
use Rattle.recording_core.specs.Machine.{Asks, stand_recorded}
use Rattle.recording_table.specs.Booking.{CanBook}

-- the kind of a step
abbrev pub kind_of : Doing → RecorderKind
kind_of (doing.Leaves slot word) = leaves slot word
kind_of (doing.Ends slot word) = ends slot word
kind_of (doing.Turns slot word) = turns slot word
kind_of (doing.SetsAmount slot word) = sets_amount slot word
kind_of (doing.SetsBurst sub old new) = sets_burst sub old new
kind_of (doing.SetsMost limit old new) = sets_most limit old new
kind_of (doing.SetsSize host cores memory) = sets_size host cores memory
kind_of (doing.Places slot word) = places slot word
kind_of (doing.PlacesSize host cores memory) = places_size host cores memory
kind_of (doing.PlacesBurst sub burst booked) = places_burst sub burst booked
kind_of (doing.PlacesMost limit most running) = places_most limit most running
kind_of (doing.Confirms slot version host sub cores limit memory) = confirms (claim_with slot version host sub cores limit memory)
kind_of (doing.Withdraws slot version host sub cores limit memory) = withdraws (claim_with slot version host sub cores limit memory)

-- a seat with that view may take the step, whatever the words are
abbrev pub MayTake : View → RecorderKind → Type 0
MayTake v k = (s : Table) → Asks s v k

-- .. and its word becomes f of what it was
abbrev pub Writes : View → RecorderKind → (ℕ → ℕ) → Type 0
Writes v k f =
    (s : Table) (id : ℕ) → Holds s → get_elem? s.views id ≡ some v → word s (place k) < 2 ^ 64 → f (word s (place k)) ≡ wrote k (word s (place k))

-- the host of a booked word is one of the table's, and has a recorded size
abbrev pub IsOnRecorded : View → FrameWord → Type 0
IsOnRecorded v f = is_booked f.phase ≡ true → (f.host < 4096) × ((records_in v).cores f.host ≢ 0)

-- What the word is found to be. Where a farm is opened the journal's word is 0, and at the end of its placing too; so is
-- each word that is placed for the first time, and that of a host which gets a size. Else the journal's word counts its
-- entries. Where a claim's word is found, the claim can be booked, and a seat that is alone finds that of its only claim; a
-- word that runs ahead is that of the claim's running frame. The word of a frame that is recorded as waiting is that, or a claim of it on a recorded host; the word of any
-- other slot is what is recorded. The upper half of a subscription's word, and of a limit's, is the old one.
abbrev pub Finds : View → RecorderKind → ℕ → Type 0
Finds v (opens f) found = found ≡ 0
Finds v closes found = found ≡ 0
Finds v (records e) found = found ≡ length v.journal
Finds v (books c e) found = found ≡ length v.journal
Finds v (confirms c) found = (found ≡ frame_bits (setup_for c) → CanBook v c) × FindsOwn v c (frame_of found)
Finds v (withdraws c) found = found ≡ frame_bits (running_for c)
Finds v (leaves slot bits) found = ShowsFrame true false (stand_recorded v slot) (frame_of found) × IsOnRecorded v (frame_of found)
Finds v (ends slot bits) found = frame_of found ≡ word_of (stand_recorded v slot)
Finds v (turns slot bits) found = frame_of found ≡ word_of (stand_recorded v slot)
Finds v (sets_amount slot bits) found = Unit {0}
Finds v (sets_burst sub old new) found = (sub_of found).burst ≡ old
Finds v (sets_most limit old new) found = (limit_of found).most ≡ old
Finds v (sets_size host cores memory) found = found ≡ 0
Finds v (places slot bits) found = found ≡ 0
Finds v (places_size host cores memory) found = found ≡ 0
Finds v (places_burst sub burst booked) found = found ≡ 0
Finds v (places_most limit most running) found = found ≡ 0

-- a step leaves what the seat has at home; the seat knows what one of the kind knows, with the word that it found
abbrev pub told : RecorderKind → Step (Unit {0}) → Sat → ℕ → Sat → Type 0
told k st m found m' = (m'.1 ≡ m.1) × (m'.0 ≡ knows m.0 k found) × Finds m.0 k found
