-- The rows that a booking changes: its slot's, and the farm's own where that is another one.
use Rattle.std.proofs.Common.{◌≡◌, ◌&&◌, ℕ, Bool, true, false, not, cond, eqb, List, [], ◌∷◌, Option, Some, None, is_some, option_map, refl, sym, ap, subst, arith, ◌∙◌}
use Rattle.std.specs.Prelude.{option_and_then, if◌then◌else◌}
use Rattle.std.specs.List.{slice_get, slice_set}
use Rattle.std.proofs.lemmas.Bool.{eq-eqb, eqb-true, false≢true}
use Rattle.std.proofs.lemmas.Option.{none-some, same_Some}
use Rattle.farm_types.specs.declared.attempt.ProcRow.{ProcRow}
use Rattle.farm_types.specs.declared.entry.Act.TheVariants.{Book}
use Rattle.farm_types.specs.declared.entry.Entry.{Entry}
use Rattle.farm_types.specs.declared.slot_row.Frame.{Frame}
use Rattle.farm_types.specs.declared.slot_row.SlotRow.{SlotRow}
use Rattle.farm_types.specs.declared.states.FrameState.TheVariants.{Running}
use Rattle.farm_types.specs.Booking.{may_record}
use Rattle.farm_types.specs.Farm.{Farm}
use Rattle.farm_types.specs.Step.{after, at_moment, booked_row, moment_of, new_proc, proc_of, with_proc}
use Rattle.farm_types.proofs.Changed.{changed_at_is}
use Rattle.farm_types.proofs.Lists.{and_both}
use Rattle.farm_law.proofs.CanBook.{CanBook, Rows, can_book, new_proc_is}
use Rattle.farm_rows.specs.declared.farm_row.FarmRow.{FarmRow}
use Rattle.farm_rows.specs.declared.farm_row.FarmRow.TheVariants as row
use Rattle.farm_rows.specs.declared.head_row.HeadRow.{HeadRow}
use Rattle.farm_rows.specs.declared.row_change.RowChange.{RowChange}
use Rattle.farm_rows.specs.declared.row_change.RowChange.TheVariants as change
use Rattle.farm_rows.specs.declared.row_key.RowKey.{RowKey}
use Rattle.farm_rows.specs.declared.row_key.RowKey.TheVariants as key
use Rattle.farm_rows.specs.Changes.{MakesRows, NamesExactly, row_after, row_at, slot_change, used_row}
use Rattle.farm_rows.specs.Rows.{frame_row, head_row, is_unused}
use Rattle.farm_rows.proofs.MadeLists.{makes_counters, makes_slot}
use Rattle.farm_rows.proofs.MadeRows.{makes_all, makes_then}
use Rattle.farm_books.specs.Bookings.{booked_at}
use Rattle.farm_core.proofs.NamedRows.{names_one, names_two, without_head}

-- ---- the farm's own row at a moment

-- the version of a frame's row
abbrev version_in : Option FarmRow → ℕ
version_in (Some (row.Frame r)) = r.version
version_in other = 0

-- the moment of the farm's own row
abbrev moment_in : Option FarmRow → ℕ
moment_in (Some (row.Head h)) = h.moment
moment_in other = 0

-- the farm's own row by whether an entry made it
abbrev own_row : Farm → Bool → Option FarmRow
own_row f recorded = if recorded then Some (row.Head (head_row f)) else None

abbrev head_at : Farm → ℕ → HeadRow
head_at f now = record (head_row f) { moment = now }

head_same : (f : Farm) (now : ℕ) → (f.recorded && eqb f.moment now) ≡ true → row_at f key.Head ≡ Some (row.Head (head_at f now))
head_same f now same =
    let both = and_both f.recorded (eqb f.moment now) same in
    ap (own_row f) both.0 ∙ ap (λ (n : ℕ). Some (row.Head (head_at f n))) (eqb-true f.moment now both.1)

head_other : (f : Farm) (now : ℕ) (recorded : Bool) → (recorded && eqb f.moment now) ≡ false → own_row f recorded ≡ Some (row.Head (head_at f now)) → ⊥
head_other f now false other is = none-some (row.Head (head_at f now)) is
head_other f now true other is = false≢true (sym other ∙ eq-eqb f.moment now (ap moment_in is))

-- ---- the farm after a booking

-- the farm at a moment, with that row in the slot
abbrev with_booked : Farm → ℕ → ℕ → SlotRow → Farm
with_booked f slot moment s = record f { slots = slice_set f.slots slot s; moment = moment; recorded = true }

module _ (f : Farm) (slot host moment : ℕ) (may : may_record f slot host ≡ true) where
  abbrev pub booking : Entry
  booking = record { moment = moment; act = Book slot host }

  abbrev pub now : ℕ
  now = moment_of f moment

  abbrev rows : Rows
  rows = (can_book f slot host may).0

  found : CanBook f slot host rows
  found = (can_book f slot host may).1

  abbrev proc : ProcRow
  proc = proc_of slot host now rows.slot rows.job rows.layer rows.host

  proc_is : new_proc f slot host now ≡ Some proc
  proc_is = new_proc_is f slot host now rows found

  -- the farm after the booking
  farm_is : after f booking ≡ with_booked f slot now (booked_row proc rows.slot)
  farm_is =
      ap (with_proc (at_moment f now) slot) proc_is
      ∙ ap (λ (ss : List SlotRow). record (at_moment f now) { slots = ss }) (changed_at_is f.slots slot (booked_row proc) rows.slot found.slot_is)

  -- the row that the books tell
  row_is : (s : SlotRow) → booked_at f slot host now ≡ Some s → booked_row proc rows.slot ≡ s
  row_is s told =
      let read : booked_at f slot host now ≡ Some (booked_row proc rows.slot) =
      ap (λ (allowed : Bool). cond allowed (option_and_then (λ (old : SlotRow). option_map (λ (p : ProcRow). booked_row p old) (new_proc f slot host now)) (slice_get f.slots slot)) None) may
      ∙ (ap (option_and_then (λ (old : SlotRow). option_map (λ (p : ProcRow). booked_row p old) (new_proc f slot host now))) found.slot_is
      ∙ ap (option_map (λ (p : ProcRow). booked_row p rows.slot)) proc_is)
      in
      same_Some (booked_row proc rows.slot) s (sym read ∙ told)

  slot_made : (s : SlotRow) → MakesRows f (with_booked f slot now s) (slot_change slot s ∷ [])
  slot_made s =
      let slots = record f { slots = slice_set f.slots slot s } in
      makes_then f slots (with_booked f slot now s) (slot_change slot s ∷ []) [] (makes_slot f slot s rows.slot found.slot_is)
      (makes_counters slots slots.next_job slots.next_depend slots.next_finish now true)

  -- both changes, one after the other
  pub booking_made : (s : SlotRow) (head : HeadRow) → booked_at f slot host now ≡ Some s → head ≡ record (head_row f) { moment = now }
      → (k : RowKey) → row_at (after f booking) k ≡ row_after (slot_change slot s ∷ change.Put (row.Head head) ∷ []) k (row_at f k)
  booking_made s head told head_is k =
      let farm : after f booking ≡ with_booked f slot now s = farm_is ∙ ap (with_booked f slot now) (row_is s told) in
      ap (λ (g : Farm). row_at g k) farm
      ∙ (makes_all f (with_booked f slot now s) (slot_change slot s ∷ []) refl (slot_made s) k
      ∙ ap (λ (h : HeadRow). row_after (slot_change slot s ∷ change.Put (row.Head h) ∷ []) k (row_at f k)) (sym head_is))

  -- ---- what they name

  -- the slot is used
  used : (s : SlotRow) → booked_at f slot host now ≡ Some s → is_unused s ≡ false
  used s told =
      ap is_unused (sym (row_is s told)) ∙ ap (λ (o : Option Frame). not (is_some (option_map (λ (x : Frame). record x { state = Running }) o)) && eqb proc.version 0) found.frame_is

  put_is : (s : SlotRow) → booked_at f slot host now ≡ Some s → slot_change slot s ≡ change.Put (row.Frame (frame_row slot s))
  put_is s told = ap (λ (b : Bool). if b then change.Delete (key.Frame slot) else change.Put (row.Frame (frame_row slot s))) (used s told)

  -- its row is another one: the version is one more
  slot_other : (s : SlotRow) → booked_at f slot host now ≡ Some s → row_at f (key.Frame slot) ≡ Some (row.Frame (frame_row slot s)) → ⊥
  slot_other s told is =
      let unused : is_unused rows.slot ≡ false = ap (λ (o : Option Frame). not (is_some o) && eqb rows.slot.version 0) found.frame_is in
      let stood : row_at f (key.Frame slot) ≡ Some (row.Frame (frame_row slot rows.slot)) =
      ap (option_and_then (used_row slot)) found.slot_is ∙ ap (λ (b : Bool). if b then None else Some (row.Frame (frame_row slot rows.slot))) unused
      in
      let version : rows.slot.version ≡ s.version = ap version_in (sym stood ∙ is) in
      let more : proc.version ≡ s.version = ap (λ (r : SlotRow). r.version) (row_is s told) in
      omega (arith, version, more)

  -- both rows, where the farm's own is another one
  pub names_both : (s : SlotRow) (head : HeadRow) → booked_at f slot host now ≡ Some s → head ≡ head_at f now → (f.recorded && eqb f.moment now) ≡ false
      → NamesExactly f (after f booking) (slot_change slot s ∷ change.Put (row.Head head) ∷ [])
  names_both s head told head_is other =
      let made : (k : RowKey) → row_at (after f booking) k ≡ row_after (change.Put (row.Frame (frame_row slot s)) ∷ change.Put (row.Head head) ∷ []) k (row_at f k) =
      λ k. booking_made s head told head_is k ∙ ap (λ (c : RowChange). row_after (c ∷ change.Put (row.Head head) ∷ []) k (row_at f k)) (put_is s told)
      in
      let new : row_at f key.Head ≡ Some (row.Head head) → ⊥ = λ is. head_other f now f.recorded other (is ∙ ap (λ (h : HeadRow). Some (row.Head h)) head_is) in
      subst (λ (c : RowChange). NamesExactly f (after f booking) (c ∷ change.Put (row.Head head) ∷ [])) (sym (put_is s told))
      (names_two f (after f booking) (row.Frame (frame_row slot s)) (row.Head head) refl refl made (slot_other s told) new)

  -- the slot's alone, where the farm's own is as it stands
  pub names_slot : (s : SlotRow) → booked_at f slot host now ≡ Some s → (f.recorded && eqb f.moment now) ≡ true → NamesExactly f (after f booking) (slot_change slot s ∷ [])
  names_slot s told same =
      let made : (k : RowKey) → row_at (after f booking) k ≡ row_after (change.Put (row.Frame (frame_row slot s)) ∷ []) k (row_at f k) =
      λ k.
      booking_made s (head_at f now) told refl k
      ∙ (ap (λ (c : RowChange). row_after (c ∷ change.Put (row.Head (head_at f now)) ∷ []) k (row_at f k)) (put_is s told)
      ∙ without_head f (row.Frame (frame_row slot s)) (head_at f now) refl (head_same f now same) k)
      in
      subst (λ (c : RowChange). NamesExactly f (after f booking) (c ∷ [])) (sym (put_is s told))
      (names_one f (after f booking) (row.Frame (frame_row slot s)) made (slot_other s told))
