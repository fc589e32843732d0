-- The books as they begin, and after a booking.
use Rattle.std.proofs.Common.{◌≡◌, ℕ, zero, suc, false, Option, None, Some, replicate, refl, sym, subst}
use Rattle.std.proofs.lemmas.Option.{none-some}
use Rattle.farm_types.specs.declared.entry.Act.TheVariants.{Book}
use Rattle.farm_types.specs.declared.entry.Entry.{Entry}
use Rattle.farm_types.specs.Farm.{Farm}
use Rattle.farm_types.specs.Run.{IsLegalStep}
use Rattle.farm_types.specs.Step.{acted, after, at_moment, moment_of, new_proc, with_proc}
use Rattle.farm_types.specs.declared.attempt.ProcRow.{ProcRow}
use Rattle.farm_types.specs.declared.limits.TheConstants.{SLOT_LIMIT}
use Rattle.depend_law.proofs.KeptFirst.{first_empty}
use Rattle.depend_law.proofs.KeptRuns.{kept_step}
use Rattle.farm_rows.specs.Changes.{beside}
use Rattle.depend_graph.specs.Graph.{is_flagged}
use Rattle.depend_book.specs.Book.{IsBook}
use Rattle.farm_books.specs.Books.{FarmBooks, IsWhole, depends_of, empty_books, with_farm}
use Rattle.farm_books.proofs.WholeBooks.{whole_beside, whole_then}
use Rattle.farm_depends.specs.Follow.{nothing_follows}
use Rattle.farm_depends.proofs.Applied.{fits_then}
use Rattle.farm_depends.proofs.Quiet.{nothing_fits, quiet_carries}
use Rattle.farm_depends.proofs.Wholes.{fits_beside, same_depends}

-- ---- the books of no rows

none_flagged : (count slot : ℕ) → is_flagged (replicate count false) slot ≡ false
none_flagged zero slot = refl
none_flagged (suc count) zero = refl
none_flagged (suc count) (suc slot) = none_flagged count slot

pub whole_empty : IsWhole empty_books
whole_empty =
    record {
      kept = first_empty;
      met = refl;
      fits = record { done = λ slot. none_flagged SLOT_LIMIT slot; groups = λ i d w row watch unmet. absurd (none-some d row) };
    }

-- ---- bookings

proc_own : (f : Farm) (slot : ℕ) (o : Option ProcRow) → beside (with_proc f slot o) f.depends f.met f.next_depend ≡ with_proc f slot o
proc_own f slot None = refl
proc_own f slot (Some p) = refl

module _ (v : FarmBooks) (whole : IsWhole v) (book : IsBook (depends_of v)) (slot host moment : ℕ) (legal : IsLegalStep v.farm (record { moment = moment; act = Book slot host })) where
  abbrev booking : Entry
  booking = record { moment = moment; act = Book slot host }

  abbrev booked : Farm
  booked = acted v.farm booking

  own : beside booked v.farm.depends v.farm.met v.farm.next_depend ≡ booked
  own = proc_own (at_moment v.farm (moment_of v.farm moment)) slot (new_proc (at_moment v.farm (moment_of v.farm moment)) slot host (moment_of v.farm moment))

  -- after a booking
  pub whole_booked : (new : FarmBooks) → new ≡ with_farm v (after v.farm booking) → IsWhole new
  whole_booked new is =
      let kept = kept_step v.farm booking legal whole.kept in
      let same = same_depends v whole booked own in
      let fits = fits_beside v whole booked nothing_follows same (nothing_fits v.farm booked (quiet_carries v.farm booking tt refl legal.condition whole.kept.rows.sound)) in
      subst IsWhole (sym is) (whole_then v whole booked own kept (fits_then v.farm booked (depends_of v) nothing_follows (whole_beside v whole) book fits kept.rows.jobs.slot_count))
