-- What became of a booking by the recorder alone.
use Rattle.std.proofs.Common.{◌≡◌, ℕ, ◌+◌, ◌<◌, ◌^◌, ◌==◌, ◌&&◌, not, Bool, true, false, if◌then◌else◌, [], ◌∷◌, ◌++◌, length, Result, Ok, Err, sym, refl, ap, ◌∙◌, subst}
use Rattle.std.proofs.lemmas.Bool.{false≢true}
use Rattle.atomic_table.specs.Seated.{TableId}
use Rattle.atomic_table.specs.declared.shared.Seat.{Seat}
use Rattle.farm_types.specs.declared.attempt.ProcRow.{ProcRow}
use Rattle.farm_types.specs.declared.entry.Entry.{Entry}
use Rattle.farm_types.specs.Booking.{may_record}
use Rattle.farm_types.specs.Farm.{Farm}
use Rattle.farm_types.specs.Step.{after}
use Rattle.farm_keeper.specs.Keeping.{Committing}
use Rattle.booking_rule.specs.declared.view.View.{View}
use Rattle.booking_rule.specs.Kept.{farm_in}
use Rattle.booking_table.specs.Seats.{IsSameSeat, view}
use Rattle.recorder.specs.Recording.{HasSameRows, booking}
use Rattle.recording_table.specs.Booking.{IsAllowed, burst_left, place_left, takes_at}
use Rattle.recording_turns.specs.Resting.{IsAtRest, WentOn}
use Rattle.recording_turns.proofs.CarryingViews.{went_then}
use Rattle.booking_recorder.specs.declared.book_result.BookResult.{BookResult}
use Rattle.booking_recorder.specs.declared.book_result.BookResult.TheVariants as book
use Rattle.booking_recorder.specs.declared.refusal.ConfirmRefusal.{ConfirmRefusal}
use Rattle.booking_recorder.specs.declared.refusal.ConfirmRefusal.TheVariants as refusal
use Rattle.booking_recorder.specs.Alone.{BooksAlone, EntersAlone, EntersBook, EntersClaim, EntersOn, IsLost, StopsAlone, TellsBook, book_of, is_booked_now, is_store_book}
use Rattle.booking_recorder.specs.Claims.{BooksAhead, CanStill, IsCause, TellsAhead}
use Rattle.booking_recorder.specs.Faults.{is_store_stop}
use Rattle.booking_recorder.specs.Recording.{IsHome, most_entries}
use Rattle.booking_recorder.specs.Views.{Entered}
use Rattle.booking_recorder.proofs.Confirmed.{below_most}
use Rattle.booking_recorder.proofs.Booked.{booking_legal}
use Rattle.booking_recorder.proofs.Homes.{home_entered, home_stays}
use Rattle.booking_recorder.proofs.AloneViews.{farm_went, stays_rested}
use Rattle.booking_recorder.proofs.Rests.{farm_more, prefix_then}

-- ---- what the farm says of a claim that was booked, or wasn't

module _ (f : Farm) (n slot host : ℕ) (can : CanStill f slot host) (allowed : IsAllowed f slot host) where
  stops : (why : ConfirmRefusal) → IsCause (λ found. ⊥) f n slot host why → StopsAlone f n slot host why
  stops (refusal.Withdrawn found) cause = absurd cause
  stops refusal.EntriesSpent cause = cause
  stops refusal.Paused cause =
      allowed ∙ ap (λ (b : Bool). not b && (takes_at f host && (burst_left f slot host && place_left f slot))) cause.1
  stops (refusal.HostClosed state lock) cause =
      allowed ∙ λ i. not (cause.1 i) && (cause.2 i && (burst_left f slot host && place_left f slot))
  stops (refusal.BurstLowered booked burst) cause =
      allowed ∙ λ i. not (cause.1 i) && (cause.2 i && (cause.3 i && place_left f slot))
  stops (refusal.LimitLowered running most) cause =
      allowed ∙ λ i. not (cause.1 i) && (cause.2 i && (cause.3 i && cause.4 i))
  stops refusal.Memory cause = can.0 cause.1
  stops refusal.Store cause = can.0 cause.1

  pub books_by : (moment : ℕ) (booked : Result ProcRow ConfirmRefusal) (g : Farm) → BooksAhead f n slot host moment booked g
      → BooksAlone f n slot host moment (book_of booked) g
  books_by moment (Ok row) g made = (made.1, made.2, made.3)
  books_by moment (Err why) g made = (made.0, stops why made.1)

pub room_by : (f g : Farm) (n slot host moment : ℕ) (booked : Result ProcRow ConfirmRefusal) → BooksAhead f n slot host moment booked g
    → is_booked_now (book_of booked) ≡ true → (n == most_entries) ≡ false
room_by f g n slot host moment (Ok row) made is = made.0
room_by f g n slot host moment (Err why) made is = absurd (false≢true is)

pub store_by : (booked : Result ProcRow ConfirmRefusal) → is_store_stop booked ≡ is_store_book (book_of booked)
store_by (Ok row) = refl
store_by (Err why) = refl

module _ {K : Type 0} (commits : Committing K) (f : Farm) (slot host moment : ℕ) where
  pub told_by : (booked : Result ProcRow ConfirmRefusal) (before now : K) → TellsAhead commits f slot host moment booked before now
      → TellsBook commits f slot host moment (book_of booked) before now
  told_by (Ok row) before now told = told
  told_by (Err why) before now told = told

  -- where no row changes the keeper is as it was
  pub same_by : (n : ℕ) (g : Farm) (r : BookResult) (before now : K) → BooksAlone f n slot host moment r g → TellsBook commits f slot host moment r before now
      → (HasSameRows f (after f (booking slot host moment)) → now ≡ before)
      → (may_record f slot host ≡ true → HasSameRows f (after f (booking slot host moment))) → now ≡ before
  same_by n g (book.Booked row) before now made told same rows = same (rows made.0)
  same_by n g (book.Burst why) before now made told same rows = told
  same_by n g (book.Limit why) before now made told same rows = told
  same_by n g (book.Host why) before now made told same rows = told
  same_by n g (book.Taken found) before now made told same rows = told
  same_by n g (book.Confirm (refusal.Withdrawn found)) before now made told same rows = told
  same_by n g (book.Confirm refusal.EntriesSpent) before now made told same rows = told
  same_by n g (book.Confirm refusal.Paused) before now made told same rows = told
  same_by n g (book.Confirm (refusal.HostClosed state lock)) before now made told same rows = told
  same_by n g (book.Confirm (refusal.BurstLowered booked burst)) before now made told same rows = told
  same_by n g (book.Confirm (refusal.LimitLowered running most)) before now made told same rows = told
  same_by n g (book.Confirm refusal.Memory) before now made told same rows = same (rows made.1)
  same_by n g (book.Confirm refusal.Store) before now made told same rows = same (rows made.1)

  -- ---- a step before the claim was lost

  pub told_lost : (r : BookResult) (k : K) → IsLost r → TellsBook commits f slot host moment r k k
  told_lost (book.Booked row) k lost = absurd lost
  told_lost (book.Burst why) k lost = refl
  told_lost (book.Limit why) k lost = refl
  told_lost (book.Host why) k lost = refl
  told_lost (book.Taken found) k lost = refl
  told_lost (book.Confirm why) k lost = absurd lost

pub books_lost : (f : Farm) (n slot host moment : ℕ) (r : BookResult) → IsLost r → may_record f slot host ≡ false → BooksAlone f n slot host moment r f
books_lost f n slot host moment (book.Booked row) lost may = absurd lost
books_lost f n slot host moment (book.Burst why) lost may = (refl, may)
books_lost f n slot host moment (book.Limit why) lost may = (refl, may)
books_lost f n slot host moment (book.Host why) lost may = (refl, may)
books_lost f n slot host moment (book.Taken found) lost may = (refl, may)
books_lost f n slot host moment (book.Confirm why) lost may = absurd lost

pub store_lost : (r : BookResult) → IsLost r → is_store_book r ≡ false
store_lost (book.Booked row) lost = absurd lost
store_lost (book.Burst why) lost = refl
store_lost (book.Limit why) lost = refl
store_lost (book.Host why) lost = refl
store_lost (book.Taken found) lost = refl
store_lost (book.Confirm why) lost = absurd lost

pub room_lost : (n : ℕ) (r : BookResult) → IsLost r → is_booked_now r ≡ true → (n == most_entries) ≡ false
room_lost n (book.Booked row) lost is = absurd lost
room_lost n (book.Burst why) lost is = absurd (false≢true is)
room_lost n (book.Limit why) lost is = absurd (false≢true is)
room_lost n (book.Host why) lost is = absurd (false≢true is)
room_lost n (book.Taken found) lost is = absurd (false≢true is)
room_lost n (book.Confirm why) lost is = absurd lost

pub enters_lost : (v w : View) (e : Entry) (r : BookResult) → IsLost r → WentOn v w → EntersBook v e r w
enters_lost v w e (book.Booked row) lost went = absurd lost
enters_lost v w e (book.Burst why) lost went = went
enters_lost v w e (book.Limit why) lost went = went
enters_lost v w e (book.Host why) lost went = went
enters_lost v w e (book.Taken found) lost went = went
enters_lost v w e (book.Confirm why) lost went = absurd lost

-- ---- the journal

enters_then : (v u w : View) (e : Entry) → WentOn v u → EntersOn u e w → EntersOn v e w
enters_then v u w e first second = record {
  like = second.like
      ∙ ap (λ (x : View). record x {
        desk = w.desk;
        journal = x.journal ++ e ∷ [];
        takes = w.takes;
        limits = w.limits;
        rooms = w.rooms;
        claims = w.claims;
        ungranted = w.ungranted;
        ungranted_limit = w.ungranted_limit;
        trail = w.trail;
        receipts = x.receipts ++ length x.journal ∷ [];
      }) first.like;
  split = second.split ∙ first.split;
  trail = prefix_then v.trail u.trail w.trail first.trail second.trail;
}

pub enters_by : (v u w : View) (e : Entry) (booked : Result ProcRow ConfirmRefusal) → WentOn v u → EntersClaim u e booked w → EntersBook v e (book_of booked) w
enters_by v u w e (Ok row) went enters = enters_then v u w e went enters
enters_by v u w e (Err why) went enters = went_then v u w went enters

pub book_then : (v u w : View) (e : Entry) (r : BookResult) → WentOn v u → EntersBook u e r w → EntersBook v e r w
book_then v u w e (book.Booked row) went enters = enters_then v u w e went enters
book_then v u w e (book.Burst why) went enters = went_then v u w went enters
book_then v u w e (book.Limit why) went enters = went_then v u w went enters
book_then v u w e (book.Host why) went enters = went_then v u w went enters
book_then v u w e (book.Taken found) went enters = went_then v u w went enters
book_then v u w e (book.Confirm why) went enters = went_then v u w went enters

entered_rested : (v w : View) (e : Entry) → IsAtRest v → IsAtRest w → EntersOn v e w → Entered v e w
entered_rested v w e before now on =
    let a = before.free in
    let b = now.free in record {
      like = on.like
          ∙ λ i. record v {
            desk = w.desk;
            journal = v.journal ++ e ∷ [];
            takes = (b.takes ∙ sym a.takes) i;
            limits = (b.limits ∙ sym a.limits) i;
            rooms = (b.rooms ∙ sym a.rooms) i;
            claims = (b.claims ∙ sym a.claims) i;
            ungranted = (b.burst ∙ sym a.burst) i;
            ungranted_limit = (b.place ∙ sym a.place) i;
            trail = w.trail;
            receipts = v.receipts ++ length v.journal ∷ [];
          };
      split = on.split;
      trail = on.trail;
    }

pub enters_alone : (v w : View) (e : Entry) (r : BookResult) → IsAtRest v → IsAtRest w → EntersBook v e r w → EntersAlone v e r w
enters_alone v w e (book.Booked row) before now enters = entered_rested v w e before now enters
enters_alone v w e (book.Burst why) before now enters = stays_rested v w before now enters
enters_alone v w e (book.Limit why) before now enters = stays_rested v w before now enters
enters_alone v w e (book.Host why) before now enters = stays_rested v w before now enters
enters_alone v w e (book.Taken found) before now enters = stays_rested v w before now enters
enters_alone v w e (book.Confirm why) before now enters = stays_rested v w before now enters

-- ---- farms

-- of the seat whose word runs ahead
pub books_on : (f g : Farm) (v u : View) (n slot host moment : ℕ) (booked : Result ProcRow ConfirmRefusal) → f ≡ farm_in v → n ≡ length v.journal → WentOn v u
    → BooksAhead f n slot host moment booked g → BooksAhead (farm_in u) (length u.journal) slot host moment booked g
books_on f g v u n slot host moment booked leads count went books =
    subst (λ (x : Farm × ℕ). BooksAhead x.0 x.1 slot host moment booked g)
    (λ i. ((leads ∙ sym (farm_went v u went)) i, (count ∙ sym (ap (λ (x : View). length x.journal) went.like)) i)) books

pub count_on : (v u : View) (n : ℕ) → n ≡ length v.journal → n < 2 ^ 64 → WentOn v u → length u.journal < 2 ^ 64
count_on v u n count few went = subst (λ (k : ℕ). k < 2 ^ 64) (count ∙ sym (ap (λ (x : View). length x.journal) went.like)) few

pub leads_own : (g : Farm) (u w : View) (n slot host moment : ℕ) (booked : Result ProcRow ConfirmRefusal)
    → BooksAhead (farm_in u) n slot host moment booked g → EntersClaim u (booking slot host moment) booked w → g ≡ farm_in w
leads_own g u w n slot host moment (Ok row) made enters =
    made.2 ∙ sym (farm_more u w (booking slot host moment) (ap (λ (x : View). x.opening) enters.like) (ap (λ (x : View). x.journal) enters.like))
leads_own g u w n slot host moment (Err why) made went = made.0 ∙ sym (farm_went u w went)

-- ---- the recorder

pub may_count_book : (count : ℕ) (r : BookResult) (more : Bool) → count < 2 ^ 64 → (is_booked_now r ≡ true → (count == most_entries) ≡ false)
    → more ≡ is_booked_now r → more ≡ true → count < most_entries
may_count_book count r more lt unspent is more_is = below_most count count lt refl (unspent (sym is ∙ more_is))

pub booked_home : (t : TableId) (f g : Farm) (s s' : Seat (Unit {0}) View) (count count' split slot host moment n : ℕ) (r : BookResult) (more : Bool)
    → IsHome t f s count split → moment < 2 ^ 64 → BooksAlone f n slot host moment r g → IsSameSeat s s' → IsAtRest (view s') → g ≡ farm_in (view s')
    → count' ≡ (if more then count + 1 else count) → EntersAlone (view s) (booking slot host moment) r (view s') → more ≡ is_booked_now r
    → IsHome t g s' count' split
booked_home t f g s s' count count' split slot host moment n (book.Booked row) more home within books same rests leads counts enters is =
    home_entered t f g s s' count count' split (booking slot host moment) more home same rests leads counts enters is
    (booking_legal f slot host moment within books.0)
booked_home t f g s s' count count' split slot host moment n (book.Burst why) more home within books same rests leads counts enters is =
    home_stays t f g s s' count count' split (booking slot host moment) more home same rests leads counts enters is
booked_home t f g s s' count count' split slot host moment n (book.Limit why) more home within books same rests leads counts enters is =
    home_stays t f g s s' count count' split (booking slot host moment) more home same rests leads counts enters is
booked_home t f g s s' count count' split slot host moment n (book.Host why) more home within books same rests leads counts enters is =
    home_stays t f g s s' count count' split (booking slot host moment) more home same rests leads counts enters is
booked_home t f g s s' count count' split slot host moment n (book.Taken found) more home within books same rests leads counts enters is =
    home_stays t f g s s' count count' split (booking slot host moment) more home same rests leads counts enters is
booked_home t f g s s' count count' split slot host moment n (book.Confirm why) more home within books same rests leads counts enters is =
    home_stays t f g s s' count count' split (booking slot host moment) more home same rests leads counts enters is
