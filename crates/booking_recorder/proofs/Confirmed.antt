-- The recorder once a claim was booked, or none was.
use Rattle.std.proofs.Common.{◌≡◌, ℕ, ◌+◌, ◌<◌, ◌^◌, ◌==◌, Bool, true, false, length, Result, Ok, Err, sym, ◌∙◌, arith}
use Rattle.std.specs.Prelude.{is_ok, if◌then◌else◌}
use Rattle.std.proofs.lemmas.Bool.{false≢true}
use Rattle.std.proofs.lemmas.Bool.Decides.{nat_tests}
use Rattle.atomic_table.specs.Seated.{TableId}
use Rattle.atomic_table.specs.declared.shared.Seat.{Seat}
use Rattle.farm_types.specs.declared.attempt.ProcRow.{ProcRow}
use Rattle.farm_types.specs.Farm.{Farm}
use Rattle.booking_rule.specs.declared.view.View.{View}
use Rattle.booking_rule.specs.Kept.{farm_in}
use Rattle.booking_table.specs.declared.holds.Claim.{Claim}
use Rattle.booking_table.specs.Seats.{IsSameSeat, view}
use Rattle.recording_turns.specs.Resting.{IsAtRest}
use Rattle.booking_recorder.specs.Claims.{Confirms, entry_for}
use Rattle.booking_recorder.specs.declared.refusal.ConfirmRefusal.{ConfirmRefusal}
use Rattle.booking_recorder.specs.Recording.{IsHome, most_entries}
use Rattle.booking_recorder.proofs.Booked.{booking_legal}
use Rattle.booking_recorder.proofs.Homes.{home_entered, home_stays}

pub below_most : (count n : ℕ) → count < 2 ^ 64 → count ≡ n → (n == most_entries) ≡ false → count < most_entries
below_most count n lt is unspent = grind (arith, nat_tests)

pub may_count : (t : TableId) (f g : Farm) (s : Seat (Unit {0}) View) (w : View) (count split : ℕ) (k : Claim) (moment : ℕ)
    (r : Result ProcRow (Claim × ConfirmRefusal)) (more : Bool) → IsHome t f s count split → count < 2 ^ 64 → Confirms f (view s) k moment r g w
    → more ≡ is_ok r → more ≡ true → count < most_entries
may_count t f g s w count split k moment (Ok row) more home lt made is more_is = below_most count (length (view s).journal) lt home.counted made.0
may_count t f g s w count split k moment (Err left) more home lt made is more_is = absurd (false≢true (sym is ∙ more_is))

pub confirmed_home : (t : TableId) (f g : Farm) (s s' : Seat (Unit {0}) View) (count count' split : ℕ) (k : Claim) (moment : ℕ)
    (r : Result ProcRow (Claim × ConfirmRefusal)) (more : Bool) → IsHome t f s count split → moment < 2 ^ 64 → IsSameSeat s s' → IsAtRest (view s')
    → g ≡ farm_in (view s') → Confirms f (view s) k moment r g (view s') → more ≡ is_ok r → count' ≡ (if more then count + 1 else count)
    → IsHome t g s' count' split
confirmed_home t f g s s' count count' split k moment (Ok row) more home within same rests leads made is counts =
    home_entered t f g s s' count count' split (entry_for k moment) more home same rests leads counts made.4 is
    (booking_legal f k.slot k.hold.host moment within made.1)
confirmed_home t f g s s' count count' split k moment (Err left) more home within same rests leads made is counts =
    home_stays t f g s s' count count' split (entry_for k moment) more home same rests leads counts made.2 is
