-- What the reason against a booking says, where the booking has its place.
use Rattle.std.proofs.Common.{◌≡◌, Bool, true, false, not, sym, refl, subst, ◌∙◌}
use Rattle.std.specs.Prelude.{ℕ, Option, Some, None}
use Rattle.farm_types.specs.Farm.{Farm}
use Rattle.booking_reasons.specs.declared.not_booked.NotBooked.{NotBooked}
use Rattle.booking_reasons.specs.declared.not_booked.NotBooked.TheVariants as reason
use Rattle.booking_reasons.specs.WhyNot.{unless, why_not_record}
use Rattle.recording_table.specs.Booking.{IsWhyLeft, burst_left, paused_at, place_left, takes_at}
use Rattle.booking_recorder.specs.Claims.{Decides, IsAgainst, MayStill}

-- the first of the four
abbrev first_of : Bool → Bool → Bool → Bool → Option NotBooked
first_of paused takes burst place =
    unless (not paused) reason.JobPaused (unless takes reason.HostClosed (unless burst reason.PastBurst (unless place reason.AtLimit None)))

same_reason : (x y : NotBooked) → Some x ≡ Some y → x ≡ y
same_reason x y e = cc

none_why : (why : NotBooked) → None ≡ Some why → ⊥
none_why why e = cc

some_none : (why : NotBooked) → Some why ≡ None → ⊥
some_none why e = cc

decided : (q t b l : Bool) (why : NotBooked) → first_of q t b l ≡ Some why → Decides q t b l why
decided true t b l why e = subst (Decides true t b l) (same_reason reason.JobPaused why e) refl
decided false false b l why e = subst (Decides false false b l) (same_reason reason.HostClosed why e) (refl, refl)
decided false true false l why e = subst (Decides false true false l) (same_reason reason.PastBurst why e) (refl, refl, refl)
decided false true true false why e = subst (Decides false true true false) (same_reason reason.AtLimit why e) (refl, refl, refl, refl)
decided false true true true why e = absurd (none_why why e)

undecided : (q t b l : Bool) → first_of q t b l ≡ None → (q ≡ false) × (t ≡ true) × (b ≡ true) × (l ≡ true)
undecided true t b l e = absurd (some_none reason.JobPaused e)
undecided false false b l e = absurd (some_none reason.HostClosed e)
undecided false true false l e = absurd (some_none reason.PastBurst e)
undecided false true true false e = absurd (some_none reason.AtLimit e)
undecided false true true true e = (refl, refl, refl, refl)

pub against : (f : Farm) (slot host : ℕ) (why : NotBooked) → IsWhyLeft f slot host → why_not_record f slot host ≡ Some why → IsAgainst f slot host why
against f slot host why left is = decided (paused_at f slot) (takes_at f host) (burst_left f slot host) (place_left f slot) why (sym left ∙ is)

pub may_still : (f : Farm) (slot host : ℕ) → IsWhyLeft f slot host → why_not_record f slot host ≡ None → MayStill f slot host
may_still f slot host left is = undecided (paused_at f slot) (takes_at f host) (burst_left f slot host) (place_left f slot) (sym left ∙ is)
