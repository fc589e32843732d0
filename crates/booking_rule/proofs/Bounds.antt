-- No word overflows: what is booked of a subscription, and what runs in a limit.
use Rattle.std.proofs.Common.{◌≡◌, ℕ, ◌+◌, ◌<◌, ◌≤◌, List, arith}
use Rattle.booking_rule.specs.declared.view.View.{View}
use Rattle.booking_rule.specs.Totals.{total}
use Rattle.booking_rule.specs.Words.{Words}
use Rattle.booking_rule.specs.Recorded.{Recorded}
use Rattle.booking_rule.specs.Rule.{sum_of, in_flight, granted_on, booked_of, granted_of, limit_in_flight, granted_in, running_of, counted_of}
use Rattle.booking_rule.specs.Kept.{Kept}
use Rattle.booking_rule.proofs.Sums.{total_plus}
use Rattle.booking_rule.proofs.Keeping.{records_of}
use Rattle.booking_rule.proofs.Seating.{flights, limit_flights}

-- with what isn't granted yet
pub booked_splits : (alloc : ℕ → ℕ) (sub : ℕ) (R : Recorded) (W : Words) (views : List View)
    → sum_of (booked_of alloc sub) R W views ≡ sum_of (granted_of alloc sub) R W views + total (λ v. in_flight sub v.ungranted) views
booked_splits alloc sub R W views = let t = total_plus (granted_on sub) (λ (v : View). in_flight sub v.ungranted) views in omega arith

pub running_splits : (limit : ℕ) (R : Recorded) (W : Words) (views : List View)
    → sum_of (running_of limit) R W views ≡ sum_of (counted_of limit) R W views + total (λ v. limit_in_flight limit v.ungranted_limit) views
running_splits limit R W views = let t = total_plus (granted_in limit) (λ (v : View). limit_in_flight limit v.ungranted_limit) views in omega arith

pub booked_fits : (n : ℕ) (W : Words) (views : List View) (K : Kept n W views) (sub : ℕ) → sub < 1024 → (W.sub sub).booked ≤ 4160000000
booked_fits n W views K sub lt =
    let A = K.own in
    let b = A.rule.booked sub lt in
    let s = booked_splits (records_of K).alloc sub (records_of K) W views in
    let g = A.rule.within sub lt in
    let f = flights K.seat K.opening K.desk K.log K.trail views A.seats sub in
    omega arith

pub running_fits : (n : ℕ) (W : Words) (views : List View) (K : Kept n W views) (limit : ℕ) → limit < 255 → (W.limit limit).running ≤ 65600
running_fits n W views K limit lt =
    let A = K.own in
    let b = A.rule.running limit lt in
    let s = running_splits limit (records_of K) W views in
    let g = A.rule.few limit lt in
    let f = limit_flights K.seat K.opening K.desk K.log K.trail views A.seats limit in
    omega arith
