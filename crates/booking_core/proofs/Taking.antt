-- A subscription's burst and a limit's places: taken, given back, taken back where they weren't granted.
use Rattle.std.proofs.Common.{◌≡◌, ℕ, ◌+◌, ◌-◌, ◌<◌, ◌≤◌, ◌^◌, slice_index, refl, arith}
use mathlib.Core.Option.{some}
use lib.ListN.{get_elem?}
use Rattle.std.proofs.lemmas.Bool.Decides.{nat_tests}
use Rattle.frame_words.specs.Bits.{sub_of, limit_of}
use Rattle.booking_rule.specs.declared.view.View.{View}
use Rattle.booking_rule.specs.Words.{sub_place, limit_place, words_of}
use Rattle.booking_rule.specs.Views.{take_of, granted, asked, granted_limit, asked_limit}
use Rattle.booking_rule.specs.Kept.{Holds}
use Rattle.booking_rule.proofs.Bounds.{booked_fits, running_fits}
use Rattle.booking_rule.proofs.SeatSteps.{take_burst_kept, take_burst_short_kept, give_burst_kept, retract_burst_kept}
use Rattle.booking_rule.proofs.SeatSteps.{take_limit_kept, take_limit_short_kept, give_limit_kept, retract_limit_kept}
use Rattle.booking_core.specs.Kinds.{fits_burst, burst_taken, burst_given, gave_burst, retracted_burst, fits_limit, limit_taken, limit_given, gave_limit}
use Rattle.booking_core.specs.Kinds as kinds
use Rattle.booking_core.specs.Kinds.Kind.{takes_burst, gives_burst, retracts_burst, takes_limit, gives_limit, retracts_limit}
use Rattle.booking_core.specs.Machine.{Table, word, Asks, acts}
use Rattle.booking_core.proofs.Bits.{sub_more, sub_less, limit_more, limit_less}
use Rattle.booking_core.proofs.Agreeing.{sub_holds, limit_holds, either_holds}
use Rattle.booking_core.proofs.Within.{take_booked, flight_booked, limit_running, limit_flight_running}
use Rattle.booking_core.proofs.Seated.{seated_of, finds_count}

module _ (s : Table) (id : ℕ) (v : View) (h : Holds s) (at : get_elem? s.views id ≡ some v) where
  pub takes_burst_holds : (sub cores : ℕ) → Asks s id v (takes_burst sub cores) → Holds (acts s id v (takes_burst sub cores))
  takes_burst_holds sub cores asks =
      let n = word s (sub_place sub) in
      let W = words_of s.words in
      let item = burst_taken sub cores n in
      let seated = seated_of v asks.0.0 in
      let found = finds_count W item (omega arith) in
      let few : cores ≤ 1000000 = asks.2.1 in
      let b = booked_fits (slice_index s.words 0) W s.views h.1 sub asks.1 in
      let fits64 : (sub_of n).booked + cores < 2 ^ 32 = omega (arith, few, b) in
      either_holds s id (sub_place sub) (n + cores) (fits_burst cores n) (granted v (take_of sub cores) item) (asked v (take_of sub cores) item)
      (λ fits. sub_holds s id sub (n + cores) (granted v (take_of sub cores) item) h.0 _ asks.1 (sub_more n cores fits64)
      (take_burst_kept (slice_index s.words 0) W s.views id v item h.1 at seated found refl sub cores asks.1 (grind (arith, nat_tests))))
      (λ _. sub_holds s id sub (n + cores) (asked v (take_of sub cores) item) h.0 _ asks.1 (sub_more n cores fits64)
      (take_burst_short_kept (slice_index s.words 0) W s.views id v item h.1 at seated found refl sub cores asks.1 asks.0.0 few asks.0.1))

  pub gives_burst_holds : (sub cores : ℕ) → Asks s id v (gives_burst sub cores) → Holds (acts s id v (gives_burst sub cores))
  gives_burst_holds sub cores asks =
      let n = word s (sub_place sub) in
      let W = words_of s.words in
      let item = burst_given sub cores n in
      let le = take_booked (slice_index s.words 0) W s.views id v h.1 at sub cores asks.1 asks.2 in
      sub_holds s id sub (n - cores) (gave_burst v sub cores n) h.0 _ asks.1 (sub_less n cores le)
      (give_burst_kept (slice_index s.words 0) W s.views id v item h.1 at asks.0.0 (finds_count W item (omega arith)) refl sub cores asks.1 asks.2)

  pub retracts_burst_holds : (sub cores : ℕ) → Asks s id v (retracts_burst sub cores) → Holds (acts s id v (retracts_burst sub cores))
  retracts_burst_holds sub cores asks =
      let n = word s (sub_place sub) in
      let W = words_of s.words in
      let item = burst_given sub cores n in
      let le = flight_booked (slice_index s.words 0) W s.views id v h.1 at sub cores asks.1 asks.2 in
      sub_holds s id sub (n - cores) (retracted_burst v sub cores n) h.0 _ asks.1 (sub_less n cores le)
      (retract_burst_kept (slice_index s.words 0) W s.views id v item h.1 at asks.0 (finds_count W item (omega arith)) refl sub cores asks.1 asks.2)

  pub takes_limit_holds : (limit : ℕ) → Asks s id v (takes_limit limit) → Holds (acts s id v (takes_limit limit))
  takes_limit_holds limit asks =
      let n = word s (limit_place limit) in
      let W = words_of s.words in
      let item = limit_taken limit n in
      let seated = seated_of v asks.0.0 in
      let found = finds_count W item (omega arith) in
      let b = running_fits (slice_index s.words 0) W s.views h.1 limit asks.1 in
      let fits64 : (limit_of n).running + 1 < 2 ^ 32 = omega (arith, b) in
      either_holds s id (limit_place limit) (n + 1) (fits_limit n) (granted_limit v limit item) (asked_limit v limit item)
      (λ fits. limit_holds s id limit (n + 1) (granted_limit v limit item) h.0 _ asks.1 (limit_more n 1 fits64)
      (take_limit_kept (slice_index s.words 0) W s.views id v item h.1 at seated found refl limit asks.1 (grind (arith, nat_tests))))
      (λ _. limit_holds s id limit (n + 1) (asked_limit v limit item) h.0 _ asks.1 (limit_more n 1 fits64)
      (take_limit_short_kept (slice_index s.words 0) W s.views id v item h.1 at seated found refl limit asks.1 asks.0.0 asks.0.2))

  pub gives_limit_holds : (limit : ℕ) → Asks s id v (gives_limit limit) → Holds (acts s id v (gives_limit limit))
  gives_limit_holds limit asks =
      let n = word s (limit_place limit) in
      let W = words_of s.words in
      let item = limit_given limit n in
      let le = limit_running (slice_index s.words 0) W s.views id v h.1 at limit asks.1 asks.2 in
      limit_holds s id limit (n - 1) (gave_limit v limit n) h.0 _ asks.1 (limit_less n 1 le)
      (give_limit_kept (slice_index s.words 0) W s.views id v item h.1 at asks.0.0 (finds_count W item (omega arith)) refl limit asks.1 asks.2)

  pub retracts_limit_holds : (limit : ℕ) → Asks s id v (retracts_limit limit) → Holds (acts s id v (retracts_limit limit))
  retracts_limit_holds limit asks =
      let n = word s (limit_place limit) in
      let W = words_of s.words in
      let item = limit_given limit n in
      let le = limit_flight_running (slice_index s.words 0) W s.views id v h.1 at limit asks.1 asks.2 in
      limit_holds s id limit (n - 1) (kinds.retracted_limit v limit n) h.0 _ asks.1 (limit_less n 1 le)
      (retract_limit_kept (slice_index s.words 0) W s.views id v item h.1 at asks.0 (finds_count W item (omega arith)) refl limit asks.1 asks.2)
