-- No step's sum leaves the 64 bits of its word, so that an atomic addition or subtraction writes what the step's kind says.
use Rattle.std.proofs.Common.{◌≡◌, ℕ, ◌+◌, ◌-◌, ◌*◌, ◌/◌, ◌%◌, ◌<◌, ◌≤◌, ◌^◌, arith}
use mathlib.Core.Option.{some}
use lib.ListN.{get_elem?}
use Rattle.std.specs.Prelude.{slice_index}
use Rattle.booking_rule.specs.declared.view.View.{View}
use Rattle.booking_rule.specs.Words.{words_of, sub_place, limit_place, host_place}
use Rattle.booking_rule.specs.Kept.{Holds}
use Rattle.booking_rule.proofs.Bounds.{booked_fits, running_fits}
use Rattle.booking_core.specs.Kinds.{wrote, host_amounts}
use Rattle.booking_core.specs.Kinds.Kind.{takes_burst, gives_burst, retracts_burst, takes_limit, gives_limit, retracts_limit, gives_host}
use Rattle.booking_core.specs.Machine.{Table, word, Asks}
use Rattle.booking_core.proofs.Bits.{used_stays, less_stays}
use Rattle.booking_core.proofs.Within.{take_booked, flight_booked, limit_running, limit_flight_running, room_within}

host_stays : (n cores memory : ℕ) → n < 2 ^ 64 → n / 2 ^ 40 + cores ≤ 1000000 → n % 2 ^ 40 + memory ≤ 1000000000000
    → (n + (cores * 2 ^ 40 + memory)) % 2 ^ 64 ≡ n + (cores * 2 ^ 40 + memory)
host_stays n cores memory small c m = omega (arith, small, c, m)

part_of : (n c : ℕ) → c ≤ n % 2 ^ 32 → c ≤ n
part_of n c le = omega (arith, le)

module _ (s : Table) (id : ℕ) (v : View) (h : Holds s) (at : get_elem? s.views id ≡ some v) where
  pub takes_burst_writes : (sub cores : ℕ) → Asks s id v (takes_burst sub cores) → word s (sub_place sub) < 2 ^ 64
      → (word s (sub_place sub) + cores) % 2 ^ 64 ≡ wrote (takes_burst sub cores) (word s (sub_place sub))
  takes_burst_writes sub cores asks fits =
      let few : cores ≤ 1000000 = asks.2.1 in
      let b = booked_fits (slice_index s.words 0) (words_of s.words) s.views h.1 sub asks.1 in
      used_stays (word s (sub_place sub)) cores fits (omega (arith, few, b))

  pub gives_burst_writes : (sub cores : ℕ) → Asks s id v (gives_burst sub cores) → word s (sub_place sub) < 2 ^ 64
      → (word s (sub_place sub) + (2 ^ 64 - cores)) % 2 ^ 64 ≡ wrote (gives_burst sub cores) (word s (sub_place sub))
  gives_burst_writes sub cores asks fits =
      let n = word s (sub_place sub) in
      less_stays n cores fits (part_of n cores (take_booked (slice_index s.words 0) (words_of s.words) s.views id v h.1 at sub cores asks.1 asks.2))

  pub retracts_burst_writes : (sub cores : ℕ) → Asks s id v (retracts_burst sub cores) → word s (sub_place sub) < 2 ^ 64
      → (word s (sub_place sub) + (2 ^ 64 - cores)) % 2 ^ 64 ≡ wrote (retracts_burst sub cores) (word s (sub_place sub))
  retracts_burst_writes sub cores asks fits =
      let n = word s (sub_place sub) in
      less_stays n cores fits (part_of n cores (flight_booked (slice_index s.words 0) (words_of s.words) s.views id v h.1 at sub cores asks.1 asks.2))

  pub takes_limit_writes : (limit : ℕ) → Asks s id v (takes_limit limit) → word s (limit_place limit) < 2 ^ 64
      → (word s (limit_place limit) + 1) % 2 ^ 64 ≡ wrote (takes_limit limit) (word s (limit_place limit))
  takes_limit_writes limit asks fits =
      let b = running_fits (slice_index s.words 0) (words_of s.words) s.views h.1 limit asks.1 in
      used_stays (word s (limit_place limit)) 1 fits (omega (arith, b))

  pub gives_limit_writes : (limit : ℕ) → Asks s id v (gives_limit limit) → word s (limit_place limit) < 2 ^ 64
      → (word s (limit_place limit) + (2 ^ 64 - 1)) % 2 ^ 64 ≡ wrote (gives_limit limit) (word s (limit_place limit))
  gives_limit_writes limit asks fits =
      let n = word s (limit_place limit) in
      less_stays n 1 fits (part_of n 1 (limit_running (slice_index s.words 0) (words_of s.words) s.views id v h.1 at limit asks.1 asks.2))

  pub retracts_limit_writes : (limit : ℕ) → Asks s id v (retracts_limit limit) → word s (limit_place limit) < 2 ^ 64
      → (word s (limit_place limit) + (2 ^ 64 - 1)) % 2 ^ 64 ≡ wrote (retracts_limit limit) (word s (limit_place limit))
  retracts_limit_writes limit asks fits =
      let n = word s (limit_place limit) in
      less_stays n 1 fits (part_of n 1 (limit_flight_running (slice_index s.words 0) (words_of s.words) s.views id v h.1 at limit asks.1 asks.2))

  pub gives_host_writes : (host cores memory : ℕ) → Asks s id v (gives_host host cores memory) → word s (host_place host) < 2 ^ 64
      → (word s (host_place host) + host_amounts cores memory) % 2 ^ 64 ≡ wrote (gives_host host cores memory) (word s (host_place host))
  gives_host_writes host cores memory asks fits =
      let b = room_within (slice_index s.words 0) (words_of s.words) s.views id v h.1 at host cores memory asks.1 asks.2 in
      host_stays (word s (host_place host)) cores memory fits b.0 b.1
