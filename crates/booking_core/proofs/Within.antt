-- What a seat holds is part of what its words count, and no word overflows.
use Rattle.std.proofs.Common.{◌≡◌, ℕ, ◌+◌, ◌<◌, ◌≤◌, Bool, true, if◌then◌else◌, List, refl, ap, arith}
use Rattle.std.specs.Prelude.{Some}
use mathlib.Core.Option.{some}
use lib.ListN.{get_elem?}
use Rattle.booking_rule.specs.declared.view.View.{View}
use Rattle.booking_rule.specs.Totals.{total}
use Rattle.booking_rule.specs.Words.{Words}
use Rattle.booking_rule.specs.Rule.{Account, sum_of, cores_in, memory_in, on_sub, in_flight, on_limit, limit_in_flight, cores_of, memory_of, booked_of}
use Rattle.booking_rule.specs.Rule.{running_of}
use Rattle.booking_rule.specs.Views.{take_of, room_of, same_take, same_limit, same_room, holds}
use Rattle.booking_rule.specs.Splits.{blank}
use Rattle.booking_rule.specs.Kept.{Kept}
use Rattle.booking_rule.proofs.Sums.{total_set}
use Rattle.booking_rule.proofs.Moves.{same_self}
use Rattle.booking_rule.proofs.Steps.{total_without, take_same, limit_same, room_same}
use Rattle.booking_rule.proofs.Claimants.{on_here}
use Rattle.booking_rule.proofs.Keeping.{records_of}
use Rattle.booking_rule.proofs.Says.{hosts_small}

-- an item that a list has is part of its total
in_total : {A : Type 0} (same : A → A → Bool) (g : A → ℕ) (t : A) (us : List A) → ((u : A) → same t u ≡ true → t ≡ u) → holds same t us ≡ true
    → g t ≤ total g us
in_total same g t us exact has = let s = total_without same g t us exact has in omega arith

module _ (n : ℕ) (W : Words) (views : List View) (id : ℕ) (v : View) (K : Kept n W views) (at : get_elem? views id ≡ some v) where
  -- a view is part of a sum
  held_in_sum : (a : Account) → a.held blank ≡ 0 → a.held v ≤ sum_of a (records_of K) W views
  held_in_sum a none = let t = total_set a.held views id v blank at in omega arith

  pub take_booked : (sub cores : ℕ) → sub < 1024 → holds same_take (take_of sub cores) v.takes ≡ true → cores ≤ (W.sub sub).booked
  take_booked sub cores lt has =
      let o = K.own.rule.booked sub lt in
      let h = held_in_sum (booked_of (records_of K).alloc sub) refl in
      let t = in_total same_take (on_sub sub) (take_of sub cores) v.takes (take_same (take_of sub cores)) has in
      let b = on_here sub cores in
      omega arith

  pub flight_booked : (sub cores : ℕ) → sub < 1024 → v.ungranted ≡ Some (take_of sub cores) → cores ≤ (W.sub sub).booked
  flight_booked sub cores lt flew =
      let o = K.own.rule.booked sub lt in
      let h = held_in_sum (booked_of (records_of K).alloc sub) refl in
      let f : in_flight sub v.ungranted ≡ on_sub sub (take_of sub cores) = ap (in_flight sub) flew in
      let b = on_here sub cores in
      omega arith

  here : (limit : ℕ) → on_limit limit limit ≡ 1
  here limit = ap (λ (b : Bool). if b then 1 else 0) (same_self limit)

  pub limit_running : (limit : ℕ) → limit < 255 → holds same_limit limit v.limits ≡ true → 1 ≤ (W.limit limit).running
  limit_running limit lt has =
      let o = K.own.rule.running limit lt in
      let h = held_in_sum (running_of limit) refl in
      let t = in_total same_limit (on_limit limit) limit v.limits (limit_same limit) has in
      let b = here limit in
      omega arith

  pub limit_flight_running : (limit : ℕ) → limit < 255 → v.ungranted_limit ≡ Some limit → 1 ≤ (W.limit limit).running
  limit_flight_running limit lt flew =
      let o = K.own.rule.running limit lt in
      let h = held_in_sum (running_of limit) refl in
      let f : limit_in_flight limit v.ungranted_limit ≡ on_limit limit limit = ap (limit_in_flight limit) flew in
      let b = here limit in
      omega arith

  -- what is free of a host, with room that is held there, is within a host's greatest size
  pub room_within : (host cores memory : ℕ) → host < 4096 → holds same_room (room_of host cores memory) v.rooms ≡ true
      → ((W.host host).cores + cores ≤ 1000000) × ((W.host host).memory + memory ≤ 1000000000000)
  room_within host cores memory lt has =
      let A = K.own in
      let r = room_of host cores memory in
      let small = hosts_small K.opening K.log K.desk A.begins.rows A.legal A.before host in
      let oc = A.rule.cores host lt in
      let om = A.rule.memory host lt in
      let hc = held_in_sum (cores_of host) refl in
      let hm = held_in_sum (memory_of host) refl in
      let tc = in_total same_room (cores_in host) r v.rooms (room_same r) has in
      let tm = in_total same_room (memory_in host) r v.rooms (room_same r) has in
      let bc : cores_in host r ≡ cores = ap (λ (b : Bool). if b then cores else 0) (same_self host) in
      let bm : memory_in host r ≡ memory = ap (λ (b : Bool). if b then memory else 0) (same_self host) in
      (omega (arith, small.0), omega (arith, small.1))
