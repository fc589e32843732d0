-- What kept farms say of records: bursts, limits and sizes of hosts within the greatest, no frame half booked, and no host where a frame waits.
use Rattle.std.proofs.Common.{◌≡◌, ◌≢◌, ℕ, ◌≤◌, Bool, true, false, if◌then◌else◌, ◌==◌, List, [], ◌∷◌, ◌++◌, sym, refl, subst, arith, ⊎_elim}
use Rattle.std.specs.Prelude.{not, Option, Some, None, slice_get, find}
use Rattle.std.specs.List.{list_all}
use Rattle.std.proofs.lemmas.Bool.Decides.{nat_tests}
use Rattle.farm_types.specs.declared.attempt.ProcRow.{ProcRow}
use Rattle.farm_types.specs.declared.entry.Entry.{Entry}
use Rattle.farm_types.specs.declared.rows.HostRow.{HostRow}
use Rattle.farm_types.specs.declared.rows.LimitRow.{LimitRow}
use Rattle.farm_types.specs.declared.rows.SubRow.{SubRow}
use Rattle.farm_types.specs.declared.slot_row.Frame.{Frame}
use Rattle.farm_types.specs.declared.slot_row.SlotRow.{SlotRow}
use Rattle.farm_types.specs.declared.states.FrameState.{FrameState}
use Rattle.farm_types.specs.declared.states.FrameState.TheVariants as frame_state
use Rattle.farm_types.specs.Farm.{Farm, for_any, sub_at}
use Rattle.farm_types.specs.Kept.{KeepsRows, is_formed_host, is_formed_limit, is_kept_frame, is_kept_slot, is_kept_sub, is_setup}
use Rattle.farm_types.specs.Run.{IsLegal, run_of}
use Rattle.farm_types.specs.Step.{after}
use Rattle.farm_types.proofs.Lists.{and_both, find_passes, list_all-at}
use Rattle.farm_law.proofs.KeptFirst.{kept_empty}
use Rattle.farm_law.proofs.KeptRuns.{kept_run}
use Rattle.booking_rule.specs.declared.desk.Desk.{Desk}
use Rattle.booking_rule.specs.declared.opening.Opening.{Opening}
use Rattle.booking_rule.specs.Recorded.{Stand}
use Rattle.booking_rule.specs.Link.{farm_of, phase_of, host_where, frame_stand, slot_stand, stand_at, burst_in, burst_at, most_in, most_at, of_host, host_cores, host_memory, has, farm_before, recorded_by, recorded_in}
use Rattle.booking_rule.specs.Kept.{IsBefore}

-- ---- one farm

burst_found : (shows allocs sub : ℕ) (subs : List SubRow) → list_all (is_kept_sub shows allocs) subs ≡ true → (x : Option SubRow) → find (λ s. s.sub == sub) subs ≡ x → burst_in x ≤ 2000000000
burst_found shows allocs sub subs kept None at = omega arith
burst_found shows allocs sub subs kept (Some s) at = let k = find_passes (λ s. s.sub == sub) (is_kept_sub shows allocs) subs s kept at in grind (arith, nat_tests)

burst_small : (f : Farm) (sub : ℕ) → KeepsRows f → burst_at f sub ≤ 2000000000
unfolding burst_at
burst_small f sub k = burst_found _ _ sub f.subs k.subs.each (sub_at f sub) refl

most_found : (limits : List LimitRow) (limit : ℕ) → list_all is_formed_limit limits ≡ true → (x : Option LimitRow) → slice_get limits limit ≡ x → most_in x ≤ 65536
most_found limits limit formed None at = omega arith
most_found limits limit formed (Some row) at = let k = list_all-at is_formed_limit limits limit row formed at in grind (arith, nat_tests)

most_small : (f : Farm) (limit : ℕ) → KeepsRows f → most_at f limit ≤ 65536
unfolding most_at
most_small f limit k = most_found f.limits limit k.limits.formed (slice_get f.limits limit) refl

cores_found : (hosts : List HostRow) (host : ℕ) → list_all is_formed_host hosts ≡ true → (x : Option HostRow) → slice_get hosts host ≡ x → of_host (λ row. row.cores) x ≤ 1000000
cores_found hosts host formed None at = omega arith
cores_found hosts host formed (Some row) at = let k = list_all-at is_formed_host hosts host row formed at in grind (arith, nat_tests)

cores_small : (f : Farm) (host : ℕ) → KeepsRows f → host_cores f host ≤ 1000000
unfolding host_cores
cores_small f host k = cores_found f.hosts host k.hosts.formed (slice_get f.hosts host) refl

memory_found : (hosts : List HostRow) (host : ℕ) → list_all is_formed_host hosts ≡ true → (x : Option HostRow) → slice_get hosts host ≡ x → of_host (λ row. row.memory) x ≤ 1000000000000
memory_found hosts host formed None at = omega arith
memory_found hosts host formed (Some row) at = let k = list_all-at is_formed_host hosts host row formed at in grind (arith, nat_tests)

memory_small : (f : Farm) (host : ℕ) → KeepsRows f → host_memory f host ≤ 1000000000000
unfolding host_memory
memory_small f host k = memory_found f.hosts host k.hosts.formed (slice_get f.hosts host) refl

-- a frame's state isn't that of a frame half booked
not_setup : (state : FrameState) → not (is_setup state) ≡ true → phase_of state ≢ 3
not_setup frame_state.Waiting k e = absurd (omega (arith, e))
not_setup frame_state.Depend k e = absurd (omega (arith, e))
not_setup frame_state.Setup k e = cc
not_setup frame_state.Running k e = absurd (omega (arith, e))
not_setup frame_state.Succeeded k e = absurd (omega (arith, e))
not_setup frame_state.Dead k e = absurd (omega (arith, e))
not_setup frame_state.Eaten k e = absurd (omega (arith, e))

frame_settled : (f : Farm) (s : SlotRow) (x : Option Frame) → for_any x (is_kept_frame f.layers) ≡ true → (frame_stand f s x).phase ≢ 3
frame_settled f s None kept e = absurd (omega (arith, e))
frame_settled f s (Some x) kept e =
    not_setup x.state (and_both _ (not (is_setup x.state)) (and_both _ _ kept).1).1 e

slot_settled : (f : Farm) (n : ℕ) → list_all (is_kept_slot f.layers) f.slots ≡ true → (x : Option SlotRow) → slice_get f.slots n ≡ x → (slot_stand f x).phase ≢ 3
slot_settled f n kept None at e = absurd (omega (arith, e))
slot_settled f n kept (Some s) at e = frame_settled f s s.frame (and_both _ _ (list_all-at (is_kept_slot f.layers) f.slots n s kept at)).1 e

stand_settled : (f : Farm) (n : ℕ) → KeepsRows f → (stand_at f n).phase ≢ 3
unfolding stand_at
stand_settled f n k = slot_settled f n k.jobs.slots_kept (slice_get f.slots n) refl

state_nowhere : (state : FrameState) (p : Option ProcRow) → phase_of state ≡ 1 → host_where state p ≡ 0
state_nowhere frame_state.Waiting p e = refl
state_nowhere frame_state.Depend p e = refl
state_nowhere frame_state.Setup p e = refl
state_nowhere frame_state.Running p e = absurd (omega (arith, e))
state_nowhere frame_state.Succeeded p e = refl
state_nowhere frame_state.Dead p e = refl
state_nowhere frame_state.Eaten p e = refl

frame_nowhere : (f : Farm) (s : SlotRow) (x : Option Frame) → (frame_stand f s x).phase ≡ 1 → (frame_stand f s x).host ≡ 0
frame_nowhere f s None e = refl
frame_nowhere f s (Some x) e = state_nowhere x.state s.proc e

slot_nowhere : (f : Farm) (x : Option SlotRow) → (slot_stand f x).phase ≡ 1 → (slot_stand f x).host ≡ 0
slot_nowhere f None e = refl
slot_nowhere f (Some s) e = frame_nowhere f s s.frame e

pub stand_nowhere : (f : Farm) (n : ℕ) → (stand_at f n).phase ≡ 1 → (stand_at f n).host ≡ 0
unfolding stand_at
stand_nowhere f n e = slot_nowhere f (slice_get f.slots n) e

-- ---- both farms

-- what holds of both farms' says holds of what is recorded
by_both : {X : Type 0} (P : X → Type 0) (says : Farm → ℕ → X) (old now : Farm) (done : List ℕ) (n : ℕ) → P (says old n) → P (says now n) → P (recorded_by says old now done n)
by_both P says old now done n first second = go (has n done)
  where
    go : (b : Bool) → P (if b then says now n else says old n)
    go true = second
    go false = first

legal_front : (f : Farm) (xs ys : List Entry) → IsLegal f (xs ++ ys) → IsLegal f xs
legal_front f [] ys legal = tt
legal_front f (x ∷ xs) ys legal = (legal.0, legal_front (after f x) xs ys legal.1)

pub kept_before : (o : Opening) (before : Option (List Entry)) (log : List Entry) → KeepsRows (farm_of o) → IsLegal (farm_of o) log → IsBefore before log → KeepsRows (farm_before o before)
kept_before o None log begins legal is = kept_empty
kept_before o (Some xs) log begins legal is = kept_run (farm_of o) xs begins (⊎_elim
    (λ (e : xs ≡ log). subst (IsLegal (farm_of o)) (sym e) legal)
    (λ (e : (e : Entry) × (xs ++ e ∷ [] ≡ log)). legal_front (farm_of o) xs (e.0 ∷ []) (subst (IsLegal (farm_of o)) (sym e.1) legal))
    is)

module _ (o : Opening) (log : List Entry) (d : Desk) (begins : KeepsRows (farm_of o)) (legal : IsLegal (farm_of o) log) (before : IsBefore d.before log) where
  pub bursts_small : (sub : ℕ) → (recorded_in o log d).burst sub ≤ 2000000000
  bursts_small sub =
      by_both (λ n. n ≤ 2000000000) burst_at (farm_before o d.before) (run_of (farm_of o) log) d.subs sub
      (burst_small (farm_before o d.before) sub (kept_before o d.before log begins legal before)) (burst_small (run_of (farm_of o) log) sub (kept_run (farm_of o) log begins legal))

  pub mosts_small : (limit : ℕ) → (recorded_in o log d).most limit ≤ 65536
  mosts_small limit =
      by_both (λ n. n ≤ 65536) most_at (farm_before o d.before) (run_of (farm_of o) log) d.limits limit
      (most_small (farm_before o d.before) limit (kept_before o d.before log begins legal before)) (most_small (run_of (farm_of o) log) limit (kept_run (farm_of o) log begins legal))

  pub hosts_small : (host : ℕ) → ((recorded_in o log d).cores host ≤ 1000000) × ((recorded_in o log d).memory host ≤ 1000000000000)
  hosts_small host =
      let old = kept_before o d.before log begins legal before in
      let now = kept_run (farm_of o) log begins legal in (
        by_both (λ n. n ≤ 1000000) host_cores (farm_before o d.before) (run_of (farm_of o) log) d.hosts host (cores_small (farm_before o d.before) host old) (cores_small (run_of (farm_of o) log) host now),
        by_both (λ n. n ≤ 1000000000000) host_memory (farm_before o d.before) (run_of (farm_of o) log) d.hosts host (memory_small (farm_before o d.before) host old) (memory_small (run_of (farm_of o) log) host now),
      )

  pub none_setup : (slot : ℕ) → ((recorded_in o log d).slot slot).phase ≢ 3
  none_setup slot =
      by_both (λ (s : Stand). s.phase ≢ 3) stand_at (farm_before o d.before) (run_of (farm_of o) log) d.slots slot
      (stand_settled (farm_before o d.before) slot (kept_before o d.before log begins legal before)) (stand_settled (run_of (farm_of o) log) slot (kept_run (farm_of o) log begins legal))

  pub waits_nowhere : (slot : ℕ) → ((recorded_in o log d).slot slot).phase ≡ 1 → ((recorded_in o log d).slot slot).host ≡ 0
  waits_nowhere slot =
      by_both (λ (s : Stand). s.phase ≡ 1 → s.host ≡ 0) stand_at (farm_before o d.before) (run_of (farm_of o) log) d.slots slot
      (stand_nowhere (farm_before o d.before) slot) (stand_nowhere (run_of (farm_of o) log) slot)
