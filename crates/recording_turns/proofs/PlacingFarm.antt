-- What a kept farm's running frames use, as words are placed: of hosts within their sizes, and of what is there.
use Rattle.std.proofs.Common.{◌≡◌, ◌≢◌, ◌⊎◌, ℕ, zero, suc, ◌+◌, ◌/◌, ◌<◌, ◌≤◌, ◌==◌, ◌&&◌, ◌||◌, Bool, true, if◌then◌else◌, List, [], ◌∷◌, length, Option, Some, None, sym, refl, ap, ◌∙◌, subst, arith, inl, inr, ⊎_elim}
use Rattle.std.specs.List.{slice_get}
use Rattle.std.specs.Prelude.{nat_lt}
use Rattle.std.proofs.lemmas.Bool.{false≢true}
use Rattle.std.proofs.lemmas.Bool.Decides.{nat_tests}
use Rattle.std.proofs.lemmas.Option.{slice_get_past, slice_get_within}
use mathlib.Core.Logic.{dite}
use native.Mathlib.Decide.{ℕ_discrete}
use Rattle.farm_types.specs.declared.attempt.ProcRow.{ProcRow}
use Rattle.farm_types.specs.declared.limits.TheConstants.{MOST_ALLOCS}
use Rattle.farm_types.specs.declared.rows.HostRow.{HostRow}
use Rattle.farm_types.specs.declared.rows.JobRow.{JobRow}
use Rattle.farm_types.specs.declared.rows.SubRow.{SubRow}
use Rattle.farm_types.specs.declared.slot_row.Frame.{Frame}
use Rattle.farm_types.specs.declared.slot_row.SlotRow.{SlotRow}
use Rattle.farm_types.specs.declared.states.FrameState.{FrameState}
use Rattle.farm_types.specs.declared.states.FrameState.TheVariants as frame_state
use Rattle.farm_types.specs.DependActs.{is_running}
use Rattle.farm_types.specs.Farm.{Farm, for_any, sub_of}
use Rattle.farm_types.specs.Kept.{KeepsRows, has_its_limit, is_formed_job, is_kept_sub, is_on_host}
use Rattle.farm_types.specs.Run.{HasItsAttempt, IsAttemptOf}
use Rattle.farm_types.specs.Sums.{booked_in, running_in, used_cores, used_memory}
use Rattle.farm_types.proofs.Lists.{and_both, find_passes, for_some_true, list_all-at}
use Rattle.farm_law.proofs.BookedOnHosts.{booked_within}
use Rattle.farm_law.proofs.KeptJobsLists.{find_none}
use Rattle.booking_rule.specs.Kept.{no_desk}
use Rattle.booking_rule.specs.Link.{burst_at, burst_in, frame_stand, host_alloc, host_cores, host_memory, host_where, limit_code, most_at, most_in, of_host, opening_of, phase_of, slot_stand, stand_at}
use Rattle.booking_rule.specs.Placing.{limit_uses, runs_cores, runs_memory, sub_uses}
use Rattle.booking_rule.specs.Recorded.{Stand, free_at}
use Rattle.booking_rule.specs.Rule.{is_booked}
use Rattle.booking_rule.specs.Totals.{sum_to}
use Rattle.booking_rule.proofs.Moves.{same_not}
use Rattle.booking_rule.proofs.Says.{none_setup}
use Rattle.booking_rule.proofs.Sums.{sum_to-same, sum_to-zero}
use Rattle.entry_law.specs.Used.{UsesAreShown}
use Rattle.entry_law.proofs.FrameRows.{frame_rows}
use Rattle.entry_law.proofs.HostRows.{alloc_is}
use Rattle.entry_law.proofs.Stands.{running_frame, stand_is, the_stand}

-- ---- phases

pub not_setup : (f : Farm) (n : ℕ) → KeepsRows f → (stand_at f n).phase ≢ 3
not_setup f n kept = none_setup (opening_of f) [] no_desk kept tt (inl refl) n

some_phase : (state : FrameState) → phase_of state ≢ 0
some_phase frame_state.Waiting e = absurd (omega (arith, e))
some_phase frame_state.Depend e = absurd (omega (arith, e))
some_phase frame_state.Setup e = absurd (omega (arith, e))
some_phase frame_state.Running e = absurd (omega (arith, e))
some_phase frame_state.Succeeded e = absurd (omega (arith, e))
some_phase frame_state.Dead e = absurd (omega (arith, e))
some_phase frame_state.Eaten e = absurd (omega (arith, e))

frame_free : (f : Farm) (s : SlotRow) (o : Option Frame) → (frame_stand f s o).phase ≡ 0 → frame_stand f s o ≡ free_at (frame_stand f s o).version
frame_free f s None e = refl
frame_free f s (Some x) e = absurd (some_phase x.state e)

slot_free : (f : Farm) (o : Option SlotRow) → (slot_stand f o).phase ≡ 0 → slot_stand f o ≡ free_at (slot_stand f o).version
slot_free f None e = refl
slot_free f (Some s) e = frame_free f s s.frame e

-- a slot without a frame has a version alone
pub stand_free : (f : Farm) (n : ℕ) → (stand_at f n).phase ≡ 0 → stand_at f n ≡ free_at (stand_at f n).version
unfolding stand_at
stand_free f n e = slot_free f (slice_get f.slots n) e

-- ---- past the lists

pub stand_past : (f : Farm) (n : ℕ) → length f.slots ≤ n → stand_at f n ≡ free_at 0
unfolding stand_at
stand_past f n past = ap (slot_stand f) (slice_get_past f.slots n past)

pub cores_past : (f : Farm) (n : ℕ) → length f.hosts ≤ n → host_cores f n ≡ 0
unfolding host_cores
cores_past f n past = ap (of_host (λ (row : HostRow). row.cores)) (slice_get_past f.hosts n past)

pub memory_past : (f : Farm) (n : ℕ) → length f.hosts ≤ n → host_memory f n ≡ 0
unfolding host_memory
memory_past f n past = ap (of_host (λ (row : HostRow). row.memory)) (slice_get_past f.hosts n past)

pub alloc_past : (f : Farm) (n : ℕ) → length f.hosts ≤ n → host_alloc f n ≡ 0
unfolding host_alloc
alloc_past f n past = ap (of_host (λ (row : HostRow). row.alloc)) (slice_get_past f.hosts n past)

pub most_past : (f : Farm) (n : ℕ) → length f.limits ≤ n → most_at f n ≡ 0
unfolding most_at
most_past f n past = ap most_in (slice_get_past f.limits n past)

sub_within : (shows allocs : ℕ) (s : SubRow) → shows ≤ 64 → is_kept_sub shows allocs s ≡ true → s.sub < 1024
sub_within shows allocs s few kept =
    let here : nat_lt (s.sub / MOST_ALLOCS) shows ≡ true = (and_both _ _ kept).0 in
    let below : s.sub / 16 < shows = grind (arith, nat_tests) in
    omega (arith, below, few)

pub burst_past : (f : Farm) (n : ℕ) → KeepsRows f → 1024 ≤ n → burst_at f n ≡ 0
unfolding burst_at
burst_past f n kept past =
    let few : length f.shows ≤ 64 = kept.shows.count in
    ap burst_in (find_none (λ (s : SubRow). s.sub == n) f.subs
    (λ i s at. let small = sub_within (length f.shows) (length f.allocs) s few (list_all-at (is_kept_sub (length f.shows) (length f.allocs)) f.subs i s kept.subs.each at) in
    same_not s.sub n (λ e. absurd (omega (arith, small, past, e)))))

-- ---- a running frame

-- its host, its show, its host's allocation and its limit, if any, are there
pub record RunsAt (f : Farm) (s : Stand) : Type 0 where
  pub host : s.host < length f.hosts
  pub show : s.show < length f.shows
  pub alloc : host_alloc f s.host < length f.allocs
  pub limit : (s.limit ≡ 0) ⊎ ((n : ℕ) × (s.limit ≡ n + 1) × (n < length f.limits))

below : (n most : ℕ) → nat_lt n most ≡ true → n < most
below n most here = grind (arith, nat_tests)

show_within : (shows : ℕ) (j : JobRow) → is_formed_job shows j ≡ true → j.show < shows
show_within shows j formed = below j.show shows (and_both _ _ (and_both _ _ formed).1).0

limit_within : (limits : ℕ) (o : Option ℕ) → for_any o (λ n. nat_lt n limits) ≡ true → (limit_code o ≡ 0) ⊎ ((n : ℕ) × (limit_code o ≡ n + 1) × (n < limits))
limit_within limits None here = inl refl
limit_within limits (Some n) here = inr (n, refl, below n limits here)

-- where a live attempt is
on_host : (f : Farm) (place version : ℕ) (state : FrameState) (proc : Option ProcRow) → is_running state ≡ true → IsAttemptOf place version state proc → for_any proc (is_on_host f.hosts) ≡ true
    → (row : HostRow) × (slice_get f.hosts (host_where state proc) ≡ Some row)
on_host f place version frame_state.Running None runs has on = absurd has
on_host f place version frame_state.Running (Some p) runs has on = let found = for_some_true (slice_get f.hosts p.host) _ on in (found.0, found.1)
on_host f place version frame_state.Waiting proc runs has on = absurd (false≢true runs)
on_host f place version frame_state.Depend proc runs has on = absurd (false≢true runs)
on_host f place version frame_state.Setup proc runs has on = absurd (false≢true runs)
on_host f place version frame_state.Succeeded proc runs has on = absurd (false≢true runs)
on_host f place version frame_state.Dead proc runs has on = absurd (false≢true runs)
on_host f place version frame_state.Eaten proc runs has on = absurd (false≢true runs)

pub runs_at : (f : Farm) (n : ℕ) → KeepsRows f → (stand_at f n).phase ≡ 4 → RunsAt f (stand_at f n)
runs_at f n kept runs =
    let h = running_frame f n runs in
    let s = h.0.row in
    let x = h.0.frame in
    let r = frame_rows f kept n s x h.0.at h.0.is in
    let attempt = subst (λ (o : Option Frame). HasItsAttempt n s.version o s.proc) h.0.is (kept.sound.attempts n s h.0.at) in
    let on = on_host f n s.version x.state s.proc h.1 attempt (list_all-at (λ (t : SlotRow). for_any t.proc (is_on_host f.hosts)) f.slots n s kept.attempts.hosted h.0.at) in
    let host = host_where x.state s.proc in
    let alloc = below on.0.alloc (length f.allocs) (list_all-at (λ (row : HostRow). nat_lt row.alloc (length f.allocs)) f.hosts host on.0 kept.hosts.allocated on.1) in
    let formed = find_passes _ (is_formed_job (length f.shows)) f.jobs r.job_row kept.jobs.jobs_formed r.job_is in
    let limited = find_passes _ (has_its_limit (length f.limits)) f.layers r.layer_row kept.limits.there r.layer_is in
    let same = stand_is f n s x r.job_row r.layer_row h.0.at h.0.is r.job_is r.layer_is in
    let there : RunsAt f (the_stand s x r.job_row.show r.layer_row) = record {
      host = slice_get_within f.hosts host on.0 on.1;
      show = show_within (length f.shows) r.job_row formed;
      alloc = subst (λ (k : ℕ). k < length f.allocs) (sym (alloc_is f host on.0 on.1)) alloc;
      limit = limit_within (length f.limits) r.layer_row.limit limited;
    } in
    subst (RunsAt f) (sym same) there

-- ---- sums over running frames

-- no frame is half booked, so a booked one runs
booked_runs : (p : ℕ) (test : Bool) (amount : ℕ) → p ≢ 3 → (if (p == 4) && test then amount else 0) ≡ (if is_booked p && test then amount else 0)
booked_runs p test amount ne = sym (ap (λ (b : Bool). if (b || (p == 4)) && test then amount else 0) (same_not p 3 ne))

module _ (f : Farm) (kept : KeepsRows f) (uses : UsesAreShown f) where
  pub cores_run : (host : ℕ) → sum_to 65536 (λ k. runs_cores host (stand_at f k)) ≡ used_cores f host
  cores_run host =
      sum_to-same 65536 (λ k. if is_booked (stand_at f k).phase && ((stand_at f k).host == host) then (stand_at f k).cores else 0) (λ k. runs_cores host (stand_at f k))
      (λ k lt. booked_runs (stand_at f k).phase ((stand_at f k).host == host) (stand_at f k).cores (not_setup f k kept)) ∙ sym (uses.cores host)

  pub memory_run : (host : ℕ) → sum_to 65536 (λ k. runs_memory host (stand_at f k)) ≡ used_memory f host
  memory_run host =
      sum_to-same 65536 (λ k. if is_booked (stand_at f k).phase && ((stand_at f k).host == host) then (stand_at f k).memory else 0) (λ k. runs_memory host (stand_at f k))
      (λ k lt. booked_runs (stand_at f k).phase ((stand_at f k).host == host) (stand_at f k).memory (not_setup f k kept)) ∙ sym (uses.memory host)

  pub booked_run : (sub : ℕ) → sum_to 65536 (λ k. sub_uses f sub (stand_at f k)) ≡ booked_in f sub
  booked_run sub =
      sum_to-same 65536 (λ k. if is_booked (stand_at f k).phase && (sub_of (stand_at f k).show (host_alloc f (stand_at f k).host) == sub) then (stand_at f k).cores else 0)
      (λ k. sub_uses f sub (stand_at f k))
      (λ k lt. booked_runs (stand_at f k).phase (sub_of (stand_at f k).show (host_alloc f (stand_at f k).host) == sub) (stand_at f k).cores (not_setup f k kept)) ∙ sym (uses.booked sub)

  pub limit_run : (limit : ℕ) → sum_to 65536 (λ k. limit_uses limit (stand_at f k)) ≡ running_in f limit
  limit_run limit =
      sum_to-same 65536 (λ k. if is_booked (stand_at f k).phase && ((stand_at f k).limit == limit + 1) then 1 else 0) (λ k. limit_uses limit (stand_at f k))
      (λ k lt. booked_runs (stand_at f k).phase ((stand_at f k).limit == limit + 1) 1 (not_setup f k kept)) ∙ sym (uses.running limit)

-- ---- what running frames use of a host is within its size

idle_there : (p h host amount : ℕ) → (p ≡ 4 → h ≢ host) → (if (p == 4) && (h == host) then amount else 0) ≡ 0
idle_there p h host amount apart = dite (ℕ_discrete p 4)
    (λ e. ap (λ (q : ℕ). if (q == 4) && (h == host) then amount else 0) e ∙ ap (λ (b : Bool). if b then amount else 0) (same_not h host (apart e)))
    (λ ne. ap (λ (b : Bool). if b && (h == host) then amount else 0) (same_not p 4 ne))

module _ (f : Farm) (kept : KeepsRows f) where
  -- on a host that isn't there
  no_cores : (host : ℕ) → length f.hosts ≤ host → sum_to 65536 (λ k. runs_cores host (stand_at f k)) ≡ 0
  no_cores host past =
      sum_to-same 65536 (λ _. 0) (λ k. runs_cores host (stand_at f k))
      (λ k lt. idle_there (stand_at f k).phase (stand_at f k).host host (stand_at f k).cores (λ runs e. let r = (runs_at f k kept runs).host in absurd (omega (arith, r, past, e))))
      ∙ sum_to-zero 65536

  no_memory : (host : ℕ) → length f.hosts ≤ host → sum_to 65536 (λ k. runs_memory host (stand_at f k)) ≡ 0
  no_memory host past =
      sum_to-same 65536 (λ _. 0) (λ k. runs_memory host (stand_at f k))
      (λ k lt. idle_there (stand_at f k).phase (stand_at f k).host host (stand_at f k).memory (λ runs e. let r = (runs_at f k kept runs).host in absurd (omega (arith, r, past, e))))
      ∙ sum_to-zero 65536

cores_is : (f : Farm) (host : ℕ) (row : HostRow) → slice_get f.hosts host ≡ Some row → host_cores f host ≡ row.cores
unfolding host_cores
cores_is f host row at = ap (of_host (λ (r : HostRow). r.cores)) at

memory_is : (f : Farm) (host : ℕ) (row : HostRow) → slice_get f.hosts host ≡ Some row → host_memory f host ≡ row.memory
unfolding host_memory
memory_is f host row at = ap (of_host (λ (r : HostRow). r.memory)) at

-- a host is there, or its number is past the last
there_or_past : {X : Type 0} (xs : List X) (n : ℕ) → ((x : X) × (slice_get xs n ≡ Some x)) ⊎ (length xs ≤ n)
there_or_past [] n = inr (omega arith)
there_or_past (x ∷ xs) zero = inl (x, refl)
there_or_past {X = X} (x ∷ xs) (suc n) = ⊎_elim
    (λ (h : (y : X) × (slice_get xs n ≡ Some y)). inl h)
    (λ (past : length xs ≤ n). inr (omega (arith, past)))
    (there_or_past xs n)

module _ (f : Farm) (kept : KeepsRows f) (uses : UsesAreShown f) (host : ℕ) where
  pub cores_fit : used_cores f host ≤ host_cores f host
  cores_fit = ⊎_elim
      (λ (h : (row : HostRow) × (slice_get f.hosts host ≡ Some row)). let s = kept.sound.cores host h.0 h.1 in let c = cores_is f host h.0 h.1 in omega (arith, s, c))
      (λ (past : length f.hosts ≤ host). let z = no_cores f kept host past in let c = cores_run f kept uses host in omega (arith, z, c))
      (there_or_past f.hosts host)

  pub memory_fits : used_memory f host ≤ host_memory f host
  memory_fits = ⊎_elim
      (λ (h : (row : HostRow) × (slice_get f.hosts host ≡ Some row)). let s = kept.sound.memory host h.0 h.1 in let c = memory_is f host h.0 h.1 in omega (arith, s, c))
      (λ (past : length f.hosts ≤ host). let z = no_memory f kept host past in let c = memory_run f kept uses host in omega (arith, z, c))
      (there_or_past f.hosts host)

-- what is booked of a subscription is a number that its word may have
pub booked_fits : (f : Farm) → KeepsRows f → (sub : ℕ) → booked_in f sub ≤ 4096000000
booked_fits f kept sub = let b = booked_within f kept sub in omega (arith, b)
