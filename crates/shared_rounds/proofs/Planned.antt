-- The candidates of a plan, in a farm that the pass has seen.
use Rattle.std.proofs.Common.{◌≡◌, ℕ, ◌≤◌, ◌<◌, ◌==◌, ◌&&◌, true, List, [], ◌∷◌, length, take, sym, refl, ap, ◌∙◌, subst, arith}
use Rattle.std.specs.Prelude.{Some, IfOk, Result, Ok, Err, nat_lt, slice_get}
use Rattle.std.proofs.lemmas.Bool.{eqb-true}
use Rattle.std.proofs.lemmas.Bool.Decides.{nat_tests}
use Rattle.std.proofs.lemmas.Option.{slice_get_within}
use Rattle.farm_types.specs.declared.dispatch.Candidate.{Candidate}
use Rattle.farm_types.specs.declared.rows.HostRow.{HostRow}
use Rattle.farm_types.specs.declared.rows.JobRow.{JobRow}
use Rattle.farm_types.specs.declared.slot_row.Frame.{Frame}
use Rattle.farm_types.specs.declared.slot_row.SlotRow.{SlotRow}
use Rattle.farm_types.specs.Booking.{in_facility, is_pending, suits}
use Rattle.farm_types.specs.Dispatch.{plan_for}
use Rattle.farm_types.specs.Farm.{Farm, for_some, job_at, sub_of}
use Rattle.farm_types.specs.Kept.{IsKeptFarm, is_formed_job}
use Rattle.farm_types.specs.Run.{run_of}
use Rattle.farm_types.proofs.Lists.{and_both, find_passes, for_some_true, list_all-at}
use Rattle.booking_rule.specs.declared.view.View.{View}
use Rattle.booking_rule.specs.Kept.{farm_in}
use Rattle.booking_rule.specs.Link.{farm_of}
use Rattle.booking_table.specs.Calls.{SuitsAt}
use Rattle.dispatch_plan.specs.Order.{IsDispatchOrder}
use Rattle.dispatcher.specs.Ready.{AreReady, IsReady}
use Rattle.dispatcher.proofs.Candidates.{plan_ready}
use Rattle.shared_rounds.specs.Holding.{AreDue, IsDue}

job_show : (shows : ℕ) (j : JobRow) → shows ≤ 64 → is_formed_job shows j ≡ true → j.show < 64
job_show shows j few formed = grind (arith, nat_tests)

-- ---- a slot that suits

module _ (f : Farm) (slot host version sub : ℕ) (kept : IsKeptFarm f) (suited : suits f slot version host sub ≡ true) where
  row : (s : SlotRow) × (slice_get f.slots slot ≡ Some s)
      × ((s.version == version && for_some s.frame (λ frame. for_some (job_at f frame.job) (λ job.
      is_pending job.state && for_some (slice_get f.hosts host) (λ row. in_facility f row.alloc job.facility && (sub_of job.show row.alloc == sub))))) ≡ true)
  row = let r = for_some_true (slice_get f.slots slot) _ suited in (r.0, r.1, r.2)

  slot_within : slot < 65536
  slot_within =
      let lt = slice_get_within f.slots slot row.0 row.1 in
      let few = kept.rows.jobs.slot_count in
      omega (arith, lt, few)

  of_frame : (x : Frame) × (row.0.frame ≡ Some x) × (for_some (job_at f x.job) (λ job.
      is_pending job.state && for_some (slice_get f.hosts host) (λ on. in_facility f on.alloc job.facility && (sub_of job.show on.alloc == sub))) ≡ true)
  of_frame = let r = for_some_true row.0.frame _ (and_both (row.0.version == version) _ row.2).1 in (r.0, r.1, r.2)

  of_job : (j : JobRow) × (job_at f of_frame.0.job ≡ Some j)
      × ((is_pending j.state && for_some (slice_get f.hosts host) (λ on. in_facility f on.alloc j.facility && (sub_of j.show on.alloc == sub))) ≡ true)
  of_job = let r = for_some_true (job_at f of_frame.0.job) _ of_frame.2 in (r.0, r.1, r.2)

  on_host : (on : HostRow) × (slice_get f.hosts host ≡ Some on) × ((in_facility f on.alloc of_job.0.facility && (sub_of of_job.0.show on.alloc == sub)) ≡ true)
  on_host = let r = for_some_true (slice_get f.hosts host) _ (and_both (is_pending of_job.0.state) _ of_job.2).1 in (r.0, r.1, r.2)

  host_within : host < 4096
  host_within =
      let lt = slice_get_within f.hosts host on_host.0 on_host.1 in
      let few = kept.rows.hosts.count in
      omega (arith, lt, few)

  alloc_low : on_host.0.alloc < 16
  alloc_low = low on_host.0 (list_all-at _ f.hosts host on_host.0 kept.rows.hosts.allocated on_host.1)
    where
      low : (r : HostRow) → nat_lt r.alloc (length f.allocs) ≡ true → r.alloc < 16
      low r within = let count : length f.allocs ≤ 16 = kept.rows.allocs.count in grind (arith, nat_tests)

  show_few : of_job.0.show < 64
  show_few = job_show (length f.shows) of_job.0 kept.rows.shows.count (find_passes _ (is_formed_job (length f.shows)) f.jobs of_job.0 kept.rows.jobs.jobs_formed of_job.1)

  sub_within : sub < 1024
  sub_within =
      let few = show_few in
      let low = alloc_low in
      let is : sub_of of_job.0.show on_host.0.alloc ≡ sub = eqb-true _ _ (and_both (in_facility f on_host.0.alloc of_job.0.facility) _ on_host.2).1 in
      let below : sub_of of_job.0.show on_host.0.alloc < 1024 = omega (arith, few, low) in
      subst (λ (k : ℕ). k < 1024) is below

  pub bounds : (slot < 65536) × (sub < 1024) × (host < 4096)
  bounds = (slot_within, sub_within, host_within)

-- ---- a plan

take_all : {A : Type 0} (xs : List A) → take (length xs) xs ≡ xs
take_all [] = refl
take_all {A = A} (x ∷ xs) = ap (λ (l : List A). x ∷ l) (take_all xs)

module _ (f : Farm) (w : View) (kept : IsKeptFarm f) (leads : f ≡ farm_in w) where
  suits_now : (slot version host sub : ℕ) → suits f slot version host sub ≡ true → SuitsAt w slot version host sub
  suits_now slot version host sub suited = (
    length w.journal,
    omega arith,
    subst (λ (g : Farm). suits g slot version host sub ≡ true) (leads ∙ ap (run_of (farm_of w.opening)) (sym (take_all w.journal))) suited,
  )

  due_by : (c : Candidate) → IsReady f c → IsDue w c
  due_by c ready =
      let within = bounds f c.slot c.host c.version c.sub kept ready.suits in record {
        suits = suits_now c.slot c.version c.host c.sub ready.suits;
        below = ready.below;
        slot = within.0;
        sub = within.1;
        host = within.2;
      }

  all_due : (cs : List Candidate) → AreReady f cs → AreDue w cs
  all_due [] ready = tt
  all_due (c ∷ cs) ready = (due_by c ready.0, all_due cs ready.2)

  pub plan_due : (host : ℕ) (cs : List Candidate) → cs ≡ plan_for f host → IsDispatchOrder f host → AreDue w cs
  plan_due host cs is order = subst (AreDue w) (sym is) (all_due (plan_for f host) (plan_ready f host order))

-- .. where there was memory for it
pub planned_so : {E : Type 0} (f : Farm) (w : View) → f ≡ farm_in w → (host : ℕ) (r : Result (List Candidate) E) → IfOk r (λ cs. cs ≡ plan_for f host)
    → IfOk r (λ cs. cs ≡ plan_for (farm_in w) host)
planned_so f w leads host (Ok cs) is = subst (λ (g : Farm). cs ≡ plan_for g host) leads is
planned_so f w leads host (Err fault) is = tt

pub planned_due : {E : Type 0} (f : Farm) (w : View) → f ≡ farm_in w → IsKeptFarm f → (host : ℕ) → IsDispatchOrder f host → (r : Result (List Candidate) E)
    → IfOk r (λ cs. cs ≡ plan_for f host) → IfOk r (AreDue w)
planned_due f w leads kept host order (Ok cs) is = plan_due f w kept leads host cs is order
planned_due f w leads kept host order (Err fault) is = tt
