-- Jobs that finish: the farm stays sound with its hosts, books and completes nothing more, and its rows hold.
use Rattle.std.proofs.Common.{◌≡◌, ℕ, ◌+◌, ◌<◌, ◌≤◌, true, false, Bool, cond, eqb, List, [], ◌∷◌, length, Option, Some, None, refl, sym, ap, subst, ◌∙◌, arith, option_map}
use Rattle.std.proofs.lemmas.Bool.{lt-ltb}
use Rattle.std.proofs.lemmas.Option.{none-some, same_Some, slice_get-map}
use Rattle.farm_types.specs.declared.attempt.Attempt.{Attempt}
use Rattle.farm_types.specs.declared.attempt.ProcRow.{ProcRow}
use Rattle.farm_types.specs.declared.entry.Act.{Act}
use Rattle.farm_types.specs.declared.entry.Act.TheVariants.{Book, EatFrame, Heard, KillJob}
use Rattle.farm_types.specs.declared.limits.TheConstants.{LAST_VERSION}
use Rattle.farm_types.specs.declared.slot_row.Frame.{Frame}
use Rattle.farm_types.specs.declared.slot_row.SlotRow.{SlotRow}
use Rattle.farm_types.specs.Farm.{Farm, for_some}
use Rattle.farm_types.specs.Finish.{freed_row, is_frame_of}
use Rattle.farm_types.specs.Run.{ActsSafely, HasItsAttempt, HasItsHosts, IsSound, OnHostOf}
use Rattle.farm_types.specs.Settle.{raised}
use Rattle.farm_types.specs.Step.{closed, finish_all, finish_each, finish_one, finishing}
use Rattle.farm_types.specs.Sums.{cores_on, memory_on}
use Rattle.farm_types.proofs.Changed.{mapped_each}
use Rattle.farm_types.proofs.ListSums.{sum_by-map_le}
use Rattle.farm_types.proofs.Passes.{cond_each}
use Rattle.farm_types.proofs.Stays.{EachStays-map}
use Rattle.farm_law.proofs.FinishedJobs.{still_found}
use Rattle.farm_law.proofs.Follows.{raised_raises}
use Rattle.farm_law.proofs.FollowLaws.{AreSpent-stay}
use Rattle.farm_law.proofs.Once.{CountsOnce}
use Rattle.farm_law.proofs.RowsStay.{SlotStays, allocs_same, frame_job, hosts_same, slot_same}
use Rattle.farm_law.proofs.RunsStay.{JobsHeld, KeepsRun, run_same, run_then}
use Rattle.farm_law.proofs.Spent.{spent_stays}

-- ---- one slot

-- a version below the last one rises
pub raised_above : (version : ℕ) → version < LAST_VERSION → raised version ≡ version + 1
raised_above version below = ap (λ (b : Bool). cond b (version + 1) version) (lt-ltb version LAST_VERSION below)

abbrev pub free_row : SlotRow → SlotRow
free_row s = record { version = raised s.version; frame = None; proc = None }

freed_apart : (s : SlotRow) → s.version < LAST_VERSION → s.version ≡ raised s.version → ⊥
freed_apart s below e = omega (arith, e, raised_above s.version below)

free_stays : (s : SlotRow) → SlotStays s (free_row s)
free_stays s = record { version = raised_raises.rises s.version; proc = λ e none. refl; job = λ e below n has. absurd (freed_apart s below e) }

pub freed_stays : (job : ℕ) (s : SlotRow) → SlotStays s (freed_row job s)
freed_stays job s = cond_each (SlotStays s) (is_frame_of job s) (free_row s) s (free_stays s) (slot_same s)

-- a weight of attempts that nothing has none of doesn't rise
freed_weight : (weight : Option ProcRow → ℕ) → weight None ≡ 0 → (job : ℕ) (s : SlotRow) → weight (freed_row job s).proc ≤ weight s.proc
freed_weight weight none job s = cond_each (λ (t : SlotRow). weight t.proc ≤ weight s.proc) (is_frame_of job s) (free_row s) s (omega (arith, none)) (omega arith)

-- ---- one job

-- a frame of another job
pub other_frame : (o : Option Frame) (job n : ℕ) → for_some o (λ (x : Frame). eqb x.job job) ≡ false → frame_job o ≡ Some n → eqb n job ≡ false
other_frame None job n other has = absurd (none-some n has)
other_frame (Some x) job n other has = subst (λ (m : ℕ). eqb m job ≡ false) (same_Some x.job n has) other

module _ (job : ℕ) (f : Farm) where
  abbrev now : Farm
  now = finish_one job f

  finished_sound : IsSound f → IsSound now
  finished_sound ok =
      record {
        cores = λ n row at. omega (arith, sum_by-map_le (λ (s : SlotRow). cores_on n s.proc) (freed_row job) (freed_weight (cores_on n) refl job) f.slots, ok.cores n row at);
        memory = λ n row at. omega (arith, sum_by-map_le (λ (s : SlotRow). memory_on n s.proc) (freed_row job) (freed_weight (memory_on n) refl job) f.slots, ok.memory n row at);
        attempts =
            mapped_each (λ i t. HasItsAttempt i t.version t.frame t.proc) f.slots (freed_row job)
            (λ i s at. cond_each (λ (t : SlotRow). HasItsAttempt i t.version t.frame t.proc) (is_frame_of job s) (free_row s) s tt (ok.attempts i s at));
      }

  finished_hosts : HasItsHosts f → HasItsHosts now
  finished_hosts there =
      mapped_each (λ i t. OnHostOf (length f.hosts) t.proc) f.slots (freed_row job)
      (λ i s at. cond_each (λ (t : SlotRow). OnHostOf (length f.hosts) t.proc) (is_frame_of job s) (free_row s) s tt (there i s at))

  -- a slot that keeps its version isn't freed
  held_step : (s t : SlotRow) (b : Bool) → is_frame_of job s ≡ b → cond b (free_row s) s ≡ t → s.version ≡ t.version → s.version < LAST_VERSION → is_frame_of job s ≡ false
  held_step s t true is at same below = absurd (freed_apart s below (same ∙ sym (ap (λ (x : SlotRow). x.version) at)))
  held_step s t false is at same below = is

  jobs_held : JobsHeld f now
  jobs_held i s t at_s at_t same below n j has found pending =
      let made : freed_row job s ≡ t = same_Some (freed_row job s) t (sym (slice_get-map (freed_row job) f.slots i ∙ ap (option_map (freed_row job)) at_s) ∙ at_t) in
      let other = other_frame s.frame job n (held_step s t (is_frame_of job s) refl made same below) has in
      (j, still_found job f.slots f.next_finish n f.jobs j other found pending, refl, refl, pending)

  pub one_run : KeepsRun f now
  one_run =
      record {
        sound = λ ok there. finished_sound ok;
        hosts = λ ok there. finished_hosts there;
        rows =
            record {
              slots = EachStays-map SlotStays f.slots (freed_row job) (freed_stays job);
              hosts = hosts_same f.hosts;
              allocs = allocs_same f.allocs;
              jobs = jobs_held;
            };
      }

-- ---- all that finish

each_run : (jobs : List ℕ) (f : Farm) → KeepsRun f (finish_each jobs f)
each_run [] f = run_same f
each_run (job ∷ jobs) f = run_then f (finish_one job f) (finish_each jobs (finish_one job f)) (one_run job f) (each_run jobs (finish_one job f))

all_run : (f : Farm) → KeepsRun f (finish_all f)
unfolding finish_all
all_run f = each_run (finishing f) f

pub closed_run : (act : Act) (f : Farm) → KeepsRun f (closed act f)
closed_run (Heard heard) f = all_run f
closed_run (KillJob job) f = all_run f
closed_run (EatFrame p) f = all_run f
closed_run act f = run_same f

-- ---- what it books and completes

-- a booking finishes nothing
pub closed_safely : (old new : Farm) (act : Act) → ActsSafely old new act → ActsSafely old (closed act new) act
closed_safely old new (Book slot host) safe = safe
closed_safely old new act safe = tt

-- what ended stays so
pub closed_counts : (act : Act) (f g : Farm) (xs : List Attempt) → CountsOnce f g xs → CountsOnce f (closed act g) xs
closed_counts act f g xs counts =
    record {
      none = counts.none;
      spent = AreSpent-stay g (closed act g) xs (spent_stays g (closed act g) (closed_run act g).rows.slots) counts.spent;
      differ = counts.differ;
    }
