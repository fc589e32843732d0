-- What each act keeps of what every farm keeps.
--
-- Each act has its clause in `kept_act`. In its record a field is the fact of the farm before where the act leaves the rows as they are that the
-- field speaks of, and else one lemma; `sound` is that of the act's law (`ActLaws`).
use Rattle.std.proofs.Common.{◌≡◌, ◌<◌, ◌≤◌, ℕ, List, [], ◌∷◌, true, length, Option, Some, None, refl, sym, subst, arith, option_map}
use Rattle.std.proofs.lemmas.List.{length-append}
use Rattle.std.proofs.lemmas.Option.{option_and_then_some}
use Rattle.farm_types.proofs.Passes.{option_map-from}
use Rattle.farm_types.specs.Booking.{may_record}
use Rattle.farm_types.specs.declared.entry.Act.{Act}
use Rattle.farm_types.specs.declared.entry.Act.TheVariants.{Opened, Show, Alloc, Sub, Limit, Boot, Heard, Submit, AddDepend, DropDepend, Pause, KillJob, KillFrame, EatFrame, RetryFrame, Lock, Tick, Book}
use Rattle.farm_types.specs.declared.entry.FramePlace.{FramePlace}
use Rattle.farm_types.specs.declared.job.JobSpec.{JobSpec}
use Rattle.farm_types.specs.declared.limits.TheConstants.{MOST_RUNNING}
use Rattle.farm_types.specs.declared.slot_row.SlotRow.{SlotRow}
use Rattle.farm_types.specs.declared.states.FrameState.TheVariants.{Dead, Eaten}
use Rattle.farm_types.specs.declared.states.LockState.{LockState}
use Rattle.farm_types.specs.declared.sub_line.SubLine.{SubLine}
use Rattle.farm_types.specs.DependActs.{pending_named}
use Rattle.farm_types.specs.Farm.{Farm, alloc_named, changed_at, has_facility, host_named, limit_named, show_named, sub_of}
use Rattle.farm_types.specs.Formed.{IsFormedAct, IsFormedJob}
use Rattle.farm_types.specs.Forms.{is_name_text}
use Rattle.farm_types.specs.Hosts.{locked_row, reopened_row}
use Rattle.farm_types.specs.Jobs.{frames_of, layer_rows}
use Rattle.farm_types.specs.Kept.{KeepsRows, KeepsJobs, alloc_label, show_label}
use Rattle.farm_types.specs.Limits.{SubKeepsLimits}
use Rattle.farm_types.specs.Operators.{retried_row, slot_named, stopped_row, with_frame, with_killed}
use Rattle.farm_types.specs.Step.{HasCondition, act_refusal, after_act, after_limit, after_lock, after_sub, after_submit, booked_row, expire, limit_refusal, limits_of, limits_refusal, lists_of, new_proc, proc_of, sub_named, sub_row, submit_refusal, unknown_limit, with_proc}
use Rattle.farm_law.proofs.ActLaws.{act_law}
use Rattle.farm_law.proofs.Booked.{book_law, booking_makes}
use Rattle.farm_law.proofs.CanBook.{can_book}
use Rattle.farm_law.proofs.Hosts.{lock_law, opened_law}
use Rattle.farm_law.proofs.KeepsLaw.{KeepsLaw, law_of_same_rows}
use Rattle.farm_law.proofs.KeptAttempts.{attempts_left, left_all}
use Rattle.farm_law.proofs.KeptBooked.{attempts_booked}
use Rattle.farm_law.proofs.KeptChanges.{kept_boot, kept_expire, kept_report, named_by, sound_by}
use Rattle.farm_law.proofs.KeptHosts.{hosts_changed, hosts_mapped, hosts_more_allocs, keeps_locked, keeps_reopened}
use Rattle.farm_law.proofs.KeptJobs.{jobs_booked, jobs_more_shows, jobs_submitted}
use Rattle.farm_law.proofs.KeptLimits.{limits_known, limits_more, limits_set, limits_submitted}
use Rattle.farm_law.proofs.KeptNames.{accepted_by, named_within}
use Rattle.farm_law.proofs.KeptPaused.{kept_pause}
use Rattle.farm_law.proofs.KeptServes.{layers_more, left_same, left_placed, locked_serve, reopened_serve}
use Rattle.farm_law.proofs.KeptShows.{allocs_more, shows_more, subs_more, subs_set, subs_stay}
use Rattle.farm_law.proofs.KeptStopped.{kept_stops}
use Rattle.farm_law.proofs.Placed.{job_waits, submit_law}
use Rattle.farm_law.proofs.Stopped.{IsStopped, frame_stops, job_stops, retried_stops, row_stops}

-- ---- what names something that is there

-- the subscription of a show and an allocation that are there
subscribed : (f : Farm) (line : SubLine) (show alloc : ℕ) → show < length f.shows → alloc < length f.allocs → SubKeepsLimits line → KeepsRows f → KeepsRows (after_sub f line (Some (sub_of show alloc)))
subscribed f line show alloc of_show of_alloc limits k =
    let row = sub_row (sub_of show alloc) line in
    let g = after_sub f line (Some (sub_of show alloc)) in
    let law = law_of_same_rows f g refl refl refl refl in
    record {
      moment_within = k.moment_within;
      shows = k.shows;
      allocs = k.allocs;
      subs = subs_set f.subs line show alloc (length f.shows) (length f.allocs) limits k.shows.count k.allocs.count of_show of_alloc k.subs;
      limits = k.limits;
      hosts = k.hosts;
      jobs = k.jobs;
      attempts = attempts_left f g (record { rows = law.rows; layers = λ job place l at. at; subs = subs_stay row f.subs; moment = omega arith }) (left_same f) k;
      sound = sound_by f g law k;
    }

kept_sub : (f : Farm) (line : SubLine) (o : Option ℕ) → sub_named f line ≡ o → SubKeepsLimits line → KeepsRows f → KeepsRows (after_sub f line o)
kept_sub f line None is limits k = k
kept_sub f line (Some sub) is limits k =
    option_and_then_some {P = KeepsRows (after_sub f line (Some sub))} (λ show. option_map (λ alloc. sub_of show alloc) (alloc_named f line.alloc)) (show_named f line.show) sub is
    (λ show of_show rest.
    let alloc = option_map-from (λ alloc. sub_of show alloc) (alloc_named f line.alloc) sub rest in
    subst (λ (n : ℕ). KeepsRows (after_sub f line (Some n))) alloc.2
    (subscribed f line show alloc.0 (named_within show_label line.show f.shows show of_show) (named_within alloc_label line.alloc f.allocs alloc.0 alloc.1) limits k))

kept_submit : (f : Farm) (spec : JobSpec) (o : Option ℕ) → show_named f spec.show ≡ o → submit_refusal f spec o ≡ None → IsFormedJob spec → KeepsRows f → KeepsRows (after_submit f spec o)
kept_submit f spec None is accepted formed k = k
kept_submit f spec (Some show) is accepted formed k =
    let g = after_submit f spec (Some show) in
    let law = submit_law f spec (Some show) in
    let numbers = limits_of f.limits spec.layers in
    let unknown = unknown_limit f.limits spec.layers in
    let taken = (limits_known f spec unknown (accepted_by (has_facility f spec.facility) (limits_refusal f spec unknown) _ accepted)).1 in
    record {
      moment_within = k.moment_within;
      shows = k.shows;
      allocs = k.allocs;
      subs = k.subs;
      limits = limits_submitted f.limits f.layers f.next_job spec.layers k.limits;
      hosts = k.hosts;
      jobs = jobs_submitted (lists_of f) numbers spec show (length f.shows) formed taken (named_within show_label spec.show f.shows show is) k.jobs;
      attempts =
          attempts_left f g (record { rows = law.rows; layers = layers_more f.layers (layer_rows f.next_job numbers 0 spec.layers); subs = λ n there. there; moment = omega arith })
          (left_placed f (frames_of f.next_job 0 spec.layers) (job_waits f.next_job 0 spec.layers) k.sound) k;
      sound = sound_by f g law k;
    }

kept_limit : (f : Farm) (name : List ℕ) (most : ℕ) (o : Option ℕ) → limit_named f name ≡ o → limit_refusal f o ≡ None → is_name_text name ≡ true → most ≤ MOST_RUNNING → KeepsRows f → KeepsRows (after_limit f name most o)
kept_limit f name most None is accepted formed within k =
    let g = after_limit f name most None in
    let law = law_of_same_rows f g refl refl refl refl in
    record {
      moment_within = k.moment_within;
      shows = k.shows;
      allocs = k.allocs;
      subs = k.subs;
      limits = limits_more f.limits f.layers name most is accepted formed within k.limits;
      hosts = k.hosts;
      jobs = k.jobs;
      attempts = attempts_left f g (named_by f g law.rows refl refl refl) (left_same f) k;
      sound = sound_by f g law k;
    }
kept_limit f name most (Some limit) is accepted formed within k =
    let g = after_limit f name most (Some limit) in
    let law = law_of_same_rows f g refl refl refl refl in
    record {
      moment_within = k.moment_within;
      shows = k.shows;
      allocs = k.allocs;
      subs = k.subs;
      limits = limits_set f.limits f.layers limit most within k.limits;
      hosts = k.hosts;
      jobs = k.jobs;
      attempts = attempts_left f g (named_by f g law.rows refl refl refl) (left_same f) k;
      sound = sound_by f g law k;
    }

kept_lock : (f : Farm) (lock : LockState) (o : Option ℕ) → KeepsRows f → KeepsRows (after_lock f lock o)
kept_lock f lock None k = k
kept_lock f lock (Some host) k =
    let g = after_lock f lock (Some host) in
    let law = lock_law f lock (Some host) in
    record {
      moment_within = k.moment_within;
      shows = k.shows;
      allocs = k.allocs;
      subs = k.subs;
      limits = k.limits;
      hosts = hosts_changed f.hosts (length f.allocs) f.moment host (locked_row lock) (λ row at. keeps_locked lock f.moment row) k.hosts;
      jobs = k.jobs;
      attempts = attempts_left f g (named_by f g law.rows refl refl refl) (left_all f.hosts g.hosts f.slots (locked_serve f.hosts lock host)) k;
      sound = sound_by f g law k;
    }

-- a frame is killed, eaten or retried
kept_frame : (f : Farm) (p : FramePlace) (change : SlotRow → SlotRow) → ((s : SlotRow) → IsStopped s (change s)) → KeepsRows f → KeepsRows (with_frame f p change)
kept_frame f p change stops k = kept_stops f (with_frame f p change) (frame_stops change stops f (slot_named f p)) k

-- ---- bookings

kept_book : (f : Farm) (slot host moment : ℕ) → may_record f slot host ≡ true → moment ≤ f.moment → KeepsRows f → KeepsRows (with_proc f slot (new_proc f slot host moment))
kept_book f slot host moment allowed now k =
    let found = can_book f slot host allowed in
    let r = found.0 in
    let can = found.1 in
    let g = record f { slots = changed_at f.slots slot (booked_row (proc_of slot host moment r.slot r.job r.layer r.host)) } in
    let makes = booking_makes f slot host moment r can in
    let law = subst (KeepsLaw f) makes (book_law f slot host moment allowed) in
    subst KeepsRows (sym makes)
    (record {
      moment_within = k.moment_within;
      shows = k.shows;
      allocs = k.allocs;
      subs = k.subs;
      limits = k.limits;
      hosts = k.hosts;
      jobs = subst (λ (h : Farm). KeepsJobs (lists_of h) (length f.shows)) makes (jobs_booked f slot host moment (length f.shows) allowed k.jobs);
      attempts = attempts_booked f slot host moment r can (named_by f g law.rows refl refl refl) now k;
      sound = sound_by f g law k;
    })

-- ---- each act

pub kept_act : (f : Farm) (moment : ℕ) (act : Act) → IsFormedAct act → act_refusal f act ≡ None → HasCondition f act → moment ≤ f.moment → KeepsRows f → KeepsRows (after_act f moment act)
kept_act f moment Opened formed accepted allowed now k =
    let g = after_act f moment Opened in
    let law = opened_law f moment in
    record {
      moment_within = k.moment_within;
      shows = k.shows;
      allocs = k.allocs;
      subs = k.subs;
      limits = k.limits;
      hosts = hosts_mapped f.hosts (length f.allocs) f.moment (reopened_row moment) (keeps_reopened moment f.moment now) k.hosts;
      jobs = k.jobs;
      attempts = attempts_left f g (named_by f g law.rows refl refl refl) (left_all f.hosts g.hosts f.slots (reopened_serve f.hosts moment)) k;
      sound = sound_by f g law k;
    }
kept_act f moment (Show name) formed accepted allowed now k =
    let g = after_act f moment (Show name) in
    let law = act_law f moment (Show name) allowed in
    let more : length f.shows ≤ length g.shows = omega (arith, length-append f.shows (record { name = name } ∷ [])) in
    record {
      moment_within = k.moment_within;
      shows = shows_more f.shows name formed accepted k.shows;
      allocs = k.allocs;
      subs = subs_more f.subs (length f.shows) (length f.allocs) (length g.shows) (length f.allocs) more (omega arith) k.subs;
      limits = k.limits;
      hosts = k.hosts;
      jobs = jobs_more_shows (lists_of f) (length f.shows) (length g.shows) more k.jobs;
      attempts = attempts_left f g (named_by f g law.rows refl refl refl) (left_same f) k;
      sound = sound_by f g law k;
    }
kept_act f moment (Alloc facility tag) formed accepted allowed now k =
    let g = after_act f moment (Alloc facility tag) in
    let law = act_law f moment (Alloc facility tag) allowed in
    let more : length f.allocs ≤ length g.allocs = omega (arith, length-append f.allocs (record { facility = facility; tag = tag } ∷ [])) in
    record {
      moment_within = k.moment_within;
      shows = k.shows;
      allocs = allocs_more f.allocs facility tag formed.0 formed.1 accepted k.allocs;
      subs = subs_more f.subs (length f.shows) (length f.allocs) (length f.shows) (length g.allocs) (omega arith) more k.subs;
      limits = k.limits;
      hosts = hosts_more_allocs f.hosts (length f.allocs) (length g.allocs) f.moment more k.hosts;
      jobs = k.jobs;
      attempts = attempts_left f g (named_by f g law.rows refl refl refl) (left_same f) k;
      sound = sound_by f g law k;
    }
kept_act f moment (Sub line) formed accepted allowed now k = kept_sub f line (sub_named f line) refl formed.limits k
kept_act f moment (Limit name most) formed accepted allowed now k = kept_limit f name most (limit_named f name) refl accepted formed.0 formed.1 k
kept_act f moment (Boot line) formed accepted allowed now k = kept_boot f line moment (alloc_named f line.alloc) refl accepted formed now k
kept_act f moment (Heard heard) formed accepted allowed now k = kept_report (expire f moment) heard moment (host_named f heard.host) formed now (kept_expire f moment k)
kept_act f moment (Submit spec) formed accepted allowed now k = kept_submit f spec (show_named f spec.show) refl accepted formed k
kept_act f moment (AddDepend spec) formed accepted allowed now k = k
kept_act f moment (DropDepend depend) formed accepted allowed now k = k
kept_act f moment (Pause job paused) formed accepted allowed now k = kept_pause f paused (pending_named f job) k
kept_act f moment (KillJob job) formed accepted allowed now k = kept_stops f (with_killed f (pending_named f job)) (job_stops f (pending_named f job)) k
kept_act f moment (KillFrame p) formed accepted allowed now k = kept_frame f p (stopped_row Dead) (row_stops Dead refl) k
kept_act f moment (EatFrame p) formed accepted allowed now k = kept_frame f p (stopped_row Eaten) (row_stops Eaten refl) k
kept_act f moment (RetryFrame p) formed accepted allowed now k = kept_frame f p retried_row retried_stops k
kept_act f moment (Lock host lock) formed accepted allowed now k = kept_lock f lock (host_named f host) k
kept_act f moment Tick formed accepted allowed now k = kept_expire f moment k
kept_act f moment (Book slot host) formed accepted allowed now k = kept_book f slot host moment allowed now k
