-- What the farm keeps of its jobs stays along each act.
use Rattle.std.proofs.Common.{◌≡◌, ℕ, ◌+◌, ◌≤◌, ◌<◌, Bool, true, cond, List, [], ◌∷◌, Option, None, sym, ap, subst, ◌∙◌}
use Rattle.std.proofs.lemmas.Option.{same_Some}
use Rattle.farm_types.specs.declared.attempt.DoneItem.{DoneItem}
use Rattle.farm_types.specs.declared.job.JobSpec.{JobSpec}
use Rattle.farm_types.specs.declared.slot_row.SlotRow.{SlotRow}
use Rattle.farm_types.specs.declared.limits.TheConstants.{LAST_VERSION}
use Rattle.farm_types.specs.Booking.{may_record}
use Rattle.farm_types.specs.Farm.{Farm, changed_at}
use Rattle.farm_types.specs.Jobs.{JobLists, job_refusal, with_job}
use Rattle.farm_types.specs.Formed.{IsFormedJob}
use Rattle.farm_types.specs.Kept.{KeepsJobs}
use Rattle.farm_types.specs.Lost.{lose_on, lost_row, runs_on}
use Rattle.farm_types.specs.Step.{booked_row, end_all, end_attempt, ended_row, is_live, lists_of, new_proc, proc_of, with_proc}
use Rattle.farm_types.proofs.Passes.{cond_each}
use Rattle.farm_law.proofs.Booked.{booking_makes}
use Rattle.farm_law.proofs.CanBook.{can_book}
use Rattle.farm_law.proofs.Ended.{ended}
use Rattle.farm_law.proofs.KeptJobsAdded.{accepted}
use Rattle.farm_law.proofs.KeptJobsFormed.{jobs_formed_more}
use Rattle.farm_law.proofs.KeptJobsRows.{booked_keeps, ended_keeps, lose_keeps}
use Rattle.farm_law.proofs.KeptJobsSlots.{SlotKeeps, slot_keeps, slots_keep}
use Rattle.farm_law.proofs.KeptJobsSubmitted.{submitted}
use Rattle.farm_law.proofs.KeptJobsZip.{zip_changed_at, zip_map}

-- more shows
pub jobs_more_shows : (b : JobLists) (shows more : ℕ) → shows ≤ more → KeepsJobs b shows → KeepsJobs b more
jobs_more_shows b shows more le kept =
    record {
      next_within = kept.next_within;
      finish_from = kept.finish_from;
      finish_within = kept.finish_within;
      finished_count = kept.finished_count;
      finishes_within = kept.finishes_within;
      finishes_differ = kept.finishes_differ;
      jobs_counted = kept.jobs_counted;
      jobs_rise = kept.jobs_rise;
      jobs_formed = jobs_formed_more shows more b.jobs le kept.jobs_formed;
      jobs_differ = kept.jobs_differ;
      jobs_layered = kept.jobs_layered;
      layers_rise = kept.layers_rise;
      layers_formed = kept.layers_formed;
      layers_owned = kept.layers_owned;
      slot_count = kept.slot_count;
      slots_kept = kept.slots_kept;
      frames_once = kept.frames_once;
      frames_there = kept.frames_there;
      ends_used = kept.ends_used;
    }

-- lost attempts
pub jobs_lost : (b : JobLists) (test : ℕ → Bool) (shows : ℕ) → KeepsJobs b shows → KeepsJobs (record b { slots = lose_on test b.slots }) shows
jobs_lost b test shows kept =
    slots_keep b (lose_on test b.slots) shows
    (zip_map (SlotKeeps b.layers) (λ (s : SlotRow). cond (runs_on test s) (lost_row s) s) (lose_keeps b.layers test) b.slots) kept

-- a completion
end_keeps : (f : Farm) (host boot : ℕ) (d : DoneItem) (shows : ℕ) → KeepsJobs (lists_of f) shows → KeepsJobs (lists_of (end_attempt f host boot d)) shows
end_keeps f host boot d shows kept =
    cond_each (λ (g : Farm). KeepsJobs (lists_of g) shows) (is_live f host boot d.attempt.slot d.attempt.version) (ended f d.attempt.slot d.exit) f
    (slots_keep (lists_of f) (changed_at f.slots d.attempt.slot (ended_row f d.exit)) shows
    (zip_changed_at (SlotKeeps f.layers) (slot_keeps f.layers) (ended_row f d.exit) f.slots d.attempt.slot (λ s at. ended_keeps f d.exit shows kept.jobs_formed s)) kept)
    kept

-- completions in order
pub jobs_ended : (f : Farm) (host boot : ℕ) (ds : List DoneItem) (shows : ℕ) → KeepsJobs (lists_of f) shows → KeepsJobs (lists_of (end_all f host boot ds)) shows
jobs_ended f host boot [] shows kept = kept
jobs_ended f host boot (d ∷ ds) shows kept = jobs_ended (end_attempt f host boot d) host boot ds shows (end_keeps f host boot d shows kept)

-- a booking
pub jobs_booked : (f : Farm) (slot host moment shows : ℕ) → may_record f slot host ≡ true → KeepsJobs (lists_of f) shows → KeepsJobs (lists_of (with_proc f slot (new_proc f slot host moment))) shows
jobs_booked f slot host moment shows allowed kept =
    let found = can_book f slot host allowed in
    let r = found.0 in
    let can = found.1 in
    let new = proc_of slot host moment r.slot r.job r.layer r.host in
    subst (λ (g : Farm). KeepsJobs (lists_of g) shows) (sym (booking_makes f slot host moment r can))
    (slots_keep (lists_of f) (changed_at f.slots slot (booked_row new)) shows
    (zip_changed_at (SlotKeeps f.layers) (slot_keeps f.layers) (booked_row new) f.slots slot
    (λ s at.
    let same : r.slot ≡ s = same_Some r.slot s (sym can.slot_is ∙ at) in
    booked_keeps f.layers new s (ap (λ (x : SlotRow). x.version + 1) same) (subst (λ (x : SlotRow). x.version < LAST_VERSION) same can.version)))
    kept)

-- a submitted job
pub jobs_submitted : (b : JobLists) (limits : List (Option ℕ)) (spec : JobSpec) (show shows : ℕ) → IsFormedJob spec → job_refusal b spec ≡ None → show < shows → KeepsJobs b shows → KeepsJobs (with_job b show limits spec) shows
jobs_submitted b limits spec show shows formed none shown kept = submitted b limits spec show shows formed (accepted b spec none) kept shown
