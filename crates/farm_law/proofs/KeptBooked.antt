-- The attempt that a booking adds fits the farm.
use Rattle.std.proofs.Common.{◌≡◌, ◌≤◌, ◌+◌, ℕ, Bool, true, Option, Some, refl, sym, subst, ap, ◌∙◌, option_map, arith}
use Rattle.std.specs.Prelude.{is_some}
use Rattle.std.specs.Cmp.Derive.{both_true}
use Rattle.std.specs.List.{slice_get}
use Rattle.std.proofs.lemmas.Bool.{eq-eqb, le-leb, lt-ltb}
use Rattle.std.proofs.lemmas.Option.{same_Some}
use Rattle.farm_types.proofs.Changed.{changed_at_each}
use Rattle.farm_types.proofs.Passes.{for_some-there}
use Rattle.farm_types.specs.declared.attempt.ProcRow.{ProcRow}
use Rattle.farm_types.specs.declared.slot_row.Frame.{Frame}
use Rattle.farm_types.specs.declared.slot_row.SlotRow.{SlotRow}
use Rattle.farm_types.specs.declared.states.FrameState.TheVariants.{Running}
use Rattle.farm_types.specs.Farm.{Farm, changed_at, job_at, layer_at, sub_of, for_any}
use Rattle.farm_types.specs.Kept.{KeepsAttempts, KeepsRows, has_amounts, has_sub}
use Rattle.farm_types.specs.Step.{booked_row, proc_of}
use Rattle.farm_law.proofs.CanBook.{CanBook, Rows}
use Rattle.farm_law.proofs.KeptAttempts.{Fits, NamedStay, attempts_from_each, each_fits, frames_owned, stays_fit}
use Rattle.farm_law.proofs.KeptServes.{hosts_serve}

-- the frame that runs from now on
abbrev running : Frame → Frame
running x = record x { state = Running }

runs_frame : (o : Option Frame) (x : Frame) (test : Frame → Bool) → o ≡ Some x → test (running x) ≡ true → for_any (option_map running o) test ≡ true
runs_frame o x test is passes = rw is passes

module _ (f : Farm) (slot host moment : ℕ) (r : Rows) (can : CanBook f slot host r) where
  abbrev added : ProcRow
  added = proc_of slot host moment r.slot r.job r.layer r.host

  abbrev booked : Farm
  booked = record f { slots = changed_at f.slots slot (booked_row added) }

  added_fits : moment ≤ f.moment → Fits booked (booked_row added r.slot)
  added_fits now =
      record {
        hosted = for_some-there (slice_get f.hosts host) _ r.host can.host_is (both_true can.up (eq-eqb r.host.boot r.host.boot refl));
        measured =
            runs_frame r.slot.frame r.frame (λ x. has_amounts f.layers x added) can.frame_is
            (for_some-there (layer_at f r.frame.job r.frame.layer) _ r.layer can.layer_is (both_true (eq-eqb r.layer.cores r.layer.cores refl) (eq-eqb r.layer.memory r.layer.memory refl)));
        billed =
            runs_frame r.slot.frame r.frame (λ x. has_sub f.jobs f.hosts x added) can.frame_is
            (for_some-there (job_at f r.frame.job) _ r.job can.job_is (for_some-there (slice_get f.hosts host) _ r.host can.host_is (eq-eqb (sub_of r.job.show r.host.alloc) (sub_of r.job.show r.host.alloc) refl)));
        subscribed = ap is_some can.sub_is;
        since = le-leb moment f.moment now;
        versioned = lt-ltb 0 (r.slot.version + 1) (omega arith);
      }

  -- attempts keep theirs with the one that a booking adds
  pub attempts_booked : NamedStay f booked → moment ≤ f.moment → KeepsRows f → KeepsAttempts booked
  attempts_booked named now k =
      attempts_from_each booked
      (changed_at_each (λ i s. Fits booked s) f.slots slot (booked_row added)
      (λ s at. subst (λ (x : SlotRow). Fits booked (booked_row added x)) (same_Some r.slot s (sym can.slot_is ∙ at)) (added_fits now))
      (λ i s apart at. stays_fit f booked named s (frames_owned f k i s at) (λ p is. hosts_serve f.hosts p.host) (each_fits f k.attempts i s at)))
