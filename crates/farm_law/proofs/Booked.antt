-- A booking that may be recorded keeps the farm sound.
use Rattle.std.proofs.Common.{◌≡◌, ℕ, ◌+◌, ◌≤◌, Bool, true, false, cond, eqb, ltb, length, Option, Some, None, refl, sym, ap, subst, ◌∙◌, arith, option_map}
use Rattle.std.specs.List.{slice_get, sum_by}
use Rattle.std.proofs.lemmas.Option.{same_Some, slice_get_within}
use Rattle.std.proofs.lemmas.Bool.{false≢true, eqb-true, eq-eqb, ltb-true}
use Rattle.farm_types.specs.declared.attempt.ProcRow.{ProcRow}
use Rattle.farm_types.specs.declared.rows.HostRow.{HostRow}
use Rattle.farm_types.specs.declared.rows.LayerRow.{LayerRow}
use Rattle.farm_types.specs.declared.rows.LimitRow.{LimitRow}
use Rattle.farm_types.specs.declared.slot_row.SlotRow.{SlotRow}
use Rattle.farm_types.specs.declared.slot_row.Frame.{Frame}
use Rattle.farm_types.specs.declared.states.FrameState.{FrameState}
use Rattle.farm_types.specs.declared.states.FrameState.TheVariants.{Waiting, Setup, Running, Succeeded, Depend, Dead, Eaten}
use Rattle.farm_types.specs.Farm.{Farm, changed_at, for_any, for_some, layer_at, sub_of}
use Rattle.farm_types.specs.Sums.{used_cores, used_memory, booked_in, cores_on, memory_on, cores_in, running_in}
use Rattle.farm_types.specs.Booking.{is_waiting, may_record}
use Rattle.farm_types.specs.Run.{IsSound, HasItsHosts, HasItsAttempt, IsAttemptOf, OnHostOf, BooksSafely, IsWithinBurst, IsWithinLimit, limit_at, live_at}
use Rattle.farm_types.specs.Step.{booked_row, proc_of, with_proc, new_proc}
use Rattle.farm_types.proofs.Changed.{changed_at_each, changed_at_sum, changed_at_same}
use Rattle.farm_types.proofs.Lists.{for_some_true}
use Rattle.farm_law.proofs.CanBook.{Rows, CanBook, can_book, new_proc_is}
use Rattle.farm_law.proofs.KeepsLaw.{KeepsLaw}
use Rattle.farm_law.proofs.RunningInLimits.{frame_weighs, frame_weight, running_booked}
use Rattle.farm_law.proofs.RowsStay.{SlotStays, slot_same, hosts_same, allocs_same, jobs_same, frame_job}
use Rattle.farm_types.proofs.Stays.{EachStays-changed_at}
use Rattle.farm_types.specs.declared.rows.SubRow.{SubRow}
use Rattle.std.specs.Prelude.{IfSome, IsSomeAnd, option_and_then}

waiting_has_none : (place version : ℕ) (state : FrameState) (proc : Option ProcRow) → is_waiting state ≡ true → IsAttemptOf place version state proc → proc ≡ None
waiting_has_none place version Waiting None h a = refl
waiting_has_none place version Waiting (Some p) h a = absurd a
waiting_has_none place version Setup proc h a = absurd (false≢true h)
waiting_has_none place version Running proc h a = absurd (false≢true h)
waiting_has_none place version Succeeded proc h a = absurd (false≢true h)
waiting_has_none place version Depend proc h a = absurd (false≢true h)
waiting_has_none place version Dead proc h a = absurd (false≢true h)
waiting_has_none place version Eaten proc h a = absurd (false≢true h)

-- the slot of a waiting frame has no attempt
pub slot_has_none : (place version : ℕ) (frame : Option Frame) (proc : Option ProcRow) (row : Frame) → frame ≡ Some row → is_waiting row.state ≡ true → HasItsAttempt place version frame proc → proc ≡ None
slot_has_none place version frame proc row e h a = waiting_has_none place version row.state proc h (subst (λ (o : Option Frame). HasItsAttempt place version o proc) e a)

running_attempt : (place version : ℕ) (frame : Option Frame) (p : ProcRow) (row : Frame) → frame ≡ Some row → p.slot ≡ place → p.version ≡ version → HasItsAttempt place version (option_map (λ (x : Frame). record x { state = Running }) frame) (Some p)
running_attempt place version frame p row e at v = rw e (at, v)

module _ (f : Farm) (slot host moment : ℕ) (r : Rows) (can : CanBook f slot host r) (ok : IsSound f) where
  -- the attempt that the booking adds
  abbrev pub added : ProcRow
  added = proc_of slot host moment r.slot r.job r.layer r.host

  -- the farm with it
  abbrev pub booked : Farm
  booked = record f { slots = changed_at f.slots slot (booked_row added) }

  had_none : r.slot.proc ≡ None
  had_none = slot_has_none slot r.slot.version r.slot.frame r.slot.proc r.frame can.frame_is can.waits (ok.attempts slot r.slot can.slot_is)

  -- a sum over the live attempts has the new one's weight more
  pub booked_sum : (weight : Option ProcRow → ℕ) → weight None ≡ 0 → sum_by (λ (s : SlotRow). weight s.proc) booked.slots ≡ sum_by (λ (s : SlotRow). weight s.proc) f.slots + weight (Some added)
  booked_sum weight none =
      let e = changed_at_sum (λ (s : SlotRow). weight s.proc) f.slots slot (booked_row added) r.slot can.slot_is in
      let w : weight r.slot.proc ≡ 0 = ap weight had_none ∙ none in
      omega (arith, e, w)

  cores_fit : (n : ℕ) (row : HostRow) (same : Bool) → eqb host n ≡ same → slice_get f.hosts n ≡ Some row → used_cores f n + cond same r.layer.cores 0 ≤ row.cores
  cores_fit n row true e at =
      let here : host ≡ n = eqb-true host n e in
      let is : r.host ≡ row = same_Some r.host row (sym can.host_is ∙ subst (λ (k : ℕ). slice_get f.hosts k ≡ Some row) (sym here) at) in
      subst (λ (k : ℕ). used_cores f k + r.layer.cores ≤ row.cores) here (subst (λ (x : HostRow). used_cores f host + r.layer.cores ≤ x.cores) is can.cores)
  cores_fit n row false e at = omega (arith, ok.cores n row at)

  memory_fit : (n : ℕ) (row : HostRow) (same : Bool) → eqb host n ≡ same → slice_get f.hosts n ≡ Some row → used_memory f n + cond same r.layer.memory 0 ≤ row.memory
  memory_fit n row true e at =
      let here : host ≡ n = eqb-true host n e in
      let is : r.host ≡ row = same_Some r.host row (sym can.host_is ∙ subst (λ (k : ℕ). slice_get f.hosts k ≡ Some row) (sym here) at) in
      subst (λ (k : ℕ). used_memory f k + r.layer.memory ≤ row.memory) here (subst (λ (x : HostRow). used_memory f host + r.layer.memory ≤ x.memory) is can.memory)
  memory_fit n row false e at = omega (arith, ok.memory n row at)

  pub booked_sound : IsSound booked
  booked_sound =
      record {
        cores = λ n row at. subst (λ (k : ℕ). k ≤ row.cores) (sym (booked_sum (cores_on n) refl)) (cores_fit n row (eqb host n) refl at);
        memory = λ n row at. subst (λ (k : ℕ). k ≤ row.memory) (sym (booked_sum (memory_on n) refl)) (memory_fit n row (eqb host n) refl at);
        attempts =
            changed_at_each (λ i s. HasItsAttempt i s.version s.frame s.proc) f.slots slot (booked_row added)
            (λ s at. running_attempt slot added.version s.frame added r.frame (subst (λ (x : SlotRow). x.frame ≡ Some r.frame) (same_Some r.slot s (sym can.slot_is ∙ at)) can.frame_is) refl refl)
            (λ i s apart at. ok.attempts i s at);
      }

  pub booked_hosts : HasItsHosts f → HasItsHosts booked
  booked_hosts there =
      changed_at_each (λ i s. OnHostOf (length f.hosts) s.proc) f.slots slot (booked_row added)
      (λ s at. slice_get_within f.hosts host r.host can.host_is)
      (λ i s apart at. there i s at)

  -- what is booked of the attempt's subscription rises by its cores, and of the others stays
  pub booked_of : (n : ℕ) → booked_in booked n ≡ booked_in f n + cond (eqb (sub_of r.job.show r.host.alloc) n) r.layer.cores 0
  booked_of n = booked_sum (cores_in n) refl

-- ---- what a booking keeps

runs_of : (frame : Option Frame) (n : ℕ) → frame_job frame ≡ Some n → frame_job (option_map (λ (x : Frame). record x { state = Running }) frame) ≡ Some n
runs_of None n has = has
runs_of (Some frame) n has = has

-- a slot whose version rises stays
booked_stays : (p : ProcRow) (s : SlotRow) → p.version ≡ s.version + 1 → SlotStays s (booked_row p s)
booked_stays p s above = record { version = omega (arith, above); proc = λ e none. absurd (omega (arith, above, e)); job = λ e below n has. runs_of s.frame n has }

-- what a booking that may be recorded makes
pub booking_makes : (f : Farm) (slot host moment : ℕ) (r : Rows) → CanBook f slot host r → with_proc f slot (new_proc f slot host moment) ≡ record f { slots = changed_at f.slots slot (booked_row (proc_of slot host moment r.slot r.job r.layer r.host)) }
booking_makes f slot host moment r can = ap (with_proc f slot) (new_proc_is f slot host moment r can)

pub book_law : (f : Farm) (slot host moment : ℕ) → may_record f slot host ≡ true → KeepsLaw f (with_proc f slot (new_proc f slot host moment))
book_law f slot host moment allowed =
    let found = can_book f slot host allowed in
    let r = found.0 in
    let can = found.1 in
    let new = proc_of slot host moment r.slot r.job r.layer r.host in
    subst (KeepsLaw f) (sym (booking_makes f slot host moment r can))
    (record {
      sound = λ ok there. booked_sound f slot host moment r can ok;
      hosts = λ ok there. booked_hosts f slot host moment r can ok there;
      rows =
          record {
            slots =
                EachStays-changed_at SlotStays slot_same f.slots slot (booked_row new)
                (λ s at. booked_stays new s (ap (λ (x : SlotRow). x.version + 1) (same_Some r.slot s (sym can.slot_is ∙ at))));
            hosts = hosts_same f.hosts;
            allocs = allocs_same f.allocs;
            jobs = jobs_same f.jobs;
          };
    })

-- ---- a booking is safe

module _ (f : Farm) (slot host moment : ℕ) (r : Rows) (can : CanBook f slot host r) (ok : IsSound f) where
  attempt_is : live_at (booked f slot host moment r can ok) slot ≡ Some (added f slot host moment r can ok)
  attempt_is = ap (option_and_then (λ (s : SlotRow). s.proc)) (changed_at_same f.slots slot (booked_row (added f slot host moment r can ok)) r.slot can.slot_is)

  burst_kept : IsWithinBurst (booked f slot host moment r can ok) (sub_of r.job.show r.host.alloc)
  burst_kept =
      let sub = sub_of r.job.show r.host.alloc in
      let more = booked_of f slot host moment r can ok sub in
      let same : eqb sub sub ≡ true = eq-eqb _ _ refl in
      let sum : booked_in (booked f slot host moment r can ok) sub ≡ booked_in f sub + r.layer.cores = rw same at more in
      subst (λ (o : Option SubRow). IsSomeAnd o (λ s. booked_in (booked f slot host moment r can ok) sub ≤ s.burst)) (sym can.sub_is) (omega (arith, sum, can.burst))

  -- the slot's frame runs, and its layer is as it was
  limit_is : limit_at (booked f slot host moment r can ok) slot ≡ r.layer.limit
  limit_is =
      let now = booked f slot host moment r can ok in
      let of_layer : Option LayerRow → Option ℕ = option_and_then (λ (l : LayerRow). l.limit) in
      let of_frame : Option Frame → Option ℕ = option_and_then (λ (x : Frame). option_and_then (λ (l : LayerRow). l.limit) (layer_at f x.job x.layer)) in
      let here = changed_at_same f.slots slot (booked_row (added f slot host moment r can ok)) r.slot can.slot_is in
      ap (option_and_then (λ (s : SlotRow). option_and_then (λ (x : Frame). option_and_then (λ (l : LayerRow). l.limit) (layer_at f x.job x.layer)) s.frame)) here
      ∙ (ap (λ (o : Option Frame). of_frame (option_map (λ (x : Frame). record x { state = Running }) o)) can.frame_is ∙ ap of_layer can.layer_is)

  -- a limit of the layer has one more, and is within its most
  limit_kept : (o : Option ℕ) → r.layer.limit ≡ o → for_any o (λ n. for_some (slice_get f.limits n) (λ row. ltb (running_in f n) row.most)) ≡ true → IfSome o (IsWithinLimit (booked f slot host moment r can ok))
  limit_kept None is within = tt
  limit_kept (Some n) is within =
      let now = booked f slot host moment r can ok in
      let row = for_some_true (slice_get f.limits n) _ within in
      let itself : eqb n n ≡ true = eq-eqb n n refl in
      let weighs : frame_weight f.layers n r.slot.frame ≡ 1 =
      frame_weighs f.layers n r.slot.frame r.frame (Some r.layer) can.frame_is can.layer_is
      ∙ (ap (λ (o : Option ℕ). cond (for_some o (λ m. eqb m n)) 1 0) is ∙ ap (λ (b : Bool). cond b 1 0) itself) in
      let more = running_booked f.layers n f.slots slot (added f slot host moment r can ok) r.slot can.slot_is (had_none f slot host moment r can ok) in
      subst (λ (o : Option LimitRow). IsSomeAnd o (λ row. running_in now n ≤ row.most)) (sym row.1) (omega (arith, more, weighs, ltb-true (running_in f n) row.0.most row.2))

  booked_safely : BooksSafely f (booked f slot host moment r can ok) slot host
  booked_safely =
      record {
        unblocked = can.unblocked;
        attempt = subst (λ (o : Option ProcRow). IsSomeAnd o (λ p. p.host ≡ host)) (sym attempt_is) refl;
        burst = subst (λ (o : Option ProcRow). IsSomeAnd o (λ p. IsWithinBurst (booked f slot host moment r can ok) p.sub)) (sym attempt_is) burst_kept;
        limit = subst (λ (o : Option ℕ). IfSome o (IsWithinLimit (booked f slot host moment r can ok))) (sym limit_is) (limit_kept r.layer.limit refl can.limit);
      }

pub book_safely : (f : Farm) (slot host moment : ℕ) → may_record f slot host ≡ true → IsSound f → BooksSafely f (with_proc f slot (new_proc f slot host moment)) slot host
book_safely f slot host moment allowed ok =
    let found = can_book f slot host allowed in
    subst (λ (g : Farm). BooksSafely f g slot host) (sym (booking_makes f slot host moment found.0 found.1)) (booked_safely f slot host moment found.0 found.1 ok)
