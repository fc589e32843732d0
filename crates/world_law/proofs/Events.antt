-- Each event keeps what every world keeps.
use Rattle.std.proofs.Common.{◌≡◌, ◌≢◌, ◌<◌, ◌^◌, ℕ, true, eqb, List, [], ◌∷◌, ◌++◌, length, Option, None, Some, Ok, refl, sym, ap, subst, ◌∙◌, ◌⊎◌, inl, inr, arith}
use Rattle.std.specs.List.{slice_get, slice_set}
use Rattle.std.proofs.lemmas.Option.{none-some, same_Some}
use Rattle.farm_types.specs.declared.entry.Entry.{Entry}
use Rattle.farm_types.specs.Farm.{Farm}
use Rattle.farm_types.specs.Kept.{IsKeptFarm}
use Rattle.farm_types.specs.Run.{IsLegal, IsLegalStep, run_of}
use Rattle.farm_types.specs.Step.{after}
use Rattle.farm_types.proofs.Changed.{slice_get-set_same}
use Rattle.farm_law.proofs.LegalRuns.{legal_append}
use Rattle.depend_law.proofs.KeptRuns.{kept_run}
use Rattle.farm_lines.specs.declared.reply.Reply.TheVariants as reply
use Rattle.farm_lines.specs.declared.request.Request.{Request}
use Rattle.farm_lines.specs.Reply.{reply_text}
use Rattle.farm_lines.specs.Request.{request_of}
use Rattle.farm_lines.specs.RequestText.{request_text}
use Rattle.rqd_core.specs.declared.limits.TheConstants.{LAST_SEQ}
use Rattle.rqd_core.specs.declared.running.Running.{Running}
use Rattle.rqd_core.specs.Life.{line_of, report_boot, report_of, request_from, sent_with}
use Rattle.world_law.specs.declared.event.Event.{Event}
use Rattle.world_law.specs.declared.event.Event.TheVariants as event
use Rattle.world_law.specs.declared.lines.Sent.{Sent}
use Rattle.world_law.specs.declared.lines.Told.{Told}
use Rattle.world_law.specs.Among.{Has}
use Rattle.world_law.specs.Attempts.{IsSpent}
use Rattle.world_law.specs.Happens.{Happens, IsOfTypes, noted, opened_entry, restarted, with_host, with_sent}
use Rattle.world_law.specs.Hosts.{after_exit, after_send, after_told, has_used, reborn}
use Rattle.world_law.specs.KeptWorld.{CountsWell, HaveTheirHosts, IsFurther, IsKeptHost, IsKeptScheduler, IsKeptWorld, IsKnownReport, IsKnownRequest}
use Rattle.world_law.specs.Lines.{IsAnswered, answered, replies_to}
use Rattle.world_law.specs.Promises.{CameFrom, IsReported, attempts_counted}
use Rattle.world_law.specs.Texts.{IsAttemptWithin}
use Rattle.world_law.specs.World.{History, Host, World}
use Rattle.world_law.proofs.Answering.{farm_kept, scheduler_answers}
use Rattle.world_law.proofs.AnsweringHosts.{hosts_answered}
use Rattle.world_law.proofs.AsWritten.{IsReportWithin, boot_as, report_as}
use Rattle.world_law.proofs.AttemptsGo.{spent_later}
use Rattle.world_law.proofs.Each.{each_at, each_from, each_map, has_in, has_last, has_left, has_one, set_of}
use Rattle.world_law.proofs.Grows.{Grows, came_grows, host_grows, host_stays, reported_grows, told_grows}
use Rattle.world_law.proofs.HostSteps.{host_begins, host_ends, host_sends, report_boot_is}
use Rattle.world_law.proofs.HostTold.{host_is_told, some_if}
use Rattle.world_law.proofs.LowerLaws.{LowerLaws}
use Rattle.world_law.proofs.Parts.{run_append, some_and, still_there}

-- ---- a world with other hosts, lines and events, and the same scheduler

abbrev with_parts : World → List Host → List Sent → List Told → List Event → World
with_parts w hosts sent told events = record w { hosts = hosts; sent = sent; told = told; events = events }

counts_grow : (w v : World) → Grows w v → (x : History) → CountsWell w x → CountsWell v x
counts_grow w v g x was = record { reported = each_from (IsReported w) (IsReported v) (reported_grows w v g) x.counted was.reported; spent = was.spent; once = was.once }

module _ (w : World) (hosts : List Host) (sent : List Sent) (told : List Told) (events : List Event) (g : Grows w (with_parts w hosts sent told events)) where
  abbrev parted : World
  parted = with_parts w hosts sent told events

  further_same : (x : History) → IsFurther w x → IsFurther parted x
  further_same x was = record { entry = was.entry; legal = was.legal; farm = was.farm; counts = counts_grow w parted g x was.counts }

  scheduler_same : IsKeptScheduler w → IsKeptScheduler parted
  scheduler_same k =
      record {
        opened = k.opened;
        legal = k.legal;
        leads = k.leads;
        counts = counts_grow w parted g w.now k.counts;
        further = each_from (IsFurther w) (IsFurther parted) further_same w.further k.further;
      }

-- ---- the event is noted

module _ (w : World) (e : Event) where
  note_grows : Grows w (noted w e)
  note_grows =
      record { entries = []; legal = tt; farm = refl; sent = λ n s at. at; told = λ n t at. at; events = λ n x at. has_left w.events (e ∷ []) n x at }

  note_keeps : IsKeptWorld w → IsKeptWorld (noted w e)
  note_keeps k =
      record {
        scheduler = scheduler_same w w.hosts w.sent w.told (w.events ++ e ∷ []) note_grows k.scheduler;
        lines = record { senders = k.lines.senders; told = k.lines.told };
        hosts = λ host h at.
            host_stays w (noted w e) note_grows (farm_kept w k.scheduler) host h (record { sent = λ s has of. has; told = λ t has of. has }) (k.hosts host h at);
      }

  note_has : Has (noted w e).events e
  note_has = (length w.events, has_last w.events e)

-- ---- a host changes

module _ (w : World) (k : IsKeptWorld w) (host : ℕ) (was now : Host) (at : slice_get w.hosts host ≡ Some was) where
  abbrev changed : World
  changed = with_host w host now

  host_change_grows : Grows w changed
  host_change_grows = record { entries = []; legal = tt; farm = refl; sent = λ n s at. at; told = λ n t at. at; events = λ n e at. at }

  host_lines : HaveTheirHosts changed
  host_lines =
      record {
        senders = λ s has n is. let h = k.lines.senders s has n is in still_there w.hosts host n was now h.0 at h.1;
        told = λ t has. let h = k.lines.told t has in still_there w.hosts host t.host was now h.0 at h.1;
      }

  host_same : (n : ℕ) (h : Host) → IsKeptHost w n h → IsKeptHost changed n h
  host_same n h kept = host_stays w changed host_change_grows (farm_kept w k.scheduler) n h (record { sent = λ s has of. has; told = λ t has of. has }) kept

  host_changes : IsKeptHost w host now → IsKeptWorld changed
  host_changes kept =
      record {
        scheduler = scheduler_same w (slice_set w.hosts host now) w.sent w.told w.events host_change_grows k.scheduler;
        lines = host_lines;
        hosts = λ n h there. by n h (set_of w.hosts host was now at n h there);
      }
    where
      by : (n : ℕ) (h : Host) → ((n ≡ host) × (h ≡ now)) ⊎ ((n ≢ host) × (slice_get w.hosts n ≡ Some h)) → IsKeptHost changed n h
      by n h (inl here) = host_same n h (subst (λ (m : ℕ). IsKeptHost w m h) (sym here.0) (subst (IsKeptHost w host) (sym here.1) kept))
      by n h (inr other) = host_same n h (k.hosts n h other.1)

-- ---- a host sends a line

-- a report's numbers are of their types
report_within : (w : World) (host : ℕ) (h : Host) (boot : ℕ) → IsKeptHost w host h → h.life.boot ≡ Some boot → h.life.seq ≢ LAST_SEQ → IsReportWithin (report_of h.life boot)
report_within w host h boot was is apart =
    let low = was.life.seq in
    record {
      name = was.life.config.name;
      boot = some_if h.life.boot was.life.boot boot is;
      seq = omega (arith, apart, low);
      done = was.life.finished;
      running = each_map IsAttemptWithin (λ (r : Running). r.attempt) h.life.running was.life.running;
    }

module _ (w v : World) (g : Grows w v) (host : ℕ) (h : Host) (was : IsKeptHost w host h) where
  report_known : (boot : ℕ) → h.life.boot ≡ Some boot → IsKnownReport v host (record h { life = sent_with h.life (Some boot) }) (report_of h.life boot)
  report_known boot is =
      record {
        name = refl;
        life =
            record {
              nonce = h.life.config.nonce;
              told = told_grows w v g host (reply.Boot boot h.life.config.nonce) (was.boot boot is);
              used = was.nonce;
              past = λ same. omega arith;
            };
        came = each_from (CameFrom w host) (CameFrom v host) (came_grows w v g host) h.life.finished was.came;
      }

  sent_known : (o : Option ℕ) → report_boot h.life ≡ o → (q : Request) → request_of (request_text (request_from h.life o)) ≡ Ok q
      → IsKnownRequest v host (record h { life = sent_with h.life o }) q
  sent_known None is q reads =
      let read = boot_as h.life.config q was.life.config reads in
      subst (IsKnownRequest v host (record h { life = sent_with h.life None })) (sym read.1)
      (read.2, subst (λ (n : ℕ). has_used h n ≡ true) (sym read.3) was.nonce)
  sent_known (Some boot) is q reads =
      let reports = report_boot_is h.life boot (eqb h.life.seq LAST_SEQ) refl is in
      subst (IsKnownRequest v host (record h { life = sent_with h.life (Some boot) }))
      (sym (report_as (report_of h.life boot) q (report_within w host h boot was reports.0 reports.1) reads))
      (report_known boot reports.0)

module _ (w : World) (k : IsKeptWorld w) (host : ℕ) (h : Host) (at : slice_get w.hosts host ≡ Some h) where
  abbrev line : Sent
  line = record { host = Some host; line = line_of h.life }

  abbrev sending : World
  sending = with_sent w host h

  send_grows : Grows w sending
  send_grows = record { entries = []; legal = tt; farm = refl; sent = λ n s at. has_left w.sent (line ∷ []) n s at; told = λ n t at. at; events = λ n e at. at }

  sender_there : (s : Sent) (n : ℕ) → s.host ≡ Some n → Has w.sent s ⊎ Has (line ∷ []) s → (x : Host) × (slice_get (with_sent w host h).hosts n ≡ Some x)
  sender_there s n is (inl old) = let x = k.lines.senders s old n is in still_there w.hosts host n h (after_send h) x.0 at x.1
  sender_there s n is (inr new) =
      let same = has_one line s new in
      let here : host ≡ n = same_Some host n (ap (λ (x : Sent). x.host) same ∙ is) in
      (after_send h, ap (λ (m : ℕ). slice_get (slice_set w.hosts host (after_send h)) m) (sym here) ∙ slice_get-set_same w.hosts host h (after_send h) at)

  send_lines : HaveTheirHosts sending
  send_lines =
      record {
        senders = λ s has n is. sender_there s n is (has_in w.sent (line ∷ []) s has);
        told = λ t has. let x = k.lines.told t has in still_there w.hosts host t.host h (after_send h) x.0 at x.1;
      }

  own_or_new : (s : Sent) → Has w.sent s ⊎ Has (line ∷ []) s → Has w.sent s ⊎ (line ≡ s)
  own_or_new s (inl old) = inl old
  own_or_new s (inr new) = inr (has_one line s new)

  not_new : (n : ℕ) (s : Sent) → n ≢ host → s.host ≡ Some n → Has w.sent s ⊎ Has (line ∷ []) s → Has w.sent s
  not_new n s apart is (inl old) = old
  not_new n s apart is (inr new) = absurd (apart (sym (same_Some host n (ap (λ (x : Sent). x.host) (has_one line s new) ∙ is))))

  sender_keeps : IsKeptHost sending host (after_send h)
  sender_keeps =
      let was = k.hosts host h at in
      host_grows w sending send_grows (farm_kept w k.scheduler) host (after_send h) (λ s. line ≡ s) (λ r. ⊥)
      (record {
        sent_of = λ s has is. own_or_new s (has_in w.sent (line ∷ []) s has);
        told_of = λ r told. inl (record { told = told.told; there = told.there; of_host = told.of_host; reads = told.reads });
        sent = λ s new q reads.
            sent_known w sending send_grows host h was (report_boot h.life) refl q (subst (λ (x : Sent). request_of x.line ≡ Ok q) (sym new) reads);
        formed = λ r none. absurd none;
        told = λ r none. absurd none;
        boots = λ boot a b none. absurd none;
      })
      (host_sends w host h was)

  send_hosts : (n : ℕ) (x : Host) → ((n ≡ host) × (x ≡ after_send h)) ⊎ ((n ≢ host) × (slice_get w.hosts n ≡ Some x)) → IsKeptHost sending n x
  send_hosts n x (inl here) = subst (λ (m : ℕ). IsKeptHost sending m x) (sym here.0) (subst (IsKeptHost sending host) (sym here.1) sender_keeps)
  send_hosts n x (inr other) =
      host_stays w sending send_grows (farm_kept w k.scheduler) n x
      (record { sent = λ s has is. not_new n s other.0 is (has_in w.sent (line ∷ []) s has); told = λ t has is. has }) (k.hosts n x other.1)

  send_keeps : IsKeptWorld sending
  send_keeps =
      record {
        scheduler = scheduler_same w (slice_set w.hosts host (after_send h)) (w.sent ++ line ∷ []) w.told w.events send_grows k.scheduler;
        lines = send_lines;
        hosts = λ n x there. send_hosts n x (set_of w.hosts host h (after_send h) at n x there);
      }

-- ---- a line comes to the scheduler

module _ (laws : LowerLaws) (w : World) (k : IsKeptWorld w) (line : ℕ) (s : Sent) (there : slice_get w.sent line ≡ Some s) (moment : ℕ) (low : moment < 2 ^ 64)
    (refused : Option ℕ) where
  reply_there : (o : Option ℕ) → s.host ≡ o → (t : Told) → Has w.told t ⊎ Has (replies_to o (answered w s moment refused).reply) t → (h : Host) × (slice_get w.hosts t.host ≡ Some h)
  reply_there o of t (inl old) = k.lines.told t old
  reply_there None of t (inr new) = absurd (none-some t new.1)
  reply_there (Some host) of t (inr new) =
      let same = has_one (record { host = host; line = reply_text (answered w s moment refused).reply }) t new in
      let x = k.lines.senders s (line, there) host of in
      (x.0, ap (slice_get w.hosts) (sym (ap (λ (u : Told). u.host) same)) ∙ x.1)

  answer_keeps : (new : World) → IsAnswered w line s moment refused new → IsKeptWorld new
  answer_keeps new is =
      subst IsKeptWorld (sym is.is)
      (record {
        scheduler = scheduler_answers laws w k line s there moment low refused is.left is.may is.are_left;
        lines =
            record {
              senders = k.lines.senders;
              told = λ t has. reply_there s.host refl t (has_in w.told (replies_to s.host (answered w s moment refused).reply) t has);
            };
        hosts = hosts_answered laws w k line s there moment low refused is.left;
      })

-- ---- the scheduler starts again

opened_legal : (f : Farm) (moment : ℕ) → moment < 2 ^ 64 → IsLegalStep f (opened_entry moment)
opened_legal f moment low = record { formed = record { moment_within = low; act_formed = tt }; accepted = refl; condition = tt }

module _ (w : World) (k : IsKeptWorld w) (x : History) (es : List Entry) (legal : IsLegal w.now.farm es) (farm : x.farm ≡ run_of w.now.farm es) (counts : CountsWell w x)
    (moment : ℕ) (low : moment < 2 ^ 64) where
  abbrev again : World
  again = restarted w x moment

  restart_grows : Grows w again
  restart_grows =
      let opens = opened_entry moment in
      record {
        entries = es ++ opens ∷ [];
        legal = legal_append w.now.farm es (opens ∷ []) legal (opened_legal (run_of w.now.farm es) moment low, tt);
        farm = ap (λ (g : Farm). after g opens) farm ∙ sym (run_append w.now.farm es (opens ∷ []));
        sent = λ n s at. at;
        told = λ n t at. at;
        events = λ n e at. at;
      }

  restart_keeps : IsKeptWorld again
  restart_keeps =
      let opens = opened_entry moment in
      let opened = opened_legal x.farm moment low in
      record {
        scheduler =
            record {
              opened = subst IsKeptFarm (sym farm) (kept_run w.now.farm es (farm_kept w k.scheduler) legal);
              legal = (opened, tt);
              leads = refl;
              counts =
                  record {
                    reported = each_from (IsReported w) (IsReported again) (reported_grows w again restart_grows) x.counted counts.reported;
                    spent =
                        each_from (IsSpent x.farm) (IsSpent (after x.farm opens)) (λ a spent. spent_later x.farm (opens ∷ []) a (opened, tt) spent) (attempts_counted x.counted)
                        counts.spent;
                    once = counts.once;
                  };
              further = tt;
            };
        lines = record { senders = k.lines.senders; told = k.lines.told };
        hosts = λ n h at.
            host_stays w again restart_grows (farm_kept w k.scheduler) n h (record { sent = λ s has of. has; told = λ t has of. has }) (k.hosts n h at);
      }

-- ---- each event

module _ (laws : LowerLaws) (w : World) (kept : IsKeptWorld w) where
  further_keeps : (e : Event) (x : History) (moment : ℕ) → moment < 2 ^ 64 → IsFurther (noted w e) x → IsKeptWorld (restarted (noted w e) x moment)
  further_keeps e x moment low further =
      restart_keeps (noted w e) (note_keeps w e kept) x (further.entry ∷ []) (further.legal, tt) further.farm further.counts moment low

  pub event_keeps : (e : Event) (new : World) → IsOfTypes e → Happens w e new → IsKeptWorld new
  event_keeps (event.Send host) new types happens =
      let e = event.Send host in
      let it = some_and (slice_get w.hosts host) _ happens in
      subst IsKeptWorld (sym it.2) (send_keeps (noted w e) (note_keeps w e kept) host it.0 it.1)
  event_keeps (event.ToCue line moment refused) new types happens =
      let e = event.ToCue line moment refused in
      let it = some_and (slice_get w.sent line) _ happens in
      answer_keeps laws (noted w e) (note_keeps w e kept) line it.0 it.1 moment types refused new it.2
  event_keeps (event.ToHost line) new types happens =
      let e = event.ToHost line in
      let told = some_and (slice_get w.told line) _ happens in
      let it = some_and (slice_get w.hosts told.0.host) _ told.2 in
      let k = note_keeps w e kept in
      subst IsKeptWorld (sym it.2)
      (host_changes (noted w e) k told.0.host it.0 (after_told it.0 told.0.line) it.1
      (host_is_told (noted w e) told.0.host it.0 (k.hosts told.0.host it.0 it.1) line told.0 (note_has w e) told.1 refl))
  event_keeps (event.Ended host a exit) new types happens =
      let e = event.Ended host a exit in
      let it = some_and (slice_get w.hosts host) _ happens in
      let k = note_keeps w e kept in
      subst IsKeptWorld (sym it.2.1)
      (host_changes (noted w e) k host it.0 (after_exit it.0 a exit) it.1
      (host_ends (noted w e) host it.0 a exit (note_has w e) it.2.0 types.0 types.1 (k.hosts host it.0 it.1)))
  event_keeps (event.NewLife host nonce) new types happens =
      let e = event.NewLife host nonce in
      let it = some_and (slice_get w.hosts host) _ happens in
      let k = note_keeps w e kept in
      subst IsKeptWorld (sym it.2.1)
      (host_changes (noted w e) k host it.0 (reborn it.0 nonce) it.1 (host_begins (noted w e) host it.0 nonce it.2.0 types (k.hosts host it.0 it.1)))
  event_keeps (event.Restart None moment) new types happens =
      let e = event.Restart None moment in
      let k = note_keeps w e kept in
      subst IsKeptWorld (sym happens) (restart_keeps (noted w e) k w.now [] tt refl k.scheduler.counts moment types)
  event_keeps (event.Restart (Some place) moment) new types happens =
      let e = event.Restart (Some place) moment in
      let it = some_and (slice_get w.further place) _ happens in
      let k = note_keeps w e kept in
      subst IsKeptWorld (sym it.2) (further_keeps e it.0 moment types (each_at (IsFurther (noted w e)) w.further k.scheduler.further place it.0 it.1))
