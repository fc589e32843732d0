-- What several acts do, each from a farm that keeps all to one that does: the moment rises, silent hosts go down, a host boots, a report comes.
use Rattle.std.proofs.Common.{◌≡◌, ◌<◌, ◌≤◌, ◌^◌, ℕ, List, [], ◌∷◌, Bool, true, false, cond, eqb, length, Option, Some, None, refl, sym, subst, arith}
use Rattle.std.specs.List.{slice_get}
use Rattle.std.proofs.lemmas.Option.{slice_get_within}
use Rattle.farm_types.proofs.Lists.{for_some_true, list_all-at}
use Rattle.farm_types.specs.declared.attempt.DoneItem.{DoneItem}
use Rattle.farm_types.specs.declared.attempt.ProcRow.{ProcRow}
use Rattle.farm_types.specs.declared.boot.BootLine.{BootLine}
use Rattle.farm_types.specs.declared.entry.HeardAct.{HeardAct}
use Rattle.farm_types.specs.declared.rows.HostRow.{HostRow}
use Rattle.farm_types.specs.declared.slot_row.SlotRow.{SlotRow}
use Rattle.farm_types.specs.Farm.{Farm, alloc_named, changed_at, host_named, for_any}
use Rattle.farm_types.specs.Formed.{IsFormedBoot, IsFormedHeard}
use Rattle.farm_types.specs.Hosts.{heard_row, silenced, silenced_row}
use Rattle.farm_types.specs.Kept.{KeepsRows, KeepsJobs, alloc_label, is_on_host}
use Rattle.farm_types.specs.Run.{HasItsHosts, IsSound, OnHostOf}
use Rattle.farm_types.specs.Step.{after_boot, after_heard, at_moment, boot_refusal, end_all, end_attempt, ended_row, expire, is_live, is_silent, lists_of}
use Rattle.farm_law.proofs.Booted.{boot_law, boot_slots}
use Rattle.farm_law.proofs.Ended.{ended, ended_law}
use Rattle.farm_law.proofs.Hosts.{heard_law}
use Rattle.farm_law.proofs.KeepsLaw.{KeepsLaw}
use Rattle.farm_law.proofs.KeptAttempts.{NamedStay, attempts_left, left_all}
use Rattle.farm_law.proofs.KeptBoots.{HasRoom, boot_room, hosts_booted, named_silenced, room_silenced}
use Rattle.farm_law.proofs.KeptHosts.{hosts_changed, hosts_later, hosts_mapped, keeps_heard, keeps_silenced}
use Rattle.farm_law.proofs.KeptJobs.{jobs_ended, jobs_lost}
use Rattle.farm_law.proofs.KeptNames.{named_within}
use Rattle.farm_law.proofs.KeptServes.{heard_serve, left_same, left_booted, left_ended, left_expired}
use Rattle.farm_law.proofs.Lost.{expire_law}
use Rattle.farm_law.proofs.RowsStay.{RowsStay}
use Rattle.farm_law.proofs.SafeRuns.{moment_law}

-- ---- what follows of a farm that keeps all

on_host : (hosts : List HostRow) (o : Option ProcRow) → for_any o (is_on_host hosts) ≡ true → OnHostOf (length hosts) o
on_host hosts None on = tt
on_host hosts (Some p) on =
    let row = for_some_true (slice_get hosts p.host) _ on in
    slice_get_within hosts p.host row.0 row.1

-- it has its hosts
pub kept_hosts : (f : Farm) → KeepsRows f → HasItsHosts f
kept_hosts f k i s at = on_host f.hosts s.proc (list_all-at (λ (s : SlotRow). for_any s.proc (is_on_host f.hosts)) f.slots i s k.attempts.hosted at)

-- it is sound after a change that keeps the law
pub sound_by : (f g : Farm) → KeepsLaw f g → KeepsRows f → IsSound g
sound_by f g law k = law.sound k.sound (kept_hosts f k)

-- rows stay for attempts where no layer, no subscription and no moment changes
pub named_by : (f g : Farm) → RowsStay f g → g.layers ≡ f.layers → g.subs ≡ f.subs → g.moment ≡ f.moment → NamedStay f g
named_by f g rows layers subs moment =
    record {
      rows = rows;
      layers = λ job place l at. rw layers at;
      subs = λ n there. rw subs there;
      moment = omega (arith, moment);
    }

-- ---- the moment

pub kept_later : (f : Farm) (moment : ℕ) → f.moment ≤ moment → moment < 2 ^ 64 → KeepsRows f → KeepsRows (at_moment f moment)
kept_later f moment rises within k =
    let law = moment_law f moment in
    record {
      moment_within = within;
      shows = k.shows;
      allocs = k.allocs;
      subs = k.subs;
      limits = k.limits;
      hosts = hosts_later f.hosts (length f.allocs) f.moment moment rises k.hosts;
      jobs = k.jobs;
      attempts = attempts_left f (at_moment f moment) (record { rows = law.rows; layers = λ job place l at. at; subs = λ n there. there; moment = rises }) (left_same f) k;
      sound = sound_by f (at_moment f moment) law k;
    }

-- ---- silent hosts

pub kept_expire : (f : Farm) (moment : ℕ) → KeepsRows f → KeepsRows (expire f moment)
kept_expire f moment k =
    let law = expire_law f moment in
    record {
      moment_within = k.moment_within;
      shows = k.shows;
      allocs = k.allocs;
      subs = k.subs;
      limits = k.limits;
      hosts = hosts_mapped f.hosts (length f.allocs) f.moment (silenced_row moment) (keeps_silenced moment f.moment) k.hosts;
      jobs = jobs_lost (lists_of f) (is_silent f moment) (length f.shows) k.jobs;
      attempts = attempts_left f (expire f moment) (named_by f (expire f moment) law.rows refl refl refl) (left_expired f moment) k;
      sound = sound_by f (expire f moment) law k;
    }

-- ---- boots

-- the host of that name boots, or a new one
kept_booted : (f : Farm) (line : BootLine) (moment alloc : ℕ) → IsFormedBoot line → HasRoom line f.hosts (host_named f line.host) → alloc < length f.allocs → moment ≤ f.moment → KeepsRows f → KeepsRows (after_boot f line moment (Some alloc))
kept_booted f line moment alloc formed room there now k =
    let g = after_boot f line moment (Some alloc) in
    let law = boot_law f line moment (Some alloc) in
    let host = host_named f line.host in
    record {
      moment_within = k.moment_within;
      shows = k.shows;
      allocs = k.allocs;
      subs = k.subs;
      limits = k.limits;
      hosts = hosts_booted f.hosts (length f.allocs) moment f.moment line alloc host refl room formed there now k.hosts;
      jobs = boot_slots (λ slots. KeepsJobs (record { jobs = f.jobs; layers = f.layers; slots = slots; next_job = f.next_job; next_finish = f.next_finish }) (length f.shows)) f line host k.jobs (λ n. jobs_lost (lists_of f) (λ m. eqb m n) (length f.shows) k.jobs);
      attempts = attempts_left f g (named_by f g law.rows refl refl refl) (left_booted f line moment alloc host) k;
      sound = sound_by f g law k;
    }

-- a boot first sees which hosts are silent
pub kept_boot : (f : Farm) (line : BootLine) (moment : ℕ) (o : Option ℕ) → alloc_named f line.alloc ≡ o → boot_refusal f line o ≡ None → IsFormedBoot line → moment ≤ f.moment → KeepsRows f → KeepsRows (after_boot (expire f moment) line moment o)
kept_boot f line moment None is accepted formed now k = kept_expire f moment k
kept_boot f line moment (Some alloc) is accepted formed now k =
    let room = room_silenced line moment f.hosts (host_named f line.host) (boot_room f line alloc (host_named f line.host) accepted) in
    kept_booted (expire f moment) line moment alloc formed
    (subst (HasRoom line (silenced moment f.hosts)) (sym (named_silenced moment 0 line.host f.hosts)) room)
    (named_within alloc_label line.alloc f.allocs alloc is) now (kept_expire f moment k)

-- ---- reports

-- the host of that number was heard
kept_heard : (f : Farm) (host seq moment : ℕ) → seq < 2 ^ 64 → moment ≤ f.moment → KeepsRows f → KeepsRows (record f { hosts = changed_at f.hosts host (heard_row seq moment) })
kept_heard f host seq moment within now k =
    let g = record f { hosts = changed_at f.hosts host (heard_row seq moment) } in
    let law = heard_law f host seq moment in
    record {
      moment_within = k.moment_within;
      shows = k.shows;
      allocs = k.allocs;
      subs = k.subs;
      limits = k.limits;
      hosts = hosts_changed f.hosts (length f.allocs) f.moment host (heard_row seq moment) (λ row at. keeps_heard seq moment f.moment within now row) k.hosts;
      jobs = k.jobs;
      attempts = attempts_left f g (named_by f g law.rows refl refl refl) (left_all f.hosts g.hosts f.slots (heard_serve f.hosts seq moment host)) k;
      sound = sound_by f g law k;
    }

-- a completion that counts, or nothing
end_by : (f : Farm) (d : DoneItem) (live : Bool) → (let g : Farm = cond live (ended f d.attempt.slot d.exit) f in KeepsJobs (lists_of g) (length f.shows) → KeepsRows f → KeepsRows g)
end_by f d true jobs k =
    let g = ended f d.attempt.slot d.exit in
    let law = ended_law f d.attempt.slot d.exit in
    record {
      moment_within = k.moment_within;
      shows = k.shows;
      allocs = k.allocs;
      subs = k.subs;
      limits = k.limits;
      hosts = k.hosts;
      jobs = jobs;
      attempts = attempts_left f g (named_by f g law.rows refl refl refl) (left_ended f.hosts f.slots d.attempt.slot (ended_row f d.exit) (λ s. refl)) k;
      sound = sound_by f g law k;
    }
end_by f d false jobs k = k

-- completions in order
pub kept_ends : (f : Farm) (host boot : ℕ) (ds : List DoneItem) → KeepsRows f → KeepsRows (end_all f host boot ds)
kept_ends f host boot [] k = k
kept_ends f host boot (d ∷ ds) k =
    kept_ends (end_attempt f host boot d) host boot ds
    (end_by f d (is_live f host boot d.attempt.slot d.attempt.version) (jobs_ended f host boot (d ∷ []) (length f.shows) k.jobs) k)

-- a host is heard, and then its completions
pub kept_report : (f : Farm) (heard : HeardAct) (moment : ℕ) (o : Option ℕ) → IsFormedHeard heard → moment ≤ f.moment → KeepsRows f → KeepsRows (after_heard f heard moment o)
kept_report f heard moment None formed now k = k
kept_report f heard moment (Some host) formed now k =
    kept_ends (record f { hosts = changed_at f.hosts host (heard_row heard.seq moment) }) host heard.boot heard.done (kept_heard f host heard.seq moment formed.seq_within.1 now k)
