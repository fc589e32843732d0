-- Along entries a host stays at its place under its name, its boot number never falls, and while that stays so does its nonce.
use Rattle.std.proofs.Common.{◌≡◌, ◌≤◌, ◌+◌, ℕ, suc, Bool, true, false, List, [], ◌∷◌, Option, None, Some, refl, sym, ap, subst, ◌∙◌, arith, cond}
use Rattle.std.specs.Prelude.{bytes_eq}
use Rattle.std.proofs.lemmas.Option.{none-some, same_Some}
use Rattle.farm_types.specs.declared.attempt.DoneItem.{DoneItem}
use Rattle.farm_types.specs.declared.boot.BootLine.{BootLine}
use Rattle.farm_types.specs.declared.entry.Act.{Act}
use Rattle.farm_types.specs.declared.entry.Act.TheVariants.{Opened, Sub, Limit, Boot, Heard, Submit, Pause, KillJob, KillFrame, EatFrame, RetryFrame, Lock, Tick, Book}
use Rattle.farm_types.specs.declared.entry.Entry.{Entry}
use Rattle.farm_types.specs.declared.entry.HeardAct.{HeardAct}
use Rattle.farm_types.specs.declared.job.JobSpec.{JobSpec}
use Rattle.farm_types.specs.declared.attempt.ProcRow.{ProcRow}
use Rattle.farm_types.specs.declared.rows.HostRow.{HostRow}
use Rattle.farm_types.specs.declared.rows.JobRow.{JobRow}
use Rattle.farm_types.specs.declared.slot_row.SlotRow.{SlotRow}
use Rattle.farm_types.specs.declared.states.FrameState.TheVariants as frame_state
use Rattle.farm_types.specs.declared.states.LockState.{LockState}
use Rattle.farm_types.specs.declared.sub_line.SubLine.{SubLine}
use Rattle.farm_types.specs.Booking.{is_up}
use Rattle.farm_types.specs.DependActs.{pending_named}
use Rattle.farm_types.specs.Farm.{Farm, alloc_named, changed_at, host_from, host_named, limit_named, show_named}
use Rattle.farm_types.specs.Hosts.{again_row, booted_at, booted_row, down_row, heard_row, is_same_life, is_unheard, locked_row, new_host, reborn_row, reopened_row, silenced_row}
use Rattle.farm_types.specs.Operators.{retried_row, slot_named, stopped_row, with_killed, with_paused, with_row_at}
use Rattle.farm_types.specs.Run.{run_of}
use Rattle.farm_types.specs.Step.{acted, after, after_act, after_boot, after_heard, after_limit, after_lock, after_sub, after_submit, at_moment, closed, end_all, end_attempt, expire, finish_all, finish_each, finish_one, finishing, followed, is_live, moment_of, new_proc, sub_named, with_proc}
use Rattle.farm_types.proofs.Passes.{cond_each}
use Rattle.farm_types.proofs.Stays.{EachStays, EachStays-append, EachStays-changed_at, EachStays-map, EachStays-same, EachStays-then}
use Rattle.farm_law.proofs.Ended.{ended}
use Rattle.farm_law.proofs.Follows.{act_follows}
use Rattle.world_law.specs.Boots.{CameToBoot}

pub record HostGoes (old new : HostRow) : Type 0 where
  pub name : new.name ≡ old.name
  pub boot : old.boot ≤ new.boot
  pub nonce : new.boot ≡ old.boot → new.nonce ≡ old.nonce

-- what leaves name, boot number and nonce as they are
pub goes_as : (old new : HostRow) → new.name ≡ old.name → new.boot ≡ old.boot → new.nonce ≡ old.nonce → HostGoes old new
goes_as old new name boot nonce = record { name = name; boot = omega (arith, boot); nonce = λ same. nonce }

goes_same : (row : HostRow) → HostGoes row row
goes_same row = goes_as row row refl refl refl

goes_then : (x y z : HostRow) → HostGoes x y → HostGoes y z → HostGoes x z
goes_then x y z first second =
    record {
      name = second.name ∙ first.name;
      boot = omega (arith, first.boot, second.boot);
      nonce = λ same.
          let as_first : y.boot ≡ x.boot = omega (arith, first.boot, second.boot, same) in
          let as_second : z.boot ≡ y.boot = omega (arith, first.boot, second.boot, same) in
          second.nonce as_second ∙ first.nonce as_first;
    }

abbrev pub HostsGo : Farm → Farm → Type 0
HostsGo f g = EachStays HostGoes f.hosts g.hosts

pub hosts_then : (f g k : Farm) → HostsGo f g → HostsGo g k → HostsGo f k
hosts_then f g k first second = EachStays-then HostGoes goes_then f.hosts g.hosts k.hosts first second

pub hosts_alike : (f g : Farm) → g.hosts ≡ f.hosts → HostsGo f g
hosts_alike f g same = subst (EachStays HostGoes f.hosts) (sym same) (EachStays-same HostGoes goes_same f.hosts)

-- ---- rows

silenced_goes : (moment : ℕ) (row : HostRow) → HostGoes row (silenced_row moment row)
silenced_goes moment row = cond_each (HostGoes row) (is_unheard moment row) (down_row row) row (goes_as row (down_row row) refl refl refl) (goes_same row)

reopened_goes : (moment : ℕ) (row : HostRow) → HostGoes row (reopened_row moment row)
reopened_goes moment row =
    cond_each (HostGoes row) (is_up row.state) (record row { heard = moment }) row (goes_as row (record row { heard = moment }) refl refl refl) (goes_same row)

reborn_goes : (line : BootLine) (moment : ℕ) (row : HostRow) → HostGoes row (reborn_row line moment row)
reborn_goes line moment row = record { name = refl; boot = omega arith; nonce = λ same. absurd (omega (arith, same)) }

booted_goes : (line : BootLine) (moment : ℕ) (row : HostRow) → HostGoes row (booted_row line moment row)
booted_goes line moment row =
    cond_each (HostGoes row) (is_same_life line row) (again_row moment row) (reborn_row line moment row) (goes_as row (again_row moment row) refl refl refl)
    (reborn_goes line moment row)

-- ---- acts

expire_goes : (f : Farm) (moment : ℕ) → HostsGo f (expire f moment)
expire_goes f moment = EachStays-map HostGoes f.hosts (silenced_row moment) (silenced_goes moment)

changed_goes : (f : Farm) (i : ℕ) (change : HostRow → HostRow) → ((row : HostRow) → HostGoes row (change row)) → EachStays HostGoes f.hosts (changed_at f.hosts i change)
changed_goes f i change each = EachStays-changed_at HostGoes goes_same f.hosts i change (λ row at. each row)

lock_goes : (f : Farm) (lock : LockState) (o : Option ℕ) → HostsGo f (after_lock f lock o)
lock_goes f lock None = hosts_alike f f refl
lock_goes f lock (Some i) = changed_goes f i (locked_row lock) (λ row. goes_as row (locked_row lock row) refl refl refl)

end_goes : (f : Farm) (i boot : ℕ) (ds : List DoneItem) → HostsGo f (end_all f i boot ds)
end_goes f i boot [] = hosts_alike f f refl
end_goes f i boot (d ∷ ds) =
    let now = end_attempt f i boot d in
    hosts_then f now (end_all now i boot ds)
    (cond_each (HostsGo f) (is_live f i boot d.attempt.slot d.attempt.version) (ended f d.attempt.slot d.exit) f (hosts_alike f (ended f d.attempt.slot d.exit) refl) (hosts_alike f f refl))
    (end_goes now i boot ds)

heard_goes : (f : Farm) (heard : HeardAct) (moment : ℕ) (o : Option ℕ) → HostsGo f (after_heard f heard moment o)
heard_goes f heard moment None = hosts_alike f f refl
heard_goes f heard moment (Some i) =
    let now = record f { hosts = changed_at f.hosts i (heard_row heard.seq moment) } in
    hosts_then f now (end_all now i heard.boot heard.done)
    (changed_goes f i (heard_row heard.seq moment) (λ row. goes_as row (heard_row heard.seq moment row) refl refl refl)) (end_goes now i heard.boot heard.done)

pub booted_hosts : (f : Farm) (line : BootLine) (alloc moment : ℕ) (o : Option ℕ) → EachStays HostGoes f.hosts (booted_at f.hosts line alloc moment o)
booted_hosts f line alloc moment None = EachStays-append HostGoes goes_same f.hosts (new_host line alloc moment ∷ [])
booted_hosts f line alloc moment (Some i) = changed_goes f i (booted_row line moment) (booted_goes line moment)

boot_goes : (f : Farm) (line : BootLine) (moment : ℕ) (o : Option ℕ) → HostsGo f (after_boot f line moment o)
boot_goes f line moment None = hosts_alike f f refl
boot_goes f line moment (Some alloc) = booted_hosts f line alloc moment (host_named f line.host)

sub_goes : (f : Farm) (line : SubLine) (o : Option ℕ) → HostsGo f (after_sub f line o)
sub_goes f line None = hosts_alike f f refl
sub_goes f line (Some sub) = hosts_alike f (after_sub f line (Some sub)) refl

limit_goes : (f : Farm) (name : List ℕ) (most : ℕ) (o : Option ℕ) → HostsGo f (after_limit f name most o)
limit_goes f name most None = hosts_alike f (after_limit f name most None) refl
limit_goes f name most (Some limit) = hosts_alike f (after_limit f name most (Some limit)) refl

submit_goes : (f : Farm) (spec : JobSpec) (o : Option ℕ) → HostsGo f (after_submit f spec o)
submit_goes f spec None = hosts_alike f f refl
submit_goes f spec (Some show) = hosts_alike f (after_submit f spec (Some show)) refl

pause_goes : (f : Farm) (paused : Bool) (o : Option JobRow) → HostsGo f (with_paused f paused o)
pause_goes f paused None = hosts_alike f f refl
pause_goes f paused (Some j) = hosts_alike f (with_paused f paused (Some j)) refl

kill_goes : (f : Farm) (o : Option JobRow) → HostsGo f (with_killed f o)
kill_goes f None = hosts_alike f f refl
kill_goes f (Some j) = hosts_alike f (with_killed f (Some j)) refl

row_goes : (f : Farm) (change : SlotRow → SlotRow) (o : Option ℕ) → HostsGo f (with_row_at f change o)
row_goes f change None = hosts_alike f f refl
row_goes f change (Some slot) = hosts_alike f (with_row_at f change (Some slot)) refl

proc_goes : (f : Farm) (slot : ℕ) (o : Option ProcRow) → HostsGo f (with_proc f slot o)
proc_goes f slot None = hosts_alike f f refl
proc_goes f slot (Some p) = hosts_alike f (with_proc f slot (Some p)) refl

act_goes : (f : Farm) (moment : ℕ) (act : Act) → HostsGo f (after_act f moment act)
act_goes f moment Opened = EachStays-map HostGoes f.hosts (reopened_row moment) (reopened_goes moment)
act_goes f moment (Sub line) = sub_goes f line (sub_named f line)
act_goes f moment (Limit name most) = limit_goes f name most (limit_named f name)
act_goes f moment (Boot line) =
    let now = expire f moment in
    hosts_then f now (after_act f moment (Boot line)) (expire_goes f moment) (boot_goes now line moment (alloc_named f line.alloc))
act_goes f moment (Heard heard) =
    let now = expire f moment in
    hosts_then f now (after_act f moment (Heard heard)) (expire_goes f moment) (heard_goes now heard moment (host_named f heard.host))
act_goes f moment (Submit spec) = submit_goes f spec (show_named f spec.show)
act_goes f moment (Pause job paused) = pause_goes f paused (pending_named f job)
act_goes f moment (KillJob job) = kill_goes f (pending_named f job)
act_goes f moment (KillFrame p) = row_goes f (stopped_row frame_state.Dead) (slot_named f p)
act_goes f moment (EatFrame p) = row_goes f (stopped_row frame_state.Eaten) (slot_named f p)
act_goes f moment (RetryFrame p) = row_goes f retried_row (slot_named f p)
act_goes f moment (Lock name lock) = lock_goes f lock (host_named f name)
act_goes f moment Tick = expire_goes f moment
act_goes f moment (Book slot i) = proc_goes f slot (new_proc f slot i moment)
act_goes f moment act = hosts_alike f (after_act f moment act) refl

-- ---- what follows, and jobs that finish

each_goes : (jobs : List ℕ) (f : Farm) → HostsGo f (finish_each jobs f)
each_goes [] f = hosts_alike f f refl
each_goes (job ∷ jobs) f = hosts_then f (finish_one job f) (finish_each jobs (finish_one job f)) (hosts_alike f (finish_one job f) refl) (each_goes jobs (finish_one job f))

all_goes : (f : Farm) → HostsGo f (finish_all f)
unfolding finish_all
all_goes f = each_goes (finishing f) f

close_goes : (act : Act) (f : Farm) → HostsGo f (closed act f)
close_goes (Heard heard) f = all_goes f
close_goes (KillJob job) f = all_goes f
close_goes (EatFrame p) f = all_goes f
close_goes act f = hosts_alike f f refl

-- ---- entries

-- what follows of an act, and the jobs that finish
pub rest_goes : (act : Act) (f : Farm) → HostsGo f (closed act (followed act f))
rest_goes act f =
    let mid = followed act f in
    hosts_then f mid (closed act mid) (hosts_alike f mid (ap (λ (g : Farm). g.hosts) (act_follows act f).rest)) (close_goes act mid)

pub entry_goes : (f : Farm) (e : Entry) → HostsGo f (after f e)
entry_goes f e =
    let moment = moment_of f e.moment in
    let later = at_moment f moment in
    hosts_then f (acted f e) (after f e) (act_goes later moment e.act) (rest_goes e.act (acted f e))

pub run_goes : (f : Farm) (es : List Entry) → HostsGo f (run_of f es)
run_goes f [] = hosts_alike f f refl
run_goes f (e ∷ es) = hosts_then f (after f e) (run_of (after f e) es) (entry_goes f e) (run_goes (after f e) es)

-- ---- names

named_from : (place : ℕ) (name : List ℕ) (olds news : List HostRow) → EachStays HostGoes olds news → (n : ℕ) → host_from place name olds ≡ Some n → host_from place name news ≡ Some n
named_from place name [] news goes n is = absurd (none-some n is)
named_from place name (row ∷ olds) [] goes n is = let there = goes 0 row refl in absurd (none-some there.0 there.1)
named_from place name (row ∷ olds) (now ∷ news) goes n is =
    let there = goes 0 row refl in
    let same : now.name ≡ row.name = ap (λ (r : HostRow). r.name) (same_Some now there.0 there.1) ∙ there.2.name in
    by (bytes_eq row.name name) (λ i. bytes_eq (same i) name) (λ found. named_from (place + 1) name olds news (λ i x at. goes (suc i) x at) n found) is
  where
    by : (b : Bool) → bytes_eq now.name name ≡ b → (host_from (place + 1) name olds ≡ Some n → host_from (place + 1) name news ≡ Some n)
        → cond b (Some place) (host_from (place + 1) name olds) ≡ Some n
        → cond (bytes_eq now.name name) (Some place) (host_from (place + 1) name news) ≡ Some n
    by true here later found = ap (λ (b : Bool). cond b (Some place) (host_from (place + 1) name news)) here ∙ found
    by false here later found = ap (λ (b : Bool). cond b (Some place) (host_from (place + 1) name news)) here ∙ later found

-- a host that is named is so later, by the same number
pub named_later : (f g : Farm) → HostsGo f g → (name : List ℕ) (n : ℕ) → host_named f name ≡ Some n → host_named g name ≡ Some n
named_later f g goes name n is = named_from 0 name f.hosts g.hosts goes n is

-- ---- boots

pub boot_later : (f g : Farm) → HostsGo f g → (name : List ℕ) (boot nonce : ℕ) → CameToBoot f name boot nonce → CameToBoot g name boot nonce
boot_later f g goes name boot nonce came =
    let now = goes came.place came.row came.there in
    record {
      place = came.place;
      row = now.0;
      named = named_later f g goes name came.place came.named;
      there = now.1;
      reached = omega (arith, came.reached, now.2.boot);
      with_nonce = λ same.
          let as_row : boot ≡ came.row.boot = omega (arith, came.reached, now.2.boot, same) in
          let as_now : now.0.boot ≡ came.row.boot = omega (arith, came.reached, now.2.boot, same) in
          came.with_nonce as_row ∙ sym (now.2.nonce as_now);
    }
