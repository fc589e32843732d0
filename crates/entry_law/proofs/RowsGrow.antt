-- What an entry leaves of subscriptions, limits and a host's size.
use Rattle.std.proofs.Common.{◌≡◌, ◌≢◌, ℕ, Bool, true, false, cond, eqb, List, [], ◌∷◌, map, Option, Some, None, refl, sym, ap, subst, ◌∙◌, ◌⊎◌, inl, inr, option_map}
use Rattle.std.specs.List.{find, slice_get}
use Rattle.std.specs.Prelude.{is_some}
use Rattle.std.proofs.lemmas.Option.{slice_get-map}
use Rattle.farm_types.specs.declared.attempt.DoneItem.{DoneItem}
use Rattle.farm_types.specs.declared.attempt.ProcRow.{ProcRow}
use Rattle.farm_types.specs.declared.boot.BootLine.{BootLine}
use Rattle.farm_types.specs.declared.entry.Act.{Act}
use Rattle.farm_types.specs.declared.entry.Act.TheVariants.{Opened, Sub, Limit, Boot, Heard, Submit, Pause, KillJob, KillFrame, EatFrame, RetryFrame, Lock, Tick, Book}
use Rattle.farm_types.specs.declared.entry.Entry.{Entry}
use Rattle.farm_types.specs.declared.entry.HeardAct.{HeardAct}
use Rattle.farm_types.specs.declared.job.JobSpec.{JobSpec}
use Rattle.farm_types.specs.declared.rows.HostRow.{HostRow}
use Rattle.farm_types.specs.declared.rows.JobRow.{JobRow}
use Rattle.farm_types.specs.declared.rows.LimitRow.{LimitRow}
use Rattle.farm_types.specs.declared.slot_row.SlotRow.{SlotRow}
use Rattle.farm_types.specs.declared.states.FrameState.TheVariants as frame_state
use Rattle.farm_types.specs.declared.states.LockState.{LockState}
use Rattle.farm_types.specs.declared.sub_line.SubLine.{SubLine}
use Rattle.farm_types.specs.DependActs.{pending_named}
use Rattle.farm_types.specs.Farm.{Farm, alloc_named, changed_at, host_named, limit_named, show_named}
use Rattle.farm_types.specs.Hosts.{again_row, booted_at, booted_row, heard_row, is_same_life, locked_row, new_host, reborn_row, reopened_row, silenced_row}
use Rattle.farm_types.specs.Lost.{lose_on}
use Rattle.farm_types.specs.Operators.{retried_row, slot_named, stopped_row, with_killed, with_paused, with_row_at}
use Rattle.farm_types.specs.Step.{acted, after, after_act, after_boot, after_heard, after_limit, after_lock, after_sub, after_submit, at_moment, closed, end_all, end_attempt, expire, finish_all, finish_each, finish_one, finishing, followed, is_live, limit_row, lose_life, moment_of, new_proc, slots_at_boot, sub_named, sub_row, with_most, with_proc}
use Rattle.farm_types.proofs.Changed.{changed_at_other, changed_at_same, places}
use Rattle.farm_types.proofs.Passes.{cond_each}
use Rattle.farm_types.proofs.Stays.{EachStays, EachStays-append, EachStays-changed_at, EachStays-same}
use Rattle.farm_law.proofs.Ended.{ended}
use Rattle.farm_law.proofs.Follows.{act_follows}
use Rattle.farm_law.proofs.Hosts.{KeepsAmounts, reopened_amounts, silenced_amounts}
use Rattle.farm_law.proofs.KeptBoots.{named_silenced}
use Rattle.farm_law.proofs.KeptShows.{SubsStay, subs_stay}

-- ---- a host's size

-- the host is there, of that size
abbrev pub HasSize : HostRow → List HostRow → ℕ → Type 0
HasSize row hosts host = (now : HostRow) × (slice_get hosts host ≡ Some now) × (now.cores ≡ row.cores) × (now.memory ≡ row.memory)

abbrev LimitsStay : List LimitRow → List LimitRow → Type 0
LimitsStay olds news = EachStays (λ (x y : LimitRow). y.name ≡ x.name) olds news

-- Subscriptions and limits stay there, and a host keeps its size, or the type holds.
pub record RowsGrow (B : Type 0) (host : ℕ) (f g : Farm) : Type 0 where
  pub subs : SubsStay f.subs g.subs
  pub limits : LimitsStay f.limits g.limits
  pub size : (row : HostRow) → slice_get f.hosts host ≡ Some row → HasSize row g.hosts host ⊎ B

limits_same : (limits : List LimitRow) → LimitsStay limits limits
limits_same limits = EachStays-same (λ (x y : LimitRow). y.name ≡ x.name) (λ x. refl) limits

module _ (B : Type 0) (host : ℕ) where
  -- with the same subscriptions and limits
  sized : (f g : Farm) → g.subs ≡ f.subs → g.limits ≡ f.limits → ((row : HostRow) → slice_get f.hosts host ≡ Some row → HasSize row g.hosts host ⊎ B)
      → RowsGrow B host f g
  sized f g subs limits size =
      record {
        subs = λ n there. ap (λ xs. is_some (find (λ s. eqb s.sub n) xs)) subs ∙ there;
        limits = subst (LimitsStay f.limits) (sym limits) (limits_same f.limits);
        size = size;
      }

  size_same : (f g : Farm) → g.hosts ≡ f.hosts → (row : HostRow) → slice_get f.hosts host ≡ Some row → HasSize row g.hosts host ⊎ B
  size_same f g hosts row at = inl (row, ap (λ (rows : List HostRow). slice_get rows host) hosts ∙ at, refl, refl)

  pub grows_alike : (f g : Farm) → g.subs ≡ f.subs → g.limits ≡ f.limits → g.hosts ≡ f.hosts → RowsGrow B host f g
  grows_alike f g subs limits hosts = sized f g subs limits (size_same f g hosts)

  size_then : (f g k : Farm) → RowsGrow B host g k → (row : HostRow) → HasSize row g.hosts host ⊎ B → HasSize row k.hosts host ⊎ B
  size_then f g k second row (inr b) = inr b
  size_then f g k second row (inl mid) = joined (second.size mid.0 mid.1)
    where
      joined : HasSize mid.0 k.hosts host ⊎ B → HasSize row k.hosts host ⊎ B
      joined (inl end) = inl (end.0, end.1, end.2 ∙ mid.2, end.3 ∙ mid.3)
      joined (inr b) = inr b

  pub grows_then : (f g k : Farm) → RowsGrow B host f g → RowsGrow B host g k → RowsGrow B host f k
  grows_then f g k first second =
      record {
        subs = λ n there. second.subs n (first.subs n there);
        limits = λ n x at.
            let mid = first.limits n x at in
            let end = second.limits n mid.0 mid.1 in
            (end.0, end.1, end.2 ∙ mid.2);
        size = λ row at. size_then f g k second row (first.size row at);
      }

  -- ---- changes of hosts that leave amounts

  mapped_size : (f g : Farm) (change : HostRow → HostRow) → KeepsAmounts change → g.hosts ≡ map change f.hosts → (row : HostRow)
      → slice_get f.hosts host ≡ Some row → HasSize row g.hosts host ⊎ B
  mapped_size f g change keeps hosts row at =
      inl (
        change row,
        ap (λ (rows : List HostRow). slice_get rows host) hosts ∙ (slice_get-map change f.hosts host ∙ ap (option_map change) at),
        sym (keeps row).0,
        sym (keeps row).1,
      )

  changed_size : (f : Farm) (i : ℕ) (change : HostRow → HostRow) → KeepsAmounts change → (row : HostRow) → slice_get f.hosts host ≡ Some row
      → HasSize row (changed_at f.hosts i change) host ⊎ B
  changed_size f i change keeps row at =
      let now =
      EachStays-changed_at (λ (x y : HostRow). (y.cores ≡ x.cores) × (y.memory ≡ x.memory)) (λ x. (refl, refl)) f.hosts i change (λ x there. (sym (keeps x).0, sym (keeps x).1)) host row at in
      inl (now.0, now.1, now.2.0, now.2.1)

  expire_grows : (f : Farm) (moment : ℕ) → RowsGrow B host f (expire f moment)
  expire_grows f moment = sized f (expire f moment) refl refl (mapped_size f (expire f moment) (silenced_row moment) (silenced_amounts moment) refl)

  opened_grows : (f : Farm) (moment : ℕ) → RowsGrow B host f (record f { hosts = map (reopened_row moment) f.hosts })
  opened_grows f moment =
      let now = record f { hosts = map (reopened_row moment) f.hosts } in
      sized f now refl refl (mapped_size f now (reopened_row moment) (reopened_amounts moment) refl)

  lock_grows : (f : Farm) (lock : LockState) (o : Option ℕ) → RowsGrow B host f (after_lock f lock o)
  lock_grows f lock None = grows_alike f f refl refl refl
  lock_grows f lock (Some i) = sized f (after_lock f lock (Some i)) refl refl (changed_size f i (locked_row lock) (λ row. (refl, refl)))

  end_grows : (f : Farm) (i boot : ℕ) (ds : List DoneItem) → RowsGrow B host f (end_all f i boot ds)
  end_grows f i boot [] = grows_alike f f refl refl refl
  end_grows f i boot (d ∷ ds) =
      let now = end_attempt f i boot d in
      grows_then f now (end_all now i boot ds)
      (cond_each (RowsGrow B host f) (is_live f i boot d.attempt.slot d.attempt.version) (ended f d.attempt.slot d.exit) f
      (grows_alike f (ended f d.attempt.slot d.exit) refl refl refl) (grows_alike f f refl refl refl))
      (end_grows now i boot ds)

  heard_grows : (f : Farm) (heard : HeardAct) (moment : ℕ) (o : Option ℕ) → RowsGrow B host f (after_heard f heard moment o)
  heard_grows f heard moment None = grows_alike f f refl refl refl
  heard_grows f heard moment (Some i) =
      let now = record f { hosts = changed_at f.hosts i (heard_row heard.seq moment) } in
      grows_then f now (end_all now i heard.boot heard.done) (sized f now refl refl (changed_size f i (heard_row heard.seq moment) (λ row. (refl, refl))))
      (end_grows now i heard.boot heard.done)

  -- ---- subscriptions and limits

  sub_grows : (f : Farm) (line : SubLine) (o : Option ℕ) → RowsGrow B host f (after_sub f line o)
  sub_grows f line None = grows_alike f f refl refl refl
  sub_grows f line (Some sub) =
      record { subs = subs_stay (sub_row sub line) f.subs; limits = limits_same f.limits; size = size_same f (after_sub f line (Some sub)) refl }

  limit_grows : (f : Farm) (name : List ℕ) (most : ℕ) (o : Option ℕ) → RowsGrow B host f (after_limit f name most o)
  limit_grows f name most None =
      record {
        subs = λ n there. there;
        limits = EachStays-append (λ (x y : LimitRow). y.name ≡ x.name) (λ x. refl) f.limits (limit_row name most ∷ []);
        size = size_same f (after_limit f name most None) refl;
      }
  limit_grows f name most (Some limit) =
      record {
        subs = λ n there. there;
        limits = EachStays-changed_at (λ (x y : LimitRow). y.name ≡ x.name) (λ x. refl) f.limits limit (with_most most) (λ x at. refl);
        size = size_same f (after_limit f name most (Some limit)) refl;
      }

  -- ---- what leaves all of these

  submit_grows : (f : Farm) (spec : JobSpec) (o : Option ℕ) → RowsGrow B host f (after_submit f spec o)
  submit_grows f spec None = grows_alike f f refl refl refl
  submit_grows f spec (Some show) = grows_alike f (after_submit f spec (Some show)) refl refl refl

  pause_grows : (f : Farm) (paused : Bool) (o : Option JobRow) → RowsGrow B host f (with_paused f paused o)
  pause_grows f paused None = grows_alike f f refl refl refl
  pause_grows f paused (Some j) = grows_alike f (with_paused f paused (Some j)) refl refl refl

  kill_grows : (f : Farm) (o : Option JobRow) → RowsGrow B host f (with_killed f o)
  kill_grows f None = grows_alike f f refl refl refl
  kill_grows f (Some j) = grows_alike f (with_killed f (Some j)) refl refl refl

  row_grows : (f : Farm) (change : SlotRow → SlotRow) (o : Option ℕ) → RowsGrow B host f (with_row_at f change o)
  row_grows f change None = grows_alike f f refl refl refl
  row_grows f change (Some slot) = grows_alike f (with_row_at f change (Some slot)) refl refl refl

  proc_grows : (f : Farm) (slot : ℕ) (o : Option ProcRow) → RowsGrow B host f (with_proc f slot o)
  proc_grows f slot None = grows_alike f f refl refl refl
  proc_grows f slot (Some p) = grows_alike f (with_proc f slot (Some p)) refl refl refl

  -- ---- a boot

  -- the host's life is a new one
  abbrev IsReborn : Farm → BootLine → Option ℕ → Type 0
  IsReborn f line o = (o ≡ Some host) × (slots_at_boot f line o ≡ lose_on (λ n. eqb n host) f.slots)

  life_size : (f : Farm) (line : BootLine) (moment : ℕ) (row : HostRow) (b : Bool) → is_same_life line row ≡ b → slice_get f.hosts host ≡ Some row
      → (hosts : List HostRow)
      → slice_get hosts host ≡ Some (cond b (again_row moment row) (reborn_row line moment row)) → HasSize row hosts host ⊎ IsReborn f line (Some host)
  life_size f line moment row true is at hosts now = inl (again_row moment row, now, refl, refl)
  life_size f line moment row false is at hosts now =
      inr (
        refl,
        ap (λ (o : Option HostRow). lose_life line host o f.slots) at ∙ ap (λ (b : Bool). cond b f.slots (lose_on (λ n. eqb n host) f.slots)) is,
      )

  boot_at : (f : Farm) (line : BootLine) (moment alloc i : ℕ) → (host ≡ i) ⊎ (host ≢ i) → (row : HostRow) → slice_get f.hosts host ≡ Some row
      → HasSize row (booted_at f.hosts line alloc moment (Some i)) host ⊎ IsReborn f line (Some i)
  boot_at f line moment alloc i (inl e) row at =
      subst (λ (k : ℕ). HasSize row (booted_at f.hosts line alloc moment (Some k)) host ⊎ IsReborn f line (Some k)) e
      (life_size f line moment row (is_same_life line row) refl at (changed_at f.hosts host (booted_row line moment)) (changed_at_same f.hosts host (booted_row line moment) row at))
  boot_at f line moment alloc i (inr apart) row at = inl (row, changed_at_other f.hosts i host (booted_row line moment) apart ∙ at, refl, refl)

  boot_size : (f : Farm) (line : BootLine) (moment alloc : ℕ) (o : Option ℕ) (row : HostRow) → slice_get f.hosts host ≡ Some row
      → HasSize row (booted_at f.hosts line alloc moment o) host ⊎ IsReborn f line o
  boot_size f line moment alloc None row at =
      let now = EachStays-append (λ (x y : HostRow). (y.cores ≡ x.cores) × (y.memory ≡ x.memory)) (λ x. (refl, refl)) f.hosts (new_host line alloc moment ∷ []) host row at in
      inl (now.0, now.1, now.2.0, now.2.1)
  boot_size f line moment alloc (Some i) row at = boot_at f line moment alloc i (places host i) row at

  boot_grows : (f : Farm) (line : BootLine) (moment : ℕ) (o : Option ℕ)
      → (IsReborn f line (host_named f line.host) → (after_boot f line moment o).slots ≡ slots_at_boot f line (host_named f line.host) → B)
      → RowsGrow B host f (after_boot f line moment o)
  boot_grows f line moment None booted = grows_alike f f refl refl refl
  boot_grows f line moment (Some alloc) booted =
      sized f (after_boot f line moment (Some alloc)) refl refl (λ row at. joined (boot_size f line moment alloc (host_named f line.host) row at))
    where
      joined : {X : Type 0} → X ⊎ IsReborn f line (host_named f line.host) → X ⊎ B
      joined (inl x) = inl x
      joined (inr reborn) = inr (booted reborn refl)

  -- ---- each act

  -- the host is that of the line, and its attempts are lost
  abbrev pub Boots : Farm → BootLine → List SlotRow → Type 0
  Boots f line slots = (host_named f line.host ≡ Some host) × ((now : List SlotRow) × (slots ≡ lose_on (λ n. eqb n host) now))

  act_grows : (f : Farm) (moment : ℕ) (act : Act) → ((line : BootLine) → act ≡ Boot line → Boots f line (after_act f moment act).slots → B)
      → RowsGrow B host f (after_act f moment act)
  act_grows f moment Opened booted = opened_grows f moment
  act_grows f moment (Sub line) booted = sub_grows f line (sub_named f line)
  act_grows f moment (Limit name most) booted = limit_grows f name most (limit_named f name)
  act_grows f moment (Boot line) booted =
      let now = expire f moment in
      grows_then f now (after_act f moment (Boot line)) (expire_grows f moment)
      (boot_grows now line moment (alloc_named f line.alloc)
      (λ reborn slots. booted line refl (sym (named_silenced moment 0 line.host f.hosts) ∙ reborn.0, (now.slots, slots ∙ reborn.1))))
  act_grows f moment (Heard heard) booted =
      let now = expire f moment in
      grows_then f now (after_act f moment (Heard heard)) (expire_grows f moment) (heard_grows now heard moment (host_named f heard.host))
  act_grows f moment (Submit spec) booted = submit_grows f spec (show_named f spec.show)
  act_grows f moment (Pause job paused) booted = pause_grows f paused (pending_named f job)
  act_grows f moment (KillJob job) booted = kill_grows f (pending_named f job)
  act_grows f moment (KillFrame p) booted = row_grows f (stopped_row frame_state.Dead) (slot_named f p)
  act_grows f moment (EatFrame p) booted = row_grows f (stopped_row frame_state.Eaten) (slot_named f p)
  act_grows f moment (RetryFrame p) booted = row_grows f retried_row (slot_named f p)
  act_grows f moment (Lock name lock) booted = lock_grows f lock (host_named f name)
  act_grows f moment Tick booted = expire_grows f moment
  act_grows f moment (Book slot i) booted = proc_grows f slot (new_proc f slot i moment)
  act_grows f moment act booted = grows_alike f (after_act f moment act) refl refl refl

  -- ---- what follows, and jobs that finish

  follow_grows : (act : Act) (f : Farm) → RowsGrow B host f (followed act f)
  follow_grows act f =
      let rest = (act_follows act f).rest in
      grows_alike f (followed act f) (ap (λ (g : Farm). g.subs) rest) (ap (λ (g : Farm). g.limits) rest) (ap (λ (g : Farm). g.hosts) rest)

  each_grows : (jobs : List ℕ) (f : Farm) → RowsGrow B host f (finish_each jobs f)
  each_grows [] f = grows_alike f f refl refl refl
  each_grows (job ∷ jobs) f = grows_then f (finish_one job f) (finish_each jobs (finish_one job f)) (grows_alike f (finish_one job f) refl refl refl) (each_grows jobs (finish_one job f))

  all_grows : (f : Farm) → RowsGrow B host f (finish_all f)
  unfolding finish_all
  all_grows f = each_grows (finishing f) f

  close_grows : (act : Act) (f : Farm) → RowsGrow B host f (closed act f)
  close_grows (Heard heard) f = all_grows f
  close_grows (KillJob job) f = all_grows f
  close_grows (EatFrame p) f = all_grows f
  close_grows act f = grows_alike f f refl refl refl

  -- ---- an entry

  pub entry_grows : (f : Farm) (e : Entry) → ((line : BootLine) → e.act ≡ Boot line → Boots f line (acted f e).slots → B) → RowsGrow B host f (after f e)
  entry_grows f e booted =
      let moment = moment_of f e.moment in
      let later = at_moment f moment in
      let mid = followed e.act (acted f e) in
      grows_then f later (after f e) (grows_alike f later refl refl refl)
      (grows_then later (acted f e) (after f e) (act_grows later moment e.act booted)
      (grows_then (acted f e) mid (after f e) (follow_grows e.act (acted f e)) (close_grows e.act mid)))
