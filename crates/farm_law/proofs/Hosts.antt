-- What entries change of hosts keeps the farm sound.
use Rattle.std.proofs.Common.{◌≡◌, ℕ, ◌≤◌, map, refl, subst, List, Option, Some, None}
use Rattle.farm_types.specs.declared.rows.HostRow.{HostRow}
use Rattle.farm_types.specs.declared.states.LockState.{LockState}
use Rattle.farm_types.specs.Booking.{is_up}
use Rattle.farm_types.specs.Farm.{Farm, changed_at}
use Rattle.farm_types.specs.Hosts.{heard_row, reopened_row, locked_row, silenced_row, is_unheard, down_row}
use Rattle.farm_types.specs.Run.{IsSound}
use Rattle.farm_types.specs.Step.{after_lock}
use Rattle.farm_types.specs.Sums.{used_cores, used_memory}
use Rattle.farm_types.proofs.Changed.{changed_at_each, mapped_each, length-changed_at}
use Rattle.farm_law.proofs.KeepsLaw.{KeepsLaw, law_same}
use Rattle.farm_law.proofs.RowsStay.{RowsStay, HostStays, slots_same, allocs_same, jobs_same}
use Rattle.farm_types.proofs.Stays.{EachStays, EachStays-changed_at, EachStays-map}
use Rattle.farm_types.proofs.Passes.{cond_each}
use Rattle.std.proofs.lemmas.List.{length-map}

-- the change leaves a host its cores and memory
abbrev pub KeepsAmounts : (HostRow → HostRow) → Type 0
KeepsAmounts change = (row : HostRow) → (row.cores ≡ (change row).cores) × (row.memory ≡ (change row).memory)

-- ---- one host changes

pub changed_sound : (f : Farm) (host : ℕ) (change : HostRow → HostRow) → KeepsAmounts change → IsSound f → IsSound (record f { hosts = changed_at f.hosts host change })
changed_sound f host change keeps ok =
    record {
      cores = changed_at_each (λ k row. used_cores f k ≤ row.cores) f.hosts host change (λ row at. subst (λ (n : ℕ). used_cores f host ≤ n) (keeps row).0 (ok.cores host row at)) (λ k row apart at. ok.cores k row at);
      memory = changed_at_each (λ k row. used_memory f k ≤ row.memory) f.hosts host change (λ row at. subst (λ (n : ℕ). used_memory f host ≤ n) (keeps row).1 (ok.memory host row at)) (λ k row apart at. ok.memory k row at);
      attempts = ok.attempts;
    }

-- ---- all hosts change

pub mapped_sound : (f : Farm) (change : HostRow → HostRow) → KeepsAmounts change → IsSound f → IsSound (record f { hosts = map change f.hosts })
mapped_sound f change keeps ok =
    record {
      cores = mapped_each (λ k row. used_cores f k ≤ row.cores) f.hosts change (λ k row at. subst (λ (n : ℕ). used_cores f k ≤ n) (keeps row).0 (ok.cores k row at));
      memory = mapped_each (λ k row. used_memory f k ≤ row.memory) f.hosts change (λ k row at. subst (λ (n : ℕ). used_memory f k ≤ n) (keeps row).1 (ok.memory k row at));
      attempts = ok.attempts;
    }

-- a host that is opened again has its cores and memory
pub reopened_amounts : (moment : ℕ) → KeepsAmounts (reopened_row moment)
reopened_amounts moment row = cond_each (λ (new : HostRow). (row.cores ≡ new.cores) × (row.memory ≡ new.memory)) (is_up row.state) (record row { heard = moment }) row (refl, refl) (refl, refl)

-- a host that goes down has its cores and memory
pub silenced_amounts : (moment : ℕ) → KeepsAmounts (silenced_row moment)
silenced_amounts moment row = cond_each (λ (new : HostRow). (row.cores ≡ new.cores) × (row.memory ≡ new.memory)) (is_unheard moment row) (down_row row) row (refl, refl) (refl, refl)

-- ---- what an act that changes hosts keeps

-- the change leaves a host its allocation
abbrev pub KeepsAlloc : (HostRow → HostRow) → Type 0
KeepsAlloc change = (row : HostRow) → HostStays row (change row)

-- the farm with the hosts of the second list, which are related to its own
rows_of_hosts : (f : Farm) (hosts : List HostRow) → EachStays HostStays f.hosts hosts → RowsStay f (record f { hosts = hosts })
rows_of_hosts f hosts stays = record { slots = slots_same f.slots; hosts = stays; allocs = allocs_same f.allocs; jobs = jobs_same f.jobs }

pub law_of_changed_host : (f : Farm) (host : ℕ) (change : HostRow → HostRow) → KeepsAmounts change → KeepsAlloc change → KeepsLaw f (record f { hosts = changed_at f.hosts host change })
law_of_changed_host f host change amounts alloc =
    record {
      sound = λ ok there. changed_sound f host change amounts ok;
      hosts = λ ok there. rw (length-changed_at f.hosts host change) there;
      rows = rows_of_hosts f (changed_at f.hosts host change) (EachStays-changed_at HostStays (λ row. refl) f.hosts host change (λ row at. alloc row));
    }

pub law_of_mapped_hosts : (f : Farm) (change : HostRow → HostRow) → KeepsAmounts change → KeepsAlloc change → KeepsLaw f (record f { hosts = map change f.hosts })
law_of_mapped_hosts f change amounts alloc =
    record {
      sound = λ ok there. mapped_sound f change amounts ok;
      hosts = λ ok there. rw (length-map f.hosts change) there;
      rows = rows_of_hosts f (map change f.hosts) (EachStays-map HostStays f.hosts change alloc);
    }

pub silenced_alloc : (moment : ℕ) → KeepsAlloc (silenced_row moment)
silenced_alloc moment row = cond_each (HostStays row) (is_unheard moment row) (down_row row) row refl refl

reopened_alloc : (moment : ℕ) → KeepsAlloc (reopened_row moment)
reopened_alloc moment row = cond_each (HostStays row) (is_up row.state) (record row { heard = moment }) row refl refl

pub opened_law : (f : Farm) (moment : ℕ) → KeepsLaw f (record f { hosts = map (reopened_row moment) f.hosts })
opened_law f moment = law_of_mapped_hosts f (reopened_row moment) (reopened_amounts moment) (reopened_alloc moment)

pub heard_law : (f : Farm) (host seq moment : ℕ) → KeepsLaw f (record f { hosts = changed_at f.hosts host (heard_row seq moment) })
heard_law f host seq moment = law_of_changed_host f host (heard_row seq moment) (λ row. (refl, refl)) (λ row. refl)

pub lock_law : (f : Farm) (lock : LockState) (o : Option ℕ) → KeepsLaw f (after_lock f lock o)
lock_law f lock None = law_same f
lock_law f lock (Some host) = law_of_changed_host f host (locked_row lock) (λ row. (refl, refl)) (λ row. refl)
