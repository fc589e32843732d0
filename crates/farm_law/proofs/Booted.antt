-- A boot keeps the farm sound: nothing is used yet of a new host, and nothing any more of a host that begins a new life.
use Rattle.std.proofs.Common.{◌≡◌, ℕ, ◌≤◌, Bool, true, false, cond, eqb, List, [], ◌∷◌, length, Option, Some, None, refl, sym, subst, arith}
use Rattle.std.specs.List.{slice_get, sum_by}
use Rattle.std.proofs.lemmas.Bool.{eq-eqb}
use Rattle.std.proofs.lemmas.List.{length-append}
use Rattle.farm_types.specs.declared.attempt.ProcRow.{ProcRow}
use Rattle.farm_types.specs.declared.boot.BootLine.{BootLine}
use Rattle.farm_types.specs.declared.rows.HostRow.{HostRow}
use Rattle.farm_types.specs.declared.slot_row.SlotRow.{SlotRow}
use Rattle.farm_types.specs.Farm.{Farm, host_named}
use Rattle.farm_types.specs.Hosts.{again_row, reborn_row, booted_row, booted_at, new_host, is_same_life}
use Rattle.farm_types.specs.Lost.{lose_on}
use Rattle.farm_types.specs.Run.{IsSound, HasItsHosts, HasItsAttempt, OnHostOf}
use Rattle.farm_types.specs.Step.{lose_life, slots_at_boot, after_boot}
use Rattle.farm_types.specs.Sums.{used_cores, used_memory, cores_on, memory_on}
use Rattle.farm_types.proofs.Changed.{changed_at_each, appended_each, length-changed_at}
use Rattle.farm_law.proofs.Lost.{lost_sum, lost_cores, lost_memory, lost_sound, lost_there, unused_host, unused_memory, lost_stays}
use Rattle.farm_law.proofs.KeepsLaw.{KeepsLaw, law_same}
use Rattle.farm_law.proofs.RowsStay.{SlotStays, HostStays, slots_same, allocs_same, jobs_same}
use Rattle.farm_types.proofs.Stays.{EachStays, EachStays-changed_at, EachStays-append}
use Rattle.farm_types.proofs.Passes.{cond_each}

-- ---- the slots at a boot

life_slots : (P : List SlotRow → Type 0) (line : BootLine) (slots : List SlotRow) (host : ℕ) (o : Option HostRow) → P slots → P (lose_on (λ n. eqb n host) slots) → P (lose_life line host o slots)
life_slots P line slots host None kept lost = kept
life_slots P line slots host (Some row) kept lost = cond_each P (is_same_life line row) slots (lose_on (λ n. eqb n host) slots) kept lost

-- what holds of the slots, and of the slots without the attempts on any one host, holds of the slots at a boot
pub boot_slots : (P : List SlotRow → Type 0) (f : Farm) (line : BootLine) (o : Option ℕ) → P f.slots → ((host : ℕ) → P (lose_on (λ n. eqb n host) f.slots)) → P (slots_at_boot f line o)
boot_slots P f line None kept lost = kept
boot_slots P f line (Some host) kept lost = life_slots P line f.slots host (slice_get f.hosts host) kept (lost host)

-- a sum over the live attempts doesn't rise
pub boot_sum : (weight : Option ProcRow → ℕ) → weight None ≡ 0 → (f : Farm) (line : BootLine) (o : Option ℕ) → sum_by (λ (s : SlotRow). weight s.proc) (slots_at_boot f line o) ≤ sum_by (λ (s : SlotRow). weight s.proc) f.slots
boot_sum weight none f line o =
    boot_slots (λ slots. sum_by (λ (s : SlotRow). weight s.proc) slots ≤ sum_by (λ (s : SlotRow). weight s.proc) f.slots) f line o
    (omega arith)
    (λ host. lost_sum weight none (λ n. eqb n host) f.slots)

boot_attempts : (f : Farm) (line : BootLine) (o : Option ℕ) → IsSound f → (i : ℕ) (s : SlotRow) → slice_get (slots_at_boot f line o) i ≡ Some s → HasItsAttempt i s.version s.frame s.proc
boot_attempts f line o ok =
    boot_slots (λ slots. (i : ℕ) (s : SlotRow) → slice_get slots i ≡ Some s → HasItsAttempt i s.version s.frame s.proc) f line o
    ok.attempts
    (λ host. (lost_sound f (λ n. eqb n host) ok).attempts)

-- ---- the host that boots

-- The weight is what an attempt uses of a host, and the amount is the host's: a new life is used by nothing.
life_fits : (weight : Option ProcRow → ℕ) (amount : HostRow → ℕ) (line : BootLine) (moment host : ℕ) (row : HostRow) (slots : List SlotRow) (b : Bool)
    → ((m : ℕ) (x : HostRow) → amount (again_row m x) ≡ amount x)
    → sum_by (λ (s : SlotRow). weight s.proc) slots ≤ amount row
    → sum_by (λ (s : SlotRow). weight s.proc) (lose_on (λ n. eqb n host) slots) ≡ 0
    → sum_by (λ (s : SlotRow). weight s.proc) (cond b slots (lose_on (λ n. eqb n host) slots)) ≤ amount (cond b (again_row moment row) (reborn_row line moment row))
life_fits weight amount line moment host row slots true keeps fits none = omega (arith, keeps moment row, fits)
life_fits weight amount line moment host row slots false keeps fits none = omega (arith, none)

booted_cores : (f : Farm) (line : BootLine) (moment host : ℕ) (row : HostRow) → slice_get f.hosts host ≡ Some row → IsSound f
    → sum_by (λ (s : SlotRow). cores_on host s.proc) (slots_at_boot f line (Some host)) ≤ (booted_row line moment row).cores
booted_cores f line moment host row at ok =
    subst (λ (o : Option HostRow). sum_by (λ (s : SlotRow). cores_on host s.proc) (lose_life line host o f.slots) ≤ (booted_row line moment row).cores) (sym at)
    (life_fits (cores_on host) (λ (x : HostRow). x.cores) line moment host row f.slots (is_same_life line row) (λ m x. refl) (ok.cores host row at) (lost_cores f.slots (λ n. eqb n host) host (eq-eqb host host refl)))

booted_memory : (f : Farm) (line : BootLine) (moment host : ℕ) (row : HostRow) → slice_get f.hosts host ≡ Some row → IsSound f
    → sum_by (λ (s : SlotRow). memory_on host s.proc) (slots_at_boot f line (Some host)) ≤ (booted_row line moment row).memory
booted_memory f line moment host row at ok =
    subst (λ (o : Option HostRow). sum_by (λ (s : SlotRow). memory_on host s.proc) (lose_life line host o f.slots) ≤ (booted_row line moment row).memory) (sym at)
    (life_fits (memory_on host) (λ (x : HostRow). x.memory) line moment host row f.slots (is_same_life line row) (λ m x. refl) (ok.memory host row at) (lost_memory f.slots (λ n. eqb n host) host (eq-eqb host host refl)))

-- ---- sound

-- the farm after the boot of a host of that number, or of a new one
abbrev boots : Farm → BootLine → ℕ → ℕ → Option ℕ → Farm
boots f line moment alloc o = record f { hosts = booted_at f.hosts line alloc moment o; slots = slots_at_boot f line o }

boots_sound : (f : Farm) (line : BootLine) (moment alloc : ℕ) (o : Option ℕ) → IsSound f → HasItsHosts f → IsSound (boots f line moment alloc o)
boots_sound f line moment alloc None ok there =
    record {
      cores = appended_each (λ k row. used_cores f k ≤ row.cores) f.hosts (new_host line alloc moment) ok.cores (omega (arith, unused_host f (length f.hosts) there (omega arith)));
      memory = appended_each (λ k row. used_memory f k ≤ row.memory) f.hosts (new_host line alloc moment) ok.memory (omega (arith, unused_memory f (length f.hosts) there (omega arith)));
      attempts = ok.attempts;
    }
boots_sound f line moment alloc (Some host) ok there =
    record {
      cores =
          changed_at_each (λ k row. sum_by (λ (s : SlotRow). cores_on k s.proc) (slots_at_boot f line (Some host)) ≤ row.cores) f.hosts host (booted_row line moment)
          (λ row at. booted_cores f line moment host row at ok)
          (λ k row apart at. omega (arith, boot_sum (cores_on k) refl f line (Some host), ok.cores k row at));
      memory =
          changed_at_each (λ k row. sum_by (λ (s : SlotRow). memory_on k s.proc) (slots_at_boot f line (Some host)) ≤ row.memory) f.hosts host (booted_row line moment)
          (λ row at. booted_memory f line moment host row at ok)
          (λ k row apart at. omega (arith, boot_sum (memory_on k) refl f line (Some host), ok.memory k row at));
      attempts = boot_attempts f line (Some host) ok;
    }

pub boot_sound : (f : Farm) (line : BootLine) (moment alloc : ℕ) → IsSound f → HasItsHosts f → IsSound (after_boot f line moment (Some alloc))
boot_sound f line moment alloc ok there = boots_sound f line moment alloc (host_named f line.host) ok there

-- ---- on hosts that are there

on_more : (n m : ℕ) (o : Option ProcRow) → n ≤ m → OnHostOf n o → OnHostOf m o
on_more n m None more there = tt
on_more n m (Some p) more there = omega (arith, more, there)

-- no host goes at a boot
pub boot_count : (f : Farm) (line : BootLine) (moment alloc : ℕ) (o : Option ℕ) → length f.hosts ≤ length (booted_at f.hosts line alloc moment o)
boot_count f line moment alloc None = omega (arith, length-append f.hosts (new_host line alloc moment ∷ []))
boot_count f line moment alloc (Some host) = omega (arith, length-changed_at f.hosts host (booted_row line moment))

boots_there : (f : Farm) (line : BootLine) (o : Option ℕ) → HasItsHosts f → (i : ℕ) (s : SlotRow) → slice_get (slots_at_boot f line o) i ≡ Some s → OnHostOf (length f.hosts) s.proc
boots_there f line o there =
    boot_slots (λ slots. (i : ℕ) (s : SlotRow) → slice_get slots i ≡ Some s → OnHostOf (length f.hosts) s.proc) f line o
    there
    (λ host. lost_there (length f.hosts) (λ n. eqb n host) f.slots there)

boots_hosts : (f : Farm) (line : BootLine) (moment alloc : ℕ) (o : Option ℕ) → HasItsHosts f → HasItsHosts (boots f line moment alloc o)
boots_hosts f line moment alloc o there i s at =
    on_more (length f.hosts) (length (booted_at f.hosts line alloc moment o)) s.proc (boot_count f line moment alloc o) (boots_there f line o there i s at)

pub boot_hosts : (f : Farm) (line : BootLine) (moment alloc : ℕ) → HasItsHosts f → HasItsHosts (after_boot f line moment (Some alloc))
boot_hosts f line moment alloc there = boots_hosts f line moment alloc (host_named f line.host) there

-- ---- what a boot keeps

booted_alloc : (line : BootLine) (moment : ℕ) (row : HostRow) → HostStays row (booted_row line moment row)
booted_alloc line moment row = cond_each (HostStays row) (is_same_life line row) (again_row moment row) (reborn_row line moment row) refl refl

booted_stays : (hosts : List HostRow) (line : BootLine) (moment alloc : ℕ) (o : Option ℕ) → EachStays HostStays hosts (booted_at hosts line alloc moment o)
booted_stays hosts line moment alloc None = EachStays-append HostStays (λ row. refl) hosts (new_host line alloc moment ∷ [])
booted_stays hosts line moment alloc (Some host) = EachStays-changed_at HostStays (λ row. refl) hosts host (booted_row line moment) (λ row at. booted_alloc line moment row)

pub boot_law : (f : Farm) (line : BootLine) (moment : ℕ) (o : Option ℕ) → KeepsLaw f (after_boot f line moment o)
boot_law f line moment None = law_same f
boot_law f line moment (Some alloc) =
    record {
      sound = λ ok there. boot_sound f line moment alloc ok there;
      hosts = λ ok there. boot_hosts f line moment alloc there;
      rows =
          record {
            slots = boot_slots (EachStays SlotStays f.slots) f line (host_named f line.host) (slots_same f.slots) (λ host. lost_stays (λ n. eqb n host) f.slots);
            hosts = booted_stays f.hosts line moment alloc (host_named f line.host);
            allocs = allocs_same f.allocs;
            jobs = jobs_same f.jobs;
          };
    }
