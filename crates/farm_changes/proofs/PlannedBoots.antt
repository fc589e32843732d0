-- What a planned boot says of the farm, and which refusal of the farm a refused one is.
use Rattle.std.proofs.Common.{◌≡◌, ℕ, ◌+◌, ◌<◌, Bool, true, false, cond, eqb, ltb, List, length, Option, Some, None, refl, sym, ap, ◌∙◌, option_map}
use Rattle.std.specs.Prelude.{Ok, Err, option_and_then}
use Rattle.std.specs.List.{slice_get}
use Rattle.std.proofs.lemmas.List.{length-map}
use Rattle.std.proofs.lemmas.Option.{slice_get-map}
use Rattle.farm_types.specs.declared.boot.BootLine.{BootLine}
use Rattle.farm_types.specs.declared.refusal.Counted.TheVariants as counted
use Rattle.farm_types.specs.declared.refusal.Refusal.{Refusal}
use Rattle.farm_types.specs.declared.refusal.Refusal.TheVariants.{Exists, Full}
use Rattle.farm_types.specs.declared.rows.HostRow.{HostRow}
use Rattle.farm_types.specs.EntryAnswers.{boot_number}
use Rattle.farm_types.specs.Farm.{Farm, host_from, host_named}
use Rattle.farm_types.specs.Hosts.{down_row, is_same_life, is_unheard, silenced, silenced_row}
use Rattle.farm_types.specs.Kept.{host_label}
use Rattle.farm_types.specs.Step.{boot_at, life_refusal, name_of_alloc}
use Rattle.host_book.specs.Book.{alloc_of, life_plan, plan_at, plan_by, plan_of}
use Rattle.host_book.specs.declared.boots.BootPlan.{BootPlan}
use Rattle.host_book.specs.declared.boots.BootPlan.TheVariants.{New, Same, Again}
use Rattle.host_book.specs.declared.boots.HostRefusal.{HostRefusal}
use Rattle.host_book.specs.declared.boots.HostRefusal.TheVariants.{OtherAlloc, HostsFull, BootsSpent}
use Rattle.farm_changes.specs.Change.{boot_in}
use Rattle.farm_changes.specs.Refused.{IsBootFault}
use Rattle.farm_types.specs.declared.fault.FarmFault.{FarmFault}
use Rattle.farm_types.specs.declared.fault.FarmFault.TheVariants.{Refused, NoMemory}
use Rattle.farm_types.proofs.Lists.{slice_get_below}
use Rattle.farm_law.proofs.KeptNames.{named_within}
use Rattle.farm_changes.proofs.LostLives.{silenced_named}
use Rattle.farm_types.specs.declared.limits.TheConstants.{LAST_BOOT, MOST_HOSTS}

-- ---- a plan

-- the plan is of the allocation, has the boot number that the host gets, and the farm doesn't refuse the boot
pub record IsPlanned (f : Farm) (line : BootLine) (alloc : ℕ) (o : Option ℕ) (plan : BootPlan) : Type 0 where
  pub alloc_is : alloc_of plan ≡ alloc
  pub boot_is : boot_in plan ≡ boot_number line (option_and_then (λ host. slice_get f.hosts host) o)
  pub accepted : boot_at f line alloc o ≡ None

first_by : (alloc : ℕ) (b : Bool) (plan : BootPlan) → cond b (Ok (New 1 alloc)) (Err HostsFull) ≡ Ok plan → (New 1 alloc ≡ plan) × (b ≡ true)
first_by alloc true plan e = (cc, refl)
first_by alloc false plan e = absurd (cc)

life_by : (f : Farm) (alloc : ℕ) (row : HostRow) (a b c : Bool) (plan : BootPlan)
    → cond a (cond b (Ok (Same row.boot alloc)) (cond c (Ok (Again (row.boot + 1) alloc)) (Err BootsSpent))) (Err (OtherAlloc row.alloc)) ≡ Ok plan
    → (alloc_of plan ≡ alloc) × (boot_in plan ≡ cond b row.boot (row.boot + 1)) × (cond a (cond b None (cond c None (Some (Full LAST_BOOT counted.Boots)))) (Some (Exists (name_of_alloc (slice_get f.allocs row.alloc)))) ≡ None)
life_by f alloc row true true c plan e =
    let same : Same row.boot alloc ≡ plan = cc in
    (sym (ap alloc_of same), sym (ap boot_in same), refl)
life_by f alloc row true false true plan e =
    let same : Again (row.boot + 1) alloc ≡ plan = cc in
    (sym (ap alloc_of same), sym (ap boot_in same), refl)
life_by f alloc row true false false plan e = absurd (cc)
life_by f alloc row false b c plan e = absurd (cc)

row_planned : (f : Farm) (line : BootLine) (alloc host : ℕ) (o : Option HostRow) (plan : BootPlan) → slice_get f.hosts host ≡ o → plan_by f.hosts line alloc o ≡ Ok plan → IsPlanned f line alloc (Some host) plan
row_planned f line alloc host None plan at e =
    let new = first_by alloc (ltb (length f.hosts) MOST_HOSTS) plan e in
    record { alloc_is = sym (ap alloc_of new.0); boot_is = rw at (sym (ap boot_in new.0)); accepted = rw at refl }
row_planned f line alloc host (Some row) plan at e =
    let life = life_by f alloc row (eqb row.alloc alloc) (is_same_life line row) (ltb row.boot LAST_BOOT) plan e in
    record { alloc_is = life.0; boot_is = rw at life.1; accepted = rw at life.2 }

at_planned : (f : Farm) (line : BootLine) (alloc : ℕ) (o : Option ℕ) (plan : BootPlan) → plan_at f.hosts line alloc o ≡ Ok plan → IsPlanned f line alloc o plan
at_planned f line alloc None plan e =
    let new = first_by alloc (ltb (length f.hosts) MOST_HOSTS) plan e in
    record {
      alloc_is = sym (ap alloc_of new.0);
      boot_is = sym (ap boot_in new.0);
      accepted = ap (λ b. cond b None (Some (Full MOST_HOSTS counted.Hosts))) new.1;
    }
at_planned f line alloc (Some host) plan e = row_planned f line alloc host (slice_get f.hosts host) plan refl e

pub planned : (f : Farm) (line : BootLine) (alloc : ℕ) (plan : BootPlan) → plan_of f.hosts line alloc ≡ Ok plan → IsPlanned f line alloc (host_named f line.host) plan
planned f line alloc plan e = at_planned f line alloc (host_named f line.host) plan e

-- ---- a refusal

-- a host that was found is there
abbrev IsFound : Farm → Option ℕ → Type 0
IsFound f None = Unit {0}
IsFound f (Some host) = host < length f.hosts

abbrev farm_refusal : Farm → HostRefusal → Refusal
farm_refusal f (OtherAlloc alloc) = Exists (name_of_alloc (slice_get f.allocs alloc))
farm_refusal f HostsFull = Full MOST_HOSTS counted.Hosts
farm_refusal f BootsSpent = Full LAST_BOOT counted.Boots

refused_first : (f : Farm) (alloc : ℕ) (b : Bool) (why : HostRefusal) → cond b (Ok (New 1 alloc)) (Err HostsFull) ≡ Err why → cond b None (Some (Full MOST_HOSTS counted.Hosts)) ≡ Some (farm_refusal f why)
refused_first f alloc true why e = absurd (cc)
refused_first f alloc false why e =
    let same : HostsFull ≡ why = cc in
    ap (λ x. Some (farm_refusal f x)) same

refused_life : (f : Farm) (alloc : ℕ) (row : HostRow) (a b c : Bool) (why : HostRefusal)
    → cond a (cond b (Ok (Same row.boot alloc)) (cond c (Ok (Again (row.boot + 1) alloc)) (Err BootsSpent))) (Err (OtherAlloc row.alloc)) ≡ Err why
    → cond a (cond b None (cond c None (Some (Full LAST_BOOT counted.Boots)))) (Some (Exists (name_of_alloc (slice_get f.allocs row.alloc)))) ≡ Some (farm_refusal f why)
refused_life f alloc row true true c why e = absurd (cc)
refused_life f alloc row true false true why e = absurd (cc)
refused_life f alloc row true false false why e =
    let same : BootsSpent ≡ why = cc in
    ap (λ x. Some (farm_refusal f x)) same
refused_life f alloc row false b c why e =
    let same : OtherAlloc row.alloc ≡ why = cc in
    ap (λ x. Some (farm_refusal f x)) same

refused_row : (f : Farm) (line : BootLine) (alloc : ℕ) (row : HostRow) (why : HostRefusal) → life_plan line alloc row ≡ Err why → life_refusal f line alloc (Some row) ≡ Some (farm_refusal f why)
refused_row f line alloc row why e = refused_life f alloc row (eqb row.alloc alloc) (is_same_life line row) (ltb row.boot LAST_BOOT) why e

host_there : (f : Farm) (name : List ℕ) (o : Option ℕ) → host_named f name ≡ o → IsFound f o
host_there f name None e = tt
host_there f name (Some host) e = named_within host_label name f.hosts host e

refused_at : (f : Farm) (line : BootLine) (alloc : ℕ) (o : Option ℕ) (why : HostRefusal) → IsFound f o → plan_at f.hosts line alloc o ≡ Err why → boot_at f line alloc o ≡ Some (farm_refusal f why)
refused_at f line alloc None why there e = refused_first f alloc (ltb (length f.hosts) MOST_HOSTS) why e
refused_at f line alloc (Some host) why there e =
    let row = slice_get_below f.hosts host there in
    rw row.1 (refused_row f line alloc row.0 why (rw row.1 at e))

fault_is : (f : Farm) (why : HostRefusal) (said : Refusal) → IsBootFault f why (Refused said) → said ≡ farm_refusal f why
fault_is f (OtherAlloc alloc) said e = e
fault_is f HostsFull said e = cc
fault_is f BootsSpent said e = cc

-- what the farm answers to a boot that the book refuses
abbrev pub IsBootRefusal : Farm → BootLine → ℕ → FarmFault → Type 0
IsBootRefusal f line alloc (Refused said) = boot_at f line alloc (host_named f line.host) ≡ Some said
IsBootRefusal f line alloc NoMemory = Unit {0}

pub boot_refused : (f : Farm) (line : BootLine) (alloc : ℕ) (why : HostRefusal) (fault : FarmFault) → plan_of f.hosts line alloc ≡ Err why → IsBootFault f why fault → IsBootRefusal f line alloc fault
boot_refused f line alloc why (Refused said) e is = refused_at f line alloc (host_named f line.host) why (host_there f line.host (host_named f line.host) refl) e ∙ sym (ap Some (fault_is f why said is))
boot_refused f line alloc why NoMemory e is = tt

-- ---- silent hosts boot as before

same_by : (line : BootLine) (alloc : ℕ) (row : HostRow) (b : Bool) → life_plan line alloc (cond b (down_row row) row) ≡ life_plan line alloc row
same_by line alloc row true = refl
same_by line alloc row false = refl

mapped_plan : (hosts : List HostRow) (moment : ℕ) (line : BootLine) (alloc : ℕ) (o : Option HostRow) → plan_by (silenced moment hosts) line alloc (option_map (silenced_row moment) o) ≡ plan_by hosts line alloc o
mapped_plan hosts moment line alloc None = rw (length-map hosts (silenced_row moment)) refl
mapped_plan hosts moment line alloc (Some row) = same_by line alloc row (is_unheard moment row)

silenced_at : (hosts : List HostRow) (moment : ℕ) (line : BootLine) (alloc : ℕ) (o : Option ℕ) → plan_at (silenced moment hosts) line alloc o ≡ plan_at hosts line alloc o
silenced_at hosts moment line alloc None = rw (length-map hosts (silenced_row moment)) refl
silenced_at hosts moment line alloc (Some host) = rw (slice_get-map (silenced_row moment) hosts host) (mapped_plan hosts moment line alloc (slice_get hosts host))

-- names, allocations, nonces and boot numbers stay where hosts go down, and so does the plan of a boot
pub silenced_plan : (hosts : List HostRow) (moment : ℕ) (line : BootLine) (alloc : ℕ) → plan_of (silenced moment hosts) line alloc ≡ plan_of hosts line alloc
silenced_plan hosts moment line alloc = rw (silenced_named moment 0 line.host hosts) (silenced_at hosts moment line alloc (host_from 0 line.host hosts))
