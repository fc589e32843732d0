-- What hosts keep: where one changes, where each does, and where a new one comes.
use Rattle.std.proofs.Common.{◌≡◌, ℕ, ◌+◌, ◌<◌, ◌≤◌, ◌^◌, Bool, true, false, cond, leb, ltb, List, [], ◌∷◌, ◌++◌, length, map, Some, None, refl, sym, subst, ◌∙◌, arith}
use Rattle.std.specs.Cmp.Derive.{both_true}
use Rattle.std.specs.List.{slice_get}
use Rattle.std.proofs.lemmas.Bool.{le-leb, lt-ltb}
use Rattle.std.proofs.lemmas.List.{length-append, length-map}
use Rattle.farm_types.proofs.Changed.{length-changed_at}
use Rattle.farm_types.proofs.ChangedLists.{list_all-changed_at, changed_at_kept, map-changed_at, map-map_kept}
use Rattle.farm_types.proofs.Lists.{list_all-at}
use Rattle.farm_types.proofs.Passes.{cond_each}
use Rattle.farm_types.specs.Booking.{is_up}
use Rattle.farm_types.specs.declared.boot.BootLine.{BootLine}
use Rattle.farm_types.specs.declared.limits.TheConstants.{LAST_BOOT, MOST_HOSTS, MOST_TAGS}
use Rattle.farm_types.specs.declared.rows.HostRow.{HostRow}
use Rattle.farm_types.specs.declared.states.LockState.{LockState}
use Rattle.farm_types.specs.Farm.{changed_at, host_from}
use Rattle.farm_types.specs.Formed.{IsFormedBoot}
use Rattle.farm_types.specs.Forms.{is_name_text}
use Rattle.farm_types.specs.Hosts.{again_row, booted_row, down_row, heard_row, is_same_life, is_unheard, locked_row, new_host, reborn_row, reopened_row, silenced_row}
use Rattle.farm_types.specs.Kept.{KeepsHosts, host_label, is_formed_host}
use Rattle.farm_law.proofs.FormedParts.{between, formed_host, host_formed}
use Rattle.farm_law.proofs.KeptLists.{at_more, below_more, list_all-each, list_all-more, list_all-weaker}
use Rattle.farm_law.proofs.KeptNames.{differ_more}

-- ---- the form of a host

-- a host as the line boots it, with a boot number within its limits
booted_formed : (line : BootLine) (row : HostRow) (boot : ℕ) → IsFormedBoot line → is_name_text row.name ≡ true → 1 ≤ boot → boot ≤ LAST_BOOT
    → is_formed_host (record row { tags = line.tags; cores = line.cores; memory = line.memory; boot = boot; nonce = line.nonce; seq = 0 }) ≡ true
booted_formed line row boot formed name some last =
    let limits = formed.limits in
    formed_host (record row { tags = line.tags; cores = line.cores; memory = line.memory; boot = boot; nonce = line.nonce; seq = 0 })
    (record {
      name = name;
      tags = both_true (between 0 MOST_TAGS (length line.tags) (omega arith, limits.tags_within)) formed.tags;
      cores = limits.cores_within;
      memory = limits.memory_within;
      boot = (some, last);
      nonce = formed.nonce_within;
      seq = omega arith;
    })

-- ---- a host that changes

-- The host keeps its name, its allocation and its form, and was heard at the moment or before it.
pub record KeepsHost (moment : ℕ) (old new : HostRow) : Type 0 where
  pub name : new.name ≡ old.name
  pub alloc : new.alloc ≡ old.alloc
  pub formed : is_formed_host old ≡ true → is_formed_host new ≡ true
  pub heard : leb old.heard moment ≡ true → leb new.heard moment ≡ true

keeps_same : (moment : ℕ) (row : HostRow) → KeepsHost moment row row
keeps_same moment row = record { name = refl; alloc = refl; formed = λ h. h; heard = λ h. h }

-- a host that was heard, that is locked or opened, that counts as heard again, that goes down
pub keeps_heard : (seq moment last : ℕ) → seq < 2 ^ 64 → moment ≤ last → (row : HostRow) → KeepsHost last row (heard_row seq moment row)
keeps_heard seq moment last within now row =
    record {
      name = refl;
      alloc = refl;
      formed = λ h.
          let p = host_formed row h in
          formed_host (heard_row seq moment row) (record { name = p.name; tags = p.tags; cores = p.cores; memory = p.memory; boot = p.boot; nonce = p.nonce; seq = within });
      heard = λ h. le-leb moment last now;
    }

pub keeps_locked : (lock : LockState) (moment : ℕ) (row : HostRow) → KeepsHost moment row (locked_row lock row)
keeps_locked lock moment row = record { name = refl; alloc = refl; formed = λ h. h; heard = λ h. h }

pub keeps_reopened : (moment last : ℕ) → moment ≤ last → (row : HostRow) → KeepsHost last row (reopened_row moment row)
keeps_reopened moment last now row =
    cond_each (KeepsHost last row) (is_up row.state) (record row { heard = moment }) row
    (record { name = refl; alloc = refl; formed = λ h. h; heard = λ h. le-leb moment last now })
    (keeps_same last row)

pub keeps_silenced : (moment last : ℕ) (row : HostRow) → KeepsHost last row (silenced_row moment row)
keeps_silenced moment last row =
    cond_each (KeepsHost last row) (is_unheard moment row) (down_row row) row (record { name = refl; alloc = refl; formed = λ h. h; heard = λ h. h }) (keeps_same last row)

-- what the boot asks of the host that is there: a new life has a boot number
abbrev pub HasBoot : BootLine → HostRow → Type 0
HasBoot line row = is_same_life line row ≡ false → row.boot < LAST_BOOT

booted_by : (line : BootLine) (moment last : ℕ) (row : HostRow) (same : Bool) → IsFormedBoot line → moment ≤ last → (same ≡ false → row.boot < LAST_BOOT) → KeepsHost last row (cond same (again_row moment row) (reborn_row line moment row))
booted_by line moment last row true formed now room = record { name = refl; alloc = refl; formed = λ h. h; heard = λ h. le-leb moment last now }
booted_by line moment last row false formed now room =
    record {
      name = refl;
      alloc = refl;
      formed = λ h. booted_formed line row (row.boot + 1) formed (host_formed row h).name (omega arith) (omega (arith, room refl));
      heard = λ h. le-leb moment last now;
    }

-- a host that is there boots
pub keeps_booted : (line : BootLine) (moment last : ℕ) → IsFormedBoot line → moment ≤ last → (row : HostRow) → HasBoot line row → KeepsHost last row (booted_row line moment row)
keeps_booted line moment last formed now row room = booted_by line moment last row (is_same_life line row) formed now room

-- ---- hosts

stays_allocated : (allocs moment : ℕ) (old new : HostRow) → KeepsHost moment old new → ltb old.alloc allocs ≡ true → ltb new.alloc allocs ≡ true
stays_allocated allocs moment old new keeps there = subst (λ (n : ℕ). ltb n allocs ≡ true) (sym keeps.alloc) there

-- one host changes
pub hosts_changed : (hosts : List HostRow) (allocs moment host : ℕ) (change : HostRow → HostRow) → ((row : HostRow) → slice_get hosts host ≡ Some row → KeepsHost moment row (change row))
    → KeepsHosts hosts allocs moment → KeepsHosts (changed_at hosts host change) allocs moment
hosts_changed hosts allocs moment host change here k =
    record {
      count = omega (arith, length-changed_at hosts host change, k.count);
      differ = rw (map-changed_at host_label change hosts host (λ y. y) (λ row at. (here row at).name) ∙ changed_at_kept (map host_label hosts) host (λ y. y) (λ y at. refl)) k.differ;
      formed = list_all-changed_at is_formed_host hosts host change k.formed (λ row at. (here row at).formed (list_all-at is_formed_host hosts host row k.formed at));
      allocated = list_all-changed_at (λ (row : HostRow). ltb row.alloc allocs) hosts host change k.allocated (λ row at. stays_allocated allocs moment row (change row) (here row at) (list_all-at (λ (row : HostRow). ltb row.alloc allocs) hosts host row k.allocated at));
      heard = list_all-changed_at (λ (row : HostRow). leb row.heard moment) hosts host change k.heard (λ row at. (here row at).heard (list_all-at (λ (row : HostRow). leb row.heard moment) hosts host row k.heard at));
    }

-- each host changes
pub hosts_mapped : (hosts : List HostRow) (allocs moment : ℕ) (change : HostRow → HostRow) → ((row : HostRow) → KeepsHost moment row (change row)) → KeepsHosts hosts allocs moment → KeepsHosts (map change hosts) allocs moment
hosts_mapped hosts allocs moment change each k =
    record {
      count = omega (arith, length-map hosts change, k.count);
      differ = rw (map-map_kept host_label change (λ row. (each row).name) hosts) k.differ;
      formed = list_all-each is_formed_host change (λ row h. (each row).formed h) hosts k.formed;
      allocated = list_all-each (λ (row : HostRow). ltb row.alloc allocs) change (λ row h. stays_allocated allocs moment row (change row) (each row) h) hosts k.allocated;
      heard = list_all-each (λ (row : HostRow). leb row.heard moment) change (λ row h. (each row).heard h) hosts k.heard;
    }

-- a new host comes
pub hosts_more : (hosts : List HostRow) (allocs moment last : ℕ) (line : BootLine) (alloc : ℕ) → IsFormedBoot line → host_from 0 line.host hosts ≡ None → length hosts < MOST_HOSTS → alloc < allocs → moment ≤ last
    → KeepsHosts hosts allocs last → KeepsHosts (hosts ++ new_host line alloc moment ∷ []) allocs last
hosts_more hosts allocs moment last line alloc formed new room there now k =
    let row = new_host line alloc moment in
    record {
      count = omega (arith, length-append hosts (row ∷ []), room);
      differ = differ_more host_label hosts row new k.differ;
      formed = list_all-more is_formed_host hosts row k.formed (booted_formed line row 1 formed formed.host (omega arith) (omega arith));
      allocated = list_all-more (λ (row : HostRow). ltb row.alloc allocs) hosts row k.allocated (lt-ltb alloc allocs there);
      heard = list_all-more (λ (row : HostRow). leb row.heard last) hosts row k.heard (le-leb moment last now);
    }

-- the moment may rise
pub hosts_later : (hosts : List HostRow) (allocs moment later : ℕ) → moment ≤ later → KeepsHosts hosts allocs moment → KeepsHosts hosts allocs later
hosts_later hosts allocs moment later rises k =
    record {
      count = k.count;
      differ = k.differ;
      formed = k.formed;
      allocated = k.allocated;
      heard = list_all-weaker (λ (row : HostRow). leb row.heard moment) (λ (row : HostRow). leb row.heard later) (λ row h. at_more row.heard moment later rises h) hosts k.heard;
    }

-- allocations may come
pub hosts_more_allocs : (hosts : List HostRow) (allocs more moment : ℕ) → allocs ≤ more → KeepsHosts hosts allocs moment → KeepsHosts hosts more moment
hosts_more_allocs hosts allocs more moment grows k =
    record {
      count = k.count;
      differ = k.differ;
      formed = k.formed;
      allocated = list_all-weaker (λ (row : HostRow). ltb row.alloc allocs) (λ (row : HostRow). ltb row.alloc more) (λ row h. below_more row.alloc allocs more grows h) hosts k.allocated;
      heard = k.heard;
    }
