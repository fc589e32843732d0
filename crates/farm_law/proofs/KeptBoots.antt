-- What a boot's host has to show, and what hosts keep at a boot.
use Rattle.std.proofs.Common.{◌≡◌, ◌<◌, ◌≤◌, ℕ, ◌+◌, Bool, true, false, cond, eqb, List, [], ◌∷◌, length, Option, Some, None, refl, sym, subst, ap, ◌∙◌, arith}
use Rattle.std.specs.Prelude.{bytes_eq}
use Rattle.std.specs.List.{slice_get}
use Rattle.std.proofs.lemmas.Bool.{false≢true}
use Rattle.std.proofs.lemmas.List.{length-map}
use Rattle.std.proofs.lemmas.Option.{none-some, same_Some}
use Rattle.farm_types.proofs.Changed.{mapped_each}
use Rattle.farm_types.proofs.Passes.{cond_each}
use Rattle.farm_types.specs.declared.boot.BootLine.{BootLine}
use Rattle.farm_types.specs.declared.limits.TheConstants.{LAST_BOOT, MOST_HOSTS}
use Rattle.farm_types.specs.declared.refusal.Counted.TheVariants as counted
use Rattle.farm_types.specs.declared.refusal.Refusal.{Refusal}
use Rattle.farm_types.specs.declared.rows.HostRow.{HostRow}
use Rattle.farm_types.specs.Farm.{Farm, host_from}
use Rattle.farm_types.specs.Formed.{IsFormedBoot}
use Rattle.farm_types.specs.Hosts.{booted_at, booted_row, down_row, is_same_life, is_unheard, silenced, silenced_row}
use Rattle.farm_types.specs.Kept.{KeepsHosts}
use Rattle.farm_types.specs.Step.{boot_at, full_refusal, life_refusal}
use Rattle.farm_law.proofs.KeptHosts.{HasBoot, hosts_changed, hosts_more, keeps_booted}
use Rattle.farm_law.proofs.KeptNames.{accepted_by, room_left}

-- there is room for a new host, or a boot number for a new life of the one that is there
abbrev pub HasRoom : BootLine → List HostRow → Option ℕ → Type 0
HasRoom line hosts None = length hosts < MOST_HOSTS
HasRoom line hosts (Some host) = (row : HostRow) → slice_get hosts host ≡ Some row → HasBoot line row

-- ---- a boot that isn't refused

life_by : (same : Bool) (full : Option Refusal) → cond same None full ≡ None → same ≡ false → full ≡ None
life_by true full accepted new = absurd (false≢true (sym new))
life_by false full accepted new = accepted

life_room : (f : Farm) (line : BootLine) (alloc : ℕ) (o : Option HostRow) → life_refusal f line alloc o ≡ None → (row : HostRow) → o ≡ Some row → HasBoot line row
life_room f line alloc None accepted row at = absurd (none-some row at)
life_room f line alloc (Some x) accepted row at =
    subst (HasBoot line) (same_Some x row at)
    (λ new. room_left LAST_BOOT x.boot counted.Boots (life_by (is_same_life line x) (full_refusal LAST_BOOT x.boot counted.Boots) (accepted_by (eqb x.alloc alloc) _ _ accepted) new))

-- a boot that isn't refused has room
pub boot_room : (f : Farm) (line : BootLine) (alloc : ℕ) (o : Option ℕ) → boot_at f line alloc o ≡ None → HasRoom line f.hosts o
boot_room f line alloc None accepted = room_left MOST_HOSTS (length f.hosts) counted.Hosts accepted
boot_room f line alloc (Some host) accepted = life_room f line alloc (slice_get f.hosts host) accepted

-- ---- hosts that are silent keep their names and their lives

silenced_room : (line : BootLine) (moment : ℕ) (row : HostRow) → HasBoot line row → HasBoot line (silenced_row moment row)
silenced_room line moment row room = cond_each (HasBoot line) (is_unheard moment row) (down_row row) row room room

-- and it has room once silent hosts are down
pub room_silenced : (line : BootLine) (moment : ℕ) (hosts : List HostRow) (o : Option ℕ) → HasRoom line hosts o → HasRoom line (silenced moment hosts) o
room_silenced line moment hosts None room = omega (arith, length-map hosts (silenced_row moment), room)
room_silenced line moment hosts (Some host) room = λ row at.
    mapped_each (λ k x. k ≡ host → HasBoot line x) hosts (silenced_row moment)
    (λ k x here is. silenced_room line moment x (room x (subst (λ (n : ℕ). slice_get hosts n ≡ Some x) is here)))
    host row at refl

silenced_name : (moment : ℕ) (row : HostRow) → (silenced_row moment row).name ≡ row.name
silenced_name moment row = cond_each (λ (x : HostRow). x.name ≡ row.name) (is_unheard moment row) (down_row row) row refl refl

-- a host is found by its name as before
pub named_silenced : (moment place : ℕ) (name : List ℕ) (hosts : List HostRow) → host_from place name (silenced moment hosts) ≡ host_from place name hosts
named_silenced moment place name [] = refl
named_silenced moment place name (row ∷ rows) =
    ap (λ (text : List ℕ). cond (bytes_eq text name) (Some place) (host_from (place + 1) name (silenced moment rows))) (silenced_name moment row)
    ∙ ap (cond (bytes_eq row.name name) (Some place)) (named_silenced moment (place + 1) name rows)

-- ---- the hosts

-- the host of that name boots, or a new one
pub hosts_booted : (hosts : List HostRow) (allocs moment last : ℕ) (line : BootLine) (alloc : ℕ) (o : Option ℕ) → host_from 0 line.host hosts ≡ o → HasRoom line hosts o → IsFormedBoot line → alloc < allocs → moment ≤ last
    → KeepsHosts hosts allocs last → KeepsHosts (booted_at hosts line alloc moment o) allocs last
hosts_booted hosts allocs moment last line alloc None is room formed there now k = hosts_more hosts allocs moment last line alloc formed is room there now k
hosts_booted hosts allocs moment last line alloc (Some host) is room formed there now k =
    hosts_changed hosts allocs last host (booted_row line moment) (λ row at. keeps_booted line moment last formed now row (room row at)) k
