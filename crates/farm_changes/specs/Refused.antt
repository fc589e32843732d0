-- Why a boot isn't taken, as the farm's refusal.
use Rattle.std.specs.Prelude.{◌≡◌, slice_get}
use Rattle.farm_types.specs.declared.refusal.Refusal.TheVariants.{Exists, Full}
use Rattle.farm_types.specs.declared.refusal.Counted.TheVariants as counted
use Rattle.farm_types.specs.Farm.{Farm}
use Rattle.farm_types.specs.Faults.{IsRefusal}
use Rattle.farm_types.specs.Step.{name_of_alloc}
use Rattle.host_book.specs.declared.boots.HostRefusal.{HostRefusal}
use Rattle.host_book.specs.declared.boots.HostRefusal.TheVariants.{OtherAlloc, HostsFull, BootsSpent}
use Rattle.farm_types.specs.declared.fault.FarmFault.{FarmFault}
use Rattle.farm_types.specs.declared.fault.FarmFault.TheVariants.{Refused}
use Rattle.farm_types.specs.declared.limits.TheConstants.{LAST_BOOT, MOST_HOSTS}

-- the farm's refusal for the book's, or out of memory
abbrev pub IsBootFault : Farm → HostRefusal → FarmFault → Type 0
IsBootFault f (OtherAlloc alloc) fault = IsRefusal (Exists (name_of_alloc (slice_get f.allocs alloc))) fault
IsBootFault f HostsFull fault = fault ≡ Refused (Full MOST_HOSTS counted.Hosts)
IsBootFault f BootsSpent fault = fault ≡ Refused (Full LAST_BOOT counted.Boots)
