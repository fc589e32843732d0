-- What a call answers where the farm may refuse, by the refusal that the rules give.
use Rattle.std.specs.Prelude.{◌≡◌, Option, None, Some, Result, Ok, Err}
use Rattle.farm_types.specs.declared.fault.FarmFault.{FarmFault}
use Rattle.farm_types.specs.declared.fault.FarmFault.TheVariants.{Refused, NoMemory}
use Rattle.farm_types.specs.declared.refusal.Refusal.{Refusal}

-- nothing where there is no refusal, and else exactly the refusal; running out of memory needs no cause
abbrev pub Refuses : {X : Type 0} → Option Refusal → Result X FarmFault → Type 0
Refuses refusal (Ok x) = refusal ≡ None
Refuses refusal (Err (Refused why)) = refusal ≡ Some why
Refuses refusal (Err NoMemory) = Unit {0}

-- the refusal, or out of memory
abbrev pub IsRefusal : Refusal → FarmFault → Type 0
IsRefusal refusal (Refused why) = why ≡ refusal
IsRefusal refusal NoMemory = Unit {0}
