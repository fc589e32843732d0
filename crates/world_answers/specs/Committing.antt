-- A farm that takes an entry.
use Rattle.std.specs.Prelude.{◌≡◌, None, Some, ⊤, Result, Ok, Err}
use Rattle.farm_types.specs.declared.entry.Entry.{Entry}
use Rattle.farm_types.specs.declared.fault.FarmFault.{FarmFault}
use Rattle.farm_types.specs.declared.fault.FarmFault.TheVariants as fault
use Rattle.farm_types.specs.Farm.{Farm}
use Rattle.farm_types.specs.Step.{after, refusal_of}

-- the farm took the entry, or refuses it, or memory ran out
abbrev pub Commits : Farm → Entry → Result ⊤ FarmFault → Farm → Type 0
Commits old e (Ok done) new = (refusal_of old e ≡ None) × (new ≡ after old e)
Commits old e (Err (fault.Refused why)) new = (refusal_of old e ≡ Some why) × (new ≡ old)
Commits old e (Err fault.NoMemory) new = new ≡ old
