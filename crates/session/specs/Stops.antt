-- What a stop leaves of a farm that was recorded, opened again; and the calls of a keeper in memory.
use Rattle.std.specs.Prelude.{◌≡◌, ◌⊎◌, ◌==◌, Bool, Result, Ok}
use Rattle.std.specs.List.{list_any}
use Rattle.farm_types.specs.declared.entry.Entry.{Entry}
use Rattle.farm_types.specs.Farm.{Farm}
use Rattle.farm_types.specs.Run.{IsLegalStep}
use Rattle.farm_types.specs.Step.{after}
use Rattle.farm_keeper.specs.Rows.{Rows}
use Rattle.farm_rows.specs.declared.head_row.TheConstants.{ROW_FORMAT}
use Rattle.farm_rows.specs.Recovery.{Said}
use Rattle.fault_counts.specs.Plans.{Plan}
use Rattle.recovery.specs.declared.fault.RecoverFault.{RecoverFault}
use Rattle.store_law.specs.Stored.{stored, stored_in}

-- it is this farm, in the format in which rows are written
abbrev pub IsAgain : Farm → Result Said RecoverFault → Type 0
IsAgain f said = said ≡ Ok (record { farm = f; format = ROW_FORMAT })

-- or the farm one legal entry further
abbrev pub IsOpenedAgain : Farm → Result Said RecoverFault → Type 0
IsOpenedAgain f said = IsAgain f said ⊎ ((e : Entry) × IsLegalStep f e × IsAgain (after f e) said)

-- what a stop leaves of a farm whose rows of format 1 were to be migrated: these, or the rows as they are written
abbrev pub MayBeOld : Farm → Rows → Type 0
MayBeOld f rows = (rows ≡ stored_in 1 f) ⊎ (rows ≡ stored f)

-- the last call so far is one of those that were to fail
abbrev pub has_just_failed : Plan → Bool
has_just_failed plan = list_any (λ call. call == plan.calls) plan.fails
