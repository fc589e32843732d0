-- Where no pending job has the name: it is finished, or unknown.
use Rattle.std.proofs.Common.{◌≡◌, ◌∙◌, ℕ, List, Option, Some, None, Err, option_map, refl, ap}
use Rattle.std.proofs.lemmas.Option.{none-some}
use Rattle.farm_types.specs.declared.fault.FarmFault.{FarmFault}
use Rattle.farm_types.specs.declared.fault.FarmFault.TheVariants as fault
use Rattle.farm_types.specs.declared.rows.JobRow.{JobRow}
use Rattle.farm_types.specs.DependActs.{missing_among, pending_named}
use Rattle.farm_types.specs.Farm.{Farm}
use Rattle.farm_types.specs.Faults.{IsRefusal}
use Rattle.farm_types.specs.Jobs.{JobLists}
use Rattle.farm_types.specs.Step.{lists_of}
use Rattle.cue_query.specs.Queries.{FindsJob}

none_of : (o : Option JobRow) → None ≡ option_map (λ (j : JobRow). j.job) o → o ≡ None
none_of None none = refl
none_of (Some j) none = absurd (none-some j.job none)

pub none_finds : (f : Farm) (name : List ℕ) (b : JobLists) (fault : FarmFault) → b ≡ lists_of f → None ≡ option_map (λ (j : JobRow). j.job) (pending_named f name) → IsRefusal (missing_among b.jobs name) fault
    → FindsJob f name (Err fault)
none_finds f name b (fault.Refused why) lists none is = (none_of (pending_named f name) none, is ∙ ap (λ (x : JobLists). missing_among x.jobs name) lists)
none_finds f name b fault.NoMemory lists none is = tt
