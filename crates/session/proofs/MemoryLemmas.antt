-- A keeper in memory fails where it is to, and only there.
use Rattle.std.proofs.Common.{◌≡◌, true, true≢false, List, [], ◌∷◌, sym, subst}
use Rattle.farm_types.specs.declared.entry.Entry.{Entry}
use Rattle.farm_types.specs.Farm.{Farm}
use Rattle.farm_types.specs.Run.{run_of}
use Rattle.farm_keeper.specs.Memory.{Commits, Kept}
use Rattle.farm_load.specs.recorder.specs.Telling.{EndsTelling, Tells}
use Rattle.session.specs.Stops.{has_just_failed}

-- it failed as the last entry was told
ended : (f : Farm) (rest : List Entry) (mid now : Kept) → EndsTelling Commits f rest true mid now → has_just_failed now.plan ≡ true
ended f [] mid now ends = absurd (true≢false ends.0)
ended f (e ∷ es) mid now ends = subst (λ (k : Kept). has_just_failed k.plan ≡ true) (sym ends.told.1) ends.told.0

pub just_failed : (f : Farm) (all done : List Entry) (before now : Kept) → Tells Commits f all done true before now → has_just_failed now.plan ≡ true
just_failed f all done before now told = ended (run_of f done) told.rest told.mid now told.ends
