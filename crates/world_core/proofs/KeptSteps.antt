-- Each world keeps what every world keeps, by the laws of worlds.
use Rattle.std.proofs.Common.{◌≡◌, List, Result, Ok, Err, sym, subst}
use Rattle.std.specs.List.{AllByRecursion}
use Rattle.std.specs.Prelude.{⊤}
use Rattle.farm_types.specs.Farm.{Farm}
use Rattle.farm_types.specs.Kept.{IsKeptFarm}
use Rattle.farm_lines.specs.declared.request.Request.{Request}
use Rattle.rqd_core.specs.declared.config.RqdConfig.{RqdConfig}
use Rattle.world_law.specs.declared.event.Event.{Event}
use Rattle.world_law.specs.declared.fault.WorldFault.{WorldFault}
use Rattle.world_law.specs.declared.fault.WorldFault.TheVariants as fault
use Rattle.world_law.specs.Happens.{Happens, IsOfTypes}
use Rattle.world_law.specs.KeptWorld.{CanBegin, IsKeptWorld}
use Rattle.world_law.specs.Outcomes.{Outcome}
use Rattle.world_law.specs.Promises.{KeepsPromises}
use Rattle.world_law.specs.Texts.{IsConfigWithin}
use Rattle.world_law.specs.World.{World, made_world}
use Rattle.world_core.specs.Kept.{Keeps}
use Rattle.world_core.specs.Stepping.{Steps}

pub made_keeps : (law : (f : Farm) (configs : List RqdConfig) (asked : List Request) → CanBegin f configs → IsKeptWorld (made_world f configs asked))
    → (w : World) (f : Farm) (configs : List RqdConfig) (asked : List Request) → IsKeptFarm f
    → AllByRecursion IsConfigWithin configs → w ≡ made_world f configs asked → Keeps w
unfolding Keeps
made_keeps law w f configs asked farm within is = subst IsKeptWorld (sym is) (law f configs asked (record { farm = farm; hosts = within }))

same_keeps : (w new : World) → Keeps w → new ≡ w → Keeps new
same_keeps w new keeps same = subst Keeps (sym same) keeps

pub step_keeps : (law : (w : World) (e : Event) (new : World) → IsKeptWorld w → IsOfTypes e → Happens w e new → IsKeptWorld new)
    → (w : World) (e : Event) (r : Result ⊤ WorldFault) (new : World) → Keeps w → IsOfTypes e → Outcome w e r new → Keeps new
unfolding Keeps
step_keeps law w e (Ok done) new keeps types happens = law w e new keeps types happens
step_keeps law w e (Err fault.NoSuch) new keeps types (not_there, same) = same_keeps w new keeps same
step_keeps law w e (Err (fault.UsedNonce nonce)) new keeps types (used, same) = same_keeps w new keeps same
step_keeps law w e (Err fault.NoMemory) new keeps types same = same_keeps w new keeps same

pub is_outcome : (w : World) (e : Event) (r : Result ⊤ WorldFault) (new : World) → Steps w e r new → Outcome w e r new
unfolding Steps
is_outcome w e r new steps = steps

pub keeps_promises : (law : (w : World) → IsKeptWorld w → KeepsPromises w) → (w : World) → Keeps w → KeepsPromises w
unfolding Keeps
keeps_promises law w keeps = law w keeps
