-- Time that passes, and completions that change nothing more.
use Rattle.std.specs.Prelude.{ℕ, Bool, true, List, if◌then◌else◌}
use Rattle.std.specs.List.{list_any}
use Rattle.farm_types.specs.declared.attempt.Attempt.{Attempt}
use Rattle.farm_types.specs.declared.attempt.DoneItem.{DoneItem}
use Rattle.farm_types.specs.declared.entry.Act.TheVariants as act
use Rattle.farm_types.specs.Farm.{Farm}
use Rattle.farm_types.specs.Run.{is_same}
use Rattle.farm_types.specs.Step.{after, is_live}

-- the farm at a moment, once each unheard host is down
abbrev pub ticked : Farm → ℕ → Farm
ticked f moment = after f (record { moment = moment; act = act.Tick })

-- a completion of the attempt is among these
abbrev pub is_ended : List DoneItem → Attempt → Bool
is_ended ends a = list_any (λ (d : DoneItem). is_same d.attempt a) ends

-- the completion is of an attempt that isn't live, or that ended by one of these
abbrev pub is_over : Farm → ℕ → ℕ → List DoneItem → DoneItem → Bool
is_over f host boot ends d = if is_live f host boot d.attempt.slot d.attempt.version then is_ended ends d.attempt else true
