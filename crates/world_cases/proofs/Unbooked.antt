-- An entry that is no booking has no condition beside its form.
use Rattle.farm_types.specs.declared.entry.Act.{Act}
use Rattle.farm_types.specs.declared.entry.Act.TheVariants as act
use Rattle.farm_types.specs.Farm.{Farm}
use Rattle.farm_types.specs.Step.{HasCondition}
use Rattle.recording_core.specs.Machine.{IsBooking}

pub unbooked_condition : (f : Farm) (a : Act) → (IsBooking a → ⊥) → HasCondition f a
unbooked_condition f (act.Book slot host) none = absurd (none tt)
unbooked_condition f act.Opened none = tt
unbooked_condition f (act.Show name) none = tt
unbooked_condition f (act.Alloc facility tag) none = tt
unbooked_condition f (act.Sub line) none = tt
unbooked_condition f (act.Limit name most) none = tt
unbooked_condition f (act.Boot line) none = tt
unbooked_condition f (act.Heard heard) none = tt
unbooked_condition f (act.Submit spec) none = tt
unbooked_condition f (act.AddDepend spec) none = tt
unbooked_condition f (act.DropDepend depend) none = tt
unbooked_condition f (act.Pause job paused) none = tt
unbooked_condition f (act.KillJob job) none = tt
unbooked_condition f (act.KillFrame p) none = tt
unbooked_condition f (act.EatFrame p) none = tt
unbooked_condition f (act.RetryFrame p) none = tt
unbooked_condition f (act.Lock host lock) none = tt
unbooked_condition f act.Tick none = tt
