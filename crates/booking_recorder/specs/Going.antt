-- How the recorder went on over entries that were asked for.
use Rattle.std.specs.Prelude.{◌≡◌, ℕ, Bool, List, ◌++◌}
use Rattle.farm_types.specs.declared.entry.Entry.{Entry}
use Rattle.farm_keeper.specs.Keeping.{Committing, Continues}
use Rattle.booking_rule.specs.declared.view.View.{View}
use Rattle.recorder.specs.Telling.{Tells}
use Rattle.recording_turns.specs.Resting.{split_in}
use Rattle.booking_recorder.specs.Recording.{Recording}

-- the journal has exactly these entries more; it starts from the same farm, and no seat was split off
pub record Journals (v w : View) (done : List Entry) : Type 0 where
  pub journal : w.journal ≡ v.journal ++ done
  pub opening : w.opening ≡ v.opening
  pub split : split_in w.desk ≡ split_in v.desk

-- Of all these entries those done are in the journal, and the keeper went on so and was told them.
pub record GoesOn {K : Type 0} (commits : Committing K) (tells : K → Type 0) (faults : K → ℕ) (before now : Recording K) (all done : List Entry)
    (failed : Bool) : Type 0 where
  pub keeper : Continues tells faults before.keeper now.keeper failed
  pub told : Tells commits before.farm all done failed before.keeper now.keeper
  pub journals : Journals before.view now.view done
