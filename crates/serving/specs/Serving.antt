-- How a call that serves connections ends.
use Rattle.std.specs.Prelude.{◌≡◌, ◌+◌, ◌⊎◌, ℕ, false, List}
use Rattle.command_line.specs.declared.status.Status.{Status}
use Rattle.command_line.specs.declared.status.Status.TheVariants as exit
use Rattle.farm_keeper.specs.Keeping.{Continues}
use Rattle.farm_keeper.specs.Rows.{Rows}
use Rattle.farm_types.specs.declared.entry.Entry.{Entry}
use Rattle.farm_types.specs.Farm.{Farm}
use Rattle.farm_types.specs.Run.{IsLegal, IsSafe, run_of}
use Rattle.fault_counts.specs.Counts.{HasRisen, HasRisenBy}
use Rattle.recovery.specs.declared.fault.RecoverFault.{RecoverFault}
use Rattle.session.specs.declared.opening.OpenFault.{OpenFault}
use Rattle.session.specs.declared.opening.OpenFault.TheVariants as fault
use Rattle.session.specs.declared.opening.Opening.TheVariants as opening
use Rattle.session.specs.Opening.{BeginsWith, HoldsFarm, Opens, SaysFault}
use Rattle.session.specs.Words.{Script, opened_farm, opening_entries}
use Rattle.shared_sessions.specs.shared_bot.specs.recording_turns.specs.Resting.{split_in}
use Rattle.shared_sessions.specs.booking_recorder.specs.Recording.{Recording}
use Rattle.worker_pool.specs.Taken.{HasRisenByLess}
use Rattle.serving.specs.Words.{ServeWords}

-- No farm was opened, at the clock's one reading, or it was and memory ran out before the first connection: why, and what became of the keeper, which is given
-- back. No connection was accepted.
pub record IsUnopened {K : Type 0} (tells : K → Type 0) (holds left : K → Rows → Type 0) (faults : K → ℕ) (store : List ℕ) (given back : K)
    (reads : ℕ → Type 0) (still : Type 0) (why : OpenFault) : Type 0 where
  pub moment : ℕ
  pub read : reads moment
  pub listener_still : still
  pub opens : Opens {N = Unit {0}} tells holds left faults (Script store) moment given (opening.Failed back why)

-- What a keeper holds once the workers have ended, where it tells the truth: the rows of the farm after a journal that is a legal history, and a safe one, from
-- this farm. A stop leaves these, or those of the farm one legal entry further.
pub record HoldsHistory (tells : Type 0) (holds left : Rows → Type 0) (first : Farm) : Type 0 where
  pub journal : List Entry
  pub legal : IsLegal first journal
  pub safe : IsSafe first journal
  pub held : HoldsFarm tells holds left (run_of first journal)

-- The farm that the store's rows say was opened, at the clock's one reading, and that was recorded in the keeper; and what the keeper that is given back holds
-- after all connections.
pub record HasOpened {K : Type 0} (tells : K → Type 0) (holds left : K → Rows → Type 0) (faults : K → ℕ) (store : List ℕ) (given back : K)
    (reads : ℕ → Type 0) : Type 0 where
  pub moment : ℕ
  pub opened : K
  pub first : Farm
  pub read : reads moment
  pub said : BeginsWith (Script store) (tells opened) (holds given) first
  pub legal : IsLegal first (opening_entries (Script store) moment)
  pub begins : Continues tells faults given opened false
  pub recorded : HoldsFarm (tells opened) (holds opened) (left opened) (opened_farm (Script store) first moment)
  pub served : HoldsHistory (tells back) (holds back) (left back) first

-- The status, by what was done. Done: the farm was opened, and all connections were accepted; NoConnection: it was opened, and fewer were. StoreFailed,
-- BadStore: it wasn't opened, as the store failed or its rows say no farm. NoMemory: memory ran out before anything was done, or as the farm was opened and
-- the workers were made, or before all connections were accepted.
abbrev pub EndsBy : Status → ServeWords → Type 0 → (OpenFault → Type 0) → Type 0 → ℕ → ℕ → Type 0
EndsBy exit.Done words unstarted unopened opened accepted now = opened × HasRisenBy words.connections accepted now
EndsBy exit.NoConnection words unstarted unopened opened accepted now = opened × HasRisenByLess words.connections accepted now
EndsBy exit.StoreFailed words unstarted unopened opened accepted now = unopened fault.Store
EndsBy exit.BadStore words unstarted unopened opened accepted now = (why : RecoverFault) × unopened (fault.Bad why)
EndsBy exit.NoMemory words unstarted unopened opened accepted now =
    unstarted ⊎ (unopened fault.NoMemory ⊎ (opened × HasRisenByLess words.connections accepted now))
EndsBy other words unstarted unopened opened accepted now = ⊥

-- how workers ended that were to serve so many connections
abbrev pub EndsServing : Status → ℕ → ℕ → ℕ → Type 0
EndsServing exit.Done connections accepted now = HasRisenBy connections accepted now
EndsServing exit.NoConnection connections accepted now = HasRisenByLess connections accepted now
EndsServing exit.NoMemory connections accepted now = HasRisenByLess connections accepted now
EndsServing other connections accepted now = ⊥

-- memory ran out as the workers were made: the keeper is given back as it was, and no connection was accepted
pub record IsGivenBack {K : Type 0} (given back : K) (still : Type 0) (why : OpenFault) : Type 0 where
  pub why_is : why ≡ fault.NoMemory
  pub given_back : back ≡ given
  pub listener_still : still

-- the status where no farm was opened
abbrev pub status_of : OpenFault → Status
status_of fault.Store = exit.StoreFailed
status_of (fault.Bad why) = exit.BadStore
status_of fault.NoMemory = exit.NoMemory

-- nothing failed, as far as the counts of faults of the keeper and of the listener tell; and the rows aren't said to be no farm
pub record IsFaultless {K : Type 0} (tells : K → Type 0) (holds : K → Rows → Type 0) (faults : K → ℕ) (given back : K) (heard heard_now : ℕ) : Type 0 where
  pub said : (why : RecoverFault) → SaysFault (tells back) (holds given) why → ⊥
  pub stored : HasRisen (faults given) (faults back) → ⊥
  pub listened : HasRisen heard heard_now → ⊥

-- A seat was split off the recorder's, which keeps its farm, its keeper and the farm with which its words began.
pub record IsSplit {K : Type 0} (before now : Recording K) : Type 0 where
  pub split : split_in now.view.desk ≡ split_in before.view.desk + 1
  pub opening : now.view.opening ≡ before.view.opening
  pub farm : now.farm ≡ before.farm
  pub keeper : now.keeper ≡ before.keeper
