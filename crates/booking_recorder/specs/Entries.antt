-- Entries that are recorded in the farm, the keeper and the words, or in none of them.
use Rattle.std.specs.Prelude.{◌≡◌, ◌⊎◌, ℕ, ◌==◌, true, false, [], ◌∷◌, None, Some, Result, Ok, Err}
use Rattle.farm_types.specs.declared.answer.Answer.{Answer}
use Rattle.farm_types.specs.declared.entry.Entry.{Entry}
use Rattle.farm_types.specs.EntryAnswers.{answer_of}
use Rattle.farm_types.specs.Farm.{Farm}
use Rattle.farm_types.specs.Step.{after, refusal_of}
use Rattle.farm_keeper.specs.declared.fault.KeeperFault.TheVariants as keeper_fault
use Rattle.farm_keeper.specs.Keeping.{Committing}
use Rattle.booking_rule.specs.declared.view.View.{View}
use Rattle.recorder.specs.Recording.{ChangesRows}
use Rattle.recorder.specs.Telling.{EndsTelling, IsTold, TakesEach}
use Rattle.recording_turns.specs.Owing.{Resizes}
use Rattle.recording_turns.specs.Sizes.{IsStillHeld}
use Rattle.booking_recorder.specs.declared.refusal.CommitRefusal.{CommitRefusal}
use Rattle.booking_recorder.specs.declared.refusal.CommitRefusal.TheVariants as refusal
use Rattle.booking_recorder.specs.declared.refusal.RecordFault.{RecordFault}
use Rattle.booking_recorder.specs.declared.refusal.RecordFault.TheVariants as fault
use Rattle.booking_recorder.specs.Recording.{most_entries}

-- ---- a change

-- the farm is as before: the store fails only where a row changes
abbrev pub FailsToRecord : Farm → Farm → RecordFault → Farm → Type 0
FailsToRecord old changed fault.Spent new = new ≡ old
FailsToRecord old changed (fault.Held cores memory) new = new ≡ old
FailsToRecord old changed fault.Store new = (new ≡ old) × ChangesRows old changed
FailsToRecord old changed fault.NoMemory new = new ≡ old

-- the farm is as the change makes it, or as before
abbrev pub Records : {T : Type 0} → Farm → Farm → Result T RecordFault → Farm → Type 0
Records old changed (Ok _) new = new ≡ changed
Records old changed (Err why) new = FailsToRecord old changed why new

-- what the keeper was told: where the journal is spent or a host held, nothing
abbrev pub TellsAtFault : {K : Type 0} → Committing K → Farm → Entry → RecordFault → K → K → Type 0
TellsAtFault commits f e fault.Spent before now = now ≡ before
TellsAtFault commits f e (fault.Held cores memory) before now = now ≡ before
TellsAtFault commits f e fault.Store before now = EndsTelling commits f (e ∷ []) true before now
TellsAtFault commits f e fault.NoMemory before now = EndsTelling commits f (e ∷ []) false before now

abbrev pub TellsRecord : {K T : Type 0} → Committing K → Farm → Entry → Result T RecordFault → K → K → Type 0
TellsRecord commits f e (Ok _) before now = TakesEach commits f (e ∷ []) before now
TellsRecord commits f e (Err why) before now = TellsAtFault commits f e why before now

-- the entry gives a host another size; so much was found to be free there, which isn't that size less what frames use, and the trail says so
pub record IsHeld (f : Farm) (e : Entry) (v : View) (cores memory : ℕ) (w : View) : Type 0 where
  pub host : ℕ
  pub resizes : Resizes f (after f e) (Some host)
  pub held : IsStillHeld v f host (record { cores = cores; memory = memory }) w

abbrev pub HeldAtFault : Farm → Entry → View → RecordFault → View → Type 0
HeldAtFault f e v fault.Spent w = Unit {0}
HeldAtFault f e v (fault.Held cores memory) w = IsHeld f e v cores memory w
HeldAtFault f e v fault.Store w = Unit {0}
HeldAtFault f e v fault.NoMemory w = Unit {0}

abbrev pub IsHeldBy : {T : Type 0} → Farm → Entry → View → Result T RecordFault → View → Type 0
IsHeldBy f e v (Ok _) w = Unit {0}
IsHeldBy f e v (Err why) w = HeldAtFault f e v why w

-- ---- an entry that the farm may refuse

-- as a change is recorded, with its answer
abbrev pub RecordsAnswered : Farm → Farm → Answer → Result Answer CommitRefusal → Farm → Type 0
RecordsAnswered old changed answer (Ok said) new = (said ≡ answer) × (new ≡ changed)
RecordsAnswered old changed answer (Err (refusal.Refused why)) new = ⊥
RecordsAnswered old changed answer (Err refusal.Spent) new = new ≡ old
RecordsAnswered old changed answer (Err (refusal.Held cores memory)) new = new ≡ old
RecordsAnswered old changed answer (Err refusal.Store) new = (new ≡ old) × ChangesRows old changed
RecordsAnswered old changed answer (Err refusal.NoMemory) new = new ≡ old

-- The entry is recorded and answered, or refused as the farm refuses it; or the journal is spent, a host held, the store failed or memory ran out. At each
-- fault the farm is as before.
abbrev pub Commits : Farm → Entry → Result Answer CommitRefusal → Farm → Type 0
Commits old e (Ok said) new = (refusal_of old e ≡ None) × (said ≡ answer_of old e) × (new ≡ after old e)
Commits old e (Err (refusal.Refused why)) new = (refusal_of old e ≡ Some why) × (new ≡ old)
Commits old e (Err refusal.Spent) new = (refusal_of old e ≡ None) × (new ≡ old)
Commits old e (Err (refusal.Held cores memory)) new = (refusal_of old e ≡ None) × (new ≡ old)
Commits old e (Err refusal.Store) new = (refusal_of old e ≡ None) × ChangesRows old (after old e) × (new ≡ old)
Commits old e (Err refusal.NoMemory) new = new ≡ old

abbrev pub TellsCommit : {K T : Type 0} → Committing K → Farm → Entry → Result T CommitRefusal → K → K → Type 0
TellsCommit commits f e (Ok _) before now = TakesEach commits f (e ∷ []) before now
TellsCommit commits f e (Err (refusal.Refused why)) before now = now ≡ before
TellsCommit commits f e (Err refusal.Spent) before now = now ≡ before
TellsCommit commits f e (Err (refusal.Held cores memory)) before now = now ≡ before
TellsCommit commits f e (Err refusal.Store) before now = EndsTelling commits f (e ∷ []) true before now
TellsCommit commits f e (Err refusal.NoMemory) before now =
    (now ≡ before) ⊎ ((refusal_of f e ≡ None) × IsTold commits f (after f e) (Err keeper_fault.NoMemory) before now)

abbrev pub IsHeldIn : {T : Type 0} → Farm → Entry → View → Result T CommitRefusal → View → Type 0
IsHeldIn f e v (Ok _) w = Unit {0}
IsHeldIn f e v (Err (refusal.Refused why)) w = Unit {0}
IsHeldIn f e v (Err refusal.Spent) w = Unit {0}
IsHeldIn f e v (Err (refusal.Held cores memory)) w = IsHeld f e v cores memory w
IsHeldIn f e v (Err refusal.Store) w = Unit {0}
IsHeldIn f e v (Err refusal.NoMemory) w = Unit {0}

-- it ends so by that number of entries alone; a refusal, and want of memory, may come before that is seen
abbrev pub IsSpentAt : {T : Type 0} → ℕ → Result T CommitRefusal → Type 0
IsSpentAt n (Ok _) = (n == most_entries) ≡ false
IsSpentAt n (Err (refusal.Refused why)) = Unit {0}
IsSpentAt n (Err refusal.Spent) = (n == most_entries) ≡ true
IsSpentAt n (Err (refusal.Held cores memory)) = (n == most_entries) ≡ false
IsSpentAt n (Err refusal.Store) = (n == most_entries) ≡ false
IsSpentAt n (Err refusal.NoMemory) = Unit {0}
