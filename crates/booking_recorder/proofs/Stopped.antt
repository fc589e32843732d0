-- Faults that are passed on.
use Rattle.std.proofs.Common.{◌≡◌, ℕ, ◌==◌, false, List, [], ◌∷◌, Result, Ok, Err, IsErrAnd, inl, inr, refl, sym, ap, ◌∙◌, subst}
use Rattle.std.specs.Prelude.{None, IfOk}
use Rattle.std.proofs.lemmas.Result.{err_from_is_err_and}
use Rattle.farm_types.specs.declared.answer.Answer.{Answer}
use Rattle.farm_types.specs.declared.entry.Act.{Act}
use Rattle.farm_types.specs.declared.entry.Act.TheVariants as act
use Rattle.farm_types.specs.declared.entry.Entry.{Entry}
use Rattle.farm_types.specs.declared.fault.FarmFault.{FarmFault}
use Rattle.farm_types.specs.declared.fault.FarmFault.TheVariants as farm_fault
use Rattle.farm_types.specs.Farm.{Farm}
use Rattle.farm_types.specs.Formed.{IsFormed}
use Rattle.farm_types.specs.Step.{HasCondition, after, refusal_of}
use Rattle.farm_rows.specs.declared.row_change.RowChange.{RowChange}
use Rattle.farm_rows.specs.Changes.{NamesExactly}
use Rattle.farm_rows.specs.Rows.{rows_of}
use Rattle.farm_keeper.specs.Keeping.{Committing}
use Rattle.farm_core.specs.declared.change.Change.{Change}
use Rattle.farm_core.specs.Change.{Makes, Prepares, after_change}
use Rattle.booking_rule.specs.declared.view.View.{View}
use Rattle.booking_rule.specs.Kept.{farm_in}
use Rattle.farm_stands.specs.declared.turn.Turn.{Turn}
use Rattle.farm_stands.specs.Turns.{Covers, turns_of}
use Rattle.recorder.specs.declared.refusal.RecordFault as plain
use Rattle.recorder.specs.declared.refusal.RecordFault.TheVariants as plain_fault
use Rattle.recorder.specs.Faults as plain_faults
use Rattle.recorder.specs.Recording as plain_records
use Rattle.recorder.specs.Recording.{IsOfEntry}
use Rattle.recorder.specs.Telling.{EndsTelling}
use Rattle.recording_core.specs.Machine.{IsBooking}
use Rattle.booking_recorder.specs.declared.refusal.CommitRefusal.{CommitRefusal}
use Rattle.booking_recorder.specs.declared.refusal.CommitRefusal.TheVariants as refusal
use Rattle.booking_recorder.specs.declared.refusal.RecordFault.{RecordFault}
use Rattle.booking_recorder.specs.declared.refusal.RecordFault.TheVariants as fault
use Rattle.booking_recorder.specs.Entries.{Commits, FailsToRecord, HeldAtFault, IsHeldBy, IsHeldIn, IsSpentAt, Records, RecordsAnswered, TellsAtFault, TellsCommit, TellsRecord}
use Rattle.booking_recorder.specs.Faults.{is_by_held, is_by_store, is_held_fault, is_held_refusal, is_of_held, is_of_store, is_spent, is_spent_fault, is_store_fault, is_store_refusal, of_farm, of_plain, of_record}
use Rattle.booking_recorder.specs.Recording.{most_entries}
use Rattle.booking_recorder.specs.Views.{Enters, Stays}
use Rattle.booking_recorder.proofs.Rests.{farm_entered, farm_stays, stays_same}

-- ---- a fault of the plain recorder

pub store_of_plain : (why : plain.RecordFault) → plain_faults.is_of_store why ≡ is_of_store (of_plain why)
store_of_plain plain_fault.Store = refl
store_of_plain plain_fault.NoMemory = refl

fails_plain : (old changed new : Farm) (why : plain.RecordFault) → plain_records.FailsToRecord old changed why new
    → FailsToRecord old changed (of_plain why) new
fails_plain old changed new plain_fault.Store fails = fails
fails_plain old changed new plain_fault.NoMemory fails = fails

pub records_plain : {T : Type 0} (old changed new : Farm) (why : plain.RecordFault) (r : Result T RecordFault) → IsErrAnd r (λ told. told ≡ of_plain why)
    → plain_records.FailsToRecord old changed why new → Records old changed r new
records_plain {T = T} old changed new why r err fails =
    let p = err_from_is_err_and r err in
    subst (λ (q : Result T RecordFault). Records old changed q new) (sym (p.1 ∙ ap Err p.2)) (fails_plain old changed new why fails)

pub store_plain : {T : Type 0} (why : plain.RecordFault) (r : Result T RecordFault) → IsErrAnd r (λ told. told ≡ of_plain why)
    → plain_faults.is_of_store why ≡ is_store_fault r
store_plain why r err =
    let p = err_from_is_err_and r err in
    store_of_plain why ∙ sym (ap is_store_fault p.1 ∙ ap is_of_store p.2)

spent_of_plain : (why : plain.RecordFault) → is_spent_fault (of_plain why) ≡ false
spent_of_plain plain_fault.Store = refl
spent_of_plain plain_fault.NoMemory = refl

pub unspent_plain : {T : Type 0} (why : plain.RecordFault) (r : Result T RecordFault) → IsErrAnd r (λ told. told ≡ of_plain why) → is_spent r ≡ false
unspent_plain why r err =
    let p = err_from_is_err_and r err in
    ap is_spent p.1 ∙ ap is_spent_fault p.2 ∙ spent_of_plain why

held_of_plain : (why : plain.RecordFault) → is_of_held (of_plain why) ≡ false
held_of_plain plain_fault.Store = refl
held_of_plain plain_fault.NoMemory = refl

pub never_held_plain : {T : Type 0} (why : plain.RecordFault) (r : Result T RecordFault) → IsErrAnd r (λ told. told ≡ of_plain why)
    → is_held_fault r ≡ false
never_held_plain why r err =
    let p = err_from_is_err_and r err in
    ap is_held_fault p.1 ∙ ap is_of_held p.2 ∙ held_of_plain why

unheld_of_plain : (f : Farm) (e : Entry) (v w : View) (why : plain.RecordFault) → HeldAtFault f e v (of_plain why) w
unheld_of_plain f e v w plain_fault.Store = tt
unheld_of_plain f e v w plain_fault.NoMemory = tt

pub unheld_plain : {T : Type 0} (f : Farm) (e : Entry) (v w : View) (why : plain.RecordFault) (r : Result T RecordFault)
    → IsErrAnd r (λ told. told ≡ of_plain why)
    → IsHeldBy f e v r w
unheld_plain {T = T} f e v w why r err =
    let p = err_from_is_err_and r err in
    subst (λ (q : Result T RecordFault). IsHeldBy f e v q w) (sym (p.1 ∙ ap Err p.2)) (unheld_of_plain f e v w why)

module _ {K : Type 0} (commits : Committing K) where
  tells_plain : (f : Farm) (e : Entry) (before now : K) (why : plain.RecordFault) → EndsTelling commits f (e ∷ []) (plain_faults.is_of_store why) before now
      → TellsAtFault commits f e (of_plain why) before now
  tells_plain f e before now plain_fault.Store told = told
  tells_plain f e before now plain_fault.NoMemory told = told

  pub told_plain : {T : Type 0} (f : Farm) (e : Entry) (before now : K) (why : plain.RecordFault) (r : Result T RecordFault)
      → IsErrAnd r (λ told. told ≡ of_plain why)
      → EndsTelling commits f (e ∷ []) (plain_faults.is_of_store why) before now → TellsRecord commits f e r before now
  told_plain {T = T} f e before now why r err told =
      let p = err_from_is_err_and r err in
      subst (λ (q : Result T RecordFault). TellsRecord commits f e q before now) (sym (p.1 ∙ ap Err p.2)) (tells_plain f e before now why told)

  -- ---- an answer

  tells_answer : (f : Farm) (e : Entry) (before now : K) → refusal_of f e ≡ None → (why : RecordFault) → TellsAtFault commits f e why before now
      → TellsCommit {T = Answer} commits f e (Err (of_record why)) before now
  tells_answer f e before now accepts fault.Spent told = told
  tells_answer f e before now accepts (fault.Held cores memory) told = told
  tells_answer f e before now accepts fault.Store told = told
  tells_answer f e before now accepts fault.NoMemory (inl same) = inl same
  tells_answer f e before now accepts fault.NoMemory (inr told) = inr (accepts, told)

  pub told_answer : (f : Farm) (e : Entry) (before now : K) → refusal_of f e ≡ None → (why : RecordFault) (r : Result Answer CommitRefusal)
      → IsErrAnd r (λ said. said ≡ of_record why) → TellsAtFault commits f e why before now → TellsCommit commits f e r before now
  told_answer f e before now accepts why r err told =
      let p = err_from_is_err_and r err in
      subst (λ (q : Result Answer CommitRefusal). TellsCommit commits f e q before now) (sym (p.1 ∙ ap Err p.2)) (tells_answer f e before now accepts why told)

  tells_farm : (f : Farm) (e : Entry) (k : K) (why : FarmFault) → TellsCommit {T = Answer} commits f e (Err (of_farm why)) k k
  tells_farm f e k (farm_fault.Refused why) = refl
  tells_farm f e k farm_fault.NoMemory = inl refl

  pub told_farm : (f : Farm) (e : Entry) (k : K) (why : FarmFault) (r : Result Answer CommitRefusal) → IsErrAnd r (λ said. said ≡ of_farm why)
      → TellsCommit commits f e r k k
  told_farm f e k why r err =
      let p = err_from_is_err_and r err in
      subst (λ (q : Result Answer CommitRefusal). TellsCommit commits f e q k k) (sym (p.1 ∙ ap Err p.2)) (tells_farm f e k why)

store_of_record : (why : RecordFault) → is_of_store why ≡ is_by_store (of_record why)
store_of_record fault.Spent = refl
store_of_record (fault.Held cores memory) = refl
store_of_record fault.Store = refl
store_of_record fault.NoMemory = refl

pub store_answer : (why : RecordFault) (r : Result Answer CommitRefusal) → IsErrAnd r (λ told. told ≡ of_record why) → is_of_store why ≡ is_store_refusal r
store_answer why r err =
    let p = err_from_is_err_and r err in
    store_of_record why ∙ sym (ap is_store_refusal p.1 ∙ ap is_by_store p.2)

same_held : (why : RecordFault) → is_by_held (of_record why) ≡ is_of_held why
same_held fault.Spent = refl
same_held (fault.Held cores memory) = refl
same_held fault.Store = refl
same_held fault.NoMemory = refl

pub alone_answer : (why : RecordFault) (r : Result Answer CommitRefusal) → IsErrAnd r (λ told. told ≡ of_record why) → is_of_held why ≡ false
    → is_held_refusal r ≡ false
alone_answer why r err none =
    let p = err_from_is_err_and r err in
    ap is_held_refusal p.1 ∙ ap is_by_held p.2 ∙ same_held why ∙ none

fails_answer : (old changed new : Farm) (answer : Answer) (why : RecordFault) → FailsToRecord old changed why new
    → RecordsAnswered old changed answer (Err (of_record why)) new
fails_answer old changed new answer fault.Spent fails = fails
fails_answer old changed new answer (fault.Held cores memory) fails = fails
fails_answer old changed new answer fault.Store fails = fails
fails_answer old changed new answer fault.NoMemory fails = fails

pub answered : (old changed new : Farm) (answer : Answer) (why : RecordFault) (r : Result Answer CommitRefusal) → IsErrAnd r (λ told. told ≡ of_record why)
    → FailsToRecord old changed why new → RecordsAnswered old changed answer r new
answered old changed new answer why r err fails =
    let p = err_from_is_err_and r err in
    subst (λ (q : Result Answer CommitRefusal). RecordsAnswered old changed answer q new) (sym (p.1 ∙ ap Err p.2))
    (fails_answer old changed new answer why fails)

held_of_record : (f : Farm) (e : Entry) (v w : View) (why : RecordFault) → HeldAtFault f e v why w → IsHeldIn {T = Answer} f e v (Err (of_record why)) w
held_of_record f e v w fault.Spent held = tt
held_of_record f e v w (fault.Held cores memory) held = held
held_of_record f e v w fault.Store held = tt
held_of_record f e v w fault.NoMemory held = tt

pub held_answer : (f : Farm) (e : Entry) (v w : View) (why : RecordFault) (r : Result Answer CommitRefusal) → IsErrAnd r (λ told. told ≡ of_record why)
    → HeldAtFault f e v why w → IsHeldIn f e v r w
held_answer f e v w why r err held =
    let p = err_from_is_err_and r err in
    subst (λ (q : Result Answer CommitRefusal). IsHeldIn f e v q w) (sym (p.1 ∙ ap Err p.2)) (held_of_record f e v w why held)

spent_of_record : (n : ℕ) (why : RecordFault) → is_spent_fault why ≡ (n == most_entries) → IsSpentAt {T = Answer} n (Err (of_record why))
spent_of_record n fault.Spent is = sym is
spent_of_record n (fault.Held cores memory) is = sym is
spent_of_record n fault.Store is = sym is
spent_of_record n fault.NoMemory is = tt

pub spent_answer : (n : ℕ) (why : RecordFault) (r : Result Answer CommitRefusal) → IsErrAnd r (λ told. told ≡ of_record why)
    → is_spent_fault why ≡ (n == most_entries) → IsSpentAt n r
spent_answer n why r err is =
    let p = err_from_is_err_and r err in
    subst (λ (q : Result Answer CommitRefusal). IsSpentAt n q) (sym (p.1 ∙ ap Err p.2)) (spent_of_record n why is)

pub stays_answer : (v w : View) (e : Entry) (why : RecordFault) (r : Result Answer CommitRefusal) → IsErrAnd r (λ told. told ≡ of_record why) → Stays v w
    → Enters v e r w
stays_answer v w e why (Ok said) err stays = absurd err
stays_answer v w e why (Err fault) err stays = stays

pub nothing_entered : (v : View) (e : Entry) (why : FarmFault) (r : Result Answer CommitRefusal) → IsErrAnd r (λ told. told ≡ of_farm why) → Enters v e r v
nothing_entered v e why (Ok said) err = absurd err
nothing_entered v e why (Err fault) err = stays_same v

-- ---- an entry

refused_as : (f : Farm) (e : Entry) (why : FarmFault) → Prepares f e (Err why) → Commits f e (Err (of_farm why)) f
refused_as f e (farm_fault.Refused why) is = (is, refl)
refused_as f e farm_fault.NoMemory is = refl

pub commits_nothing : (f : Farm) (e : Entry) (why : FarmFault) (r : Result Answer CommitRefusal) → IsErrAnd r (λ told. told ≡ of_farm why)
    → Prepares f e (Err why)
    → Commits f e r f
commits_nothing f e why r err is =
    let p = err_from_is_err_and r err in
    subst (λ (q : Result Answer CommitRefusal). Commits f e q f) (sym (p.1 ∙ ap Err p.2)) (refused_as f e why is)

not_store : (why : FarmFault) → is_by_store (of_farm why) ≡ false
not_store (farm_fault.Refused why) = refl
not_store farm_fault.NoMemory = refl

pub never_store : (why : FarmFault) (r : Result Answer CommitRefusal) → IsErrAnd r (λ told. told ≡ of_farm why) → is_store_refusal r ≡ false
never_store why r err =
    let p = err_from_is_err_and r err in
    ap is_store_refusal p.1 ∙ (ap is_by_store p.2 ∙ not_store why)

not_held : (why : FarmFault) → is_by_held (of_farm why) ≡ false
not_held (farm_fault.Refused why) = refl
not_held farm_fault.NoMemory = refl

pub alone_farm : (why : FarmFault) (r : Result Answer CommitRefusal) → IsErrAnd r (λ told. told ≡ of_farm why) → is_held_refusal r ≡ false
alone_farm why r err =
    let p = err_from_is_err_and r err in
    ap is_held_refusal p.1 ∙ (ap is_by_held p.2 ∙ not_held why)

never_held : (f : Farm) (e : Entry) (v w : View) (n : ℕ) (why : FarmFault)
    → IsHeldIn {T = Answer} f e v (Err (of_farm why)) w × IsSpentAt {T = Answer} n (Err (of_farm why))
never_held f e v w n (farm_fault.Refused why) = (tt, tt)
never_held f e v w n farm_fault.NoMemory = (tt, tt)

pub none_held : (f : Farm) (e : Entry) (v w : View) (n : ℕ) (why : FarmFault) (r : Result Answer CommitRefusal) → IsErrAnd r (λ told. told ≡ of_farm why)
    → IsHeldIn f e v r w × IsSpentAt n r
none_held f e v w n why r err =
    let p = err_from_is_err_and r err in
    subst (λ (q : Result Answer CommitRefusal). IsHeldIn f e v q w × IsSpentAt n q) (sym (p.1 ∙ ap Err p.2)) (never_held f e v w n why)

pub of_entry : (f : Farm) (e : Entry) (change : Change) → IsFormed e → HasCondition f e.act → Makes f e change → IsOfEntry f e change
of_entry f e change formed condition makes =
    record { legal = record { formed = formed; accepted = makes.planned.accepted; condition = condition }; makes = makes }

pub unbooked_condition : (f : Farm) (a : Act) → (IsBooking a → ⊥) → HasCondition f a
unbooked_condition f (act.Book slot host) none = absurd (none tt)
unbooked_condition f act.Opened none = tt
unbooked_condition f (act.Show name) none = tt
unbooked_condition f (act.Alloc facility tag) none = tt
unbooked_condition f (act.Sub line) none = tt
unbooked_condition f (act.Limit name most) none = tt
unbooked_condition f (act.Boot line) none = tt
unbooked_condition f (act.Heard heard) none = tt
unbooked_condition f (act.Submit spec) none = tt
unbooked_condition f (act.AddDepend spec) none = tt
unbooked_condition f (act.DropDepend depend) none = tt
unbooked_condition f (act.Pause job paused) none = tt
unbooked_condition f (act.KillJob job) none = tt
unbooked_condition f (act.KillFrame p) none = tt
unbooked_condition f (act.EatFrame p) none = tt
unbooked_condition f (act.RetryFrame p) none = tt
unbooked_condition f (act.Lock host lock) none = tt
unbooked_condition f act.Tick none = tt

pub commits_made : (f new : Farm) (e : Entry) (change : Change) → Makes f e change → (r : Result Answer CommitRefusal)
    → RecordsAnswered f (after_change f change) change.answer r new → Commits f e r new
commits_made f new e change makes (Ok said) is = (makes.planned.accepted, is.0 ∙ makes.planned.answer, is.1 ∙ makes.planned.farm)
commits_made f new e change makes (Err (refusal.Refused why)) is = absurd is
commits_made f new e change makes (Err refusal.Spent) is = (makes.planned.accepted, is)
commits_made f new e change makes (Err (refusal.Held cores memory)) is = (makes.planned.accepted, is)
commits_made f new e change makes (Err refusal.Store) is = (makes.planned.accepted, λ rows. is.1 (rows ∙ ap rows_of (sym makes.planned.farm)), is.0)
commits_made f new e change makes (Err refusal.NoMemory) is = is

-- ---- a change

pub names_then : (f : Farm) (e : Entry) (change : Change) → Makes f e change → (shown : List RowChange) → shown ≡ change.rows → NamesExactly f (after f e) shown
names_then f e change makes shown is =
    subst (NamesExactly f (after f e)) (sym is) (subst (λ (g : Farm). NamesExactly f g change.rows) makes.planned.farm makes.rows)

farm_failed : (f changed g : Farm) (why : RecordFault) → FailsToRecord f changed why g → g ≡ f
farm_failed f changed g fault.Spent is = is
farm_failed f changed g (fault.Held cores memory) is = is
farm_failed f changed g fault.Store is = is.0
farm_failed f changed g fault.NoMemory is = is

-- the seat's journal leads to the farm that was recorded, or still to the one before
pub leads_on : {T : Type 0} (f changed g : Farm) (v w : View) (e : Entry) (r : Result T RecordFault) → f ≡ farm_in v → changed ≡ after f e
    → Records f changed r g
    → Enters v e r w → g ≡ farm_in w
leads_on f changed g v w e (Ok done) leads makes is enters = is ∙ makes ∙ ap (λ (x : Farm). after x e) leads ∙ sym (farm_entered v w e enters)
leads_on f changed g v w e (Err why) leads makes is enters = farm_failed f changed g why is ∙ leads ∙ sym (farm_stays v w enters)

-- the turns of a change's rows cover its entry
pub covers_of : (f : Farm) (e : Entry) (change : Change) → Makes f e change → (shown : List RowChange) → shown ≡ change.rows
    → {E : Type 0} (r : Result (List Turn) E) → IfOk r (λ ts. ts ≡ turns_of f shown)
    → (NamesExactly f (after f e) shown → Covers f (after f e) (turns_of f shown)) → IfOk r (λ ts. Covers f (after f e) ts)
covers_of f e change makes shown is (Ok ts) made covers =
    subst (Covers f (after f e)) (sym made) (covers (names_then f e change makes shown is))
covers_of f e change makes shown is (Err why) made covers = made
