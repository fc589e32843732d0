-- A report's entry: what comes of it where it is recorded, and where it isn't.
use Rattle.std.proofs.Common.{◌≡◌, ℕ, ◌==◌, ◌<◌, ◌+◌, ◌^◌, ◌∷◌, [], false, arith, length, length-append, refl, sym, ap, ◌∙◌, subst, Option, None, Result, Ok, Err, IsErrAnd, inl}
use Rattle.std.proofs.Common.{inr, true≢false}
use Rattle.std.proofs.lemmas.Result.{err_from_is_err_and}
use Rattle.farm_types.specs.declared.entry.Entry.{Entry}
use Rattle.farm_types.specs.declared.fault.FarmFault.{FarmFault}
use Rattle.farm_types.specs.declared.fault.FarmFault.TheVariants as prepare
use Rattle.farm_types.specs.declared.limits.TheConstants.{BOOKINGS_EACH}
use Rattle.farm_types.specs.Farm.{Farm}
use Rattle.farm_types.specs.Step.{refusal_of}
use Rattle.farm_keeper.specs.Keeping.{Committing}
use Rattle.farm_changes.specs.Change.{HasHeard}
use Rattle.dispatcher.specs.farm_core.specs.Change.{Makes, Prepares, after_change}
use Rattle.dispatcher.specs.farm_core.specs.declared.change.Change.{Change}
use Rattle.booking_rule.specs.declared.view.View.{View}
use Rattle.dispatcher.specs.recorder.specs.Recording.{ChangesRows}
use Rattle.dispatcher.specs.recording_turns.specs.Resting.{split_in}
use Rattle.dispatcher.specs.booking_recorder.specs.declared.refusal.CommitRefusal.{CommitRefusal}
use Rattle.dispatcher.specs.booking_recorder.specs.declared.refusal.CommitRefusal.TheVariants as refusal
use Rattle.dispatcher.specs.booking_recorder.specs.declared.refusal.RecordFault.{RecordFault}
use Rattle.dispatcher.specs.booking_recorder.specs.declared.refusal.RecordFault.TheVariants as fault
use Rattle.dispatcher.specs.booking_recorder.specs.Entries.{FailsToRecord, HeldAtFault, IsHeldIn, IsSpentAt, TellsAtFault, TellsCommit}
use Rattle.dispatcher.specs.booking_recorder.specs.Faults.{is_by_held, is_by_store, is_held_refusal, is_of_held, is_of_store, is_spent_fault, is_store_refusal, of_farm, of_record}
use Rattle.dispatcher.specs.booking_recorder.specs.Recording.{most_entries}
use Rattle.dispatcher.specs.booking_recorder.specs.Views.{Enters, Stays}
use Rattle.dispatcher.specs.booking_recorder.proofs.Journaled.{journals_entered, journals_stays}
use Rattle.line_answers.specs.declared.limits.TheConstants.{ENTRIES_EACH}
use Rattle.line_answers.specs.Entering.{is_hindered}
use Rattle.line_answers.specs.LineAnswers.{Hears}
use Rattle.line_answers.proofs.EntryLemmas.{has_room}

abbrev pub Came : Type 0
Came = Result (Option ℕ) CommitRefusal

-- a fault that is told as another
told_as : (found : CommitRefusal) (r : Came) → IsErrAnd r (λ told. told ≡ found) → r ≡ Err found
told_as found r err = let p = err_from_is_err_and r err in p.1 ∙ ap Err p.2

-- what isn't recorded leaves the journal
pub unentered : (v w : View) (e : Entry) (why : CommitRefusal) (r : Came) → IsErrAnd r (λ told. told ≡ why) → Stays v w → Enters v e r w
unentered v w e why r err stays = subst (λ (q : Came). Enters v e q w) (sym (told_as why r err)) stays

-- ---- no change was prepared

refused_as : (f : Farm) (e : Entry) (why : FarmFault) → Prepares f e (Err why) → Hears f e (Err (of_farm why)) f
refused_as f e (prepare.Refused why) refuses = (refuses, refl)
refused_as f e prepare.NoMemory fails = refl

pub unprepared : (f : Farm) (e : Entry) (why : FarmFault) (r : Came) → IsErrAnd r (λ told. told ≡ of_farm why) → Prepares f e (Err why) → Hears f e r f
unprepared f e why r err is = subst (λ (q : Came). Hears f e q f) (sym (told_as (of_farm why) r err)) (refused_as f e why is)

prepared_not : (why : FarmFault) → is_by_store (of_farm why) ≡ false
prepared_not (prepare.Refused why) = refl
prepared_not prepare.NoMemory = refl

-- and preparing tells of no store
pub never_store : (why : FarmFault) (r : Came) → IsErrAnd r (λ told. told ≡ of_farm why) → is_store_refusal r ≡ false
never_store why r err = ap is_store_refusal (told_as (of_farm why) r err) ∙ prepared_not why

-- nor of what others hold, nor of the journal
abbrev pub IsFree : Farm → Entry → View → View → ℕ → Came → Type 0
IsFree f e v w n r = IsHeldIn f e v r w × IsSpentAt n r × (is_held_refusal r ≡ false)

free_of_farm : (f : Farm) (e : Entry) (v w : View) (n : ℕ) (why : FarmFault) → IsFree f e v w n (Err (of_farm why))
free_of_farm f e v w n (prepare.Refused why) = (tt, tt, refl)
free_of_farm f e v w n prepare.NoMemory = (tt, tt, refl)

pub never_held : (f : Farm) (e : Entry) (v w : View) (n : ℕ) (why : FarmFault) (r : Came) → IsErrAnd r (λ told. told ≡ of_farm why) → IsFree f e v w n r
never_held f e v w n why r err = subst (IsFree f e v w n) (sym (told_as (of_farm why) r err)) (free_of_farm f e v w n why)

-- ---- its change was recorded, or not

pub was_heard : (f new : Farm) (e : Entry) (change : Change) (told : Option ℕ) → Makes f e change → told ≡ change.act.heard → new ≡ after_change f change
    → Hears f e (Ok told) new
was_heard f new e change told makes is now =
    (makes.planned.accepted, subst (HasHeard f e.act) (sym is) makes.planned.heard, now ∙ makes.planned.farm)

failed_as : (f new : Farm) (e : Entry) (change : Change) (why : RecordFault) → Makes f e change → FailsToRecord f (after_change f change) why new
    → Hears f e (Err (of_record why)) new
failed_as f new e change fault.Spent makes fails = (makes.planned.accepted, fails)
failed_as f new e change (fault.Held cores memory) makes fails = (makes.planned.accepted, fails)
failed_as f new e change fault.Store makes fails = (makes.planned.accepted, subst (ChangesRows f) makes.planned.farm fails.1, fails.0)
failed_as f new e change fault.NoMemory makes fails = fails

pub unheard : (f new : Farm) (e : Entry) (change : Change) (why : RecordFault) (r : Came) → IsErrAnd r (λ told. told ≡ of_record why) → Makes f e change
    → FailsToRecord f (after_change f change) why new → Hears f e r new
unheard f new e change why r err makes fails =
    subst (λ (q : Came). Hears f e q new) (sym (told_as (of_record why) r err)) (failed_as f new e change why makes fails)

store_of : (why : RecordFault) → is_of_store why ≡ is_by_store (of_record why)
store_of fault.Spent = refl
store_of (fault.Held cores memory) = refl
store_of fault.Store = refl
store_of fault.NoMemory = refl

-- the store failed where that is told, and only there
pub store_told : (why : RecordFault) (r : Came) → IsErrAnd r (λ told. told ≡ of_record why) → is_of_store why ≡ is_store_refusal r
store_told why r err = store_of why ∙ sym (ap is_store_refusal (told_as (of_record why) r err))

held_of : (f : Farm) (e : Entry) (v w : View) (why : RecordFault) → HeldAtFault f e v why w → IsHeldIn {T = Option ℕ} f e v (Err (of_record why)) w
held_of f e v w fault.Spent held = tt
held_of f e v w (fault.Held cores memory) held = held
held_of f e v w fault.Store held = tt
held_of f e v w fault.NoMemory held = tt

-- a host was held
pub held_told : (f : Farm) (e : Entry) (v w : View) (why : RecordFault) (r : Came) → IsErrAnd r (λ told. told ≡ of_record why) → HeldAtFault f e v why w
    → IsHeldIn f e v r w
held_told f e v w why r err held = subst (λ (q : Came). IsHeldIn f e v q w) (sym (told_as (of_record why) r err)) (held_of f e v w why held)

alone_of : (why : RecordFault) → is_by_held (of_record why) ≡ is_of_held why
alone_of fault.Spent = refl
alone_of (fault.Held cores memory) = refl
alone_of fault.Store = refl
alone_of fault.NoMemory = refl

-- none was
pub alone_told : (why : RecordFault) (r : Came) → IsErrAnd r (λ told. told ≡ of_record why) → is_of_held why ≡ false → is_held_refusal r ≡ false
alone_told why r err none = ap is_held_refusal (told_as (of_record why) r err) ∙ (alone_of why ∙ none)

spent_of : (n : ℕ) (why : RecordFault) → is_spent_fault why ≡ (n == most_entries) → IsSpentAt {T = Option ℕ} n (Err (of_record why))
spent_of n fault.Spent is = sym is
spent_of n (fault.Held cores memory) is = sym is
spent_of n fault.Store is = sym is
spent_of n fault.NoMemory is = tt

-- the journal is spent, or not
pub spent_told : (n : ℕ) (why : RecordFault) (r : Came) → IsErrAnd r (λ told. told ≡ of_record why) → is_spent_fault why ≡ (n == most_entries)
    → IsSpentAt n r
spent_told n why r err is = subst (IsSpentAt n) (sym (told_as (of_record why) r err)) (spent_of n why is)

-- ---- what the keeper was told

module _ {K : Type 0} (commits : Committing K) (f : Farm) (e : Entry) (before now : K) where
  untold : (why : FarmFault) → TellsCommit {T = Option ℕ} commits f e (Err (of_farm why)) before before
  untold (prepare.Refused why) = refl
  untold prepare.NoMemory = inl refl

  pub never_told : (why : FarmFault) (r : Came) → IsErrAnd r (λ told. told ≡ of_farm why) → TellsCommit commits f e r before before
  never_told why r err = subst (λ (q : Came). TellsCommit commits f e q before before) (sym (told_as (of_farm why) r err)) (untold why)

  told_of : refusal_of f e ≡ None → (why : RecordFault) → TellsAtFault commits f e why before now
      → TellsCommit {T = Option ℕ} commits f e (Err (of_record why)) before now
  told_of accepts fault.Spent told = told
  told_of accepts (fault.Held cores memory) told = told
  told_of accepts fault.Store told = told
  told_of accepts fault.NoMemory (inl same) = inl same
  told_of accepts fault.NoMemory (inr told) = inr (accepts, told)

  pub told_at_fault : refusal_of f e ≡ None → (why : RecordFault) (r : Came) → IsErrAnd r (λ said. said ≡ of_record why)
      → TellsAtFault commits f e why before now → TellsCommit commits f e r before now
  told_at_fault accepts why r err told =
      subst (λ (q : Came). TellsCommit commits f e q before now) (sym (told_as (of_record why) r err)) (told_of accepts why told)

-- ---- a recorder alone that has room

-- nothing hindered it
pub unhindered_report : (n : ℕ) (r : Came) → is_held_refusal r ≡ false → IsSpentAt n r → n + ENTRIES_EACH < 2 ^ 64 → is_hindered r ≡ false
unhindered_report n (Ok host) alone spent room = refl
unhindered_report n (Err (refusal.Refused why)) alone spent room = refl
unhindered_report n (Err refusal.Spent) alone spent room = absurd (has_room n room spent)
unhindered_report n (Err (refusal.Held cores memory)) alone spent room = absurd (true≢false alone)
unhindered_report n (Err refusal.Store) alone spent room = refl
unhindered_report n (Err refusal.NoMemory) alone spent room = refl

-- it is alone still
pub alone_after : (v w : View) (e : Entry) (r : Came) → split_in v.desk ≡ 0 → Enters v e r w → split_in w.desk ≡ 0
alone_after v w e (Ok host) alone entered = entered.split ∙ alone
alone_after v w e (Err why) alone stays = stays.split ∙ alone

-- and has room for a round
pub room_after : (v w : View) (e : Entry) (r : Came) → length v.journal + ENTRIES_EACH < 2 ^ 64 → Enters v e r w
    → length w.journal + BOOKINGS_EACH < 2 ^ 64
room_after v w e (Ok host) room entered =
    omega (arith, room, ap length (journals_entered v e w entered).journal, length-append v.journal (e ∷ []))
room_after v w e (Err why) room stays =
    omega (arith, room, ap length (journals_stays v w stays).journal, length-append v.journal [])
