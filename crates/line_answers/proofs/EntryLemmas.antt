-- An entry that a line asks, on the words: what comes of it, and what hinders it.
use Rattle.std.proofs.Common.{◌≡◌, ℕ, ◌==◌, ◌<◌, ◌+◌, ◌^◌, true, false, List, [], ◌∷◌, length, IfOk, inr, refl, sym, arith}
use Rattle.std.proofs.Common.{true≢false}
use Rattle.std.specs.Prelude.{IfErr, None, Result, Ok, Err}
use Rattle.std.proofs.lemmas.Bool.{eqb-true}
use Rattle.farm_types.specs.declared.entry.Act.{Act}
use Rattle.farm_types.specs.declared.entry.Act.TheVariants as act
use Rattle.farm_types.specs.declared.entry.Entry.{Entry}
use Rattle.farm_types.specs.Farm.{Farm}
use Rattle.farm_types.specs.Step.{refusal_of}
use Rattle.farm_keeper.specs.Keeping.{Committing, Continues}
use Rattle.booking_rule.specs.declared.view.View.{View}
use Rattle.recording_core.specs.Machine.{IsBooking}
use Rattle.dispatcher.specs.recording_turns.specs.Resting.{split_in}
use Rattle.dispatcher.specs.booking_recorder.specs.declared.refusal.RecordFault.{RecordFault}
use Rattle.dispatcher.specs.booking_recorder.specs.declared.refusal.RecordFault.TheVariants as fault
use Rattle.dispatcher.specs.booking_recorder.specs.Entries.{FailsToRecord, HeldAtFault, TellsAtFault}
use Rattle.dispatcher.specs.booking_recorder.specs.Faults.{is_of_held, is_of_store, is_spent_fault}
use Rattle.dispatcher.specs.booking_recorder.specs.Recording.{Recording, most_entries}
use Rattle.dispatcher.specs.booking_recorder.specs.Views.{Stays}
use Rattle.line_answers.specs.Asking.{IsNoBooking}
use Rattle.line_answers.specs.declared.hindered.Hindered.{Hindered}
use Rattle.line_answers.specs.declared.hindered.Hindered.TheVariants as hindered
use Rattle.line_answers.specs.declared.limits.TheConstants.{ENTRIES_EACH}
use Rattle.line_answers.specs.declared.reply_line.ReplyLine.{ReplyLine}
use Rattle.line_answers.specs.declared.reply_line.ReplyLine.TheVariants as reply_line
use Rattle.line_answers.specs.Entering.{AnswersOn, EntersAnswer, IsHindered, is_store_answer, unrecorded}
use Rattle.line_answers.specs.LineAnswers.{IsRecorded}
use Rattle.line_answers.specs.Lines.{is_store_line, recorded_by}
use Rattle.line_answers.proofs.ToldLemmas.{AnswersOn-asked, GoesOn-none}

-- what is no booking for requests is none for the recorder
pub never_books : (does : Act) → IsNoBooking does → IsBooking does → ⊥
never_books (act.Book slot host) none books = none
never_books does none books = books

-- ---- an entry that wasn't recorded

pub fails_recorded : (old changed new : Farm) (written : List ℕ) (why : RecordFault) → FailsToRecord old changed why new
    → IfOk (unrecorded why) (λ told. IsRecorded old changed written new told)
fails_recorded old changed new written fault.Spent fails = tt
fails_recorded old changed new written (fault.Held cores memory) fails = tt
fails_recorded old changed new written fault.Store fails = fails
fails_recorded old changed new written fault.NoMemory fails = (refl, fails)

pub fails_entered : (v w : View) (e : Entry) (why : RecordFault) → Stays v w → EntersAnswer v e (unrecorded why) w
fails_entered v w e fault.Spent stays = stays
fails_entered v w e (fault.Held cores memory) stays = stays
fails_entered v w e fault.Store stays = inr stays
fails_entered v w e fault.NoMemory stays = inr stays

pub fails_counted : (why : RecordFault) → is_of_store why ≡ is_store_answer (unrecorded why)
fails_counted fault.Spent = refl
fails_counted (fault.Held cores memory) = refl
fails_counted fault.Store = refl
fails_counted fault.NoMemory = refl

module _ {K : Type 0} (commits : Committing K) (tells : K → Type 0) (faults : K → ℕ) (before now : Recording K) (e : Entry) where
  pub fails_went : (why : RecordFault) → Continues tells faults before.keeper now.keeper (is_of_store why)
      → TellsAtFault commits before.farm e why before.keeper now.keeper → Stays before.view now.view
      → is_spent_fault why ≡ (length before.view.journal == most_entries)
      → IfOk (unrecorded why) (λ told. AnswersOn commits tells faults before now told (e ∷ []) (recorded_by e told) (is_store_line told))
  fails_went fault.Spent goes told stays spent = tt
  fails_went (fault.Held cores memory) goes told stays spent = tt
  fails_went fault.Store goes told stays spent =
      AnswersOn-asked commits tells faults before now reply_line.Store (e ∷ []) [] spent
      (GoesOn-none commits tells faults before now (e ∷ []) true goes told stays)
  fails_went fault.NoMemory goes told stays spent =
      AnswersOn-asked commits tells faults before now reply_line.NoMemory (e ∷ []) [] spent
      (GoesOn-none commits tells faults before now (e ∷ []) false goes told stays)

  pub fails_hindered : (changed : Farm) (why : RecordFault) → refusal_of before.farm e ≡ None → FailsToRecord before.farm changed why now.farm
      → TellsAtFault commits before.farm e why before.keeper now.keeper → HeldAtFault before.farm e before.view why now.view
      → (split_in before.view.desk ≡ 0 → is_of_held why ≡ false) → is_spent_fault why ≡ (length before.view.journal == most_entries)
      → IfErr (unrecorded why) (λ hinders. IsHindered before e hinders now)
  fails_hindered changed fault.Spent accepts fails told held alone spent =
      record { accepted = accepts; farm = fails; keeper = told; hinders = sym spent }
  fails_hindered changed (fault.Held cores memory) accepts fails told held alone spent =
      record { accepted = accepts; farm = fails; keeper = told; hinders = (λ one. true≢false (alone one), sym spent, held) }
  fails_hindered changed fault.Store accepts fails told held alone spent = tt
  fails_hindered changed fault.NoMemory accepts fails told held alone spent = tt

-- ---- a recorder alone that has room

pub has_room : (n : ℕ) → n + ENTRIES_EACH < 2 ^ 64 → (n == most_entries) ≡ true → ⊥
has_room n room spent = absurd (omega (arith, room, eqb-true n most_entries spent))

-- nothing hinders it
pub unhindered : {K : Type 0} (before now : Recording K) (e : Entry) (why : Hindered) → split_in before.view.desk ≡ 0
    → length before.view.journal + ENTRIES_EACH < 2 ^ 64 → IsHindered before e why now → ⊥
unhindered before now e (hindered.Held cores memory) alone room is = is.hinders.0 alone
unhindered before now e hindered.Spent alone room is = has_room (length before.view.journal) room is.hinders

pub never_hindered : {K : Type 0} (before now : Recording K) (e : Entry) (came : Result ReplyLine Hindered) → split_in before.view.desk ≡ 0
    → length before.view.journal + ENTRIES_EACH < 2 ^ 64 → IfErr came (λ why. IsHindered before e why now) → IfErr came (λ why. ⊥)
never_hindered before now e (Ok line) alone room is = tt
never_hindered before now e (Err why) alone room is = unhindered before now e why alone room is
