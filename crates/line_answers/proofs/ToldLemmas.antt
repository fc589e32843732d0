-- What a keeper was told of a line, and what the journal gained, from what each entry did.
use Rattle.std.proofs.Common.{◌≡◌, ◌∙◌, ◌==◌, ℕ, Bool, false, List, [], ◌∷◌, length, Option, None, Result, Ok, Err, IfOk, inl, inr, refl, sym, ap, subst, true≢false}
use Rattle.farm_types.specs.declared.entry.Entry.{Entry}
use Rattle.farm_types.specs.Dispatch.{round_for}
use Rattle.farm_types.specs.Farm.{host_named}
use Rattle.farm_types.specs.Step.{after, refusal_of}
use Rattle.farm_keeper.specs.Keeping.{Committing, Continues}
use Rattle.farm_keeper.proofs.KeepingLaws.{Continues-same, Continues-then}
use Rattle.farm_lines.specs.Asked.{heard_entry}
use Rattle.farm_lines.specs.declared.report.Report.{Report}
use Rattle.farm_lines.specs.Transcript.{Answered, Plain, entry_answer, unless_memory}
use Rattle.dispatcher.specs.recorder.specs.Telling.{EndsTelling, TakesEach, Tells}
use Rattle.dispatcher.specs.recorder.proofs.Told.{tells_all, tells_behind, tells_none, tells_still}
use Rattle.dispatcher.specs.booking_recorder.specs.declared.refusal.CommitRefusal.{CommitRefusal}
use Rattle.dispatcher.specs.booking_recorder.specs.declared.refusal.CommitRefusal.TheVariants as refusal
use Rattle.dispatcher.specs.booking_recorder.specs.Entries.{TellsCommit}
use Rattle.dispatcher.specs.booking_recorder.specs.Faults.{is_by_store}
use Rattle.dispatcher.specs.booking_recorder.specs.Going.{GoesOn}
use Rattle.dispatcher.specs.booking_recorder.specs.Recording.{Recording, most_entries}
use Rattle.dispatcher.specs.booking_recorder.specs.Views.{Entered, Stays}
use Rattle.dispatcher.specs.booking_recorder.proofs.Journaled.{journals_entered, journals_none, journals_stays, journals_then}
use Rattle.line_answers.specs.declared.hindered.Hindered.{Hindered}
use Rattle.line_answers.specs.declared.reply_line.ReplyLine.{ReplyLine}
use Rattle.line_answers.specs.Entering.{AnswersOn, WasHeard}
use Rattle.line_answers.specs.LineAnswers.{AnswersEntry, Hears, MayStoreEntry, reported}
use Rattle.line_answers.specs.Lines.{is_store_line, shown}
use Rattle.line_answers.proofs.AnswerLemmas.{went_as}
use Rattle.line_answers.proofs.ReportLemmas.{accepted_is, host_of}

module _ {K : Type 0} (commits : Committing K) (tells : K → Type 0) (faults : K → ℕ) where
  -- the recorder wasn't asked
  pub GoesOn-same : (r : Recording K) (all : List Entry) → GoesOn commits tells faults r r all [] false
  GoesOn-same r all =
      record { keeper = Continues-same tells faults r.keeper; told = tells_still commits r.farm all r.keeper; journals = journals_none r.view }

  -- an entry was recorded
  pub GoesOn-taken : (before now : Recording K) (e : Entry) → Continues tells faults before.keeper now.keeper false
      → TakesEach commits before.farm (e ∷ []) before.keeper now.keeper → Entered before.view e now.view
      → GoesOn commits tells faults before now (e ∷ []) (e ∷ []) false
  GoesOn-taken before now e goes taken entered = record {
    keeper = goes;
    told = tells_all commits before.farm (e ∷ []) before.keeper now.keeper taken;
    journals = journals_entered before.view e now.view entered;
  }

  -- it wasn't
  pub GoesOn-none : (before now : Recording K) (all : List Entry) (failed : Bool) → Continues tells faults before.keeper now.keeper failed
      → EndsTelling commits before.farm all failed before.keeper now.keeper → Stays before.view now.view
      → GoesOn commits tells faults before now all [] failed
  GoesOn-none before now all failed goes ends stays = record {
    keeper = goes;
    told = tells_none commits before.farm all failed before.keeper now.keeper ends;
    journals = journals_stays before.view now.view stays;
  }

  -- an entry, and those behind it
  pub GoesOn-behind : (before mid now : Recording K) (e : Entry) → mid.farm ≡ after before.farm e → Continues tells faults before.keeper mid.keeper false
      → TakesEach commits before.farm (e ∷ []) before.keeper mid.keeper → Entered before.view e mid.view → (es done : List Entry) (failed : Bool)
      → GoesOn commits tells faults mid now es done failed → GoesOn commits tells faults before now (e ∷ es) (e ∷ done) failed
  GoesOn-behind before mid now e is goes first entered es done failed later = record {
    keeper = Continues-then tells faults before.keeper mid.keeper now.keeper failed goes later.keeper;
    told = tells_behind commits before.farm mid.farm e es done failed before.keeper mid.keeper now.keeper is first later.told;
    journals = journals_then before.view mid.view now.view (e ∷ []) done (journals_entered before.view e mid.view entered) later.journals;
  }

  -- ---- a line that tells of the store where it failed

  -- the recorder wasn't asked, and the line tells of no store
  pub AnswersOn-same : (r : Recording K) (line : ReplyLine) → is_store_line line ≡ false → (all : List Entry)
      → AnswersOn commits tells faults r r line all [] false
  AnswersOn-same r line never all = record { goes = GoesOn-same r all; told = sym never; room = λ full. (refl, refl) }

  -- where it was asked, the journal had room
  pub AnswersOn-asked : (before now : Recording K) (line : ReplyLine) (all done : List Entry) → false ≡ (length before.view.journal == most_entries)
      → GoesOn commits tells faults before now all done (is_store_line line) → AnswersOn commits tells faults before now line all done (is_store_line line)
  AnswersOn-asked before now line all done unspent goes =
      record { goes = goes; told = refl; room = λ full. absurd (true≢false (sym (unspent ∙ full))) }

  -- an entry that nothing hindered was answered
  pub answered_alone : (before now : Recording K) (e : Entry) (came : Result ReplyLine Hindered) (line : ReplyLine) → came ≡ Ok line
      → IfOk came (λ told. AnswersEntry before.farm e now.farm (shown told) (AnswersOn commits tells faults before now told))
      → AnswersEntry before.farm e now.farm (shown line) (GoesOn commits tells faults before now)
  answered_alone before now e came line is answered =
      went_as before.farm now.farm (shown line) (λ mark. unless_memory mark (entry_answer before.farm e mark (refusal_of before.farm e)))
      (MayStoreEntry before.farm e) (AnswersOn commits tells faults before now line) (GoesOn commits tells faults before now) (λ all done failed on. on.goes)
      (subst
      (λ (r : Result ReplyLine Hindered). IfOk r (λ told. AnswersEntry before.farm e now.farm (shown told) (AnswersOn commits tells faults before now told)))
      is answered)

  -- ---- a report that wasn't recorded

  module _ (before now : Recording K) (report : Report) (moment : ℕ) where
    abbrev heard : Entry
    heard = heard_entry report moment

    abbrev all : List Entry
    all = (reported before.farm report moment Plain).entries

    -- what the farm takes of it
    taken_entries : refusal_of before.farm heard ≡ None → (host : ℕ) × (all ≡ heard ∷ round_for (after before.farm heard) host moment)
    taken_entries accepts =
        let host = host_of before.farm report moment (host_named before.farm report.heard.host) refl accepts in
        (host.0, ap (λ (a : Answered). a.entries) (accepted_is before.farm report moment host.0 Plain accepts host.1))

    ends_at : refusal_of before.farm heard ≡ None → (failed : Bool)
        → ((es : List Entry) → EndsTelling commits before.farm (heard ∷ es) failed before.keeper now.keeper)
        → Tells commits before.farm all [] failed before.keeper now.keeper
    ends_at accepts failed ends =
        let taken = taken_entries accepts in
        subst (λ (es : List Entry). Tells commits before.farm es [] failed before.keeper now.keeper) (sym taken.1)
        (tells_none commits before.farm _ failed before.keeper now.keeper (ends (round_for (after before.farm heard) taken.0 moment)))

    untold_by : now.keeper ≡ before.keeper → Tells commits before.farm all [] false before.keeper now.keeper
    untold_by same =
        subst (λ (k : K). Tells commits before.farm all [] false before.keeper k) (sym same) (tells_still commits before.farm all before.keeper)

    told_by : (why : CommitRefusal) → Hears before.farm heard (Err why) now.farm
        → TellsCommit {T = Option ℕ} commits before.farm heard (Err why) before.keeper now.keeper
        → Tells commits before.farm all [] (is_by_store why) before.keeper now.keeper
    told_by (refusal.Refused why) heard_so told = untold_by told
    told_by refusal.Spent heard_so told = untold_by told
    told_by (refusal.Held cores memory) heard_so told = untold_by told
    told_by refusal.Store heard_so told = ends_at heard_so.0 (is_by_store refusal.Store) (λ es. told)
    told_by refusal.NoMemory heard_so (inl same) = untold_by same
    told_by refusal.NoMemory heard_so (inr told) = ends_at told.0 false (λ es. inr told.1)

    pub unheard_goes : (why : CommitRefusal) → WasHeard commits tells faults before heard (Err why) now
        → GoesOn commits tells faults before now all [] (is_by_store why)
    unheard_goes why was = record {
      keeper = was.keeper;
      told = told_by why was.farm was.told;
      journals = journals_stays before.view now.view was.journal;
    }
