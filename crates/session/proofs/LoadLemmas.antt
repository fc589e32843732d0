-- What a call of a load did.
use Rattle.std.proofs.Common.{◌≡◌, ◌<◌, ◌⊎◌, ℕ, List, [], ◌∷◌, ◌++◌, length, take, drop, length-drop, take-append-drop, inl, inr, refl, sym, ◌∙◌, subst, Option, None, Some, true≢false, ap, arith}
use Rattle.fault_counts.specs.Counts.{HasRisen}
use Rattle.cue_io.specs.Readings.{Tells, Tells-append}
use Rattle.command_line.specs.declared.status.Status.{Status}
use Rattle.command_line.specs.declared.status.Status.TheVariants as exit
use Rattle.farm_types.specs.declared.entry.Entry.{Entry}
use Rattle.farm_types.specs.Farm.{Farm}
use Rattle.farm_types.specs.Kept.{IsKeptFarm, KeepsRows}
use Rattle.farm_types.specs.Run.{IsSound, HasItsHosts, IsLegal, IsSafe}
use Rattle.farm_law.proofs.KeptChanges.{kept_hosts}
use Rattle.farm_lines.specs.Transcript.{Exchange, Mark}
use Rattle.farm_load.specs.declared.load_end.LoadEnd.{LoadEnd}
use Rattle.farm_load.specs.declared.load_end.LoadEnd.TheVariants as load_end
use Rattle.farm_load.specs.Loads.{AreMarks, load_run, load_start}
use Rattle.farm_load.specs.Summaries.{RunsLoad}
use Rattle.recovery.specs.declared.fault.RecoverFault.{RecoverFault}
use Rattle.session.specs.Loads.{AnswersLoad, TellsEnd, TellsSummary}
use Rattle.atomic_table.specs.declared.shared.Seat.{Seat}
use Rattle.farm_load.specs.booking_recorder.specs.Going.{Journals}
use Rattle.farm_load.specs.booking_recorder.specs.Recording.{Recording}
use Rattle.booking_rule.specs.declared.view.View.{View}
use Rattle.booking_table.specs.Seats.{view}
use Rattle.farm_load.specs.recording_turns.specs.Resting.{IsAtRest}
use Rattle.session.specs.Opening.{IsOpened}
use Rattle.session.specs.Seats.{GivesSeat}
use Rattle.line_exchanges.specs.Calls.{Streams, streams}
use Rattle.session.specs.Sessions.{AnswersLoadCall, Call, EndsEarly, EndsWell, IsCall}
use Rattle.session.specs.Words.{Load, WordForm, form_of, is_load, opened_farm, opening_entries}
use Rattle.session.proofs.SeatLemmas.{gives_seat}

-- ---- the run, and what is told of it

-- a front of the summary was written
pub summary_part : (text line : List ℕ) (count : ℕ) → text ≡ line → count < length text → TellsSummary line exit.WriteFailed (take count text)
summary_part text line count is short =
    let part : List ℕ = take count text in
    subst (λ (whole : List ℕ). TellsSummary whole exit.WriteFailed part) is (inr (inl (refl, drop count text, omega (arith, length-drop count text), take-append-drop count text)))

-- a load over a farm that keeps what every farm keeps is legal and safe
pub answers_load : (n : ℕ) (status : Status) (first last : Farm) (ended : LoadEnd) (wrote : List ℕ) (faults faults_now : ℕ) (holds : Farm → Type 0) (journals : List Entry → Type 0)
    → IsKeptFarm first
    → ((n : ℕ) (f : Farm) (marks : List Mark) → KeepsRows f → AreMarks n (load_start f) marks → IsLegal f (load_run n f marks).recorded)
    → ((f : Farm) (es : List Entry) → IsSound f → HasItsHosts f → IsLegal f es → IsSafe f es)
    → RunsLoad n first ended last faults faults_now journals → TellsEnd ended status wrote → holds last → AnswersLoad n first status wrote faults faults_now holds journals
answers_load n status first last ended wrote faults faults_now holds journals kept legal_law safe_law run told held =
    let legal : IsLegal first (load_run n first run.marks).recorded = legal_law n first run.marks kept.rows run.are_marks in
    record {
      marks = run.marks;
      ended = ended;
      are_marks = run.are_marks;
      ends = run.ends;
      told = told;
      causes = run.cause;
      legal = legal;
      safe = safe_law first (load_run n first run.marks).recorded kept.rows.sound (kept_hosts first kept.rows) legal;
      held = subst holds run.farm_is held;
      on_words = run.words;
    }

-- ---- how it ends

-- a summary whose write didn't fail ends well
complete_summary : (text : List ℕ) (status : Status) (call : Call) (WriteFails : Type 0) → call.taken ≡ [] → (status ≡ exit.WriteFailed → WriteFails) → (WriteFails → ⊥) → TellsSummary text status call.written
    → EndsEarly status call ⊎ (status ≡ exit.Spent)
complete_summary text status call WriteFails none write unwritten (inl all) = inl (inl all.0)
complete_summary text status call WriteFails none write unwritten (inr (inl part)) = absurd (unwritten (write part.0))
complete_summary text status call WriteFails none write unwritten (inr (inr memory)) = inl (inr (memory.0, none, memory.1))

complete_load : (ended : LoadEnd) (status : Status) (call : Call) (WriteFails : Type 0) → call.taken ≡ [] → (status ≡ exit.WriteFailed → WriteFails) → (WriteFails → ⊥) → TellsEnd ended status call.written
    → EndsEarly status call ⊎ (status ≡ exit.Spent)
complete_load (load_end.Finished summary) status call WriteFails none write unwritten told = complete_summary _ status call WriteFails none write unwritten told
complete_load load_end.Spent status call WriteFails none write unwritten told = inr told.0
complete_load load_end.NoMemory status call WriteFails none write unwritten told = inl (inr (told.0, none, told.1))

-- ---- the call

-- what ends it well, by the words
abbrev EndsWellBy : Option WordForm → Status → Call → Type 0
EndsWellBy None status call = Unit {0}
EndsWellBy (Some form) status call = EndsWell form status call

-- the count is the same before the opening, and the journal has the opening's entries before
answered_earlier : (n : ℕ) (first : Farm) (status : Status) (wrote : List ℕ) (old mid new : ℕ) (holds : Farm → Type 0) (journals since : List Entry → Type 0)
    → ((es : List Entry) → journals es → since es) → mid ≡ old → AnswersLoad n first status wrote mid new holds journals → AnswersLoad n first status wrote old new holds since
answered_earlier n first status wrote old mid new holds journals since on same answered =
    subst (λ (count : ℕ). AnswersLoad n first status wrote count new holds since) same
    (record {
      marks = answered.marks;
      ended = answered.ended;
      are_marks = answered.are_marks;
      ends = answered.ends;
      told = answered.told;
      causes = answered.causes;
      legal = answered.legal;
      safe = answered.safe;
      held = answered.held;
      on_words = on (load_run n first answered.marks).recorded answered.on_words;
    })

-- a load over a farm that was opened
pub called_load : {K : Type 0} (words : List (List ℕ)) (n : ℕ) (status : Status) (opened : ℕ) (middle : Recording K) (seat : Seat (Unit {0}) View) (call : Call) (before after : Streams) (mid : Option (List ℕ)) (k : ℕ)
    (says : WordForm → Farm → Type 0) (bad : WordForm → RecoverFault → Type 0) (same untouched : Type 0) (unmigrated : Farm → Type 0) (goes_on : Farm → List Exchange → Type 0)
    (holds : Farm → Type 0)
    → form_of words ≡ Some (Load n) → IsOpened (says (Load n)) (Load n) opened middle.farm middle.view → Tells before.readings mid (opened ∷ []) → k ≡ before.store_faults
    → IsAtRest (view seat) → AnswersLoadCall n status middle.farm (streams before.unread before.read_faults before.written before.write_faults mid k) after call holds (Journals middle.view (view seat))
    → (status ≡ exit.WriteFailed → HasRisen before.write_faults after.write_faults)
    → IsCall words status before after (record { taken = call.taken; written = call.written; readings = opened ∷ call.readings; exchanges = call.exchanges })
    (Some seat) says bad same untouched unmigrated goes_on holds
called_load words n status opened middle seat call before after mid k says bad same untouched unmigrated goes_on holds formed opening reads was rests over write =
    let first : Farm = opened_farm (Load n) opening.first opened in
    let now : Call = record { taken = call.taken; written = call.written; readings = opened ∷ call.readings; exchanges = call.exchanges } in
    let journals : List Entry → Type 0 = Journals middle.view (view seat) in
    let answered : AnswersLoad n first status call.written k after.store_faults holds journals
    = subst (λ (f : Farm). AnswersLoad n f status call.written k after.store_faults holds journals) opening.farm_is over.answered in
    let opened_with : List Entry = opening_entries (Load n) opened in
    record {
      moved = record {
        taken = over.moved.taken;
        written = over.moved.written;
        readings = Tells-append before.readings mid after.readings (opened ∷ []) call.readings reads over.moved.readings;
      };
      session = inr (inr (inr (inr (record {
        n = n;
        reading = opened;
        first = opening.first;
        formed = formed;
        said = opening.said;
        readings = ap (λ later. opened ∷ later) over.none_read;
        none_taken = over.none_taken;
        no_lines = over.no_lines;
        opening_legal = opening.legal;
        answered = answered_earlier n first status call.written before.store_faults k after.store_faults holds journals (λ es. GivesSeat (Some seat) opening.first (opened_with ++ es))
            (λ es more. gives_seat seat middle.view opening.first opened_with es opening.begun more rests) was answered;
      }))));
      spent = λ lines. absurd (true≢false (sym (ap is_load formed) ∙ lines));
      complete = λ other said right unfailed unread unwritten few.
          subst (λ (form : Option WordForm). EndsWellBy form status now) said
          (subst (λ (form : Option WordForm). EndsWellBy form status now) (sym formed) (complete_load answered.ended status now _ over.none_taken write unwritten answered.told));
    }
