-- A request of one entry beside others: answered at its place, or hindered.
use Rattle.std.proofs.Common.{◌≡◌, ◌==◌, ◌∙◌, ◌++◌, ◌∷◌, ◌⊎◌, ℕ, Bool, true, false, List, [], ap, inl, inr, length, refl, subst, sym}
use Rattle.std.specs.Prelude.{Result, Ok, Err, IfErr, IfOk, None}
use mathlib.Core.List.{IsPrefix}
use Rattle.fault_counts.specs.Counts.{incremented_if}
use Rattle.farm_types.specs.declared.entry.Entry.{Entry}
use Rattle.farm_types.specs.Farm.{Farm}
use Rattle.farm_types.specs.Step.{refusal_of}
use Rattle.farm_keeper.specs.Keeping.{Committing}
use Rattle.farm_lines.specs.Transcript.{entry_answer, is_store_mark, unless_memory}
use Rattle.booking_rule.specs.declared.opening.Opening.{Opening}
use Rattle.booking_rule.specs.declared.view.View.{View}
use Rattle.booking_rule.specs.Kept.{farm_in}
use Rattle.line_answers.specs.booking_recorder.specs.Entries.{IsHeld}
use Rattle.line_answers.specs.booking_recorder.specs.Passing.{Passing}
use Rattle.line_answers.specs.booking_recorder.specs.Recording.{Recording, most_entries}
use Rattle.line_answers.specs.booking_recorder.specs.Views.{Entered, Stays}
use Rattle.line_answers.specs.declared.hindered.Hindered.{Hindered}
use Rattle.line_answers.specs.declared.hindered.Hindered.TheVariants as hindered
use Rattle.line_answers.specs.declared.reply_line.ReplyLine.{ReplyLine}
use Rattle.line_answers.specs.Entering.{AnswersOn, EntersAnswer, IsHindered, is_store_answer}
use Rattle.line_answers.specs.LineAnswers.{AnswersEntry}
use Rattle.line_answers.specs.Lines.{is_store_line, shown}
use Rattle.shared_rounds.specs.shared_bot.specs.Passes.{CaughtUp, IsReadyFor, IsTaken, Works, farm_before}
use Rattle.shared_rounds.specs.shared_bot.proofs.Caught.{works_entered, works_stays}
use Rattle.shared_lines.specs.Answered.{IsEnteredAt, TakesIn, failures, is_full, takes_in}
use Rattle.shared_lines.specs.Hindered.{HindersBeside, IsFoundHeld, IsHinderedBy}
use Rattle.shared_lines.proofs.Worked.{failed_so, farm_is, place_is, worked_so}

-- what hindered an entry, in the recorder's own words
abbrev pub HindersHere : Farm → Entry → View → Hindered → View → Type 0
HindersHere f e v (hindered.Held cores memory) w = ((length v.journal == most_entries) ≡ false) × IsHeld f e v cores memory w
HindersHere f e v hindered.Spent w = (length v.journal == most_entries) ≡ true

-- the pass caught up once so much was recorded for it, and the recorder's farm before was that of what others had recorded
pub record Catching {K : Type 0} (p q : Passing) (before : Recording K) (mine : List Entry) (n : ℕ) : Type 0 where
  pub here : CaughtUp p q mine n
  pub place : p.view.journal ++ here.others ≡ before.view.journal
  pub farm : farm_before p here.others ≡ before.farm

module _ {K : Type 0} (opening : Opening) (p q : Passing) (before now : Recording K) (ready : IsReadyFor opening p before)
    (caught : (mine : List Entry) (n : ℕ) → Works before now mine n → CaughtUp p q mine n) (journal : q.view.journal ≡ now.view.journal)
    (starts : p.view.opening ≡ opening) (leads : now.farm ≡ farm_in q.view) (trail : IsPrefix now.view.trail q.view.desk_trail) where
  pub catching : (mine : List Entry) (n : ℕ) → Works before now mine n → Catching p q before mine n
  catching mine n works =
      let here = caught mine n works in
      let place = place_is before now p q mine n here works journal in
      record {
        here = here;
        place = place;
        farm = farm_is before p here.others (starts ∙ sym ready.starts) ready.farm place;
      }

  module _ (e : Entry) where
    -- it was answered
    pub entered : (commits : Committing K) (tells : K → Type 0) (faults : K → ℕ) (line : ReplyLine) (text : List ℕ)
        → AnswersEntry before.farm e now.farm text (AnswersOn commits tells faults before now line) → EntersAnswer before.view e (Ok line) now.view
        → now.faults ≡ incremented_if (is_store_line line) before.faults → IsEnteredAt p e text q
    entered commits tells faults line text answered enters failed =
        let done = (unless_memory answered.mark (entry_answer before.farm e answered.mark (refusal_of before.farm e))).entries in
        let store = is_store_mark answered.mark in
        let on : AnswersOn commits tells faults before now line _ done store = answered.keeper in
        let count : now.faults ≡ failures store =
        failed_so before now store ready.taken (failed ∙ ap (λ (b : Bool). incremented_if b before.faults) (sym on.told)) in
        let works : Works before now done (failures store) =
        worked_so before now e done (failures store) ready.taken enters on.goes.journals.journal count in
        let at = catching done (failures store) works in
        let others = at.here.others in
        let takes : TakesIn p others q done store =
        record {
          caught = at.here;
          behind = refl;
          room = λ full. on.room (sym (ap (λ (es : List Entry). is_full (length es)) at.place) ∙ full);
        } in (
          others,
          subst (λ (f : Farm). AnswersEntry f e (farm_in q.view) text (takes_in p others q)) (sym at.farm)
              (subst (λ (g : Farm). AnswersEntry before.farm e g text (takes_in p others q)) leads
              (record { mark = answered.mark; answer = answered.answer; may_stand = answered.may_stand; keeper = takes })),
        )

    -- .. or hindered: nothing was recorded, and the store wasn't asked
    pub held_up : (why : Hindered) → refusal_of before.farm e ≡ None → now.farm ≡ before.farm → HindersHere before.farm e before.view why now.view
        → Stays before.view now.view → now.faults ≡ 0 → IsHinderedBy p e why q
    held_up why accepted same hinders stays failed =
        let at = catching [] 0 (works_stays before now 0 ready.taken stays failed) in
        let farm : before.farm ≡ farm_in q.view = sym same ∙ leads in
        let log : q.view.journal ≡ before.view.journal = journal ∙ ap (λ (v : View). v.journal) stays.like in
        record { caught = at.here; accepted = subst (λ (f : Farm). refusal_of f e ≡ None) farm accepted; hinders = by why farm log hinders }
      where
        by : (why : Hindered) → before.farm ≡ farm_in q.view → q.view.journal ≡ before.view.journal
            → HindersHere before.farm e before.view why now.view → HindersBeside p e why q
        by (hindered.Held cores memory) farm log hinders = (
          ap (λ (es : List Entry). is_full (length es)) log ∙ hinders.0,
          subst (λ (f : Farm). IsFoundHeld p f e (record { cores = cores; memory = memory }) q) farm
              (record {
                host = hinders.1.host;
                resizes = hinders.1.resizes;
                before = before.view;
                behind = now.view;
                finds = hinders.1.held.other;
                since = ready.behind.trail;
                until = trail;
              }),
        )
        by hindered.Spent farm log hinders = ap (λ (es : List Entry). is_full (length es)) log ∙ hinders

    pub hinders_so : (why : Hindered) → IsHindered before e why now → Stays before.view now.view → now.faults ≡ before.faults → IsHinderedBy p e why q
    hinders_so why is stays failed =
        held_up why is.accepted is.farm (here why is) stays (failed ∙ ready.taken.faults)
      where
        here : (why : Hindered) → IsHindered before e why now → HindersHere before.farm e before.view why now.view
        here (hindered.Held cores memory) is = (is.hinders.1, is.hinders.2)
        here hindered.Spent is = is.hinders

-- ---- whatever came of it

-- an entry was recorded, or nothing was
enters_opening : (v w : View) (e : Entry) → Entered v e w ⊎ Stays v w → w.opening ≡ v.opening
enters_opening v w e (inl entered) = ap (λ (x : View). x.opening) entered.like
enters_opening v w e (inr stays) = ap (λ (x : View). x.opening) stays.like

pub opening_after : (v w : View) (e : Entry) (came : Result ReplyLine Hindered) → EntersAnswer v e came w → w.opening ≡ v.opening
opening_after v w e (Ok line) enters = enters_opening v w e enters
opening_after v w e (Err why) enters = enters_opening v w e (inr enters)

-- the recorder recorded something, and failed so often
abbrev pub IsWorked : {K : Type 0} → Recording K → Recording K → Type 0
IsWorked before now = (mine : List Entry) × Works before now mine now.faults

pub worked_any : {K : Type 0} (before now : Recording K) (e : Entry) → IsTaken before → Entered before.view e now.view ⊎ Stays before.view now.view
    → IsWorked before now
worked_any before now e taken (inl entered) = (e ∷ [], works_entered before now e now.faults taken entered refl)
worked_any before now e taken (inr stays) = ([], works_stays before now now.faults taken stays refl)

pub worked_entry : {K : Type 0} (before now : Recording K) (e : Entry) (came : Result ReplyLine Hindered) → IsTaken before
    → EntersAnswer before.view e came now.view → IsWorked before now
worked_entry before now e (Ok line) taken enters = worked_any before now e taken enters
worked_entry before now e (Err why) taken enters = worked_any before now e taken (inr enters)

module _ {K : Type 0} (opening : Opening) (p q : Passing) (before now : Recording K) (ready : IsReadyFor opening p before)
    (caught : (mine : List Entry) (n : ℕ) → Works before now mine n → CaughtUp p q mine n) (journal : q.view.journal ≡ now.view.journal)
    (starts : p.view.opening ≡ opening) (leads : now.farm ≡ farm_in q.view) (trail : IsPrefix now.view.trail q.view.desk_trail) (e : Entry) where
  pub entered_if : (commits : Committing K) (tells : K → Type 0) (faults : K → ℕ) (came : Result ReplyLine Hindered)
      → IfOk came (λ line. AnswersEntry before.farm e now.farm (shown line) (AnswersOn commits tells faults before now line))
      → EntersAnswer before.view e came now.view → now.faults ≡ incremented_if (is_store_answer came) before.faults
      → IfOk came (λ line. IsEnteredAt p e (shown line) q)
  entered_if commits tells faults (Ok line) answered enters failed =
      entered opening p q before now ready caught journal starts leads trail e commits tells faults line (shown line) answered enters failed
  entered_if commits tells faults (Err why) answered enters failed = tt

  pub hindered_if : (came : Result ReplyLine Hindered) → IfErr came (λ why. IsHindered before e why now) → EntersAnswer before.view e came now.view
      → now.faults ≡ incremented_if (is_store_answer came) before.faults → IfErr came (λ why. IsHinderedBy p e why q)
  hindered_if (Ok line) is enters failed = tt
  hindered_if (Err why) is enters failed = hinders_so opening p q before now ready caught journal starts leads trail e why is enters failed
