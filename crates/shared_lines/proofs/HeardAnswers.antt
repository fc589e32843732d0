-- A report's entry beside others: recorded at its place, or not.
use Rattle.std.proofs.Common.{◌≡◌, ◌∙◌, ◌∷◌, ℕ, true, false, List, [], ap, inl, inr, length, subst, sym}
use Rattle.std.specs.Prelude.{None, Some, Ok, Err, Option, Result}
use mathlib.Core.List.{IsPrefix}
use Rattle.fault_counts.specs.Counts.{incremented_if}
use Rattle.farm_types.specs.declared.entry.Entry.{Entry}
use Rattle.farm_types.specs.Farm.{Farm}
use Rattle.farm_types.specs.Step.{refusal_of}
use Rattle.farm_changes.specs.Change.{HasHeard}
use Rattle.booking_rule.specs.declared.opening.Opening.{Opening}
use Rattle.booking_rule.specs.declared.view.View.{View}
use Rattle.booking_rule.specs.Kept.{farm_in}
use Rattle.line_answers.specs.booking_recorder.specs.declared.refusal.CommitRefusal.{CommitRefusal}
use Rattle.line_answers.specs.booking_recorder.specs.declared.refusal.CommitRefusal.TheVariants as commit
use Rattle.line_answers.specs.booking_recorder.specs.Entries.{IsHeldIn, IsSpentAt}
use Rattle.line_answers.specs.booking_recorder.specs.Faults.{is_store_refusal}
use Rattle.line_answers.specs.booking_recorder.specs.Passing.{Passing}
use Rattle.line_answers.specs.booking_recorder.specs.Recording.{Recording}
use Rattle.line_answers.specs.booking_recorder.specs.Views.{Enters}
use Rattle.line_answers.specs.declared.hindered.Hindered.TheVariants as hindered
use Rattle.line_answers.specs.LineAnswers.{Hears, MayFail}
use Rattle.shared_rounds.specs.shared_bot.specs.Passes.{CaughtUp, IsReadyFor, IsTaken, Works}
use Rattle.shared_rounds.specs.shared_bot.proofs.Caught.{works_entered, works_stays}
use Rattle.shared_lines.specs.Answered.{is_full}
use Rattle.shared_lines.specs.Hearing.{HearsBeside}
use Rattle.shared_lines.proofs.EntryAnswers.{IsWorked, catching, held_up, worked_any}
use Rattle.shared_lines.proofs.Worked.{failed_so}

module _ {K : Type 0} (opening : Opening) (p q : Passing) (before now : Recording K) (ready : IsReadyFor opening p before)
    (caught : (mine : List Entry) (n : ℕ) → Works before now mine n → CaughtUp p q mine n) (journal : q.view.journal ≡ now.view.journal)
    (starts : p.view.opening ≡ opening) (leads : now.farm ≡ farm_in q.view) (trail : IsPrefix now.view.trail q.view.desk_trail) (e : Entry) where
  pub heard : (came : Result (Option ℕ) CommitRefusal) → Hears before.farm e came now.farm → Enters before.view e came now.view
      → IsSpentAt (length before.view.journal) came → IsHeldIn before.farm e before.view came now.view
      → now.faults ≡ incremented_if (is_store_refusal came) before.faults → HearsBeside p e came q
  heard (Ok host) hears enters spent held faults =
      let works = works_entered before now e 0 ready.taken enters (failed_so before now false ready.taken faults) in
      let at = catching opening p q before now ready caught journal starts leads trail (e ∷ []) 0 works in
      record {
        caught = at.here;
        accepted = subst (λ (f : Farm). refusal_of f e ≡ None) (sym at.farm) hears.0;
        heard = subst (λ (f : Farm). HasHeard f e.act host) (sym at.farm) hears.1;
      }
  heard (Err (commit.Refused why)) hears enters spent held faults =
      let works = works_stays before now 0 ready.taken enters (failed_so before now false ready.taken faults) in
      let at = catching opening p q before now ready caught journal starts leads trail [] 0 works in
      record { caught = at.here; refused = subst (λ (f : Farm). refusal_of f e ≡ Some why) (sym at.farm) hears.0 }
  heard (Err commit.Spent) hears enters spent held faults =
      held_up opening p q before now ready caught journal starts leads trail e hindered.Spent hears.0 hears.1 spent enters
      (failed_so before now false ready.taken faults)
  heard (Err (commit.Held cores memory)) hears enters spent held faults =
      held_up opening p q before now ready caught journal starts leads trail e (hindered.Held cores memory) hears.0 hears.1 (spent, held) enters
      (failed_so before now false ready.taken faults)
  heard (Err commit.Store) hears enters spent held faults =
      let works = works_stays before now 1 ready.taken enters (failed_so before now true ready.taken faults) in
      let at = catching opening p q before now ready caught journal starts leads trail [] 1 works in
      record {
        caught = at.here;
        fails =
            subst (λ (f : Farm). MayFail f e) (sym at.farm) (record { accepted = hears.0; changes = hears.1 });
        room = ap (λ (es : List Entry). is_full (length es)) at.place ∙ spent;
      }
  heard (Err commit.NoMemory) hears enters spent held faults =
      caught [] 0 (works_stays before now 0 ready.taken enters (failed_so before now false ready.taken faults))

-- ---- whatever came of it

pub opening_heard : (v w : View) (e : Entry) (came : Result (Option ℕ) CommitRefusal) → Enters v e came w → w.opening ≡ v.opening
opening_heard v w e (Ok host) entered = ap (λ (x : View). x.opening) entered.like
opening_heard v w e (Err why) stays = ap (λ (x : View). x.opening) stays.like

pub worked_heard : {K : Type 0} (before now : Recording K) (e : Entry) (came : Result (Option ℕ) CommitRefusal) → IsTaken before
    → Enters before.view e came now.view → IsWorked before now
worked_heard before now e (Ok host) taken entered = worked_any before now e taken (inl entered)
worked_heard before now e (Err why) taken stays = worked_any before now e taken (inr stays)
