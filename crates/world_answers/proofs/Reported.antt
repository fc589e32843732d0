-- What a report comes to, by the mark that its store leaves.
use Rattle.std.proofs.Common.{◌≡◌, ◌≢◌, ◌∙◌, ℕ, zero, suc, ◌+◌, Bool, true, false, List, [], ◌∷◌, ◌++◌, append-nil, map, take, Option, None, Some, refl, sym, ap, subst, arith}
use Rattle.std.specs.Prelude.{slice_get}
use Rattle.std.proofs.lemmas.Bool.{false≢true}
use Rattle.std.proofs.lemmas.Option.{none-some, same_Some}
use Rattle.farm_types.specs.declared.attempt.DoneItem.{DoneItem}
use Rattle.farm_types.specs.declared.entry.Entry.{Entry}
use Rattle.farm_types.specs.declared.refusal.Refusal.{Refusal}
use Rattle.farm_types.specs.declared.limits.TheConstants.{BOOKINGS_EACH}
use Rattle.farm_types.specs.DependActs.{or_else}
use Rattle.farm_types.specs.Dispatch.{plan_for, round_for}
use Rattle.farm_types.specs.Farm.{Farm, host_named}
use Rattle.farm_types.specs.Kept.{IsKeptFarm}
use Rattle.farm_types.specs.Run.{IsLegal, run_of}
use Rattle.farm_types.specs.Step.{after, host_refusal}
use Rattle.farm_rows.specs.declared.farm_row.FarmRow.{FarmRow}
use Rattle.farm_rows.specs.Rows.{rows_of}
use Rattle.farm_keeper.specs.Rows.{rows_from}
use Rattle.farm_lines.specs.declared.reply.Reply.{Reply}
use Rattle.farm_lines.specs.declared.report.Report.{Report}
use Rattle.farm_lines.specs.Asked.{heard_entry}
use Rattle.farm_lines.specs.Reply.{reply_text}
use Rattle.farm_lines.specs.Transcript.{Answered, Mark, Plain, Store, StoreAfter, is_store_mark}
use Rattle.line_answers.specs.declared.told.Taken.{Taken}
use Rattle.line_answers.specs.LineAnswers.{reported}
use Rattle.line_answers.specs.Told.{Tells}
use Rattle.store_law.specs.Stored.{stored, stored_in, stored_row}
use Rattle.world_law.specs.Ends.{ends_along, ends_at}
use Rattle.world_law.specs.Lines.{HasCommit, mark_of}
use Rattle.world_answers.specs.declared.leaving.Left.{Left}
use Rattle.world_answers.specs.declared.reporting.Plan.{Plan}
use Rattle.world_answers.specs.declared.trial.Trial.{Trial}
use Rattle.world_answers.specs.Leaving.{LeavesReport}
use Rattle.world_answers.specs.Marks.{IsTaken, WasTold}
use Rattle.world_answers.specs.Reporting.{Counts, HasText, IsPlan, ends_if, has_entries}
use Rattle.world_answers.specs.Trials.{AreStored, IsTrial}
use Rattle.world_answers.specs.Walking.{AreSaid}
use Rattle.world_answers.proofs.Rounds.{AreBooks, books_end, report_differs, round_books, take_books}
use Rattle.world_answers.proofs.Settled.{none_refused, one_refused, reported_by}

rows_differ : (f g : Farm) → ((f g : Farm) → IsKeptFarm f → IsKeptFarm g → stored f ≡ stored g → f ≡ g) → IsKeptFarm f → IsKeptFarm g → (f ≡ g → ⊥)
    → rows_of f ≢ rows_of g
unfolding stored_in
rows_differ f g differ kept then_kept off same = off (differ f g kept then_kept (ap (λ (rs : List FarmRow). rows_from (map stored_row rs)) same))

no_refusal : (o : Option Refusal) → or_else o None ≡ None → o ≡ None
no_refusal None none = refl
no_refusal (Some why) none = absurd (none-some why (sym none))

legal_take : (f : Farm) (es : List Entry) (n : ℕ) → IsLegal f es → IsLegal f (take n es)
legal_take f es zero legal = tt
legal_take f [] (suc n) legal = tt
legal_take f (e ∷ es) (suc n) legal = (legal.0, legal_take (after f e) es n legal.1)

-- ---- commits are the flags that are true

commit_said : (f : Farm) (es : List Entry) (bs : List Bool) (k : ℕ) → AreSaid f es bs → HasCommit f es k → slice_get bs k ≡ Some true
commit_said f [] bs k said has = absurd has
commit_said f (e ∷ es) [] k said has = absurd said
commit_said f (e ∷ es) (true ∷ bs) zero said has = refl
commit_said f (e ∷ es) (false ∷ bs) zero said has = absurd (has said.0)
commit_said f (e ∷ es) (b ∷ bs) (suc k) said has = commit_said (after f e) es bs k said.1 has

said_commit : (f : Farm) (es : List Entry) (bs : List Bool) (k : ℕ) → AreSaid f es bs → slice_get bs k ≡ Some true → HasCommit f es k
said_commit f [] [] k said is = absurd (none-some true is)
said_commit f [] (b ∷ bs) k said is = absurd said
said_commit f (e ∷ es) [] k said is = absurd said
said_commit f (e ∷ es) (true ∷ bs) zero said is = said.0
said_commit f (e ∷ es) (false ∷ bs) zero said is = absurd (false≢true (same_Some false true is))
said_commit f (e ∷ es) (b ∷ bs) (suc k) said is = said_commit (after f e) es bs k said.1 is

-- ---- a report that the farm takes

module _ (f : Farm) (report : Report) (moment : ℕ) (p : Plan) (plan : IsPlan f report moment p) where
  abbrev heard : Entry
  heard = heard_entry report moment

  abbrev round : List Entry
  round = round_for (after f heard) plan.host moment

  abbrev all : List Entry
  all = heard ∷ round

  plain_is : (reported f report moment Plain).entries ≡ all
  plain_is = ap (λ (a : Answered). a.entries) (reported_by f report moment plan.host plan.accepted plan.named Plain refl)

  are_books : AreBooks round
  are_books = round_books BOOKINGS_EACH (after f heard) moment (plan_for (after f heard) plan.host)

  -- the completions are those of the report's own entry
  ends_of_first : (es : List Entry) → AreBooks es → p.ends ≡ ends_along f (heard ∷ es)
  ends_of_first es books =
      plan.ends ∙ (sym (append-nil (ends_at f heard)) ∙ ap (λ (ds : List DoneItem). ends_at f heard ++ ds) (sym (books_end (after f heard) es books)))

  module _ (differ : (f g : Farm) → IsKeptFarm f → IsKeptFarm g → stored f ≡ stored g → f ≡ g)
      (runs : (f : Farm) (es : List Entry) → IsKeptFarm f → IsLegal f es → IsKeptFarm (run_of f es)) (kept : IsKeptFarm f) where
    are_stored : (es : List Entry) → AreBooks es → IsLegal f (heard ∷ es) → rows_of f ≢ rows_of (run_of f (heard ∷ es))
    are_stored es books legal =
        rows_differ f (run_of f (heard ∷ es)) differ kept (runs f (heard ∷ es) kept legal)
        (report_differs f report.heard moment plan.host es plan.named
        (no_refusal (host_refusal f report.heard (host_named f report.heard.host)) plan.accepted) books)

    legal_all : IsLegal f all
    legal_all = subst (IsLegal f) plan.entries plan.legal

    pub recorded_report : (left : Left) → LeavesReport f report moment None left
        → IsTrial f (reported f report moment) None
        (record { farm = left.farm; entries = p.entries; ends = p.ends; stored = true; reply = left.reply; further = None })
    recorded_report left is_left =
        let came = is_left.is in
        let has = is_left.text (reported f report moment came.mark).reply came.reply in
        let is : came.mark ≡ Plain = none_refused f report moment plan.host plan.accepted plan.named came.mark (came.calm has.1) came.told in
        record {
          may = tt;
          farm = came.farm ∙ ap (λ (mark : Mark). run_of f (reported f report moment mark).entries) is;
          entries = plan.entries ∙ sym plain_is;
          ends = ends_of_first round are_books ∙ ap (ends_along f) (sym plain_is);
          stored = subst (λ (es : List Entry). rows_of f ≢ rows_of (run_of f es)) (sym plain_is) (are_stored round are_books legal_all);
          reply = has.0 ∙ ap (λ (mark : Mark). reply_text (reported f report moment mark).reply) is;
          further = tt;
        }

    -- ---- one commit is refused

    at_mark : (n : ℕ) → (reported f report moment (mark_of (Some n))).entries ≡ take n all
    at_mark zero = ap (λ (a : Answered). a.entries) (reported_by f report moment plan.host plan.accepted plan.named Store refl)
    at_mark (suc k) = ap (λ (a : Answered). a.entries) (reported_by f report moment plan.host plan.accepted plan.named (StoreAfter k) refl)

    cut_ends : (n : ℕ) → ends_if n p.ends ≡ ends_along f (take n all)
    cut_ends zero = refl
    cut_ends (suc k) = ends_of_first (take k round) (take_books k round are_books)

    cut_stored : (n : ℕ) → AreStored (has_entries n) f (run_of f (take n all))
    cut_stored zero = refl
    cut_stored (suc k) = are_stored (take k round) (take_books k round are_books) (legal_take f all (suc k) legal_all)

    further_ends : (n : ℕ) → p.ends ≡ ends_along f (take (n + 1) all)
    further_ends n =
        let next : n + 1 ≡ suc n = omega arith in
        subst (λ (m : ℕ). p.ends ≡ ends_along f (take m all)) (sym next) (ends_of_first (take n round) (take_books n round are_books))

    said_all : AreSaid f all p.stored
    said_all = subst (λ (es : List Entry). AreSaid f es p.stored) plan.entries plan.said

    cut_report : (number due : ℕ) → Counts p.stored number (Some due) → (new : Farm) (taken : Taken) (text : List ℕ)
        → IsTaken f report moment (Some due) new taken
        → ((told : Reply) → Tells taken.told told → HasText told text) → (made : Farm) → made ≡ run_of f (take (number + 1) p.entries)
        → IsTrial f (reported f report moment) (Some number)
        (record {
          farm = new;
          entries = take number p.entries;
          ends = ends_if number p.ends;
          stored = has_entries number;
          reply = text;
          further = Some (record { farm = made; ends = p.ends });
        })
    cut_report number due counts new taken text came of made made_is =
        let has = of (reported f report moment came.mark).reply came.reply in
        let told = subst (λ (d : ℕ). WasTold f (reported f report moment Plain) (reported f report moment came.mark) (is_store_mark came.mark) (Some d))
        counts.1 came.told in
        let is : came.mark ≡ mark_of (Some number) =
        one_refused f report moment plan.host plan.accepted plan.named p.stored number said_all counts.0 came.mark (came.calm has.1) came.may_stand told in
        record {
          may = subst (λ (es : List Entry). HasCommit f es number) (sym plain_is) (said_commit f all p.stored number said_all counts.0);
          farm = came.farm ∙ ap (λ (mark : Mark). run_of f (reported f report moment mark).entries) is;
          entries = ap (take number) plan.entries ∙ sym (at_mark number);
          ends = cut_ends number ∙ ap (ends_along f) (sym (at_mark number));
          stored = subst (λ (es : List Entry). AreStored (has_entries number) f (run_of f es)) (sym (at_mark number)) (cut_stored number);
          reply = has.0 ∙ ap (λ (mark : Mark). reply_text (reported f report moment mark).reply) is;
          further =
              record {
                farm = made_is ∙ ap (λ (es : List Entry). run_of f (take (number + 1) es)) (plan.entries ∙ sym plain_is);
                ends = further_ends number ∙ ap (λ (es : List Entry). ends_along f (take (number + 1) es)) (sym plain_is);
              };
        }

    -- so of lists that are equal to these
    pub cut_trial : (number due : ℕ) → Counts p.stored number (Some due) → (left : Left) → LeavesReport f report moment (Some due) left
        → (made : Farm) → made ≡ run_of f (take (number + 1) p.entries)
        → (entries : List Entry) → entries ≡ take number p.entries → (ends : List DoneItem) → ends ≡ ends_if number p.ends
        → (stored_then : Bool) → stored_then ≡ has_entries number
        → IsTrial f (reported f report moment) (Some number)
        (record {
          farm = left.farm;
          entries = entries;
          ends = ends;
          stored = stored_then;
          reply = left.reply;
          further = Some (record { farm = made; ends = p.ends });
        })
    cut_trial number due counts left is_left made made_is entries entries_are ends ends_are stored_then stored_is =
        subst (λ (t : Trial). IsTrial f (reported f report moment) (Some number) t)
        (λ i. record {
          farm = left.farm;
          entries = sym entries_are i;
          ends = sym ends_are i;
          stored = sym stored_is i;
          reply = left.reply;
          further = Some (record { farm = made; ends = p.ends });
        })
        (cut_report number due counts left.farm is_left.taken left.reply is_left.is is_left.text made made_is)

    pub no_such : (number : ℕ) → Counts p.stored number None → HasCommit f (reported f report moment Plain).entries number → ⊥
    no_such number counts has = counts (commit_said f all p.stored number said_all (subst (λ (es : List Entry). HasCommit f es number) plain_is has))
