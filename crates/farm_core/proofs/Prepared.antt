-- A change that was prepared makes the farm of the entry, which keeps what every farm keeps.
use Rattle.std.proofs.Common.{◌≡◌, ℕ, List, Option, Some, None, Result, Err, sym, ◌∙◌, ap, subst}
use Rattle.std.specs.Prelude.{IsErrAnd}
use Rattle.std.proofs.lemmas.Result.{err_from_is_err_and}
use Rattle.farm_types.specs.declared.answer.Answer.TheVariants as answer
use Rattle.farm_types.specs.declared.entry.Act.{Act}
use Rattle.farm_types.specs.declared.entry.Act.TheVariants.{AddDepend, DropDepend}
use Rattle.farm_types.specs.declared.entry.Entry.{Entry}
use Rattle.farm_types.specs.declared.refusal.Refusal.{Refusal}
use Rattle.farm_types.specs.DependActs.{or_else}
use Rattle.farm_types.specs.EntryAnswers.{answer_at}
use Rattle.farm_types.specs.Farm.{Farm}
use Rattle.farm_types.specs.Formed.{IsFormed}
use Rattle.farm_types.specs.Kept.{IsKeptFarm}
use Rattle.farm_types.specs.Operators.{slot_named}
use Rattle.farm_types.specs.Run.{IsLegalStep}
use Rattle.farm_types.specs.Step.{HasCondition, acted, after, closed, finish_each, follow_refusal, followed, moment_of, refusal_of}
use Rattle.depend_law.specs.Ending.{CanEnd, IsSettled}
use Rattle.depend_law.proofs.KeptRuns.{followed_step, kept_step}
use Rattle.farm_changes.specs.Change as books
use Rattle.farm_changes.specs.Change.{AnswersAct}
use Rattle.farm_changes.specs.declared.act_answer.ActAnswer.{ActAnswer}
use Rattle.farm_changes.specs.declared.act_answer.ActAnswer.TheVariants as known
use Rattle.farm_changes.specs.declared.change.Change as act_change
use Rattle.farm_types.specs.declared.fault.FarmFault.{FarmFault}
use Rattle.farm_types.specs.declared.fault.FarmFault.TheVariants.{Refused, NoMemory}
use Rattle.farm_depends.specs.declared.follow.Follow.{Follow}
use Rattle.farm_depends.specs.Follow.{Counts, Follows, after_follow}
use Rattle.farm_finish.specs.Closing.{closing}
use Rattle.farm_finish.proofs.TurnLemmas.Closes.{closed_is, closing_ends}
use Rattle.farm_core.specs.Answers.{answer_by}
use Rattle.farm_core.specs.declared.change.Change.{Change}
use Rattle.farm_rows.specs.declared.row_change.RowChange.{RowChange}
use Rattle.farm_rows.specs.Changes.{NamesExactly}
use Rattle.farm_core.specs.Change.{IsPrepared, Makes, Plans, Prepares, after_change}

-- ---- the answer

answered : (f : Farm) (moment count : ℕ) (done : Act) (said : ActAnswer) → AnswersAct f moment done said → Counts f done count
    → answer_by f.next_depend count said ≡ answer_at f moment done
unfolding slot_named
answered f moment count done (known.Whole said) is counts = is
answered f moment count (AddDepend spec) known.DependAdded is counts = ap (answer.DependAdded f.next_depend) counts
answered f moment count (DropDepend depend) known.DependDropped is counts = ap answer.DependDropped counts
answered f moment count other said is counts = absurd is

-- ---- the act is refused

act_refused : (f : Farm) (e : Entry) (fault : FarmFault) → books.Prepares f e (Err fault) → Prepares f e (Err fault)
act_refused f e (Refused why) is = ap (λ (first : Option Refusal). or_else first (follow_refusal f e.act)) is
act_refused f e NoMemory is = tt

-- its fault is passed on
pub act_fails : (f : Farm) (e : Entry) (fault : FarmFault) (r : Result Change FarmFault) → IsErrAnd r (λ x. x ≡ fault) → books.Prepares f e (Err fault) → Prepares f e r
act_fails f e fault r err is =
    let x = err_from_is_err_and r err in
    subst (Prepares f e) (sym x.1) (act_refused f e x.0 (subst (λ (y : FarmFault). books.Prepares f e (Err y)) (sym x.2) is))

-- what follows is refused, or memory ran out
not_planned : (f : Farm) (e : Entry) (fault : FarmFault) → IsPrepared (Plans f e) f e (Err fault) → Prepares f e (Err fault)
not_planned f e (Refused why) is = is
not_planned f e NoMemory is = tt

-- its fault is passed on
pub plan_fails : (f : Farm) (e : Entry) (fault : FarmFault) (r : Result Change FarmFault) → IsErrAnd r (λ x. x ≡ fault) → IsPrepared (Plans f e) f e (Err fault) → Prepares f e r
plan_fails f e fault r err is =
    let x = err_from_is_err_and r err in
    subst (Prepares f e) (sym x.1) (not_planned f e x.0 (subst (λ (y : FarmFault). IsPrepared (Plans f e) f e (Err y)) (sym x.2) is))

-- ---- the rows

-- a change is planned whatever rows it has
rows_stay : (f : Farm) (e : Entry) (change : Change) (rows : List RowChange) → Plans f e change → Plans f e (record change { rows = rows })
rows_stay f e change rows plan =
    record {
      accepted = plan.accepted;
      heard = plan.heard;
      ready = record { fits = plan.ready.fits; follows = plan.ready.follows; ends = plan.ready.ends; kept = plan.ready.kept };
      unreserved = record { act = plan.unreserved.act; follow = plan.unreserved.follow };
      staged = record { act = plan.staged.act; known = plan.staged.known; follows = plan.staged.follows; jobs = plan.staged.jobs };
      farm = plan.farm;
      answer = plan.answer;
    }

-- with those that change it makes the entry
pub with_rows : (f : Farm) (e : Entry) (change : Change) (rows : List RowChange) → Plans f e change → NamesExactly f (after_change f change) rows → Makes f e (record change { rows = rows })
with_rows f e change rows plan names = record { planned = rows_stay f e change rows plan; rows = names }

-- ---- a change

module _ (f : Farm) (e : Entry) (done : act_change.Change) (m : books.Makes f e done) where
  judged : (o : Option Refusal) → follow_refusal f e.act ≡ o → refusal_of f e ≡ o
  judged o is = ap (λ (first : Option Refusal). or_else first (follow_refusal f e.act)) m.accepted ∙ is

  -- what follows is refused
  pub refused : (why : Refusal) → follow_refusal f e.act ≡ Some why → refusal_of f e ≡ Some why
  refused why is = judged (Some why) is

  module _ (kept : IsKeptFarm f) (formed : IsFormed e) (condition : HasCondition f e.act) (w : Follow) (follows : Follows f (books.after_change f done) e.act w) where
    abbrev settled_farm : Farm
    settled_farm = after_follow (books.after_change f done) w

    followed_is : settled_farm ≡ followed e.act (acted f e)
    followed_is = follows.farm ∙ ap (followed e.act) m.farm

    legal : refusal_of f e ≡ None
    legal = judged None follows.accepted

    step : IsLegalStep f e
    step = record { formed = formed; accepted = legal; condition = condition }

    module _ (jobs : List ℕ) (closes : jobs ≡ closing e.act settled_farm) where
      ends : CanEnd settled_farm jobs
      ends = subst (CanEnd settled_farm) (sym closes) (closing_ends e.act settled_farm (subst IsSettled (sym followed_is) (followed_step f e step kept)))

      makes_farm : finish_each jobs settled_farm ≡ after f e
      makes_farm = ap (λ (js : List ℕ). finish_each js settled_farm) closes ∙ (sym (closed_is e.act settled_farm) ∙ ap (closed e.act) followed_is)

      -- the change with its answer
      pub made : (rows : List RowChange) → Plans f e (record { act = done; follow = w; finish = jobs; rows = rows; answer = answer_by f.next_depend w.count done.answer })
      made rows =
          record {
            accepted = legal;
            heard = m.heard;
            ready =
                record {
                  fits = record { rows = m.ready.rows; more = m.ready.more };
                  follows = follows.fits;
                  ends = ends;
                  kept = subst IsKeptFarm (sym makes_farm) (kept_step f e step kept);
                };
            unreserved = record { act = m.unreserved; follow = follows.unreserved };
            staged = record { act = m.farm; known = m.answer; follows = follows; jobs = closes };
            farm = makes_farm;
            answer = answered f (moment_of f e.moment) w.count e.act done.answer m.answer follows.counts;
          }
