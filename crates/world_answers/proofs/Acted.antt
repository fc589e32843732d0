-- What a request of one entry comes to, by the mark that its store leaves.
use Rattle.std.proofs.Common.{◌≡◌, ℕ, zero, suc, Bool, true, false, List, [], ◌∷◌, ◌++◌, Option, None, Some, refl, sym, ap, subst, arith}
use Rattle.std.proofs.lemmas.Option.{none-some}
use Rattle.farm_types.specs.declared.attempt.DoneItem.{DoneItem}
use Rattle.farm_types.specs.declared.entry.Act.{Act}
use Rattle.farm_types.specs.declared.entry.Act.TheVariants.{Heard}
use Rattle.farm_types.specs.declared.entry.Entry.{Entry}
use Rattle.farm_types.specs.declared.refusal.Refusal.{Refusal}
use Rattle.farm_types.specs.Farm.{Farm}
use Rattle.farm_types.specs.Run.{run_of}
use Rattle.farm_types.specs.Step.{after}
use Rattle.farm_lines.specs.declared.reply.Reply.TheVariants as reply
use Rattle.farm_lines.specs.Reply.{reply_text}
use Rattle.farm_lines.specs.Transcript.{Answered, Mark, Plain, Memory, Store, CutAfter, StoreAfter, LatePlain, LateCut, LateStore, entry_answer, is_store_mark, unless_memory}
use Rattle.line_answers.specs.LineAnswers.{MayStoreEntry}
use Rattle.world_law.specs.Ends.{ends_at, ends_by}
use Rattle.world_law.specs.Lines.{HasCommit}
use Rattle.world_answers.specs.Acting.{IsNoReport, trial_by}
use Rattle.world_answers.specs.Marks.{IsMarked, WasTold}
use Rattle.world_answers.specs.Refusing.{new_refusing}
use Rattle.world_answers.specs.Trials.{AreStored, IsTextOf, IsTrial}
use Rattle.world_answers.specs.Walking.{Says}
use Rattle.world_answers.proofs.Refusals.{never_fails, not_past}

said_stored : (b : Bool) (f g : Farm) → Says b f g → AreStored b f g
said_stored true f g says = says
said_stored false f g says = says

ends_none : (f : Farm) (moment : ℕ) (act : Act) → IsNoReport act → ends_by f moment act ≡ []
ends_none f moment (Heard heard) none = absurd none
ends_none f moment act none = refl

module _ (f : Farm) (e : Entry) where
  abbrev answers : Option Refusal → Mark → Answered
  answers o mark = unless_memory mark (entry_answer f e mark o)

  -- ---- the farm refuses it

  abbrev RefusedSo : Option Refusal → Option ℕ → Farm → List ℕ → List ℕ → Type 0
  RefusedSo o due new line text = (new ≡ f) × (text ≡ reply_text (answers o Plain).reply)

  refused_by : (why : Refusal) (mark : Mark) (new : Farm) (line text : List ℕ) → new ≡ run_of f (answers (Some why) mark).entries
      → line ≡ reply_text (answers (Some why) mark).reply ++ 10 ∷ [] → IsTextOf line text → (new ≡ f) × (text ≡ reply_text (reply.Refused why))
  refused_by why Plain new line text farm is of = (farm, of.text (reply.Refused why) is)
  refused_by why Memory new line text farm is of = absurd (of.calm is)
  refused_by why Store new line text farm is of = (farm, of.text (reply.Refused why) is)
  refused_by why (CutAfter k) new line text farm is of = (farm, of.text (reply.Refused why) is)
  refused_by why (StoreAfter k) new line text farm is of = (farm, of.text (reply.Refused why) is)
  refused_by why LatePlain new line text farm is of = (farm, of.text (reply.Refused why) is)
  refused_by why (LateCut k) new line text farm is of = (farm, of.text (reply.Refused why) is)
  refused_by why (LateStore k) new line text farm is of = (farm, of.text (reply.Refused why) is)

  pub refused_trial : (why : Refusal) (o : Option Refusal) → o ≡ Some why → (due : Option ℕ) (new : Farm) (line text : List ℕ)
      → IsMarked f (answers o) (MayStoreEntry f e) due new line → IsTextOf line text
      → IsTrial f (answers o) None (trial_by (record { farm = new; recorded = false; stored = false; reply = text; further = None }) e)
  refused_trial why None is due new line text marked of = absurd (none-some why is)
  refused_trial why (Some other) is due new line text marked of =
      let by = refused_by other marked.mark new line text marked.answer.farm marked.answer.text of in
      record { may = tt; farm = by.0; entries = refl; ends = refl; stored = refl; reply = by.1; further = tt }

  pub refused_none : (why : Refusal) (o : Option Refusal) → o ≡ Some why → (k : ℕ) → HasCommit f (answers o Plain).entries k → ⊥
  refused_none why None is k has = absurd (none-some why is)
  refused_none why (Some other) is k has = has

  -- ---- the farm takes it

  module _ (no_report : IsNoReport e.act) (first_farm : Farm) (b : Bool) (is_first : first_farm ≡ after f e) (says : Says b f (after f e)) where
    no_ends : [] ≡ ends_at f e ++ []
    no_ends = ap (λ (ds : List DoneItem). ds ++ []) (sym (ends_none _ _ e.act no_report))

    abbrev RecordedSo : Farm → List ℕ → Type 0
    RecordedSo new text = (new ≡ after f e) × (text ≡ reply_text (answers None Plain).reply)

    recorded_by : (mark : Mark) (new : Farm) (line text : List ℕ) → new ≡ run_of f (answers None mark).entries
        → line ≡ reply_text (answers None mark).reply ++ 10 ∷ []
        → MayStoreEntry f e mark → WasTold f (answers None Plain) (answers None mark) (is_store_mark mark) None → IsTextOf line text → RecordedSo new text
    recorded_by Plain new line text farm is may told of = (farm, of.text (answers None Plain).reply is)
    recorded_by Memory new line text farm is may told of = absurd (of.calm is)
    recorded_by Store new line text farm is may told of = absurd (never_fails f (e ∷ []) [] (new_refusing None) told.0 refl told.1)
    recorded_by (CutAfter k) new line text farm is may told of = (farm, of.text (answers None Plain).reply is)
    recorded_by (StoreAfter k) new line text farm is may told of = absurd may
    recorded_by LatePlain new line text farm is may told of = (farm, of.text (answers None Plain).reply is)
    recorded_by (LateCut k) new line text farm is may told of = (farm, of.text (answers None Plain).reply is)
    recorded_by (LateStore k) new line text farm is may told of = absurd may

    pub recorded_trial : (o : Option Refusal) → o ≡ None → (new : Farm) (line text : List ℕ) → IsMarked f (answers o) (MayStoreEntry f e) None new line
        → IsTextOf line text
        → IsTrial f (answers o) None (trial_by (record { farm = new; recorded = true; stored = b; reply = text; further = None }) e)
    recorded_trial (Some why) is new line text marked of = absurd (none-some why (sym is))
    recorded_trial None is new line text marked of =
        let by = recorded_by marked.mark new line text marked.answer.farm marked.answer.text marked.may_stand marked.told of in
        record { may = tt; farm = by.0; entries = refl; ends = no_ends; stored = said_stored b f (after f e) says; reply = by.1; further = tt }

    -- it has no such commit
    pub no_commit : (o : Option Refusal) → o ≡ None → (k : ℕ) → (k ≡ 0 → b ≡ false) → HasCommit f (answers o Plain).entries k → ⊥
    no_commit (Some why) is k off has = has
    no_commit None is zero off has = has (subst (λ (c : Bool). Says c f (after f e)) (off refl) says)
    no_commit None is (suc k) off has = has

    taken_past : Says true f (after f e) → WasTold f (answers None Plain) (answers None Plain) false (Some 0) → ⊥
    taken_past changes told = not_past f (e ∷ []) (e ∷ []) (true ∷ []) 0 (new_refusing (Some 0)) told.0 false (changes, tt) refl refl told.1 (omega arith)

    unstored_by : Says true f (after f e) → (mark : Mark) (new : Farm) (line text : List ℕ) → new ≡ run_of f (answers None mark).entries
        → line ≡ reply_text (answers None mark).reply ++ 10 ∷ [] → MayStoreEntry f e mark
        → WasTold f (answers None Plain) (answers None mark) (is_store_mark mark) (Some 0) → IsTextOf line text → (new ≡ f) × (text ≡ reply_text reply.Store)
    unstored_by changes Plain new line text farm is may told of = absurd (taken_past changes told)
    unstored_by changes Memory new line text farm is may told of = absurd (of.calm is)
    unstored_by changes Store new line text farm is may told of = (farm, of.text reply.Store is)
    unstored_by changes (CutAfter k) new line text farm is may told of = absurd (taken_past changes told)
    unstored_by changes (StoreAfter k) new line text farm is may told of = absurd may
    unstored_by changes LatePlain new line text farm is may told of = absurd (taken_past changes told)
    unstored_by changes (LateCut k) new line text farm is may told of = absurd (taken_past changes told)
    unstored_by changes (LateStore k) new line text farm is may told of = absurd may

    pub unstored_trial : (o : Option Refusal) → o ≡ None → b ≡ true → (number : ℕ) → number ≡ 0 → (new : Farm) (line text : List ℕ)
        → IsMarked f (answers o) (MayStoreEntry f e) (Some 0) new line → IsTextOf line text
        → IsTrial f (answers o) (Some number)
        (trial_by (record { farm = new; recorded = false; stored = false; reply = text; further = Some (record { farm = first_farm; ends = [] }) }) e)
    unstored_trial (Some why) is changes number at new line text marked of = absurd (none-some why (sym is))
    unstored_trial None is changes (suc number) at new line text marked of = absurd (omega (arith, at))
    unstored_trial None is changes zero at new line text marked of =
        let changed : Says true f (after f e) = subst (λ (c : Bool). Says c f (after f e)) changes says in
        let by = unstored_by changed marked.mark new line text marked.answer.farm marked.answer.text marked.may_stand marked.told of in
        record {
          may = changed;
          farm = by.0;
          entries = refl;
          ends = refl;
          stored = refl;
          reply = by.1;
          further = record { farm = is_first; ends = no_ends };
        }
