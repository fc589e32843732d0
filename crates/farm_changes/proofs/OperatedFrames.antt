-- Changes that make what operators do to a frame, and their refusals.
use Rattle.std.proofs.Common.{◌≡◌, ◌∙◌, ℕ, ◌<◌, ◌≤◌, true, false, List, length, map, Option, Some, None, option_map, nat_eq, refl, sym, ap, subst}
use Rattle.std.specs.Prelude.{Result, Err, IsErrAnd, All, is_some, option_and_then}
use Rattle.std.specs.List.{IsDistinct, slice_get}
use Rattle.std.proofs.lemmas.Bool.{false≢true}
use Rattle.std.proofs.lemmas.List.Elements.{All-nil}
use Rattle.std.proofs.lemmas.Result.{err_from_is_err_and}
use Rattle.farm_types.specs.declared.answer.Answer.TheVariants as answer
use Rattle.farm_types.specs.declared.entry.Act.{Act}
use Rattle.farm_types.specs.declared.entry.Act.TheVariants as act
use Rattle.farm_types.specs.declared.entry.FramePlace.{FramePlace}
use Rattle.farm_types.specs.declared.refusal.Refusal.{Refusal}
use Rattle.farm_types.specs.declared.slot_row.Frame.{Frame}
use Rattle.farm_types.specs.declared.slot_row.SlotRow.{SlotRow}
use Rattle.farm_types.specs.declared.states.FrameState.{FrameState}
use Rattle.farm_types.specs.declared.states.FrameState.TheVariants as frame_state
use Rattle.farm_types.specs.DependActs.{or_else, place_refusal}
use Rattle.farm_types.specs.Farm.{Farm, for_some}
use Rattle.farm_types.specs.Names.{frame_name}
use Rattle.farm_types.specs.Operators.{count_at, may_eat, may_kill, may_retry, place_of, retried_row, slot_named, slot_row_named, state_refusal, stopped_row, version_refusal, with_frame, with_row_at}
use Rattle.farm_types.specs.Step.{act_refusal, after_act, at_moment, lists_of}
use Rattle.farm_types.proofs.Changed.{changed_at_is}
use Rattle.host_book.specs.declared.life.HostLife.{HostLife}
use Rattle.job_book.specs.Book.{IsSameFrame, KeepsFrame, has_frame}
use Rattle.farm_books.specs.Install.{CanInstall, MayBegin}
use Rattle.farm_draft.specs.Rows.{AreInstallable, AreReady, Stood, installed, put_lives, put_slots, slot_of}
use Rattle.farm_draft.specs.declared.slot_change.SlotChange.{SlotChange}
use Rattle.farm_types.specs.declared.fault.FarmFault.{FarmFault}
use Rattle.farm_types.specs.declared.fault.FarmFault.TheVariants.{Refused, NoMemory}
use Rattle.farm_types.specs.Faults.{Refuses}
use Rattle.farm_places.specs.Frames.{FindsFrame}
use Rattle.farm_changes.specs.Change.{AnswersAct, HasHeard, Makes, Prepares}
use Rattle.farm_changes.specs.ChangedRow.{ChangesRow}
use Rattle.farm_changes.specs.declared.act_answer.ActAnswer.TheVariants as known
use Rattle.farm_changes.specs.declared.change.Change.{Change}
use Rattle.farm_changes.specs.declared.change.More.TheVariants as more
use Rattle.farm_changes.specs.declared.change.Reserved.TheVariants as taken
use Rattle.farm_changes.proofs.MadeChanges.{makes, one_distinct, one_stood}

-- the act is refused as its place is, and then as the row in its slot is; it changes that row, whose frame stays and whose attempt ends
pub record IsFrameAct (f : Farm) (moment : ℕ) (p : FramePlace) (a : Act) (refusal : Option SlotRow → Option Refusal) (become : SlotRow → SlotRow) : Type 0 where
  refused : act_refusal f a ≡ or_else (place_refusal f (place_of p)) (refusal (slot_row_named f p))
  farm : after_act (at_moment f moment) moment a ≡ with_frame (at_moment f moment) p become
  heard : HasHeard f a None
  answers : AnswersAct f moment a (known.Whole (answer.Ended (count_at (slot_row_named f p))))
  keeps : (s : SlotRow) → is_some s.frame ≡ true → IsSameFrame s.frame (become s).frame
  ends : (s : SlotRow) → (become s).proc ≡ None

same_stopped : (state : FrameState) (o : Option Frame) → is_some o ≡ true → IsSameFrame o (option_map (λ (x : Frame). record x { state = state }) o)
same_stopped state None there = absurd (false≢true there)
same_stopped state (Some x) there = refl

same_retried : (o : Option Frame) → is_some o ≡ true → IsSameFrame o (option_map (λ (x : Frame). record x { state = frame_state.Waiting; retries = 0 }) o)
same_retried None there = absurd (false≢true there)
same_retried (Some x) there = refl

or_later : (first second third : Option Refusal) → or_else (or_else first second) third ≡ or_else first (or_else second third)
or_later None second third = refl
or_later (Some why) second third = refl

pub kills : (f : Farm) (moment : ℕ) (p : FramePlace) → IsFrameAct f moment p (act.KillFrame p) (state_refusal may_kill) (stopped_row frame_state.Dead)
kills f moment p = record { refused = refl; farm = refl; heard = tt; answers = refl; keeps = λ s there. same_stopped frame_state.Dead s.frame there; ends = λ s. refl }

pub eats : (f : Farm) (moment : ℕ) (p : FramePlace) → IsFrameAct f moment p (act.EatFrame p) (state_refusal may_eat) (stopped_row frame_state.Eaten)
eats f moment p = record { refused = refl; farm = refl; heard = tt; answers = refl; keeps = λ s there. same_stopped frame_state.Eaten s.frame there; ends = λ s. refl }

-- what is refused of a row that is to be retried
abbrev pub row_refusal : FramePlace → Option SlotRow → Option Refusal
row_refusal p row = or_else (state_refusal may_retry row) (version_refusal (frame_name p.frame p.layer) row)

pub retries : (f : Farm) (moment : ℕ) (p : FramePlace) → IsFrameAct f moment p (act.RetryFrame p) (row_refusal p) retried_row
retries f moment p = record {
  refused = or_later (place_refusal f (place_of p)) (state_refusal may_retry (slot_row_named f p)) (version_refusal (frame_name p.frame p.layer) (slot_row_named f p));
  farm = refl;
  heard = tt;
  answers = refl;
  keeps = λ s there. same_retried s.frame there;
  ends = λ s. refl;
}

later_slot : (f : Farm) (p : FramePlace) (moment : ℕ) → slot_named (at_moment f moment) p ≡ slot_named f p
unfolding slot_named
later_slot f p moment = refl

module _ (f : Farm) (moment : ℕ) (p : FramePlace) (a : Act) (refusal : Option SlotRow → Option Refusal) (become : SlotRow → SlotRow) (is : IsFrameAct f moment p a refusal become) where
  find_refuses : (fault : FarmFault) → FindsFrame f p (Err fault) → Prepares f (record { moment = moment; act = a }) (Err fault)
  find_refuses (Refused why) refused = is.refused ∙ ap (λ (o : Option Refusal). or_else o (refusal (slot_row_named f p))) refused
  find_refuses NoMemory refused = tt

  -- the fault of the place is passed on
  pub find_fails : (fault : FarmFault) (r : Result Change FarmFault) → IsErrAnd r (λ e. e ≡ fault) → FindsFrame f p (Err fault) → Prepares f (record { moment = moment; act = a }) r
  find_fails fault r err found =
      let e = err_from_is_err_and r err in
      subst (Prepares f (record { moment = moment; act = a })) (sym e.1) (find_refuses e.0 (subst (λ (x : FarmFault). FindsFrame f p (Err x)) (sym e.2) found))

  module _ (slot : ℕ) (accepted : place_refusal f (place_of p) ≡ None) (named : slot_named f p ≡ Some slot) where
    row_is : slot_row_named f p ≡ slice_get f.slots slot
    row_is = ap (option_and_then (slice_get f.slots)) named

    refusal_is : act_refusal f a ≡ refusal (slice_get f.slots slot)
    refusal_is = is.refused ∙ (ap (λ (o : Option Refusal). or_else o (refusal (slot_row_named f p))) accepted ∙ ap refusal row_is)

    check_refuses : (fault : FarmFault) → Refuses {X = Unit {0}} (refusal (slice_get f.slots slot)) (Err fault) → Prepares f (record { moment = moment; act = a }) (Err fault)
    check_refuses (Refused why) refused = refusal_is ∙ refused
    check_refuses NoMemory refused = tt

    -- the fault of the row is passed on
    pub check_fails : (fault : FarmFault) (r : Result Change FarmFault) → IsErrAnd r (λ e. e ≡ fault) → Refuses {X = Unit {0}} (refusal (slice_get f.slots slot)) (Err fault)
        → Prepares f (record { moment = moment; act = a }) r
    check_fails fault r err refused =
        let e = err_from_is_err_and r err in
        subst (Prepares f (record { moment = moment; act = a })) (sym e.1)
        (check_refuses e.0 (subst (λ (x : FarmFault). Refuses {X = Unit {0}} (refusal (slice_get f.slots slot)) (Err x)) (sym e.2) refused))

    pub frame_makes : (change : Change) → f.moment ≤ moment → has_frame (lists_of f) slot ≡ true → refusal (slice_get f.slots slot) ≡ None → ChangesRow f moment slot become change
        → Makes f (record { moment = moment; act = a }) change
    frame_makes change ahead framed allowed changes =
        let old = changes.old in
        let rows = change.rows in
        let hosts = changes.sets.hosts in
        let slots = changes.sets.slots in
        let there : is_some old.frame ≡ true = subst (λ (o : Option SlotRow). for_some o (λ (s : SlotRow). is_some s.frame) ≡ true) changes.stands framed in
        let can : CanInstall f.subs f.slots slot (become old) = record {
          keeps = subst (λ (o : Option SlotRow). KeepsFrame o (become old)) (sym changes.stands) (is.keeps old there);
          begins = subst (MayBegin f.subs f.slots slot) (sym (is.ends old)) tt;
        } in
        let ready : AreReady f rows = record {
          hosts_there = subst (λ (es : List (ℕ × HostLife)). All (λ e. e.0 < length f.hosts) es) (sym hosts) (All-nil _);
          slots_ready = subst (λ (es : List SlotChange). AreInstallable f.subs f.slots es) (sym slots) (can, tt);
          slots_stood = subst (All (Stood f.slots)) (sym slots) (one_stood f.slots slot old (become old) changes.stands);
          slots_differ = subst (λ (es : List SlotChange). IsDistinct nat_eq (map slot_of es)) (sym slots) (one_distinct slot);
        } in
        let g = at_moment f moment in
        let farm : installed g rows ≡ with_frame g p become =
        ap (λ (es : List (ℕ × HostLife)). record g { hosts = put_lives f.hosts es; slots = put_slots f.slots rows.slots.items }) hosts
        ∙ (ap (λ (es : List SlotChange). record g { slots = put_slots f.slots es }) slots
        ∙ (ap (λ (ss : List SlotRow). record g { slots = ss }) (sym (changed_at_is f.slots slot become old changes.stands))
        ∙ sym (ap (with_row_at g become) (later_slot f p moment ∙ named)))) in
        let count : count_at (slot_row_named f p) ≡ count_at (Some old) = ap count_at (row_is ∙ changes.stands) in
        subst (Makes f (record { moment = moment; act = a })) (sym changes.sets.is)
        (makes f moment a (record { moment = moment; answer = known.Whole (answer.Ended (count_at (Some old))); heard = None; rows = rows; more = more.Nothing; reserved = false; memory = taken.None })
        ahead (refusal_is ∙ allowed) is.heard ready tt refl (farm ∙ sym is.farm) (subst (λ (n : ℕ). AnswersAct f moment a (known.Whole (answer.Ended n))) count is.answers))
