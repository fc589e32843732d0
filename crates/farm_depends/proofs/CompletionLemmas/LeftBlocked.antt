-- The blocked frames of some, but for those that are done: by marks on the blocked ones among those that are done.
use Rattle.std.proofs.Common.{◌≡◌, ℕ, ◌<◌, ◌≤◌, ◌&&◌, not, Bool, true, false, cond, eqb, List, [], ◌∷◌, map, filter, length, Option, All, refl, sym, ap, ◌∙◌, arith}
use Rattle.std.specs.List.{slice_get}
use Rattle.std.proofs.lemmas.Bool.{and_right, eqb-true, false≢true}
use Rattle.std.proofs.lemmas.List.Elements.{All-head, All-tail, filter_agree}
use Rattle.std.proofs.lemmas.Map.Views.{any-filter_same}
use Rattle.std.proofs.lemmas.Option.{slice_get_within}
use Rattle.farm_types.specs.declared.limits.TheConstants.{SLOT_LIMIT}
use Rattle.farm_types.specs.declared.slot_row.SlotRow.{SlotRow}
use Rattle.farm_types.specs.Depends.{is_done}
use Rattle.farm_types.specs.Farm.{for_some}
use Rattle.farm_types.specs.Settle.{is_blocked}
use Rattle.farm_types.proofs.Lists.{for_some_true}
use Rattle.depend_graph.specs.Graph.{is_flagged}
use Rattle.farm_draft.specs.Rows.{Stood, slot_of}
use Rattle.farm_draft.specs.declared.slot_change.SlotChange.{SlotChange}
use Rattle.farm_depends.specs.Completing.{blocked_among, completes, is_blocked_in, is_blocked_row, is_done_row, is_eaten, is_left_blocked, left_blocked, newly_done, newly_eaten, unmarked_among}
use Rattle.farm_depends.specs.Follow.{is_listed}
use Rattle.farm_depends.proofs.CompletionLemmas.Completions.{blocked_undone}
use Rattle.farm_depends.proofs.CompletionLemmas.Listed.{filter_twice}
use Rattle.depend_book.proofs.OneCleared.{and_one}

-- those that the changes complete and that were blocked are those whose frames they eat
eaten_by : (slots : List SlotRow) (slot : ℕ) (eaten done : List ℕ) (row was blocked : Bool) → (blocked ≡ true → was ≡ false) → is_blocked_in slots slot ≡ blocked → eaten ≡ blocked_among slots done
    → cond (row && blocked) (slot ∷ eaten) eaten ≡ blocked_among slots (cond (row && not was) (slot ∷ done) done)
eaten_by slots slot eaten done false was blocked undone is rest = rest
eaten_by slots slot eaten done true true true undone is rest = absurd (false≢true (sym (undone refl)))
eaten_by slots slot eaten done true true false undone is rest = rest
eaten_by slots slot eaten done true false true undone is rest =
    ap (λ (ns : List ℕ). slot ∷ ns) rest ∙ sym (ap (λ (b : Bool). cond b (slot ∷ blocked_among slots done) (blocked_among slots done)) is)
eaten_by slots slot eaten done true false false undone is rest = rest ∙ sym (ap (λ (b : Bool). cond b (slot ∷ blocked_among slots done) (blocked_among slots done)) is)

first_slot : (c : SlotChange) (cs : List SlotChange) (b : Bool) → map slot_of (cond b (c ∷ cs) cs) ≡ cond b (c.slot ∷ map slot_of cs) (map slot_of cs)
first_slot c cs true = refl
first_slot c cs false = refl

pub eaten_are : (slots : List SlotRow) (cs : List SlotChange) → All (Stood slots) cs → newly_eaten cs ≡ blocked_among slots (newly_done cs)
eaten_are slots [] stood = refl
eaten_are slots (c ∷ cs) stood =
    let here = All-head (Stood slots) c cs stood in
    let blocked : is_blocked_in slots c.slot ≡ is_blocked_row c.was = ap (λ (o : Option SlotRow). for_some o is_blocked_row) here in
    let done : is_done slots c.slot ≡ is_done_row c.was = ap (λ (o : Option SlotRow). for_some o is_done_row) here in
    let undone : is_blocked_row c.was ≡ true → is_done_row c.was ≡ false = λ h. sym done ∙ blocked_undone slots c.slot (blocked ∙ h) in
    first_slot c (filter is_eaten cs) (is_eaten c)
    ∙ (eaten_by slots c.slot (newly_eaten cs) (newly_done cs) (is_done_row c.row) (is_done_row c.was) (is_blocked_row c.was) undone blocked (eaten_are slots cs (All-tail (Stood slots) c cs stood))
    ∙ ap (blocked_among slots) (sym (first_slot c (filter completes cs) (completes c))))

module _ (slots : List SlotRow) (done : List ℕ) where
  -- those that are done and were blocked
  abbrev eaten : List ℕ
  eaten = blocked_among slots done

  eaten_listed : (slot : ℕ) → is_listed eaten slot ≡ (is_blocked_in slots slot && is_listed done slot)
  eaten_listed slot = any-filter_same (λ k. eqb k slot) (is_blocked_in slots) (is_blocked_in slots slot) (λ k e. ap (is_blocked_in slots) (eqb-true k slot e)) done

  -- ---- none are

  left_if : (b l : Bool) → (b && l) ≡ false → b ≡ (b && not l)
  left_if true true none = none
  left_if true false none = refl
  left_if false l none = refl

  no_slots : (ns : List ℕ) → eqb (length ns) 0 ≡ true → ns ≡ []
  no_slots [] h = refl
  no_slots (n ∷ ns) h = absurd (omega (arith, eqb-true (length (n ∷ ns)) 0 h))

  pub none_eaten : eqb (length eaten) 0 ≡ true → (list : List ℕ) → blocked_among slots list ≡ left_blocked slots done list
  none_eaten none list =
      filter_agree (is_blocked_in slots) (is_left_blocked slots done)
      (λ slot. left_if (is_blocked_in slots slot) (is_listed done slot) (sym (eaten_listed slot) ∙ ap (λ (ns : List ℕ). is_listed ns slot) (no_slots eaten none))) list

  -- ---- some are

  module _ (few : length slots ≤ SLOT_LIMIT) (marks : List Bool) (marked : (slot : ℕ) → slot < SLOT_LIMIT → is_flagged marks slot ≡ is_listed eaten slot) where
    blocked_below : (slot : ℕ) → is_blocked_in slots slot ≡ true → slot < SLOT_LIMIT
    blocked_below slot h =
        let s = for_some_true (slice_get slots slot) (λ (t : SlotRow). for_some t.frame (λ x. is_blocked x.state)) h in
        omega (arith, slice_get_within slots slot s.0 s.1, few)

    -- where it is blocked, it has a mark exactly where it is done
    left_by : (slot : ℕ) (b : Bool) → is_blocked_in slots slot ≡ b → (not (is_flagged marks slot) && b) ≡ (b && not (is_listed done slot))
    left_by slot true is =
        and_one (not (is_flagged marks slot))
        ∙ ap not (marked slot (blocked_below slot is) ∙ (eaten_listed slot ∙ ap (λ (b : Bool). b && is_listed done slot) is))
    left_by slot false is = and_right (not (is_flagged marks slot)) false refl

    pub some_eaten : (list : List ℕ) → unmarked_among marks (blocked_among slots list) ≡ left_blocked slots done list
    some_eaten list =
        filter_twice (λ slot. not (is_flagged marks slot)) (is_blocked_in slots) list
        ∙ filter_agree (λ slot. not (is_flagged marks slot) && is_blocked_in slots slot) (is_left_blocked slots done) (λ slot. left_by slot (is_blocked_in slots slot) refl) list
