use Rattle.std.proofs.Common.{◌≡◌, ◌∙◌, ◌++◌, ◌∷◌, [], List, Option, None, Some, sym, ap, arith}
use Rattle.std.specs.List.{slice_get, slice_set}
use Rattle.std.proofs.lemmas.Option.{slice_get_within}
use Rattle.farm_types.specs.declared.slot_row.SlotRow.{SlotRow}
use Rattle.job_book.specs.Lowest.{row_set, slot_for}
use Rattle.job_book.proofs.PlacementLemmas.FreeSlots.{past_none}
use Rattle.job_book.proofs.placement.put.put.Goals as goal

pub push_reserved-requires : goal.push_reserved-requires
push_reserved-requires c =
    let slots = c.args.slots.now.items in
    let at : slice_get slots c.args.slot ≡ None = ap (slice_get slots) (sym c.slot.view_is) ∙ ap (λ (ss : List SlotRow). slice_get ss c.slot.inside.0) (sym c.as_slice.ensures.value) ∙ sym c.in_default.ensures in
    omega (arith, past_none slots c.args.slot at, c.requires.limit, c.requires.capacity, c.requires.within)

pub returns-in_default-clause-slots : goal.returns-in_default-clause-slots
returns-in_default-clause-slots c =
    let slots = c.args.slots.now.items in
    let at : slice_get slots c.args.slot ≡ None = ap (slice_get slots) (sym c.slot.view_is) ∙ ap (λ (ss : List SlotRow). slice_get ss c.slot.inside.0) (sym c.as_slice.ensures.value) ∙ sym c.in_default.ensures in
    c.push_reserved.ensures.items ∙ ap (λ (s : SlotRow). slots ++ s ∷ []) c.fresh_slot.ensures
    ∙ sym (ap (λ (o : Option SlotRow). row_set c.args.slot (slot_for c.args.frame o) o slots) at)

pub set_row-requires : goal.set_row-requires
set_row-requires c =
    let slots = c.args.slots.now.items in
    let row = c.in-Some.row in
    let at : slice_get slots c.args.slot ≡ Some row = ap (slice_get slots) (sym c.slot.view_is) ∙ ap (λ (ss : List SlotRow). slice_get ss c.slot.inside.0) (sym c.as_slice.ensures.value) ∙ sym c.in-Some.ensures in
    slice_get_within slots c.args.slot row at

pub returns-clause-slots : goal.returns-clause-slots
returns-clause-slots c =
    let slots = c.args.slots.now.items in
    let row = c.in-Some.row in
    let at : slice_get slots c.args.slot ≡ Some row = ap (slice_get slots) (sym c.slot.view_is) ∙ ap (λ (ss : List SlotRow). slice_get ss c.slot.inside.0) (sym c.as_slice.ensures.value) ∙ sym c.in-Some.ensures in
    c.set_row.ensures.items ∙ ap (slice_set slots c.args.slot) c.slot_with.ensures
    ∙ sym (ap (λ (o : Option SlotRow). row_set c.args.slot (slot_for c.args.frame o) o slots) at)
