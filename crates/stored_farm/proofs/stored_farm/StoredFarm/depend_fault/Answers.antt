use Rattle.std.proofs.Common.{◌≡◌, ◌∙◌, ℕ, ◌<◌, List, map, length, ap, sym, arith}
use Rattle.std.specs.Prelude.{is_some}
use Rattle.farm_types.specs.declared.slot_row.SlotRow.{SlotRow}
use Rattle.farm_types.specs.Farm.{Farm}
use Rattle.farm_rows.specs.Recovery.{end_fault}
use Rattle.stored_rows.specs.Told.{Told, early_fault}
use Rattle.stored_farm.specs.Ends.{first_stuck, first_wrong, is_set, waits_unmet}
use Rattle.stored_farm.specs.Kept.{groups_kept}
use Rattle.stored_farm.proofs.EndsSame.{stuck_is, wrong_first}
use Rattle.stored_farm.proofs.stored_farm.StoredFarm.depend_fault.Goals as goal

pub returns-then-is_some : goal.returns-then-is_some
returns-then-is_some c =
    let a = c.self.inside in
    let f = a.rows.farm in
    let groups = c.as_slice-groups.ensures.value ∙ c.self.invariant.groups_are in
    let slots = c.as_slice-slots.ensures.value ∙ ap (λ (g : Farm). g.slots) c.lists.ensures in
    let wrong = c.first_wrong-wrong.ensures ∙ (λ i. first_wrong (c.as_slice-met.ensures.value i) (slots i) (c.as_slice-depends.ensures.value i) (groups i)) in
    let fine = ap (λ (t : Told). early_fault t.farm) c.self.view_is ∙ c.requires in
    wrong ∙ (wrong_first f a.depends.items a.met.items fine (ap is_some (sym wrong) ∙ (sym c.is_some.ensures ∙ c.if-is_some.true)) ∙ ap (λ (t : Told). end_fault t.farm) c.self.view_is)

pub returns : goal.returns
returns c =
    let a = c.self.inside in
    let f = a.rows.farm in
    let groups = c.as_slice-groups.ensures.value ∙ c.self.invariant.groups_are in
    let slots = c.as_slice-slots.ensures.value ∙ ap (λ (g : Farm). g.slots) c.lists.ensures in
    let wrong = c.first_wrong-wrong.ensures ∙ (λ i. first_wrong (c.as_slice-met.ensures.value i) (slots i) (c.as_slice-depends.ensures.value i) (groups i)) in
    let fine = ap (λ (t : Told). early_fault t.farm) c.self.view_is ∙ c.requires in
    let are : (slot : ℕ) → slot < length f.slots → is_set c.in_ok-flags.flags.items slot ≡ waits_unmet a.met.items a.depends.items (map (groups_kept f) a.depends.items) slot =
    λ slot below. c.in_ok-flags.ensures slot (omega (arith, below, ap (λ (xs : List SlotRow). length xs) slots)) ∙ (λ i. waits_unmet (c.as_slice-met.ensures.value i) (c.as_slice-depends.ensures.value i) (groups i) slot) in
    c.first_stuck.ensures
    ∙ ((λ i. first_stuck (c.as_slice.ensures.value i) (slots i))
    ∙ (sym (stuck_is f a.depends.items a.met.items fine c.in_ok-flags.flags.items are (ap is_some (sym wrong) ∙ (sym c.is_some.ensures ∙ c.if-is_some.false))) ∙ ap (λ (t : Told). end_fault t.farm) c.self.view_is))
