use Rattle.std.proofs.Common.{◌≡◌, ◌∙◌, ℕ, nat_eq, ap, subst, sym}
use Rattle.std.specs.List.{slice_get}
use Rattle.std.specs.Map.{lookup}
use Rattle.indexmap.specs.IndexMap.{get}
use Rattle.farm_draft.specs.Drafted.{Drafted, with_slot}
use Rattle.farm_draft.specs.Inside.{over_farm}
use Rattle.farm_draft.specs.Rows.{Stood}
use Rattle.farm_draft.specs.declared.slot_change.SlotChange.{SlotChange}
use Rattle.farm_draft.proofs.OverFarm.{over_farm-slot}
use Rattle.farm_draft.proofs.PutRows.{changes_more}
use Rattle.farm_draft.proofs.draft.Draft.set_slot.Goals as goal

pub invariant_of-self : goal.invariant_of-self
invariant_of-self c = λ n d at. c.self.invariant n d (sym (ap (lookup (nat_eq n)) c.in_err-insert.ensures.err) ∙ at)

pub invariant_of-self-2 : goal.invariant_of-self-2
invariant_of-self-2 c =
    let a = c.self.inside in
    let updates = c.in_ok-insert.ensures.updates in
    let number = c.slot.inside.0 in
    let change : SlotChange = record { slot = c.args.slot; was = c.args.was.now; row = c.args.row } in
    let stood : Stood a.books.now.farm.slots change = ap (λ (d : Drafted). slice_get d.base.slots c.args.slot) c.self.view_is ∙ c.requires in
    changes_more a.books.now.farm.slots (get nat_eq a.slots) (get nat_eq c.insert.new.self) number change c.self.invariant updates.1 updates.2
    record { slot_is = sym c.slot.view_is; stood = stood }

pub returns : goal.returns
returns c =
    let a = c.self.inside in
    let next = get nat_eq c.insert.new.self in
    let updates = c.in_ok-insert.ensures.updates in
    let number = c.slot.inside.0 in
    let change : SlotChange = record { slot = c.args.slot; was = c.args.was.now; row = c.args.row } in
    subst (λ (n : ℕ). over_farm a.books.now.farm a.moment (get nat_eq a.hosts) next ≡ with_slot c.args.self.now n c.args.row) c.slot.view_is
    (subst (λ (d : Drafted). over_farm a.books.now.farm a.moment (get nat_eq a.hosts) next ≡ with_slot d number c.args.row) c.self.view_is
    (over_farm-slot a.books.now.farm a.moment (get nat_eq a.hosts) (get nat_eq a.slots) next number change updates.1 updates.2))
