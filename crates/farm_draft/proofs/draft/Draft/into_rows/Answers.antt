use Rattle.std.proofs.Common.{◌≡◌, nat_eq, subst, sym}
use Rattle.indexmap.specs.IndexMap.{get}
use Rattle.farm_types.specs.Step.{at_moment}
use Rattle.farm_draft.specs.Drafted.{Drafted}
use Rattle.farm_draft.specs.declared.rows.Rows.{Rows}
use Rattle.farm_draft.specs.Ends.{OnlyEnds}
use Rattle.farm_draft.specs.Rows.{AreReady, installed}
use Rattle.farm_draft.proofs.PutRows.{hosts_there, slots_ready, slots_stood}
use Rattle.farm_draft.proofs.draft.Draft.into_rows.Goals as goal

pub returns-clause-farm : goal.returns-clause-farm
returns-clause-farm c =
    let a = c.self.inside in
    let f = at_moment a.books.now.farm a.moment in
    let picked = c.in_ok-changed_slots.ensures a.books.now.farm.slots c.self.invariant in
    let rows : Rows = record { hosts = c.in_ok-changed_lives.field-0; slots = c.in_ok-changed_slots.field-0 } in
    subst (λ (d : Drafted). installed (at_moment d.base d.moment) rows ≡ d.farm) c.self.view_is
    (λ i. record f { hosts = c.in_ok-changed_lives.ensures.all i; slots = picked.same i })

pub returns-clause-ready : goal.returns-clause-ready
returns-clause-ready c =
    let f = c.self.inside.books.now.farm in
    let over = get nat_eq c.self.inside.slots in
    let changes = c.self.invariant in
    let picked = c.in_ok-changed_slots.ensures f.slots changes in
    let rows : Rows = record { hosts = c.in_ok-changed_lives.field-0; slots = c.in_ok-changed_slots.field-0 } in
    subst (λ (d : Drafted). AreReady d.base rows) c.self.view_is
    record {
      hosts_there = hosts_there f.hosts _ c.in_ok-changed_lives.ensures.differ;
      slots_ready = slots_ready f.slots over changes _ picked f.subs (subst (λ (d : Drafted). OnlyEnds d.base.slots d.farm.slots) (sym c.self.view_is) c.requires);
      slots_stood = slots_stood f.slots over changes _ picked;
      slots_differ = picked.distinct;
    }
