use Rattle.std.proofs.Common.{◌≡◌, ◌∙◌, nat_eq, Some, None, ap, sym, subst, option_map}
use Rattle.std.specs.Prelude.{IfSome}
use Rattle.std.specs.List.{slice_get}
use Rattle.indexmap.specs.IndexMap.{get}
use Rattle.farm_draft.specs.Drafted.{Drafted}
use Rattle.farm_draft.specs.Rows.{IsChangeOf, put_row, row_of}
use Rattle.farm_draft.proofs.LaidRows.{laid_is, laid_under}
use Rattle.farm_draft.proofs.draft.Draft.slot.Goals as goal

pub returns-in-Some-clause-row : goal.returns-in-Some-clause-row
returns-in-Some-clause-row c =
    let a = c.self.inside in
    let change = c.in-Some.over in
    let over : get nat_eq a.slots c.args.slot ≡ Some change = sym (c.change_over.ensures ∙ ap (get nat_eq a.slots) c.slot.view_is) ∙ c.in-Some.is in
    let of = c.self.invariant c.args.slot change over in
    let stood = ap (slice_get a.books.now.farm.slots) (sym of.slot_is) ∙ of.stood in
    subst (λ (d : Drafted). Some change.row ≡ slice_get d.farm.slots c.args.slot) c.self.view_is
    (sym (laid_is put_row (get nat_eq a.slots) a.books.now.farm.slots c.args.slot change.was (Some change) stood over))

pub returns-in-Some-clause-is : goal.returns-in-Some-clause-is
returns-in-Some-clause-is c =
    let a = c.self.inside in
    let change = c.in-Some.over in
    let over : get nat_eq a.slots c.args.slot ≡ Some change = sym (c.change_over.ensures ∙ ap (get nat_eq a.slots) c.slot.view_is) ∙ c.in-Some.is in
    subst (λ (d : Drafted). IsChangeOf d.base.slots c.args.slot change) c.self.view_is (c.self.invariant c.args.slot change over)

pub returns-in-None-clause-row : goal.returns-in-None-clause-row
returns-in-None-clause-row c =
    let a = c.self.inside in
    let over : get nat_eq a.slots c.args.slot ≡ None = sym (c.change_over.ensures ∙ ap (get nat_eq a.slots) c.slot.view_is) ∙ c.in-None.is in
    subst (λ (d : Drafted). option_map row_of c.unchanged.result ≡ slice_get d.farm.slots c.args.slot) c.self.view_is
    (c.unchanged.ensures.row ∙ sym (laid_under put_row (get nat_eq a.slots) a.books.now.farm.slots c.args.slot over))

pub returns-in-None-clause-is : goal.returns-in-None-clause-is
returns-in-None-clause-is c = subst (λ (d : Drafted). IfSome c.unchanged.result (IsChangeOf d.base.slots c.args.slot)) c.self.view_is c.unchanged.ensures.is
