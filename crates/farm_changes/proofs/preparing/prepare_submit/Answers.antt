use Rattle.std.proofs.Common.{◌≡◌, ◌∙◌, ℕ, List, Some, sym, subst}
use Rattle.farm_types.specs.Farm.{show_named}
use Rattle.farm_changes.proofs.JobsSet.{submit_makes}
use Rattle.farm_changes.proofs.preparing.prepare_submit.Goals as goal

pub returns : goal.returns
returns c =
    let f = c.args.books.now.farm in
    let show = c.in-Some.show in
    submit_makes f c.args.spec.now c.in_ok-spec.spec c.args.moment show c.in_ok-limits.limits c.in_ok-placing.placing c.none.result c.change_of.result c.requires.ahead
    (subst (λ (name : List ℕ). show_named f name ≡ Some show) c.as_str.ensures (sym c.show_named.ensures ∙ c.in-Some.is))
    (sym c.has_facility.ensures ∙ c.if-not-has_facility.false) c.in_ok-check_limits.ensures c.in_ok-limits.ensures c.requires.limits c.in_ok-placing.ensures.0
    c.in_ok-placing.ensures.1 c.in_ok-spec.ensures (record { hosts = c.none.ensures.hosts; slots = c.none.ensures.slots }) c.change_of.ensures
