use Rattle.std.proofs.Common.{rules, ◌≡◌, ◌∙◌, true, Bool, sym, subst}
use Rattle.farm_rows.specs.declared.farm_row.FarmRow.TheVariants as row
use Rattle.farm_rows.specs.Recovery.{comes_after}
use Rattle.stored_rows.specs.Told.{Accepts, Told}
use Rattle.stored_farm.proofs.Changes.{limit_taken}
use Rattle.stored_farm.proofs.stored_farm.StoredFarm.add_limit.Goals as goal

pub invariant_of-self-2 : goal.invariant_of-self-2
invariant_of-self-2 c =
    let a = c.self.inside in
    let after = subst (λ (t : Told). comes_after t.last (11, c.args.limit) ≡ true) (sym c.self.view_is) c.requires in
    let taken : c.in_ok-add_limit.field-0 ≡ true = search rules in
    let took = subst (λ (b : Bool). Accepts b a.rows (row.Limit c.args.limit c.args.told) c.add_limit.new.self) taken c.in_ok-add_limit.ensures.ok in
    limit_taken a.rows a.last a.depends.items a.groups.items a.met.items a.left c.self.invariant c.args.limit c.args.told after c.add_limit.new.self c.from.result took.1 (c.from.ensures ∙ c.limit.view_is)
