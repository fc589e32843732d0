use Rattle.std.proofs.Common.{◌≡◌, ◌∙◌, Err, List, All, sym, subst}
use Rattle.std.specs.Prelude.{Result}
use Rattle.std.proofs.lemmas.Result.{err_from_is_err_and}
use Rattle.farm_types.specs.declared.depend.Group.{Group}
use Rattle.farm_types.specs.DependActs.{new_groups}
use Rattle.depend_book.specs.declared.new_depend.NewDepend.{NewDepend}
use Rattle.depend_graph.specs.Graph.{IsGroup}
use Rattle.farm_types.specs.declared.fault.FarmFault.{FarmFault}
use Rattle.farm_depends.specs.Coming.{Comes, groups_refusal_with}
use Rattle.farm_types.specs.Faults.{Refuses}
use Rattle.farm_depends.proofs.ComingLemmas.ComingGroups.{found_groups, new_are_groups, refusal_is, third_refused}
use Rattle.farm_depends.proofs.new_depends.depends.between.Goals as goal

pub check_groups-requires-clause-each : goal.check_groups-requires-clause-each
check_groups-requires-clause-each c =
    let f = c.args.books.now.farm in
    let spec = c.args.spec.now in
    let are : c.in_ok-groups.groups ≡ new_groups f spec = c.in_ok-groups.ensures ∙ found_groups f spec c.args.waiter c.args.target c.requires.waiter c.requires.target in
    subst (λ (gs : List Group). All IsGroup gs) (sym are) (new_are_groups f c.requires.kept spec c.requires.waiter.accepted c.requires.target.accepted)

pub returns-in_err-check_groups : goal.returns-in_err-check_groups
returns-in_err-check_groups c =
    let p = err_from_is_err_and c.from_residual-in_err-check_groups.result c.from_residual-in_err-check_groups.ensures.1 in
    let f = c.args.books.now.farm in
    let spec = c.args.spec.now in
    let counts = c.args.counts.now in
    let groups = c.in_ok-groups.groups in
    let are : groups ≡ new_groups f spec = c.in_ok-groups.ensures ∙ found_groups f spec c.args.waiter c.args.target c.requires.waiter c.requires.target in
    let refused = subst (λ (e : FarmFault). Refuses {X = Unit {0}} (groups_refusal_with f counts groups) (Err e)) (sym p.2) c.in_err-check_groups.ensures in
    subst (λ (r : Result NewDepend FarmFault). Comes f counts spec r) (sym p.1)
    (third_refused f counts spec c.requires.waiter.accepted c.requires.target.accepted groups are (Unit {0}) p.0 refused)

pub returns : goal.returns
returns c =
    let f = c.args.books.now.farm in
    let spec = c.args.spec.now in
    let counts = c.args.counts.now in
    let groups = c.in_ok-groups.groups in
    let are : groups ≡ new_groups f spec = c.in_ok-groups.ensures ∙ found_groups f spec c.args.waiter c.args.target c.requires.waiter c.requires.target in (
      refusal_is f counts spec c.requires.waiter.accepted c.requires.target.accepted groups are ∙ c.in_ok-check_groups.ensures,
      λ i. record { kind = spec.kind; any = spec.any; waiter = c.requires.waiter.end_is i; target = c.requires.target.end_is i; groups = are i },
    )
