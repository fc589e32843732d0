use Rattle.std.proofs.Common.{Err, sym, subst}
use Rattle.std.specs.Prelude.{Result}
use Rattle.std.proofs.lemmas.Result.{err_from_is_err_and}
use Rattle.depend_book.specs.declared.new_depend.NewDepend.{NewDepend}
use Rattle.farm_types.specs.declared.fault.FarmFault.{FarmFault}
use Rattle.farm_depends.specs.Coming.{Comes}
use Rattle.farm_places.specs.Ends.{FindsEnd}
use Rattle.farm_depends.proofs.ComingLemmas.ComingGroups.{first_refused, second_refused}
use Rattle.farm_depends.proofs.new_depends.depends.coming.Goals as goal

pub returns-in_err-waiter : goal.returns-in_err-waiter
returns-in_err-waiter c =
    let p = err_from_is_err_and c.from_residual.result c.from_residual.ensures.1 in
    let f = c.args.books.now.farm in
    let refused = subst (λ (e : FarmFault). FindsEnd f c.args.spec.now.waiter (Err e)) (sym p.2) c.in_err-waiter.ensures in
    subst (λ (r : Result NewDepend FarmFault). Comes f c.args.counts.now c.args.spec.now r) (sym p.1) (first_refused f c.args.counts.now c.args.spec.now p.0 refused)

pub returns-in_err-target : goal.returns-in_err-target
returns-in_err-target c =
    let p = err_from_is_err_and c.from_residual-in_err-target.result c.from_residual-in_err-target.ensures.1 in
    let f = c.args.books.now.farm in
    let refused = subst (λ (e : FarmFault). FindsEnd f c.args.spec.now.target (Err e)) (sym p.2) c.in_err-target.ensures in
    subst (λ (r : Result NewDepend FarmFault). Comes f c.args.counts.now c.args.spec.now r) (sym p.1) (second_refused f c.args.counts.now c.args.spec.now p.0 c.in_ok-waiter.ensures.accepted refused)
