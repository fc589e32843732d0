use Rattle.std.proofs.Common.{◌≡◌, ◌<◌, ◌∙◌, ◌∷◌, [], ◌++◌, Err, List, length, get_or, take, sym, ap, subst, arith}
use Rattle.std.specs.Prelude.{Result}
use Rattle.std.proofs.lemmas.Result.{err_from_is_err_and}
use Rattle.farm_types.specs.declared.depend.DependSpec.{DependSpec}
use Rattle.farm_types.specs.DependActs.{new_groups}
use Rattle.depend_book.specs.declared.new_depend.NewDepend.{NewDepend}
use Rattle.farm_types.specs.declared.fault.FarmFault.{FarmFault}
use Rattle.farm_depends.specs.Coming.{ComeAll, Comes, counts_full, counts_more, each_coming, refusal_with_all}
use Rattle.farm_depends.specs.Placed.{placed}
use Rattle.farm_depends.proofs.ComingLemmas.ComingInTurn.{allowed_by, coming_more, fault_comes, left_more, own_each}
use Rattle.farm_depends.proofs.new_depends.own_depends.all_coming.Goals as goal

pub own_coming-requires-clause-waiter : goal.own_coming-requires-clause-waiter
own_coming-requires-clause-waiter c =
    let job = c.args.job.now in
    let spec = c.spec-item.result in
    let i = c.loop-spec.spec-index in
    let at : spec ≡ get_or job.depends i spec = subst (λ (xs : List DependSpec). spec ≡ get_or xs i spec) c.as_slice-spec-items.ensures c.spec-item.is in
    own_each job c.requires.can.formed.each_depend i spec (omega (arith, ap length c.as_slice-spec-items.ensures)) at

pub counts_more-counts-requires : goal.counts_more-counts-requires
counts_more-counts-requires c =
    let farm = placed c.args.books.now.farm c.args.job.now in
    let spec = c.spec-item.result in
    let groups = ap (λ (n : NewDepend). length n.groups) c.in_ok-new.ensures.1 in
    let room = (allowed_by farm c.loop-spec.counts spec c.in_ok-new.ensures.0).room in
    ap (counts_full c.loop-spec.counts) (c.len.ensures ∙ groups) ∙ room

pub returns-in_err-new : goal.returns-in_err-new
returns-in_err-new c =
    let p = err_from_is_err_and c.from_residual.result c.from_residual.ensures.1 in
    let farm = placed c.args.books.now.farm c.args.job.now in
    let job = c.args.job.now in
    let spec = c.spec-item.result in
    let i = c.loop-spec.spec-index in
    let at : spec ≡ get_or job.depends i spec = subst (λ (xs : List DependSpec). spec ≡ get_or xs i spec) c.as_slice-spec-items.ensures c.spec-item.is in
    let comes = subst (λ (e : FarmFault). Comes farm c.loop-spec.counts spec (Err e)) (sym p.2) c.in_err-new.ensures in
    subst (λ (r : Result (List NewDepend) FarmFault). ComeAll farm c.args.counts job.depends r) (sym p.1)
    (fault_comes farm job.depends i spec (omega (arith, ap length c.as_slice-spec-items.ensures)) at c.args.counts c.loop-spec.counts c.loop-spec.invariant.left p.0 comes)

pub loop-spec-preserved : goal.loop-spec-preserved
loop-spec-preserved c =
    let farm = placed c.args.books.now.farm c.args.job.now in
    let job = c.args.job.now in
    let spec = c.spec-item.result in
    let i = c.loop-spec.spec-index in
    let at : spec ≡ get_or job.depends i spec = subst (λ (xs : List DependSpec). spec ≡ get_or xs i spec) c.as_slice-spec-items.ensures c.spec-item.is in
    let within : i < length job.depends = omega (arith, ap length c.as_slice-spec-items.ensures) in
    let groups = ap (λ (n : NewDepend). length n.groups) c.in_ok-new.ensures.1 in
    let more : c.counts_more-counts.result ≡ counts_more c.loop-spec.counts (length (new_groups farm spec)) = c.counts_more-counts.ensures.more ∙ ap (counts_more c.loop-spec.counts) (c.len.ensures ∙ groups) in
    record {
      left = left_more farm job.depends i spec within at c.loop-spec.counts (refusal_with_all farm c.args.counts job.depends) c.loop-spec.invariant.left c.counts_more-counts.result more c.in_ok-new.ensures.0;
      all = c.in_ok-push.ensures.ok ∙ (ap (λ (ns : List NewDepend). ns ++ c.in_ok-new.new ∷ []) c.loop-spec.invariant.all ∙ (ap (λ (n : NewDepend). each_coming farm (take i job.depends) ++ n ∷ []) c.in_ok-new.ensures.1
          ∙ sym (coming_more farm job.depends i spec within at c.loop-spec.counts (refusal_with_all farm c.args.counts job.depends) c.loop-spec.invariant.left)));
      within = c.counts_more-counts.ensures.within;
    }
