use Rattle.std.proofs.Common.{◌≡◌, ◌∙◌, length, sym, ap, subst, arith}
use Rattle.farm_types.specs.Farm.{Farm}
use Rattle.farm_types.specs.Step.{lists_of}
use Rattle.farm_books.specs.Books.{FarmBooks, IsWhole, depends_of}
use Rattle.farm_depends.specs.Follow.{CanFollow, books_after}
use Rattle.farm_finish.specs.Finishing.{CanFinishAll, all_finished}
use Rattle.farm_finish.proofs.TurnLemmas.Finished.{finished_hosts}
use Rattle.farm_core.specs.Change.{IsReady, after_change}
use Rattle.farm_core.proofs.Applying.{can_end_then, can_take, farm_last, whole_last}
use Rattle.farm_core.proofs.farm.Farm.apply.Goals as goal

pub apply-requires-clause-ready : goal.apply-requires-clause-ready
apply-requires-clause-ready c = (subst (λ (g : Farm). IsReady g c.args.change) (sym c.self.view_is) c.requires.ready).fits

pub apply_follow-requires : goal.apply_follow-requires
apply_follow-requires c =
    let change = c.args.change in
    let ready = subst (λ (g : Farm). IsReady g change) (sym c.self.view_is) c.requires.ready in
    subst (λ (v : FarmBooks). CanFollow v.farm.slots (depends_of v) change.follow) (sym c.apply.ensures.farm)
    (can_take c.self.inside.books change c.self.invariant c.kept.ensures.book ready c.requires.reserved)

pub apply_finish-requires : goal.apply_finish-requires
apply_finish-requires c =
    let change = c.args.change in
    let ready = subst (λ (g : Farm). IsReady g change) (sym c.self.view_is) c.requires.ready in
    let then = c.apply_follow.ensures ∙ ap (λ (v : FarmBooks). books_after v change.follow) c.apply.ensures.farm in
    subst (λ (v : FarmBooks). CanFinishAll (lists_of v.farm) change.finish) (sym then) (can_end_then c.self.inside.books change c.self.invariant c.kept.ensures.book ready)

pub invariant_of-self : goal.invariant_of-self
invariant_of-self c =
    let change = c.args.change in
    let ready = subst (λ (g : Farm). IsReady g change) (sym c.self.view_is) c.requires.ready in
    let then = c.apply_follow.ensures ∙ ap (λ (v : FarmBooks). books_after v change.follow) c.apply.ensures.farm in
    let last = c.apply_finish.ensures ∙ ap (all_finished change.finish) then in
    subst IsWhole (sym last) (whole_last c.self.inside.books change c.self.invariant c.kept.ensures.book ready)

pub returns-clause-farm : goal.returns-clause-farm
returns-clause-farm c =
    let change = c.args.change in
    let ready = subst (λ (g : Farm). IsReady g change) (sym c.self.view_is) c.requires.ready in
    let then = c.apply_follow.ensures ∙ ap (λ (v : FarmBooks). books_after v change.follow) c.apply.ensures.farm in
    let last = c.apply_finish.ensures ∙ ap (all_finished change.finish) then in
    ap (λ (v : FarmBooks). v.farm) last ∙ (farm_last c.self.inside.books change c.self.invariant c.kept.ensures.book ready ∙ ap (λ (g : Farm). after_change g change) c.self.view_is)

pub returns-clause-hosts : goal.returns-clause-hosts
returns-clause-hosts c =
    let then = c.apply_follow.ensures in
    let same : c.apply_finish.new.books.farm.hosts ≡ c.apply.new.books.farm.hosts =
    ap (λ (v : FarmBooks). v.farm.hosts) c.apply_finish.ensures ∙ (finished_hosts c.args.change.finish c.apply_follow.new.books ∙ ap (λ (v : FarmBooks). v.farm.hosts) then) in
    let was : c.self.inside.books.farm.hosts ≡ c.args.self.now.hosts = ap (λ (g : Farm). g.hosts) c.self.view_is in
    omega (arith, ap length same, ap length was, c.apply.ensures.hosts)
