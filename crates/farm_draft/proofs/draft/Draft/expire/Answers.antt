use Rattle.std.proofs.Common.{◌≡◌, ◌∙◌, ℕ, length, arith, sym, ap, subst}
use Rattle.farm_types.specs.Farm.{Farm}
use Rattle.farm_types.specs.Hosts.{count_unheard}
use Rattle.farm_types.specs.Lost.{lose_on}
use Rattle.farm_draft.specs.Drafted.{Drafted, with_farm}
use Rattle.farm_draft.specs.Ends.{OnlyEnds}
use Rattle.farm_draft.specs.Lost.{expired_one}
use Rattle.farm_draft.proofs.EndsLemmas.{ends_lost}
use Rattle.farm_draft.proofs.Expired.{expire_none, expired_below, expired_below-all, expired_below-next, expired_below-none, is_silent_below}
use Rattle.farm_draft.proofs.draft.Draft.expire.Goals as goal

pub returns-then-count_silent-eq0 : goal.returns-then-count_silent-eq0
returns-then-count_silent-eq0 c =
    let d = c.args.self.now in
    let in_books : count_unheard d.moment d.base.hosts ≡ 0 =
    subst (λ (x : Drafted). count_unheard x.moment x.base.hosts ≡ 0) c.self.view_is (sym c.count_silent.ensures ∙ c.if-count_silent-eq0.true) in
    let none : count_unheard d.moment d.farm.hosts ≡ 0 = ap (λ (f : Farm). count_unheard d.moment f.hosts) c.requires.begins ∙ in_books in
    sym (ap (λ (f : Farm). with_farm d f) (expire_none d.farm d.moment none))

pub loop-host-init : goal.loop-host-init
loop-host-init c =
    let d = c.args.self.now in
    sym (ap (λ (f : Farm). with_farm d f) (expired_below-none d.farm d.moment))

pub expire_one-requires : goal.expire_one-requires
expire_one-requires c =
    let d = c.args.self.now in
    let test = is_silent_below d.farm d.moment c.loop-host.host in
    let ends : OnlyEnds d.base.slots (lose_on test d.farm.slots) =
    subst (λ (f : Farm). OnlyEnds d.base.slots (lose_on test f.slots)) (sym c.requires.begins) (ends_lost test d.base.slots c.requires.framed) in
    subst (λ (x : Drafted). OnlyEnds x.base.slots x.farm.slots) (sym c.loop-host.invariant) ends

pub loop-host-preserved : goal.loop-host-preserved
loop-host-preserved c =
    let d = c.args.self.now in
    let n = c.loop-host.host in
    c.in_ok-expire_one.ensures
    ∙ (ap (λ (x : Drafted). with_farm x (expired_one x.farm x.moment n)) c.loop-host.invariant ∙ ap (λ (f : Farm). with_farm d f) (expired_below-next d.farm d.moment n))

pub returns : goal.returns
returns c =
    let d = c.args.self.now in
    let last : c.loop-host.host ≡ length d.farm.hosts = omega (arith, c.count_hosts-host-end.ensures.value) in
    c.loop-host.invariant ∙ (ap (λ (n : ℕ). with_farm d (expired_below d.farm d.moment n)) last ∙ ap (λ (f : Farm). with_farm d f) (expired_below-all d.farm d.moment))
