use Rattle.std.proofs.Common.{◌≡◌, ◌∙◌, Err, Ok, false, sym, ap, subst}
use Rattle.std.specs.Prelude.{Result}
use Rattle.std.specs.Str.{bytes_eq}
use Rattle.std.proofs.lemmas.Result.{err_from_is_err_and}
use Rattle.depend_book.specs.declared.new_depend.NewDepend.{NewDepend}
use Rattle.farm_types.specs.declared.fault.FarmFault.{FarmFault}
use Rattle.farm_places.specs.declared.ends.FoundEnd.{FoundEnd}
use Rattle.farm_depends.specs.Coming.{Comes}
use Rattle.farm_places.specs.Ends.{FindsEnd}
use Rattle.farm_depends.specs.Placed.{EndsIn, GroupsBetween, placed}
use Rattle.farm_depends.proofs.ComingLemmas.ComingGroups.{first_refused, second_refused}
use Rattle.farm_depends.proofs.ComingLemmas.PlacedEnds.{between_comes, between_fault, each_group, other_finds, own_fault, own_is_end, same_name}
use Rattle.farm_depends.proofs.new_depends.own_depends.own_coming.Goals as goal

pub returns-in_err-waiter : goal.returns-in_err-waiter
returns-in_err-waiter c =
    let f = c.args.books.now.farm in
    let job = c.args.job.now in
    let own = c.args.own.now in
    let counts = c.args.counts.now in
    let spec = c.args.spec.now in
    let can = c.requires.can in
    let mine = c.requires.own in
    let farm = placed f job in
    let p = err_from_is_err_and c.from_residual.result c.from_residual.ensures.1 in
    let refused = subst (λ (e : FarmFault). EndsIn own spec.waiter (Err e)) (sym p.2) c.in_err-waiter.ensures in
    subst (λ (r : Result NewDepend FarmFault). Comes farm counts spec r) (sym p.1)
    (first_refused farm counts spec p.0 (own_fault f job can own mine spec.waiter c.requires.waiter p.0 refused))

pub returns-in_err-target : goal.returns-in_err-target
returns-in_err-target c =
    let f = c.args.books.now.farm in
    let job = c.args.job.now in
    let own = c.args.own.now in
    let counts = c.args.counts.now in
    let spec = c.args.spec.now in
    let can = c.requires.can in
    let mine = c.requires.own in
    let farm = placed f job in
    let w = own_is_end f job can own mine spec.waiter c.requires.waiter c.in_ok-waiter.waiter c.in_ok-waiter.ensures in
    let named = same_name spec.target.job job.name (ap (bytes_eq spec.target.job) (sym c.as_str.ensures) ∙ (sym c.is.ensures ∙ c.if-is.true)) in
    let p = err_from_is_err_and c.from_residual-in_err-target.result c.from_residual-in_err-target.ensures.1 in
    let refused = subst (λ (e : FarmFault). EndsIn own spec.target (Err e)) (sym p.2) c.in_err-target.ensures in
    subst (λ (r : Result NewDepend FarmFault). Comes farm counts spec r) (sym p.1)
    (second_refused farm counts spec p.0 w.accepted (own_fault f job can own mine spec.target named p.0 refused))

pub groups_between-requires-clause-each : goal.groups_between-requires-clause-each
groups_between-requires-clause-each c =
    let f = c.args.books.now.farm in
    let job = c.args.job.now in
    let own = c.args.own.now in
    let counts = c.args.counts.now in
    let spec = c.args.spec.now in
    let can = c.requires.can in
    let mine = c.requires.own in
    let farm = placed f job in
    let w = own_is_end f job can own mine spec.waiter c.requires.waiter c.in_ok-waiter.waiter c.in_ok-waiter.ensures in
    let named = same_name spec.target.job job.name (ap (bytes_eq spec.target.job) (sym c.as_str.ensures) ∙ (sym c.is.ensures ∙ c.if-is.true)) in
    let target : FoundEnd = record { end = c.in_ok-target.target; shape = own.shape } in
    let t = own_is_end f job can own mine spec.target named c.in_ok-target.target c.in_ok-target.ensures in
    each_group f job can own mine spec c.requires.waiter c.in_ok-waiter.waiter target w t

pub returns-in_err-groups : goal.returns-in_err-groups
returns-in_err-groups c =
    let f = c.args.books.now.farm in
    let job = c.args.job.now in
    let own = c.args.own.now in
    let counts = c.args.counts.now in
    let spec = c.args.spec.now in
    let can = c.requires.can in
    let mine = c.requires.own in
    let farm = placed f job in
    let w = own_is_end f job can own mine spec.waiter c.requires.waiter c.in_ok-waiter.waiter c.in_ok-waiter.ensures in
    let named = same_name spec.target.job job.name (ap (bytes_eq spec.target.job) (sym c.as_str.ensures) ∙ (sym c.is.ensures ∙ c.if-is.true)) in
    let target : FoundEnd = record { end = c.in_ok-target.target; shape = own.shape } in
    let t = own_is_end f job can own mine spec.target named c.in_ok-target.target c.in_ok-target.ensures in
    let p = err_from_is_err_and c.from_residual-in_err-groups.result c.from_residual-in_err-groups.ensures.1 in
    let refused = subst (λ (e : FarmFault). GroupsBetween own own.shape counts spec (Err e)) (sym p.2) c.in_err-groups.ensures in
    subst (λ (r : Result NewDepend FarmFault). Comes farm counts spec r) (sym p.1)
    (between_fault f job can own mine spec c.requires.waiter c.in_ok-waiter.waiter target w t counts p.0 refused)

pub returns-then-is : goal.returns-then-is
returns-then-is c =
    let f = c.args.books.now.farm in
    let job = c.args.job.now in
    let own = c.args.own.now in
    let counts = c.args.counts.now in
    let spec = c.args.spec.now in
    let can = c.requires.can in
    let mine = c.requires.own in
    let farm = placed f job in
    let w = own_is_end f job can own mine spec.waiter c.requires.waiter c.in_ok-waiter.waiter c.in_ok-waiter.ensures in
    let named = same_name spec.target.job job.name (ap (bytes_eq spec.target.job) (sym c.as_str.ensures) ∙ (sym c.is.ensures ∙ c.if-is.true)) in
    let target : FoundEnd = record { end = c.in_ok-target.target; shape = own.shape } in
    let t = own_is_end f job can own mine spec.target named c.in_ok-target.target c.in_ok-target.ensures in
    between_comes f job can own mine spec c.requires.waiter c.in_ok-waiter.waiter target w t counts c.in_ok-groups.groups c.in_ok-groups.ensures c.new_depend.result c.new_depend.ensures

pub returns-in_err-target-2 : goal.returns-in_err-target-2
returns-in_err-target-2 c =
    let f = c.args.books.now.farm in
    let job = c.args.job.now in
    let own = c.args.own.now in
    let counts = c.args.counts.now in
    let spec = c.args.spec.now in
    let can = c.requires.can in
    let mine = c.requires.own in
    let farm = placed f job in
    let w = own_is_end f job can own mine spec.waiter c.requires.waiter c.in_ok-waiter.waiter c.in_ok-waiter.ensures in
    let apart : bytes_eq spec.target.job job.name ≡ false = ap (bytes_eq spec.target.job) (sym c.as_str.ensures) ∙ (sym c.is.ensures ∙ c.if-is.false) in
    let p = err_from_is_err_and c.from_residual-in_err-target-2.result c.from_residual-in_err-target-2.ensures.1 in
    let refused = subst (λ (e : FarmFault). FindsEnd f spec.target (Err e)) (sym p.2) c.in_err-target-2.ensures in
    subst (λ (r : Result NewDepend FarmFault). Comes farm counts spec r) (sym p.1)
    (second_refused farm counts spec p.0 w.accepted (other_finds f job can spec.target apart (Err p.0) refused))

pub groups_between-requires-2-clause-each : goal.groups_between-requires-2-clause-each
groups_between-requires-2-clause-each c =
    let f = c.args.books.now.farm in
    let job = c.args.job.now in
    let own = c.args.own.now in
    let counts = c.args.counts.now in
    let spec = c.args.spec.now in
    let can = c.requires.can in
    let mine = c.requires.own in
    let farm = placed f job in
    let w = own_is_end f job can own mine spec.waiter c.requires.waiter c.in_ok-waiter.waiter c.in_ok-waiter.ensures in
    let apart : bytes_eq spec.target.job job.name ≡ false = ap (bytes_eq spec.target.job) (sym c.as_str.ensures) ∙ (sym c.is.ensures ∙ c.if-is.false) in
    let target = c.in_ok-target-2.target in
    let t = other_finds f job can spec.target apart (Ok target) c.in_ok-target-2.ensures in
    each_group f job can own mine spec c.requires.waiter c.in_ok-waiter.waiter target w t

pub returns-in_err-groups-2 : goal.returns-in_err-groups-2
returns-in_err-groups-2 c =
    let f = c.args.books.now.farm in
    let job = c.args.job.now in
    let own = c.args.own.now in
    let counts = c.args.counts.now in
    let spec = c.args.spec.now in
    let can = c.requires.can in
    let mine = c.requires.own in
    let farm = placed f job in
    let w = own_is_end f job can own mine spec.waiter c.requires.waiter c.in_ok-waiter.waiter c.in_ok-waiter.ensures in
    let apart : bytes_eq spec.target.job job.name ≡ false = ap (bytes_eq spec.target.job) (sym c.as_str.ensures) ∙ (sym c.is.ensures ∙ c.if-is.false) in
    let target = c.in_ok-target-2.target in
    let t = other_finds f job can spec.target apart (Ok target) c.in_ok-target-2.ensures in
    let p = err_from_is_err_and c.from_residual-in_err-groups-2.result c.from_residual-in_err-groups-2.ensures.1 in
    let refused = subst (λ (e : FarmFault). GroupsBetween own target.shape counts spec (Err e)) (sym p.2) c.in_err-groups-2.ensures in
    subst (λ (r : Result NewDepend FarmFault). Comes farm counts spec r) (sym p.1)
    (between_fault f job can own mine spec c.requires.waiter c.in_ok-waiter.waiter target w t counts p.0 refused)

pub returns : goal.returns
returns c =
    let f = c.args.books.now.farm in
    let job = c.args.job.now in
    let own = c.args.own.now in
    let counts = c.args.counts.now in
    let spec = c.args.spec.now in
    let can = c.requires.can in
    let mine = c.requires.own in
    let farm = placed f job in
    let w = own_is_end f job can own mine spec.waiter c.requires.waiter c.in_ok-waiter.waiter c.in_ok-waiter.ensures in
    let apart : bytes_eq spec.target.job job.name ≡ false = ap (bytes_eq spec.target.job) (sym c.as_str.ensures) ∙ (sym c.is.ensures ∙ c.if-is.false) in
    let target = c.in_ok-target-2.target in
    let t = other_finds f job can spec.target apart (Ok target) c.in_ok-target-2.ensures in
    between_comes f job can own mine spec c.requires.waiter c.in_ok-waiter.waiter target w t counts c.in_ok-groups-2.groups c.in_ok-groups-2.ensures c.new_depend-2.result c.new_depend-2.ensures
