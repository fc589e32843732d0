use Rattle.std.proofs.Common.{◌≡◌, ◌+◌, ◌≤◌, ℕ, length, sym, ap, ◌∙◌, arith}
use Rattle.farm_types.specs.declared.limits.TheConstants.{SLOT_LIMIT}
use Rattle.farm_types.specs.Lost.{count_on}
use Rattle.farm_changes.proofs.CountedHosts.{count_below-all, count_below-next, count_below-none, count_none, count_within, is_silent_below}
use Rattle.farm_changes.proofs.prepare_host.count_lost.Goals as goal

pub returns-then-count_silent-eq0 : goal.returns-then-count_silent-eq0
returns-then-count_silent-eq0 c = sym (count_none c.args.books.now.farm c.args.moment (sym c.count_silent.ensures ∙ c.if-count_silent-eq0.true))

pub loop-host-init : goal.loop-host-init
loop-host-init c = sym (count_below-none c.args.books.now.farm c.args.moment)

pub overflow_add-count : goal.overflow_add-count
overflow_add-count c =
    let f = c.args.books.now.farm in
    let n = c.loop-host.host in
    let slots : length f.slots ≤ SLOT_LIMIT = omega (arith, c.slots-slots.ensures.count, ap length c.slots-slots.ensures.value) in
    let within = count_within (is_silent_below f c.args.moment (n + 1)) f.slots in
    omega (arith, c.loop-host.invariant, c.count_silenced-count.ensures, count_below-next f c.args.moment n, within, slots)

pub loop-host-preserved : goal.loop-host-preserved
loop-host-preserved c =
    omega (arith, c.loop-host.invariant, c.count_silenced-count.ensures, count_below-next c.args.books.now.farm c.args.moment c.loop-host.host)

pub returns : goal.returns
returns c =
    let f = c.args.books.now.farm in
    let all : c.loop-host.host ≡ length f.hosts = omega (arith, c.loop-host.auto.host-end, c.loop-host-test.false, c.count_hosts-host-end.ensures.value) in
    c.loop-host.invariant ∙ (ap (λ (n : ℕ). count_on (is_silent_below f c.args.moment n) f.slots) all ∙ count_below-all f c.args.moment)
