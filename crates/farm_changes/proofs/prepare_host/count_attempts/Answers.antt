use Rattle.std.proofs.Common.{◌+◌, ◌<◌, ◌≤◌, ℕ, length, Option, sym, ap, subst, ◌∙◌, arith}
use Rattle.std.specs.Prelude.{◌==◌}
use Rattle.farm_types.specs.declared.limits.TheConstants.{SLOT_LIMIT}
use Rattle.attempt_book.specs.Book.{next_on}
use Rattle.farm_books.specs.Install.{procs_of}
use Rattle.farm_draft.proofs.FirstAttempts.{fewer_left, first_on-some, left_from, next_on-live}
use Rattle.farm_changes.proofs.CountedHosts.{count_within}
use Rattle.farm_changes.proofs.OwnAttempts.{count_first, count_last}
use Rattle.farm_changes.proofs.prepare_host.count_attempts.Goals as goal

pub loop-next-init : goal.loop-next-init
loop-next-init c = (0, c.first_attempt-next.ensures, omega arith)

pub overflow_add-count : goal.overflow_add-count
overflow_add-count c =
    let f = c.args.books.now.farm in
    let so_far = c.loop-next.invariant in
    let slots : length f.slots ≤ SLOT_LIMIT = omega (arith, c.slots-slots.ensures.count, ap length c.slots-slots.ensures.value) in
    omega (arith, so_far.2, count_first c.args.host so_far.0 c.in-Some.slot f.slots (sym so_far.1 ∙ c.in-Some.is), count_within (λ n. n == c.args.host) f.slots, slots)

pub loop-next-smaller : goal.loop-next-smaller
loop-next-smaller c =
    let procs = procs_of c.args.books.now.farm.slots in
    let slot = c.in-Some.slot in
    let so_far = c.loop-next.invariant in
    let first = first_on-some procs c.args.host so_far.0 slot (sym so_far.1 ∙ c.in-Some.is) in
    subst (λ (o : Option ℕ). left_from (length procs) o < left_from (length procs) c.loop-next.next) (sym c.next_attempt-next.ensures)
    (subst (λ (o : Option ℕ). left_from (length procs) (next_on procs slot) < left_from (length procs) o) (sym c.in-Some.is) (fewer_left procs c.args.host slot first.live))

pub loop-next-preserved : goal.loop-next-preserved
loop-next-preserved c =
    let f = c.args.books.now.farm in
    let procs = procs_of f.slots in
    let slot = c.in-Some.slot in
    let so_far = c.loop-next.invariant in
    let at = sym so_far.1 ∙ c.in-Some.is in
    let first = first_on-some procs c.args.host so_far.0 slot at in
    (slot + 1, c.next_attempt-next.ensures ∙ next_on-live procs c.args.host slot first.live, omega (arith, so_far.2, count_first c.args.host so_far.0 slot f.slots at))

pub returns : goal.returns
returns c =
    let so_far = c.loop-next.invariant in
    omega (arith, so_far.2, count_last c.args.host so_far.0 c.args.books.now.farm.slots (sym so_far.1 ∙ c.in_default.is))
