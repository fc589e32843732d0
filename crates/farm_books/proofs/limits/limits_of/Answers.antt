use Rattle.std.proofs.Common.{◌≡◌, ◌∙◌, ◌+◌, ℕ, Bool, false, List, Option, [], length, take, refl, ap, subst, sym, arith}
use Rattle.std.specs.Prelude.{is_some}
use Rattle.std.proofs.lemmas.List.{take_all}
use Rattle.std.proofs.lemmas.Option.{slice_get_read}
use Rattle.farm_types.specs.declared.slot_row.SlotRow.{SlotRow}
use Rattle.limit_book.specs.Book.{LimitLists}
use Rattle.farm_books.specs.Limits.{CountsRunning, limit_of, recounted}
use Rattle.farm_books.proofs.CountedLimits.{can_next, counts_next, none_counted_yet, recounted_limits}
use Rattle.farm_books.proofs.limits.limits_of.Goals as goal

pub loop-row-init : goal.loop-row-init
loop-row-init c =
    let rows = c.args.rows.items in
    let layers = c.args.jobs.now.layers in
    record {
      rows = ap (λ (b : LimitLists). b.limits) c.in_ok-limits.ensures;
      running = subst (λ (b : LimitLists). CountsRunning b layers []) (sym c.in_ok-limits.ensures) (none_counted_yet rows (length rows) layers);
    }

pub recount-requires : goal.recount-requires
recount-requires c =
    let slots = c.slots-slots.result.now in
    let n = c.loop-row.row-index in
    let s = c.row-item.result in
    let at = slice_get_read slots (length slots) n s refl c.loop-row-test.true c.row-item.is in
    can_next c.loop-row.limits c.args.jobs.now.layers slots n s at c.loop-row.invariant.running c.slots-slots.ensures.count c.limit_of.result c.is_some.result

pub loop-row-preserved : goal.loop-row-preserved
loop-row-preserved c =
    let b = c.loop-row.limits in
    let layers = c.args.jobs.now.layers in
    let slots = c.slots-slots.result.now in
    let n = c.loop-row.row-index in
    let s = c.row-item.result in
    let at = slice_get_read slots (length slots) n s refl c.loop-row-test.true c.row-item.is in
    let counted : c.recount.new.limits ≡ recounted b (limit_of layers s.frame) false (is_some s.proc) =
    c.recount.ensures.counts ∙ (ap (λ (runs : Bool). recounted b c.limit_of.result false runs) c.is_some.ensures ∙ ap (λ (o : Option ℕ). recounted b o false (is_some s.proc)) c.limit_of.ensures) in
    let can = can_next b layers slots n s at c.loop-row.invariant.running c.slots-slots.ensures.count (limit_of layers s.frame) (is_some s.proc) in
    record {
      rows = ap (λ (x : LimitLists). x.limits) counted ∙ (recounted_limits b (limit_of layers s.frame) false (is_some s.proc) ∙ c.loop-row.invariant.rows);
      running = subst (λ (x : LimitLists). CountsRunning x layers (take (n + 1) slots)) (sym counted) (counts_next b layers slots n s at c.loop-row.invariant.running c.recount.ensures.each can);
    }

pub returns-clause-rows : goal.returns-clause-rows
returns-clause-rows c = c.loop-row.invariant.rows

pub returns-clause-running : goal.returns-clause-running
returns-clause-running c =
    let layers = c.args.jobs.now.layers in
    let slots = c.slots-slots.result.now in
    let n = c.loop-row.row-index in
    let all : take n slots ≡ c.args.jobs.now.slots = take_all n slots (omega (arith, c.loop-row-test.false, c.loop-row.auto.row-index-end)) ∙ c.slots-slots.ensures.value in
    subst (λ (rows : List SlotRow). CountsRunning c.loop-row.limits layers rows) all c.loop-row.invariant.running
