use Rattle.std.proofs.Common.{ℕ, ◌∙◌, sym, arith}
use Rattle.std.specs.Bool.{◌==◌}
use Rattle.std.specs.List.{list_any}
use Rattle.farm_depends.proofs.Walks.{found_at, passed_at}
use Rattle.farm_depends.proofs.new_depends.checks.first_among.Goals as goal

pub returns-then-is_among : goal.returns-then-is_among
returns-then-is_among c =
    found_at (λ (w : ℕ). list_any (λ (t : ℕ). t == w) c.args.targets.now) c.args.waiters.now c.loop-waiter.waiter-index c.waiter-item.result (omega arith) c.waiter-item.is c.loop-waiter.invariant
    (sym c.is_among.ensures ∙ c.if-is_among.true)

pub loop-waiter-preserved : goal.loop-waiter-preserved
loop-waiter-preserved c =
    passed_at (λ (w : ℕ). list_any (λ (t : ℕ). t == w) c.args.targets.now) c.args.waiters.now c.loop-waiter.waiter-index c.waiter-item.result (omega arith) c.waiter-item.is c.loop-waiter.invariant
    (sym c.is_among.ensures ∙ c.if-is_among.false)
