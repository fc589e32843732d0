use Rattle.std.proofs.Common.{◌≡◌, ℕ, drop}
use Rattle.std.specs.Bool.{◌==◌}
use Rattle.std.specs.List.{find, list_any}
use Rattle.farm_depends.proofs.new_depends.checks.first_among.Given as goal

abbrev pub invariant-loop-waiter : goal.invariant-loop-waiter
invariant-loop-waiter l = find (λ (w : ℕ). list_any (λ (t : ℕ). t == w) l.targets) (drop l.waiter-index l.waiters) ≡ find (λ (w : ℕ). list_any (λ (t : ℕ). t == w) l.targets) l.waiters
