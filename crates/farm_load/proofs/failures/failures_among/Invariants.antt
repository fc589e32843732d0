use Rattle.std.proofs.Common.{◌≡◌, ◌≤◌, ◌+◌, ◌&&◌, [], drop, take}
use Rattle.farm_types.specs.declared.attempt.Attempt.{Attempt}
use Rattle.farm_types.specs.Step.{is_live}
use Rattle.farm_load.specs.Loads.{fails}
use Rattle.farm_load.proofs.FailureLemmas.{first_ones}
use Rattle.farm_load.proofs.failures.failures_among.Given as goal

-- those counted so far and those that are left are all
abbrev pub invariant-loop-place : goal.invariant-loop-place
invariant-loop-place l =
    let counts = λ (a : Attempt). fails l.n a && is_live l.farm l.host l.boot a.slot a.version in
    record {
      counted : l.failing + first_ones counts (take l.place l.done) (drop l.place l.done) ≡ first_ones counts [] l.done;
      few : l.failing ≤ l.place;
    }
