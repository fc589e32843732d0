use Rattle.std.proofs.Common.{◌≡◌, ℕ, ◌+◌, ◌&&◌, [], drop, take, sym, ap, ◌∙◌, arith}
use Rattle.farm_types.specs.declared.attempt.Attempt.{Attempt}
use Rattle.farm_types.specs.Step.{is_live}
use Rattle.farm_load.specs.Loads.{fails}
use Rattle.farm_load.proofs.FailureLemmas.{counted_first, first_ones, first_step, no_more}
use Rattle.farm_load.proofs.failures.failures_among.Goals as goal

-- src/failures.rt:61:5
pub loop-place-preserved : goal.loop-place-preserved
loop-place-preserved c =
    let counts = λ (a : Attempt). fails c.args.n a && is_live c.args.farm.now c.args.host c.args.boot a.slot a.version in
    let done = c.args.done.now in
    let place = c.loop-place.place in
    let later = first_ones counts (take (place + 1) done) (drop (place + 1) done) in
    let step = first_step counts done place c.index-done-place.result c.loop-place-test.true c.index-done-place.is in
    let joined : c.loop-place.failing + c.failure-failing.result + later ≡ c.loop-place.failing + (c.failure-failing.result + later) = omega arith in
    record {
      counted =
          joined ∙ ap (λ (k : ℕ). c.loop-place.failing + k) (ap (λ (k : ℕ). k + later) c.failure-failing.ensures.value ∙ sym step) ∙ c.loop-place.invariant.counted;
      few = omega (arith, c.failure-failing.ensures.few, c.loop-place.invariant.few);
    }

-- src/failures.rt:56:1
pub returns-clause-value : goal.returns-clause-value
returns-clause-value c =
    let counts = λ (a : Attempt). fails c.args.n a && is_live c.args.farm.now c.args.host c.args.boot a.slot a.version in
    no_more counts c.args.done.now c.loop-place.place c.loop-place.failing (first_ones counts [] c.args.done.now) c.loop-place-test.false c.loop-place.invariant.counted
    ∙ sym (counted_first c.args.host c.args.boot (fails c.args.n) c.args.farm.now c.args.done.now)
