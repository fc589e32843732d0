use Rattle.std.proofs.Common.{ap, length, refl, ◌+◌, ℕ}
use Rattle.std.proofs.lemmas.Option.{slice_get_read}
use Rattle.world_core.proofs.Runs.{happen_more}
use Rattle.world_core.proofs.run.run_each.Goals as goal

pub loop-event-preserved : goal.loop-event-preserved
loop-event-preserved c =
    let es = c.args.events.now in
    let i = c.loop-event.event-index in
    let e = c.event-item.result in
    let there = slice_get_read es (length es) i e refl c.loop-event-test.true c.event-item.is in
    record {
      place = ap (λ (n : ℕ). n + 1) c.loop-event.invariant.place;
      happen = happen_more es i e c.args.world.now c.loop-event.world c.step.new.self there c.loop-event.invariant.happen c.in-Ok.ensures.outcome;
    }
