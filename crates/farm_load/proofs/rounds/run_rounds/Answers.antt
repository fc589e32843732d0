use Rattle.std.proofs.Common.{◌≡◌, ◌<◌, ◌∙◌, false, arith, rules}
use Rattle.farm_load.specs.Loads.{has_finished, most_reports}
use Rattle.farm_load.specs.Turns.{Recorded}
use Rattle.farm_load.proofs.RunLemmas.{begins, breaks_off, goes_on, has_room}
use Rattle.farm_load.proofs.rounds.run_rounds.Goals as goal

-- src/rounds.rt:54:5
pub loop-reports-init : goal.loop-reports-init
loop-reports-init g c =
    record {
      running = begins c.args.n c.args.recorder.now.farm c.args.hosts.items (g.K.Keeper.faults c.args.recorder.now.keeper) c.args.recorder.now.view c.requires.hosts;
      told = λ tells. tells;
    }

pub take_turn-requires-clause-alone : goal.take_turn-requires-clause-alone
take_turn-requires-clause-alone g c = c.loop-reports.invariant.running.words.split ∙ c.requires.alone

pub take_turn-requires-clause-journal : goal.take_turn-requires-clause-journal
take_turn-requires-clause-journal g c =
    let left : c.loop-reports.reports < most_reports = omega arith in
    has_room c.args.n c.args.recorder.now.farm c.loop-reports.recorder.farm c.loop-reports.reports c.loop-reports.hosts.items c.loop-reports.counts
    (g.K.Keeper.faults c.args.recorder.now.keeper) (g.K.Keeper.faults c.loop-reports.recorder.keeper) c.args.recorder.now.view c.loop-reports.recorder.view
    c.loop-reports.invariant.running c.requires.room left

-- src/rounds.rt:59:13
pub returns-in_default-clause-run : goal.returns-in_default-clause-run
returns-in_default-clause-run g c =
    let f = c.loop-reports.recorder.farm in
    let going : has_finished f ≡ false = search rules in
    let left : c.loop-reports.reports < most_reports = omega arith in
    breaks_off c.args.n c.args.recorder.now.farm f c.loop-reports.reports c.loop-reports.hosts.items c.loop-reports.counts (g.K.Keeper.faults c.args.recorder.now.keeper)
    (g.K.Keeper.faults c.loop-reports.recorder.keeper) (g.K.Keeper.faults c.take_turn.new.recorder.keeper) c.args.recorder.now.view c.loop-reports.recorder.view
    c.take_turn.new.recorder.view (Recorded g.K.Keeper.tells g.K.Keeper.faults c.loop-reports.recorder c.take_turn.new.recorder) c.take_turn.result
    c.take_turn.new.recorder.farm c.take_turn.new.hosts.items c.take_turn.new.counts c.loop-reports.invariant.running going left c.take_turn.ensures
    (λ done failed goes. (goes.keeper.counted, goes.journals))

-- src/rounds.rt:54:5
pub loop-reports-preserved : goal.loop-reports-preserved
loop-reports-preserved g c =
    let f = c.loop-reports.recorder.farm in
    let going : has_finished f ≡ false = search rules in
    let left : c.loop-reports.reports < most_reports = omega arith in
    record {
      running =
          goes_on c.args.n c.args.recorder.now.farm f c.loop-reports.reports c.loop-reports.hosts.items c.loop-reports.counts (g.K.Keeper.faults c.args.recorder.now.keeper)
          (g.K.Keeper.faults c.loop-reports.recorder.keeper) (g.K.Keeper.faults c.take_turn.new.recorder.keeper) c.args.recorder.now.view c.loop-reports.recorder.view
          c.take_turn.new.recorder.view (Recorded g.K.Keeper.tells g.K.Keeper.faults c.loop-reports.recorder c.take_turn.new.recorder) c.in-Ok.field-0
          c.take_turn.new.recorder.farm c.take_turn.new.hosts.items c.take_turn.new.counts c.loop-reports.invariant.running going left c.in-Ok.ensures
          (λ done failed goes. (goes.keeper.counted, goes.journals));
      told = λ tells. c.loop-reports.invariant.told (c.in-Ok.ensures.recorder.keeper.told tells);
    }

-- src/rounds.rt:59:13
pub returns-in_default-clause-told : goal.returns-in_default-clause-told
returns-in_default-clause-told g c = λ tells. c.loop-reports.invariant.told (c.take_turn.ensures.recorder.keeper.told tells)
