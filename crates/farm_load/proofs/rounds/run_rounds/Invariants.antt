-- After so many reports the run stands where as many marks lead.
use Rattle.farm_load.proofs.RunLemmas.{IsRunning}
use Rattle.farm_load.proofs.rounds.run_rounds.Given as goal

abbrev pub invariant-loop-reports : goal.invariant-loop-reports
invariant-loop-reports g l =
    record {
      running : IsRunning l.fn.n l.fn.recorder.farm l.recorder.farm l.reports l.hosts.items l.counts (g.K.Keeper.faults l.fn.recorder.keeper) (g.K.Keeper.faults l.recorder.keeper)
          l.fn.recorder.view l.recorder.view;
      told : g.K.Keeper.tells l.recorder.keeper → g.K.Keeper.tells l.fn.recorder.keeper;
    }
