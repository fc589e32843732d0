use Rattle.std.proofs.Common.{◌≡◌, drop}
use Rattle.farm_types.specs.Step.{lists_of}
use Rattle.farm_finish.specs.Finishing.{CanFinishAll, all_finished}
use Rattle.farm_finish.proofs.applying.finish_each.Given as goal

abbrev pub invariant-loop-job : goal.invariant-loop-job
invariant-loop-job l =
    record {
      can : CanFinishAll (lists_of l.books.farm) (drop l.job-index l.jobs);
      put : all_finished (drop l.job-index l.jobs) l.books ≡ all_finished l.jobs l.fn.books;
    }
