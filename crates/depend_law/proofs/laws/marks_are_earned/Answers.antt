use Rattle.farm_types.specs.Run.{run_of}
use Rattle.depend_law.specs.Earned.{AreDoneIn}
use Rattle.depend_law.proofs.EarnedMarks.{marks_earned, met_stay, run_comes, satisfied_stay}
use Rattle.depend_law.proofs.SatisfiedDepends.{run_satisfied}
use Rattle.depend_law.proofs.laws.marks_are_earned.Goals as goal

pub returns-clause-stays : goal.returns-clause-stays
returns-clause-stays c = λ f es k legal. met_stay f (run_of f es) (AreDoneIn f es) k.depends (run_comes f es k legal)

pub returns-clause-earned : goal.returns-clause-earned
returns-clause-earned c = λ f es depend g k legal mark. marks_earned f (run_of f es) (AreDoneIn f es) k.depends (run_comes f es k legal) depend g mark

pub returns-clause-satisfied_stays : goal.returns-clause-satisfied_stays
returns-clause-satisfied_stays c = λ f es k legal. satisfied_stay f (run_of f es) (AreDoneIn f es) k.depends (run_comes f es k legal)

pub returns-clause-satisfied : goal.returns-clause-satisfied
returns-clause-satisfied c = λ f es depend k legal now. run_satisfied f es k legal depend now
