-- Worked examples of jobs that finish: of the demonstration's farm with a job that waits for the demonstration's, the one is killed and then the other.
use Rattle.std.specs.Prelude.{ℕ, List, codes, map}
use Rattle.farm_types.specs.declared.entry.Entry.{Entry}
use Rattle.farm_types.specs.declared.depend.DependRow.{DependRow}
use Rattle.farm_types.specs.declared.rows.JobRow.{JobRow}
use Rattle.farm_types.specs.Farm.{Farm}
use Rattle.farm_types.specs.Step.{after}
use Rattle.farm_types.specs.declared.entry.Act.TheVariants as act
use Rattle.farm_lines.specs.Asked.{entry_at}
use Rattle.worked_examples.specs.Waiting.{farm_waiting}

abbrev pub killing : List ℕ → Entry
killing job = entry_at 0 (act.KillJob job)

abbrev pub farm_opened : Farm
farm_opened = after farm_waiting (killing (codes "demo-job"))

abbrev pub farm_done : Farm
farm_done = after farm_opened (killing (codes "hi"))

abbrev pub finishes_in : Farm → List ℕ
finishes_in f = map (λ (j : JobRow). j.finish) f.jobs

abbrev pub eaten_in : Farm → List ℕ
eaten_in f = map (λ (j : JobRow). j.eaten) f.jobs

abbrev pub depends_in : Farm → List ℕ
depends_in f = map (λ (d : DependRow). d.depend) f.depends
