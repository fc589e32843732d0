-- The changes of rows of the jobs so far, and of one more.
use Rattle.std.proofs.Common.{◌≡◌, ℕ, suc, ◌+◌, List, take, length, Option, Some, sym, subst, arith}
use Rattle.std.specs.List.{slice_get}
use Rattle.farm_types.specs.declared.slot_row.SlotRow.{SlotRow}
use Rattle.farm_types.specs.Farm.{Farm}
use Rattle.farm_types.specs.Jobs.{JobLists}
use Rattle.farm_types.specs.Step.{finish_each}
use Rattle.farm_rows.specs.declared.row_change.RowChange.{RowChange}
use Rattle.farm_rows.specs.Changes.{MakesRows}
use Rattle.farm_rows.proofs.MadeRows.{makes_then}
use Rattle.depend_law.specs.Ending.{CanEnd}
use Rattle.depend_book.specs.Book.{DependLists}
use Rattle.job_book.specs.Finished.{finished_of}
use Rattle.farm_finish.specs.Adding.{AddsJob}
use Rattle.farm_finish.specs.AfterAct.{FinishesJob, IsAfter}
use Rattle.farm_finish.specs.Gone.{leaving}
use Rattle.farm_finish.proofs.RowLemmas.TurnMade.{makes_turn}

-- of each farm of which the books say what it is
abbrev pub MakesFinished : JobLists → List SlotRow → DependLists → List ℕ → ℕ → List RowChange → Type 0
MakesFinished b acted d jobs count cs = (f : Farm) → IsAfter b acted d f → CanEnd f jobs → MakesRows f (finish_each (take count jobs) f) cs

pub finished_more : (b : JobLists) (acted : List SlotRow) (d : DependLists) (jobs : List ℕ) (i job finish : ℕ) (gone : Option ℕ) (olds news : List RowChange) → slice_get jobs i ≡ Some job → finish ≡ b.next_finish + i
    → gone ≡ leaving (finished_of b.jobs) jobs (length (finished_of b.jobs) + i + 1) → AddsJob b acted d finish gone job olds news → MakesFinished b acted d jobs i olds → MakesFinished b acted d jobs (i + 1) news
finished_more b acted d jobs i job finish gone olds news at finish_is gone_is adds so_far f after can =
    let cs = adds.0 in
    let turn : FinishesJob b acted d (b.next_finish + i) (leaving (finished_of b.jobs) jobs (length (finished_of b.jobs) + i + 1)) job cs =
    subst (λ (o : Option ℕ). FinishesJob b acted d (b.next_finish + i) o job cs) gone_is (subst (λ (n : ℕ). FinishesJob b acted d n gone job cs) finish_is adds.2) in
    let step = makes_turn b acted d f jobs after can i job at cs turn in
    let next : suc i ≡ i + 1 = omega arith in
    let both = makes_then f (finish_each (take i jobs) f) (finish_each (take (suc i) jobs) f) olds cs (so_far f after can) step in
    subst (λ (n : ℕ). MakesRows f (finish_each (take n jobs) f) news) next (subst (λ (ds : List RowChange). MakesRows f (finish_each (take (suc i) jobs) f) ds) (sym adds.1) both)
