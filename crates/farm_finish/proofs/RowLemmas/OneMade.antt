-- The rows that change as one job finishes.
use Rattle.std.proofs.Common.{◌≡◌, ℕ, ◌+◌, eqb, List, [], ◌∷◌, ◌++◌, map, Option, None, Some, refl, sym, subst, ◌∙◌}
use Rattle.std.proofs.lemmas.Bool.{eqb-true}
use Rattle.farm_types.proofs.Lists.{found_is}
use Rattle.farm_types.specs.declared.rows.JobRow.{JobRow}
use Rattle.farm_types.specs.declared.rows.LayerRow.{LayerRow}
use Rattle.farm_types.specs.declared.slot_row.SlotRow.{SlotRow}
use Rattle.farm_types.specs.Farm.{Farm, job_at}
use Rattle.farm_types.specs.Finish.{cut_finished, finished_row}
use Rattle.farm_types.specs.Step.{finish_one}
use Rattle.farm_rows.specs.declared.farm_row.FarmRow.TheVariants as row
use Rattle.farm_rows.specs.declared.row_change.RowChange.TheVariants as change
use Rattle.farm_rows.specs.Changes.{MakesRows}
use Rattle.farm_rows.proofs.MadeLists.{changed_job, makes_counters, makes_job, makes_job_gone}
use Rattle.farm_rows.proofs.MadeRows.{makes_then}
use Rattle.depend_graph.specs.Graph.{Watched}
use Rattle.job_book.specs.Book.{without_job}
use Rattle.farm_finish.specs.Gone.{job_gone, job_put, rows_gone}
use Rattle.farm_finish.proofs.RowLemmas.GoneRows.{Covers, makes_gone, now}

module _ (f : Farm) (job finish : ℕ) (acted : List SlotRow) (groups : ℕ → List Watched) (layers : List LayerRow) (frames depends : List ℕ) (j : JobRow) (gone : Option ℕ) (c : Covers f job acted groups layers frames depends)
    (found : job_at f job ≡ Some j) (row_is : finished_row acted finish j ≡ finished_row f.slots f.next_finish j) where
  abbrev become : JobRow → JobRow
  become = finished_row f.slots f.next_finish

  abbrev jobs_then : List JobRow
  jobs_then = map (changed_job job become) f.jobs

  -- with the job finished, without the one that leaves, and without what goes with the job
  abbrev first : Farm
  first = record f { jobs = jobs_then }

  abbrev second : Farm
  second = record f { jobs = without_job gone jobs_then }

  covers : Covers second job acted groups layers frames depends
  covers = record { layers_all = c.layers_all; frames_all = c.frames_all; versions = c.versions; waits = c.waits; marks = c.marks; marked = c.marked; rise = c.rise }

  number : j.job ≡ job
  number = eqb-true j.job job (found_is (λ (k : JobRow). eqb k.job job) f.jobs j found)

  one : MakesRows f first (job_put acted finish j)
  one = subst (λ (r : JobRow). MakesRows f first (change.Put (row.Job r) ∷ [])) (sym row_is) (makes_job f job become (λ k. refl) j found number)

  two_by : (o : Option ℕ) → MakesRows first (record f { jobs = without_job o jobs_then }) (job_gone o)
  two_by None = λ k named. refl
  two_by (Some n) = makes_job_gone first n

  pub makes_one : cut_finished jobs_then ≡ without_job gone jobs_then → MakesRows f (finish_one job f) (job_put acted finish j ++ (job_gone gone ++ rows_gone acted groups job layers frames depends))
  makes_one cut =
      let last = now second job acted groups layers frames depends covers in
      let all = makes_then f first last (job_put acted finish j) (job_gone gone ++ rows_gone acted groups job layers frames depends) one
      (makes_then first second last (job_gone gone) (rows_gone acted groups job layers frames depends) (two_by gone) (makes_gone second job acted groups layers frames depends covers)) in
      let counted = makes_counters last last.next_job last.next_depend (f.next_finish + 1) last.moment last.recorded in
      subst (λ (js : List JobRow). MakesRows f (record last { jobs = js; next_finish = f.next_finish + 1 }) (job_put acted finish j ++ (job_gone gone ++ rows_gone acted groups job layers frames depends))) (sym cut)
      (λ k named. counted k named ∙ all k named)
