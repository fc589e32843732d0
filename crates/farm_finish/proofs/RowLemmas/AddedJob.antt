-- The changes of one job, added in parts.
use Rattle.std.proofs.Common.{◌≡◌, ℕ, Bool, true, false, cond, eqb, ◌&&◌, ◌||◌, List, [], ◌∷◌, ◌++◌, map, Option, None, Some, refl, sym, ap, ◌∙◌, append_assoc}
use Rattle.std.specs.Prelude.{is_some}
use Rattle.std.specs.List.{find, list_any}
use Rattle.std.proofs.lemmas.Bool.{eq-eqb, eqb-true, false≢true, ne_eqb}
use Rattle.std.proofs.lemmas.Option.{same_Some}
use Rattle.std.proofs.lemmas.Simd.{map-map}
use Rattle.farm_types.specs.declared.depend.DependRow.{DependRow}
use Rattle.farm_types.specs.declared.depend.MetRow.{MetRow}
use Rattle.farm_types.specs.declared.rows.JobRow.{JobRow}
use Rattle.farm_types.specs.declared.slot_row.SlotRow.{SlotRow}
use Rattle.farm_types.specs.Farm.{layers_of}
use Rattle.farm_types.specs.Finish.{waits_by}
use Rattle.farm_types.specs.Jobs.{JobLists}
use Rattle.farm_types.specs.Settle.{raised}
use Rattle.farm_rows.specs.declared.farm_row.FarmRow.TheVariants as row
use Rattle.farm_rows.specs.declared.row_change.RowChange.{RowChange}
use Rattle.farm_rows.specs.declared.row_change.RowChange.TheVariants as change
use Rattle.farm_rows.specs.declared.row_key.RowKey.TheVariants as key
use Rattle.depend_graph.specs.Graph.{Watched, groups_at}
use Rattle.depend_book.specs.Book.{DependLists, mark_of, waiting_from, waiting_in, waits_in_one}
use Rattle.job_book.specs.Book.{has_job}
use Rattle.farm_draft.specs.declared.slot_change.SlotChange.{SlotChange}
use Rattle.farm_draft.specs.Rows.{put_slots}
use Rattle.farm_finish.specs.Adding.{AddsFrames, AddsJob, is_of_job}
use Rattle.farm_finish.specs.AfterAct.{FinishesJob}
use Rattle.farm_depends.specs.FollowRows.{delete_mark}
use Rattle.farm_finish.specs.Gone.{depend_gone, depends_gone, freed_frame, job_gone, job_put, layer_gone, rows_gone}
use Rattle.farm_finish.specs.Versions.{AreLaid, freed_by}

-- ---- the depends in which a job waits

same_either_way : (m n : ℕ) (b : Bool) → eqb m n ≡ b → eqb n m ≡ b
same_either_way m n true is = eq-eqb n m (sym (eqb-true m n is))
same_either_way m n false is = ne_eqb n m (λ e. false≢true (sym is ∙ eq-eqb m n (sym e)))

taken : (a b c : Bool) → ((a || b) || c) ≡ (b || (a || c))
taken true true c = refl
taken true false c = refl
taken false b c = refl

waits_from : (job n : ℕ) (found : List ℕ) (ds : List DependRow) → list_any (λ m. eqb m n) (waiting_from job found ds) ≡ (list_any (λ m. eqb m n) found || waits_in_one job ds n)
waits_from job n found [] = none (list_any (λ m. eqb m n) found) where
  none : (b : Bool) → b ≡ (b || false)
  none true = refl
  none false = refl
waits_from job n found (d ∷ ds) = by_job (waits_by job d) (λ fs. waits_from job n fs ds) where
  by_job : (w : Bool) → ((fs : List ℕ) → list_any (λ m. eqb m n) (waiting_from job fs ds) ≡ (list_any (λ m. eqb m n) fs || waits_in_one job ds n))
      → list_any (λ m. eqb m n) (waiting_from job (cond w (d.depend ∷ found) found) ds) ≡ (list_any (λ m. eqb m n) found || ((w && eqb n d.depend) || waits_in_one job ds n))
  by_job true later =
      later (d.depend ∷ found)
      ∙ (taken (eqb d.depend n) (list_any (λ m. eqb m n) found) (waits_in_one job ds n)
      ∙ ap (λ (b : Bool). list_any (λ m. eqb m n) found || (b || waits_in_one job ds n)) (sym (same_either_way d.depend n (eqb d.depend n) refl)))
  by_job false later = later found

-- ---- all parts

chain : (x0 x1 x2 x3 x4 x5 p g l f e d : List RowChange) → x1 ≡ x0 ++ p → x2 ≡ x1 ++ g → x3 ≡ x2 ++ l → x4 ≡ x3 ++ f → x5 ≡ x4 ++ d → f ≡ e → x5 ≡ x0 ++ (p ++ (g ++ (l ++ (e ++ d))))
chain x0 x1 x2 x3 x4 x5 p g l f e d h1 h2 h3 h4 h5 same =
    h5 ∙ (ap (λ (xs : List RowChange). xs ++ d) (h4 ∙ ap (λ (xs : List RowChange). xs ++ f) (h3 ∙ ap (λ (xs : List RowChange). xs ++ l) (h2 ∙ ap (λ (xs : List RowChange). xs ++ g) h1)))
    ∙ (flat ∙ ap (λ (xs : List RowChange). x0 ++ (p ++ (g ++ (l ++ (xs ++ d))))) same))
  where
    flat : ((((x0 ++ p) ++ g) ++ l) ++ f) ++ d ≡ x0 ++ (p ++ (g ++ (l ++ (f ++ d))))
    flat = simp append_assoc

row_there : (o : Option JobRow) → is_some o ≡ true → (j : JobRow) × (o ≡ Some j)
row_there None there = absurd (false≢true there)
row_there (Some j) there = (j, refl)

module _ (b : JobLists) (rows : List SlotChange) (d : DependLists) (finish : ℕ) (gone : Option ℕ) (job : ℕ) (over : ℕ → Option ℕ) where
  abbrev acted : List SlotRow
  acted = put_slots b.slots rows

  abbrev rest : List ℕ → List RowChange
  rest frames = job_gone gone ++ rows_gone acted (groups_at d.graph.depends) job (layers_of b.layers job) frames (waiting_in d job)

  freed_same : AreLaid b.slots rows over → (frames : List ℕ) → map (freed_by b.slots over) frames ≡ map (freed_frame acted) frames
  freed_same laid frames = ap (λ (make : ℕ → RowChange). map make frames) (λ i n. change.Put (row.Frame (record { slot = n; version = raised (laid n i); frame = None })))

  -- the job's row, that of the one that leaves, and those of its layers, its frames and its depends
  pub adds_job : AreLaid b.slots rows over → has_job b job ≡ true → (x0 x1 x2 x3 x4 x5 : List RowChange)
      → ((j : JobRow) → find (λ (k : JobRow). eqb k.job job) b.jobs ≡ Some j → x1 ≡ x0 ++ job_put acted finish j)
      → x2 ≡ x1 ++ job_gone gone
      → x3 ≡ x2 ++ map (layer_gone job) (layers_of b.layers job)
      → AddsFrames b.slots over (is_of_job b.slots job) x3 x4
      → x5 ≡ x4 ++ depends_gone (groups_at d.graph.depends) (waiting_in d job)
      → AddsJob b acted d finish gone job x0 x5
  adds_job laid there x0 x1 x2 x3 x4 x5 put goes layers frames depends =
      let j = row_there (find (λ (k : JobRow). eqb k.job job) b.jobs) there in
      let are = chain x0 x1 x2 x3 x4 x5 (job_put acted finish j.0) (job_gone gone) (map (layer_gone job) (layers_of b.layers job)) (map (freed_by b.slots over) frames.frames) (map (freed_frame acted) frames.frames)
      (depends_gone (groups_at d.graph.depends) (waiting_in d job)) (put j.0 j.1) goes layers frames.items depends (freed_same laid frames.frames) in
      let finishes : FinishesJob b acted d finish gone job (job_put acted finish j.0 ++ rest frames.frames) =
      record {
        frames = frames.frames;
        depends = waiting_in d job;
        frames_are = frames.frames_are;
        depends_are = λ n. waits_from job n [] d.rows;
        items = λ k at. ap (λ (r : JobRow). job_put acted finish r ++ rest frames.frames) (same_Some j.0 k (sym j.1 ∙ at));
      } in
      (job_put acted finish j.0 ++ rest frames.frames, are, finishes)

-- the row of a depend, and its marks
pub gone_then : (olds mid news : List RowChange) (n : ℕ) (groups : ℕ → List Watched) (marks : List MetRow) → marks ≡ map (mark_of n) (groups n) → mid ≡ olds ++ change.Delete (key.Depend n) ∷ [] → news ≡ mid ++ map delete_mark marks
    → news ≡ olds ++ depend_gone groups n
gone_then olds mid news n groups marks are pushed is =
    is
    ∙ ((λ i. pushed i ++ map delete_mark (are i))
    ∙ (append_assoc olds (change.Delete (key.Depend n) ∷ []) (map delete_mark (map (mark_of n) (groups n)))
    ∙ ap (λ (cs : List RowChange). olds ++ change.Delete (key.Depend n) ∷ cs) (map-map delete_mark (mark_of n) (groups n))))
