-- The changes of rows at the turn of a job.
use Rattle.std.proofs.Common.{◌≡◌, ℕ, suc, ◌+◌, Bool, true, false, cond, eqb, ◌&&◌, ◌||◌, List, [], ◌∷◌, ◌++◌, take, map, filter, length, Option, None, Some, refl, sym, ap, subst, ◌∙◌, arith, is_some}
use Rattle.std.specs.List.{find, list_any, slice_get}
use Rattle.std.proofs.lemmas.Bool.{eqb-true, false≢true}
use Rattle.std.proofs.lemmas.List.Folds.{list_any-append}
use Rattle.farm_types.specs.declared.depend.DependRow.{DependRow}
use Rattle.farm_types.specs.declared.depend.Group.{Group}
use Rattle.farm_types.specs.declared.rows.JobRow.{JobRow}
use Rattle.farm_types.specs.declared.rows.LayerRow.{LayerRow}
use Rattle.farm_types.specs.declared.slot_row.SlotRow.{SlotRow}
use Rattle.farm_types.specs.declared.states.JobState.TheVariants.{Finished}
use Rattle.farm_types.specs.Depends.{groups_of}
use Rattle.farm_types.specs.Farm.{Farm, for_some, job_at, layers_of}
use Rattle.farm_types.specs.Finish.{count_where, finished_row, has_succeeded, is_frame_of, was_eaten}
use Rattle.farm_types.specs.Jobs.{JobLists}
use Rattle.farm_types.specs.Kept.{is_pending_job}
use Rattle.farm_types.specs.Settle.{is_met_now, met_row, met_rows, met_rows_of, settled_row}
use Rattle.farm_types.specs.Step.{finish_each, finish_one}
use Rattle.farm_types.proofs.Lists.{and_both, for_some_true, found_is}
use Rattle.farm_rows.specs.declared.row_change.RowChange.{RowChange}
use Rattle.farm_rows.specs.Changes.{MakesRows, is_mark}
use Rattle.depend_law.specs.Ending.{CanEnd}
use Rattle.depend_graph.specs.Graph.{groups_at}
use Rattle.depend_book.specs.Book.{DependLists}
use Rattle.job_book.specs.Finished.{finished_of, leaver}
use Rattle.farm_finish.specs.AfterAct.{FinishesJob, IsAfter}
use Rattle.farm_finish.specs.Gone.{job_gone, job_put, leaving, rows_gone, version_in}
use Rattle.farm_finish.proofs.RowLemmas.GoneRows.{Covers, is_numbered}
use Rattle.farm_finish.proofs.TurnLemmas.Leavers.{leaver_is}
use Rattle.farm_finish.proofs.RowLemmas.OneMade.{makes_one}
use Rattle.farm_finish.proofs.RowLemmas.Said.{any_map, either_false}
use Rattle.farm_finish.proofs.TurnLemmas.Turns.{at_turn, cut_at, each_next, ends_at}

-- ---- layers

none_at_place : (job place : ℕ) (ls : List LayerRow) → list_any (λ (l : LayerRow). eqb l.place place) (layers_of ls job) ≡ false → find (λ (l : LayerRow). eqb l.job job && eqb l.place place) ls ≡ None
none_at_place job place [] none = refl
none_at_place job place (l ∷ ls) none = by_job (eqb l.job job) refl none (none_at_place job place ls) where
  by_job : (b : Bool) → eqb l.job job ≡ b → list_any (λ (m : LayerRow). eqb m.place place) (cond b (l ∷ layers_of ls job) (layers_of ls job)) ≡ false
      → (list_any (λ (m : LayerRow). eqb m.place place) (layers_of ls job) ≡ false → find (λ (m : LayerRow). eqb m.job job && eqb m.place place) ls ≡ None)
      → cond (eqb l.job job && eqb l.place place) (Some l) (find (λ (m : LayerRow). eqb m.job job && eqb m.place place) ls) ≡ None
  by_job true is off later =
      let parts = either_false (eqb l.place place) (list_any (λ (m : LayerRow). eqb m.place place) (layers_of ls job)) off in
      (λ i. cond (is i && parts.0 i) (Some l) (find (λ (m : LayerRow). eqb m.job job && eqb m.place place) ls)) ∙ later parts.1
  by_job false is off later = ap (λ (b : Bool). cond (b && eqb l.place place) (Some l) (find (λ (m : LayerRow). eqb m.job job && eqb m.place place) ls)) is ∙ later off

-- ---- marks are of depends that are there

any_where : {X : Type 0} (test : X → Bool) (b : Bool) (xs : List X) → list_any (λ x. b && test x) xs ≡ true → b ≡ true
any_where test b [] there = absurd (false≢true there)
any_where test b (x ∷ xs) there = by_either (b && test x) refl there (any_where test b xs) where
  by_either : (c : Bool) → (b && test x) ≡ c → (c || list_any (λ y. b && test y) xs) ≡ true → (list_any (λ y. b && test y) xs ≡ true → b ≡ true) → b ≡ true
  by_either true is any later = (and_both b (test x) is).0
  by_either false is any later = later any

own_marks : (f : Farm) (n position : ℕ) (d : DependRow) (b : Bool) → list_any (is_mark n position) (cond b [] (map (met_row d) (filter (is_met_now f d) (groups_of f d)))) ≡ true → eqb d.depend n ≡ true
own_marks f n position d true there = absurd (false≢true there)
own_marks f n position d false there =
    any_where (λ (g : Group). eqb g.position position) (eqb d.depend n) (filter (is_met_now f d) (groups_of f d)) (sym (any_map (is_mark n position) (met_row d) (filter (is_met_now f d) (groups_of f d))) ∙ there)

marks_there : (f : Farm) (n position : ℕ) (ds : List DependRow) → list_any (is_mark n position) (met_rows f ds) ≡ true → is_some (find (is_numbered n) ds) ≡ true
marks_there f n position [] there = there
marks_there f n position (d ∷ ds) there =
    by_own (list_any (is_mark n position) (met_rows_of f d)) refl (sym (list_any-append (is_mark n position) (met_rows_of f d) (met_rows f ds)) ∙ there) (marks_there f n position ds)
  where
    by_number : (b : Bool) → is_some (find (is_numbered n) ds) ≡ true → is_some (cond b (Some d) (find (is_numbered n) ds)) ≡ true
    by_number true later = refl
    by_number false later = later

    by_own : (b : Bool) → list_any (is_mark n position) (met_rows_of f d) ≡ b → (b || list_any (is_mark n position) (met_rows f ds)) ≡ true
        → (list_any (is_mark n position) (met_rows f ds) ≡ true → is_some (find (is_numbered n) ds) ≡ true) → is_some (cond (eqb d.depend n) (Some d) (find (is_numbered n) ds)) ≡ true
    by_own true is any later = ap (λ (b : Bool). is_some (cond b (Some d) (find (is_numbered n) ds))) (own_marks f n position d (settled_row f d).met_all is)
    by_own false is any later = by_number (eqb d.depend n) (later any)

-- ---- the turn

module _ (b : JobLists) (acted : List SlotRow) (d : DependLists) (f : Farm) (jobs : List ℕ) (after : IsAfter b acted d f) (can : CanEnd f jobs) (i job : ℕ) (at : slice_get jobs i ≡ Some job) (cs : List RowChange)
    (c : FinishesJob b acted d (b.next_finish + i) (leaving (finished_of b.jobs) jobs (length (finished_of b.jobs) + i + 1)) job cs) where
  abbrev g : Farm
  g = finish_each (take i jobs) f

  -- the job is among those that end
  pub makes_turn : MakesRows g (finish_each (take (suc i) jobs) f) cs
  makes_turn =
      let t = at_turn f jobs can i job at in
      let j = for_some_true (job_at g job) is_pending_job t.ends.0 in
      let layers = layers_of b.layers job in
      let groups = groups_at d.graph.depends in
      let gone = leaving (finished_of b.jobs) jobs (length (finished_of b.jobs) + i + 1) in
      let ends_then = (ends_at f jobs can i job at).1 in
      let mine : (n : ℕ) → for_some (slice_get g.slots n) (is_frame_of job) ≡ true → for_some (slice_get f.slots n) (is_frame_of job) ≡ true = λ n own. sym (t.stays.frames n) ∙ own in
      let met : g.met ≡ met_rows g g.depends = sym (ap (λ (h : Farm). h.met) t.depends.met) in
      let covers : Covers g job acted groups layers c.frames c.depends =
      record {
        layers_all = λ place none. t.stays.layers place ∙ (ap (find (λ (l : LayerRow). eqb l.job job && eqb l.place place)) after.layers ∙ none_at_place job place b.layers none);
        frames_all = λ n. c.frames_are n ∙ (sym (after.frames job n) ∙ sym (t.stays.frames n));
        versions = λ n own. after.versions job ends_then n (mine n own) ∙ ap version_in (sym (t.stays.slots n (mine n own)));
        waits = λ n. c.depends_are n ∙ (sym (after.waits job n) ∙ sym (t.stays.waits n));
        marks = λ n position there. after.marks n position (t.stays.marks n position there);
        marked = λ n position there. marks_there g n position g.depends (sym (ap (list_any (is_mark n position)) met) ∙ there);
        rise = t.depends.rise;
      } in
      let number : j.0.job ≡ job = eqb-true j.0.job job (found_is (λ (k : JobRow). eqb k.job job) g.jobs j.0 j.1) in
      let in_book : find (λ (k : JobRow). eqb k.job job) b.jobs ≡ Some j.0 = ap (find (λ (k : JobRow). eqb k.job job)) (sym after.jobs) ∙ (sym t.stays.row ∙ j.1) in
      let finish : b.next_finish + i ≡ g.next_finish = omega (arith, after.next_finish, t.finish) in
      let eaten : count_where j.0.job was_eaten acted ≡ count_where j.0.job was_eaten g.slots =
      ap (λ (n : ℕ). count_where n was_eaten acted) number ∙ (sym (after.eaten job) ∙ (sym (t.stays.counts was_eaten) ∙ ap (λ (n : ℕ). count_where n was_eaten g.slots) (sym number))) in
      let succeeded : count_where j.0.job has_succeeded acted ≡ count_where j.0.job has_succeeded g.slots =
      ap (λ (n : ℕ). count_where n has_succeeded acted) number ∙ (sym (after.succeeded job) ∙ (sym (t.stays.counts has_succeeded) ∙ ap (λ (n : ℕ). count_where n has_succeeded g.slots) (sym number))) in
      let row_is : finished_row acted (b.next_finish + i) j.0 ≡ finished_row g.slots g.next_finish j.0 = λ k. record j.0 { state = Finished; finish = finish k; eaten = eaten k; succeeded = succeeded k } in
      let order : finished_of f.jobs ≡ finished_of b.jobs = ap finished_of after.jobs in
      let leaves : leaver (finished_of g.jobs ++ job ∷ []) ≡ gone =
      ap (λ (ns : List ℕ). leaver (ns ++ job ∷ [])) t.order ∙ (leaver_is (finished_of f.jobs) jobs i job at ∙ ap (λ (ns : List ℕ). leaving ns jobs (length ns + i + 1)) order) in
      let cut = cut_at g job t.rows t.ends.0 in
      let made = makes_one g job (b.next_finish + i) acted groups layers c.frames c.depends j.0 (leaver (finished_of g.jobs ++ job ∷ [])) covers j.1 row_is cut.0 in
      let same : job_put acted (b.next_finish + i) j.0 ++ (job_gone (leaver (finished_of g.jobs ++ job ∷ [])) ++ rows_gone acted groups job layers c.frames c.depends) ≡ cs =
      ap (λ (o : Option ℕ). job_put acted (b.next_finish + i) j.0 ++ (job_gone o ++ rows_gone acted groups job layers c.frames c.depends)) leaves ∙ sym (c.items j.0 in_book) in
      subst (λ (h : Farm). MakesRows g h cs) (sym (each_next jobs i job f at)) (subst (λ (ds : List RowChange). MakesRows g (finish_one job g) ds) same made)
