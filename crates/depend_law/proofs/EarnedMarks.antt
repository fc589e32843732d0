-- Along a legal run each mark is earned, and what is met stays so.
use Rattle.std.proofs.Common.{◌≡◌, ◌≤◌, ℕ, ◌+◌, Bool, true, false, ◌||◌, not, List, [], ◌∷◌, Some, refl, ap, sym, subst, ◌∙◌, ◌⊎◌, inl, inr, arith}
use Rattle.std.specs.List.{AllByRecursion, list_any, slice_get}
use Rattle.std.proofs.lemmas.Bool.{or_from, or_right, true≢false}
use Rattle.std.proofs.lemmas.List.Folds.{list_any-append}
use Rattle.std.proofs.lemmas.Option.{same_Some}
use Rattle.farm_types.specs.declared.depend.DependRow.{DependRow}
use Rattle.farm_types.specs.declared.depend.DependSpec.{DependSpec}
use Rattle.farm_types.specs.declared.depend.Group.{Group}
use Rattle.farm_types.specs.declared.depend.MetRow.{MetRow}
use Rattle.farm_types.specs.declared.entry.Act.{Act}
use Rattle.farm_types.specs.declared.entry.Act.TheVariants.{AddDepend, DropDepend, EatFrame, Heard, KillJob, RetryFrame, Submit}
use Rattle.farm_types.specs.declared.entry.Entry.{Entry}
use Rattle.farm_types.specs.DependActs.{add_depends, dropped, with_depends}
use Rattle.farm_types.specs.Depends.{are_done, groups_of, is_done, is_marked, is_met}
use Rattle.farm_types.specs.Farm.{Farm}
use Rattle.farm_types.specs.Finish.{waits_by}
use Rattle.farm_types.specs.Kept.{IsKeptFarm, KeepsDepends, KeepsRows}
use Rattle.farm_types.specs.Rising.{IsRising, depend_key}
use Rattle.farm_types.specs.Run.{IsLegal, IsLegalStep, run_of}
use Rattle.farm_types.specs.Settle.{kept_version, met_rows, raised, settle, with_blocked}
use Rattle.farm_types.specs.Step.{acted, after, at_moment, closed, finish_all, finish_each, finish_one, finishing, followed, moment_of}
use Rattle.farm_law.proofs.Filtered.{at_kept}
use Rattle.farm_law.proofs.FinishedKept.{finishing_end, finishing_rise, kept_one, later_ends, number}
use Rattle.farm_law.proofs.KeptChanges.{kept_later}
use Rattle.farm_law.proofs.KeptJobsLists.{rising_below}
use Rattle.farm_law.proofs.KeptRuns.{act_accepted, refusal_later}
use Rattle.farm_law.proofs.SafeRuns.{allowed_later}
use Rattle.depend_law.specs.Earned.{AreDoneAt, AreDoneIn, IsMarkedIn, MetStays, SatisfiedStays}
use Rattle.depend_law.specs.Ending.{Ends}
use Rattle.depend_law.proofs.ActGroups.{LeavesGroups, act_same}
use Rattle.depend_law.proofs.Among.{rising_once}
use Rattle.depend_law.proofs.Comes.{AllCome, From, NoneAhead, adds_come, adds_rise, adds_slots, block_comes, come_same, come_then, come_weaker, drop_comes, drop_rise, settle_comes}
use Rattle.depend_law.proofs.Finishes.{fewer_groups, finish_keeps, groups_kept}
use Rattle.depend_law.proofs.KeptRuns.{followed_step, kept_step}
use Rattle.depend_law.proofs.KeptTurns.{later_keeps}
use Rattle.depend_law.proofs.Marks.{marks, other_rows}
use Rattle.depend_law.proofs.Stable.{SameGroups, same_groups, same_groups_then}
use Rattle.depend_law.proofs.Shapes.{frames_same}
use Rattle.depend_law.proofs.Without.{met_without}

-- ---- no mark is of a number that comes

none_of : (f : Farm) (d : DependRow) (x : Group) (low : ℕ) (ds : List DependRow) (high : ℕ) → IsRising depend_key low ds high → high ≤ d.depend → list_any (marks d x) (met_rows f ds) ≡ false
none_of f d x low [] high rise above = refl
none_of f d x low (e ∷ es) high rise above =
    let below = rising_below depend_key low (e ∷ es) high 0 e rise refl in
    list_any-append (marks d x) (Rattle.farm_types.specs.Settle.met_rows_of f e) (met_rows f es)
    ∙ or_from _ _ (other_rows f d e x (λ same. absurd (omega (arith, below, above, same)))) (none_of f d x (e.depend + 1) es high rise.1 above)

none_ahead : (f : Farm) → KeepsDepends f → NoneAhead f
none_ahead f k d x above =
    ap (λ (ms : List MetRow). list_any (marks d x) ms) (sym (ap (λ (g : Farm). g.met) k.met)) ∙ none_of f d x 1 f.depends f.next_depend k.rise above

-- ---- what follows of an act

module _ (a : Farm) (rise : IsRising depend_key 1 a.depends a.next_depend) (none : NoneAhead a) where
  abbrev D : Group → Type 0
  D x = are_done (is_done a.slots) x ≡ true

  same_again : AllCome D a a
  same_again = come_same D a a (same_groups a a refl refl refl (frames_same a.slots)) refl

  adds_follow : (change : ℕ → ℕ) (specs : List DependSpec) → AllCome D a (with_blocked change (settle (add_depends a specs)))
  adds_follow change specs =
      let added = add_depends a specs in
      let settled : AllCome D added (settle added) =
      come_weaker (λ x. are_done (is_done added.slots) x ≡ true) D (λ x done. ap (λ (slots : List _). are_done (is_done slots) x) (sym (adds_slots a specs)) ∙ done) added (settle added) (settle_comes added (adds_rise a specs rise)) in
      come_then D a added (with_blocked change (settle added)) (adds_come D a specs none)
      (come_then D added (settle added) (with_blocked change (settle added)) settled (block_comes D change (settle added)))

  submit_follows : (specs : List DependSpec) → AllCome D a (with_depends a specs)
  submit_follows [] = same_again
  submit_follows (spec ∷ specs) = adds_follow kept_version (spec ∷ specs)

  drop_follows : (depend : ℕ) → AllCome D a (settle (dropped a depend))
  drop_follows depend =
      come_then D a (dropped a depend) (settle (dropped a depend)) (drop_comes D a depend) (settle_comes (dropped a depend) (drop_rise D a depend rise))

  follows : (act : Act) → AllCome D a (followed act a)
  follows (Heard heard) = settle_comes a rise
  follows (Submit spec) = submit_follows spec.depends
  follows (AddDepend spec) = adds_follow raised (spec ∷ [])
  follows (DropDepend depend) = drop_follows depend
  follows (KillJob job) = settle_comes a rise
  follows (EatFrame p) = settle_comes a rise
  follows (RetryFrame p) = block_comes D kept_version a
  follows act = same_again

-- ---- jobs that finish

-- a group that is met in a depend that isn't satisfied is marked
marked_by : (all marked : Bool) → all ≡ false → (all || marked) ≡ true → marked ≡ true
marked_by true marked none h = absurd (true≢false none)
marked_by false marked none h = h

module _ (D : Group → Type 0) where
  one_finishes : (f : Farm) → KeepsRows f → KeepsDepends f → (job : ℕ) → Ends f job → AllCome D f (finish_one job f)
  one_finishes f rows k job ends =
      let keep : DependRow → Bool = λ (d : DependRow). not (waits_by job d) in
      record {
        next = omega arith;
        rows = λ n e at.
            let was = at_kept keep f.depends n e at in
            let met : (x : Group) → is_met (finish_one job f) e x ≡ is_met f e x = λ x. met_without f keep n e at x in
            inl (
              was.0,
              e,
              was.1,
              record {
                number = refl;
                all = λ h. h;
                groups = λ none. groups_kept f rows k job ends.0 ends.1 n e at none ∙ fewer_groups f rows k job ends.0 ends.1 e;
                stays = λ i x there h. met x ∙ h;
                earned = λ i x none there marked. inl (marked_by e.met_all (is_marked f e x) none (sym (met x) ∙ or_right e.met_all (is_marked (finish_one job f) e x) marked));
              },
            );
      }

  each_finishes : (low : ℕ) (jobs : List ℕ) (high : ℕ) (f : Farm) → IsRising number low jobs high → AllByRecursion (Ends f) jobs → KeepsRows f → KeepsDepends f → AllCome D f (finish_each jobs f)
  each_finishes low [] high f rise all rows k = come_same D f f (same_groups f f refl refl refl (frames_same f.slots)) refl
  each_finishes low (n ∷ ns) high f rise all rows k =
      come_then D f (finish_one n f) (finish_each ns (finish_one n f)) (one_finishes f rows k n all.0)
      (each_finishes (n + 1) ns high (finish_one n f) rise.1 (later_ends n f (n + 1) ns high (omega arith) rise.1 all.1) (kept_one n f rows all.0) (finish_keeps f rows k n all.0.0 all.0.1))

  all_finish : (f : Farm) → KeepsRows f → KeepsDepends f → AllCome D f (finish_all f)
  unfolding finish_all
  all_finish f rows k = each_finishes 1 (finishing f) f.next_job f (finishing_rise f rows) (finishing_end f rows) rows k

  closes : (act : Act) (f : Farm) → KeepsRows f → KeepsDepends f → AllCome D f (closed act f)
  closes (Heard heard) f rows k = all_finish f rows k
  closes (KillJob job) f rows k = all_finish f rows k
  closes (EatFrame p) f rows k = all_finish f rows k
  closes act f rows k = come_same D f f (same_groups f f refl refl refl (frames_same f.slots)) refl

-- ---- an entry

module _ (f : Farm) (e : Entry) (legal : IsLegalStep f e) (k : IsKeptFarm f) where
  abbrev moment : ℕ
  moment = moment_of f e.moment

  abbrev later : Farm
  later = at_moment f moment

  act_leaves_groups : LeavesGroups later (acted f e)
  act_leaves_groups =
      act_same later moment e.act (refusal_later f moment e.act ∙ act_accepted f e legal) (allowed_later f moment e.act legal.condition)
      (kept_later f moment (omega arith) (omega (arith, k.rows.moment_within, legal.formed.moment_within)) k.rows) (later_keeps f moment k.depends)

  pub acted_same : SameGroups f (acted f e)
  acted_same = same_groups_then f later (acted f e) (same_groups f later refl refl refl (frames_same f.slots)) act_leaves_groups.same

  pub acted_next : (acted f e).next_depend ≡ f.next_depend
  acted_next = act_leaves_groups.next

  acted_rise : IsRising depend_key 1 (acted f e).depends (acted f e).next_depend
  acted_rise =
      subst (IsRising depend_key 1 (acted f e).depends) (sym act_leaves_groups.next)
      (subst (λ (ds : List DependRow). IsRising depend_key 1 ds f.next_depend) (sym acted_same.depends) k.depends.rise)

  acted_none : NoneAhead (acted f e)
  acted_none d x above =
      ap (λ (ms : List MetRow). is_marked (record f { met = ms }) d x) acted_same.met ∙ none_ahead f k.depends d x (omega (arith, above, act_leaves_groups.next))

  pub entry_comes : AllCome (AreDoneAt f e) f (after f e)
  entry_comes =
      let settled = followed_step f e legal k in
      come_then (AreDoneAt f e) f (acted f e) (after f e) (come_same (AreDoneAt f e) f (acted f e) acted_same act_leaves_groups.next)
      (come_then (AreDoneAt f e) (acted f e) (followed e.act (acted f e)) (after f e) (follows (acted f e) acted_rise acted_none e.act)
      (closes (AreDoneAt f e) e.act (followed e.act (acted f e)) settled.rows settled.depends))

-- ---- runs

pub run_comes : (f : Farm) (es : List Entry) → IsKeptFarm f → IsLegal f es → AllCome (AreDoneIn f es) f (run_of f es)
run_comes f [] k legal = come_same (AreDoneIn f []) f f (same_groups f f refl refl refl (frames_same f.slots)) refl
run_comes f (e ∷ es) k legal =
    let D = AreDoneIn f (e ∷ es) in
    let now = after f e in
    come_then D f now (run_of now es) (come_weaker (AreDoneAt f e) D (λ x done. inl done) f now (entry_comes f e legal.0 k))
    (come_weaker (AreDoneIn now es) D (λ x done. inr done) now (run_of now es) (run_comes now es (kept_step f e legal.0 k) legal.1))

module _ (f g : Farm) (D : Group → Type 0) (k : KeepsDepends f) (all : AllCome D f g) where
  stays_by : (n m i : ℕ) (d e : DependRow) (x : Group) → slice_get f.depends n ≡ Some d → e.depend ≡ d.depend → slice_get (groups_of f d) i ≡ Some x → is_met f d x ≡ true → From D f g e → is_met g e x ≡ true
  stays_by n m i d e x at same there met (inl row) =
      let old = row.1 in
      let place = rising_once depend_key 1 f.depends f.next_depend n row.0 d old k.rise at row.2 (sym same ∙ row.3.number) in
      let one : d ≡ old = same_Some d old (sym at ∙ (ap (slice_get f.depends) place ∙ row.2)) in
      row.3.stays i x (ap (λ (r : DependRow). slice_get (groups_of f r) i) (sym one) ∙ there) (ap (λ (r : DependRow). is_met f r x) (sym one) ∙ met)
  stays_by n m i d e x at same there met (inr new) = absurd (omega (arith, rising_below depend_key 1 f.depends f.next_depend n d k.rise at, new.number, same))

  pub met_stay : MetStays f g
  met_stay n m i d e x at now same there met = stays_by n m i d e x at same there met (all.rows m e now)

  satisfied_by : (n : ℕ) (d e : DependRow) → slice_get f.depends n ≡ Some d → e.depend ≡ d.depend → d.met_all ≡ true → From D f g e → e.met_all ≡ true
  satisfied_by n d e at same met (inl row) =
      let old = row.1 in
      let place = rising_once depend_key 1 f.depends f.next_depend n row.0 d old k.rise at row.2 (sym same ∙ row.3.number) in
      let one : d ≡ old = same_Some d old (sym at ∙ (ap (slice_get f.depends) place ∙ row.2)) in
      row.3.all (ap (λ (r : DependRow). r.met_all) (sym one) ∙ met)
  satisfied_by n d e at same met (inr new) = absurd (omega (arith, rising_below depend_key 1 f.depends f.next_depend n d k.rise at, new.number, same))

  pub satisfied_stay : SatisfiedStays f g
  satisfied_stay n m d e at now same met = satisfied_by n d e at same met (all.rows m e now)

  earned_by : (depend : ℕ) (x : Group) (mark : IsMarkedIn g depend x) → From D f g mark.row → IsMarkedIn f depend x ⊎ D x
  earned_by depend x mark (inl row) =
      let c = row.3 in
      let there : slice_get (groups_of f row.1) mark.position ≡ Some x = ap (λ (gs : List Group). slice_get gs mark.position) (sym (c.groups mark.unmet)) ∙ mark.there in
      step c.all there (c.earned mark.position x mark.unmet there mark.marked)
    where
      unmet : (row.1.met_all ≡ true → mark.row.met_all ≡ true) → (b : Bool) → row.1.met_all ≡ b → row.1.met_all ≡ false
      unmet more true is = absurd (true≢false (sym (more is) ∙ mark.unmet))
      unmet more false is = is

      step : (row.1.met_all ≡ true → mark.row.met_all ≡ true) → slice_get (groups_of f row.1) mark.position ≡ Some x → (is_marked f row.1 x ≡ true) ⊎ D x → IsMarkedIn f depend x ⊎ D x
      step more there (inl marked) =
          inl (record { place = row.0; row = row.1; at = row.2; number = sym row.3.number ∙ mark.number; unmet = unmet more row.1.met_all refl; position = mark.position; there = there; marked = marked })
      step more there (inr done) = inr done
  earned_by depend x mark (inr new) = inr (new.earned mark.position x mark.unmet mark.there mark.marked)

  pub marks_earned : (depend : ℕ) (x : Group) → IsMarkedIn g depend x → IsMarkedIn f depend x ⊎ D x
  marks_earned depend x mark = earned_by depend x mark (all.rows mark.place mark.row mark.at)
