-- Along a legal run a depend comes to be satisfied where it is dropped, or where each of its groups is met.
use Rattle.std.proofs.Common.{◌≡◌, ◌≤◌, ℕ, Bool, true, false, cond, ◌||◌, not, eqb, List, [], ◌∷◌, Some, refl, ap, sym, subst, ◌∙◌, ◌⊎◌, inl, inr, arith}
use Rattle.std.specs.List.{filter, list_all, list_any, slice_get}
use Rattle.std.proofs.lemmas.Bool.{eqb-true, or_cases, or_left, or_right, true≢false}
use Rattle.std.proofs.lemmas.Option.{same_Some}
use Rattle.farm_types.specs.declared.depend.DependRow.{DependRow}
use Rattle.farm_types.specs.declared.depend.DependSpec.{DependSpec}
use Rattle.farm_types.specs.declared.depend.Group.{Group}
use Rattle.farm_types.specs.declared.depend.MetRow.{MetRow}
use Rattle.farm_types.specs.declared.entry.Act.{Act}
use Rattle.farm_types.specs.declared.entry.Act.TheVariants.{AddDepend, DropDepend, EatFrame, Heard, KillJob, RetryFrame, Submit}
use Rattle.farm_types.specs.declared.entry.Entry.{Entry}
use Rattle.farm_types.specs.DependActs.{add_depend, add_depends, dropped, new_depend, satisfied_row, with_depends}
use Rattle.farm_types.specs.Depends.{are_done, groups_of, is_done, is_marked, is_met}
use Rattle.farm_types.specs.Farm.{Farm}
use Rattle.farm_types.specs.Finish.{waits_by}
use Rattle.farm_types.specs.Kept.{IsKeptFarm}
use Rattle.farm_types.specs.Rising.{depend_key}
use Rattle.farm_types.specs.Run.{IsLegal, IsLegalStep, run_of}
use Rattle.farm_types.specs.Settle.{is_met_now, kept_version, raised, settle, settled_row, with_blocked}
use Rattle.farm_types.specs.Step.{acted, after, closed, finish_all, finish_each, finish_one, finishing, followed}
use Rattle.farm_types.proofs.Lists.{list_all-at}
use Rattle.farm_law.proofs.Filtered.{at_kept}
use Rattle.farm_law.proofs.KeptJobsLists.{rising_below}
use Rattle.depend_law.specs.Earned.{AreDoneAt, BecomesSatisfied, Drops, IsSatisfiedAt, IsSatisfiedIn}
use Rattle.depend_law.proofs.Among.{In, rising_once}
use Rattle.depend_law.proofs.Comes.{at_end, mapped_at}
use Rattle.depend_law.proofs.EarnedMarks.{acted_next, acted_same}
use Rattle.depend_law.proofs.KeptRuns.{kept_step}
use Rattle.depend_law.proofs.Marks.{marks}
use Rattle.depend_law.proofs.Stable.{SameGroups}

-- ---- how the row of a satisfied depend comes

-- it is the row of a depend that wasn't satisfied, or of a new one
abbrev pub WasUnmet : Farm → DependRow → Type 0
WasUnmet a e =
    ((n : ℕ) × (d : DependRow) × (slice_get a.depends n ≡ Some d) × (d.met_all ≡ false) × (e ≡ record d { met_all = true })) ⊎ (a.next_depend ≤ e.depend)

-- the group is marked, or its targets are done
abbrev pub IsMet : Farm → DependRow → Group → Type 0
IsMet a e x = (is_marked a e x ≡ true) ⊎ (are_done (is_done a.slots) x ≡ true)

-- and each of its groups is so
pub record MeetsAll (a : Farm) (e : DependRow) : Type 0 where
  pub from : WasUnmet a e
  pub met : (k : ℕ) (x : Group) → slice_get (groups_of a e) k ≡ Some x → IsMet a e x

abbrev pub Satisfies : Act → Farm → DependRow → Type 0
Satisfies act a e = IsSatisfiedIn a e.depend ⊎ (Drops act e.depend ⊎ MeetsAll a e)

abbrev pub AllSatisfy : Act → Farm → Farm → Type 0
AllSatisfy act a g = (n : ℕ) (e : DependRow) → slice_get g.depends n ≡ Some e → e.met_all ≡ true → Satisfies act a e

-- depends that stay as they are
same_satisfy : (act : Act) (a g : Farm) → g.depends ≡ a.depends → AllSatisfy act a g
same_satisfy act a g same n e at met =
    inl (record { place = n; row = e; at = ap (λ (ds : List DependRow). slice_get ds n) (sym same) ∙ at; number = refl; satisfied = met })

-- that a depend is satisfied is nothing to its groups
row_groups : (a : Farm) (d : DependRow) (b : Bool) → groups_of a (record d { met_all = b }) ≡ groups_of a d
unfolding groups_of
row_groups a d b = refl

-- ---- a farm that is settled

module _ (act : Act) (a : Farm) where
  met_by : (d : DependRow) → d.met_all ≡ false → (x : Group) → is_met_now a d x ≡ true → IsMet a d x
  met_by d unmet x now = either (or_cases (is_met a d x) (are_done (is_done a.slots) x) now)
    where
      either : (is_met a d x ≡ true) ⊎ (are_done (is_done a.slots) x ≡ true) → IsMet a d x
      either (inl met) = inl (sym (ap (λ (b : Bool). b || is_marked a d x) unmet) ∙ met)
      either (inr done) = inr done

  settled_by : (n : ℕ) (d : DependRow) → slice_get a.depends n ≡ Some d → (b : Bool) → d.met_all ≡ b → (settled_row a d).met_all ≡ true
      → Satisfies act a (settled_row a d)
  settled_by n d at true is met = inl (record { place = n; row = d; at = at; number = refl; satisfied = is })
  settled_by n d at false is met =
      let all : list_all (is_met_now a d) (groups_of a d) ≡ true = sym (ap (λ (b : Bool). b || list_all (is_met_now a d) (groups_of a d)) is) ∙ met in
      let same = row_groups a d (settled_row a d).met_all in
      inr (inr (record {
        from = inl (n, d, at, is, ap (λ (b : Bool). record d { met_all = b }) met);
        met = λ k x there.
            met_by d is x (list_all-at (is_met_now a d) (groups_of a d) k x all (ap (λ (gs : List Group). slice_get gs k) (sym same) ∙ there));
      }))

  settle_satisfies : AllSatisfy act a (settle a)
  unfolding settle
  settle_satisfies n e at met =
      let was = mapped_at (settled_row a) a.depends n e at in
      subst (Satisfies act a) was.2
      (settled_by n was.0 was.1 (was.0).met_all refl (ap (λ (r : DependRow). r.met_all) was.2 ∙ met))

-- ---- depends that are added

abbrev pub IsAdded : Farm → DependRow → Type 0
IsAdded f d = (f.next_depend ≤ d.depend) × (d.met_all ≡ false)

row_before : (f : Farm) (specs : List DependSpec) (n : ℕ) (d : DependRow) → slice_get (add_depends f specs).depends n ≡ Some d → In f.depends d ⊎ IsAdded f d
row_before f [] n d at = inl (n, at)
row_before f (spec ∷ specs) n d at = earlier (row_before (add_depend f spec) specs n d at)
  where
    here : (m : ℕ) → (slice_get f.depends m ≡ Some d) ⊎ (new_depend f spec ≡ d) → In f.depends d ⊎ IsAdded f d
    here m (inl was) = inl (m, was)
    here m (inr is) = inr (subst (IsAdded f) is (omega arith, refl))

    earlier : In (add_depend f spec).depends d ⊎ IsAdded (add_depend f spec) d → In f.depends d ⊎ IsAdded f d
    earlier (inl found) = here found.0 (at_end f.depends (new_depend f spec) found.0 d found.1)
    earlier (inr added) = inr (omega (arith, added.0), added.1)

adds_next : (f : Farm) (specs : List DependSpec) → f.next_depend ≤ (add_depends f specs).next_depend
adds_next f [] = omega arith
adds_next f (spec ∷ specs) = omega (arith, adds_next (add_depend f spec) specs)

-- nothing else changes
adds_rest : (f : Farm) (specs : List DependSpec)
    → add_depends f specs ≡ record f { depends = (add_depends f specs).depends; next_depend = (add_depends f specs).next_depend }
adds_rest f [] = refl
adds_rest f (spec ∷ specs) = adds_rest (add_depend f spec) specs

module _ (act : Act) (a : Farm) (specs : List DependSpec) where
  abbrev added : Farm
  added = add_depends a specs

  added_groups : (e : DependRow) → groups_of added e ≡ groups_of a e
  unfolding groups_of
  added_groups e = ap (λ (g : Farm). groups_of g e) (adds_rest a specs)

  unmet_before : (e : DependRow) → WasUnmet added e → WasUnmet a e
  unmet_before e (inr new) = inr (omega (arith, new, adds_next a specs))
  unmet_before e (inl row) = before (row_before a specs row.0 row.1 row.2)
    where
      before : In a.depends row.1 ⊎ IsAdded a row.1 → WasUnmet a e
      before (inl found) = inl (found.0, row.1, found.1, row.3, row.4)
      before (inr new) = inr (subst (λ (d : DependRow). a.next_depend ≤ d.depend) (sym row.4) new.0)

  adds_satisfy : (e : DependRow) → Satisfies act added e → Satisfies act a e
  adds_satisfy e (inl was) = before (row_before a specs was.place was.row was.at)
    where
      before : In a.depends was.row ⊎ IsAdded a was.row → Satisfies act a e
      before (inl found) = inl (record { place = found.0; row = was.row; at = found.1; number = was.number; satisfied = was.satisfied })
      before (inr new) = absurd (true≢false (sym was.satisfied ∙ new.1))
  adds_satisfy e (inr (inl drops)) = inr (inl drops)
  adds_satisfy e (inr (inr now)) =
      let rest = adds_rest a specs in
      inr (inr (record {
        from = unmet_before e now.from;
        met = λ k x there.
            subst (λ (g : Farm). IsMet g e x) rest
            (now.met k x (ap (λ (gs : List Group). slice_get gs k) (added_groups e) ∙ there));
      }))

-- ---- a depend that is dropped

-- what passes among those that are kept does so among all
any_step : (first kept rest : Bool) (keep : Bool) → (kept ≡ true → rest ≡ true) → cond keep (first || kept) kept ≡ true → (first || rest) ≡ true
any_step first kept rest true later h = either (or_cases first kept h)
  where
    either : (first ≡ true) ⊎ (kept ≡ true) → (first || rest) ≡ true
    either (inl is) = or_left first rest is
    either (inr is) = or_right first rest (later is)
any_step first kept rest false later h = or_right first rest (later h)

any_cond : {X : Type 0} (test : X → Bool) (b : Bool) (y : X) (ys : List X) → list_any test (cond b (y ∷ ys) ys) ≡ cond b (test y || list_any test ys) (list_any test ys)
any_cond test true y ys = refl
any_cond test false y ys = refl

kept_any : {X : Type 0} (test keep : X → Bool) (xs : List X) → list_any test (filter keep xs) ≡ true → list_any test xs ≡ true
kept_any test keep [] h = h
kept_any test keep (y ∷ ys) h =
    any_step (test y) (list_any test (filter keep ys)) (list_any test ys) (keep y) (kept_any test keep ys) (sym (any_cond test (keep y) y (filter keep ys)) ∙ h)

module _ (a : Farm) (depend : ℕ) where
  abbrev drops : Act
  drops = DropDepend depend

  dropped_groups : (e : DependRow) → groups_of (dropped a depend) e ≡ groups_of a e
  unfolding groups_of
  dropped_groups e = refl

  -- a satisfied row is the dropped one, or was so
  was_satisfied : (n : ℕ) (d : DependRow) → slice_get a.depends n ≡ Some d → (b : Bool) → eqb d.depend depend ≡ b
      → (cond b (record d { met_all = true }) d).met_all ≡ true → IsSatisfiedIn a d.depend ⊎ (depend ≡ d.depend)
  was_satisfied n d at true is met = inr (sym (eqb-true d.depend depend is))
  was_satisfied n d at false is met = inl (record { place = n; row = d; at = at; number = refl; satisfied = met })

  -- and one that isn't was there as it is
  was_unmet : (d : DependRow) (b : Bool) → (cond b (record d { met_all = true }) d).met_all ≡ false → cond b (record d { met_all = true }) d ≡ d
  was_unmet d true unmet = absurd (true≢false unmet)
  was_unmet d false unmet = refl

  same_number : (d : DependRow) (b : Bool) → (cond b (record d { met_all = true }) d).depend ≡ d.depend
  same_number d true = refl
  same_number d false = refl

  unmet_undropped : (e : DependRow) → WasUnmet (dropped a depend) e → WasUnmet a e
  unmet_undropped e (inr new) = inr new
  unmet_undropped e (inl row) =
      let was = mapped_at (satisfied_row depend) a.depends row.0 row.1 row.2 in
      let same : was.0 ≡ row.1 = sym (was_unmet was.0 (eqb (was.0).depend depend) (ap (λ (d : DependRow). d.met_all) was.2 ∙ row.3)) ∙ was.2 in
      inl (row.0, row.1, subst (λ (d : DependRow). slice_get a.depends row.0 ≡ Some d) same was.1, row.3, row.4)

  drop_satisfies : (e : DependRow) → Satisfies drops (dropped a depend) e → Satisfies drops a e
  drop_satisfies e (inr (inl same)) = inr (inl same)
  drop_satisfies e (inl now) =
      let was = mapped_at (satisfied_row depend) a.depends now.place now.row now.at in
      let number : (was.0).depend ≡ e.depend = sym (same_number was.0 (eqb (was.0).depend depend)) ∙ (ap (λ (d : DependRow). d.depend) was.2 ∙ now.number) in
      either number (was_satisfied now.place was.0 was.1 (eqb (was.0).depend depend) refl (ap (λ (d : DependRow). d.met_all) was.2 ∙ now.satisfied))
    where
      either : {m : ℕ} → m ≡ e.depend → IsSatisfiedIn a m ⊎ (depend ≡ m) → Satisfies drops a e
      either number (inl was) = inl (subst (IsSatisfiedIn a) number was)
      either number (inr is) = inr (inl (is ∙ number))
  drop_satisfies e (inr (inr now)) =
      inr (inr (record {
        from = unmet_undropped e now.from;
        met = λ k x there. marked_before x (now.met k x (ap (λ (gs : List Group). slice_get gs k) (dropped_groups e) ∙ there));
      }))
    where
      marked_before : (x : Group) → IsMet (dropped a depend) e x → IsMet a e x
      marked_before x (inl marked) = inl (kept_any (marks e x) (λ (m : MetRow). not (eqb m.depend depend)) a.met marked)
      marked_before x (inr done) = inr done

-- ---- what follows of an act, and jobs that finish

module _ (a : Farm) where
  adds_follow : (act : Act) (change : ℕ → ℕ) (specs : List DependSpec) → AllSatisfy act a (with_blocked change (settle (add_depends a specs)))
  unfolding with_blocked
  adds_follow act change specs n e at met = adds_satisfy act a specs e (settle_satisfies act (add_depends a specs) n e at met)

  submit_follows : (act : Act) (specs : List DependSpec) → AllSatisfy act a (with_depends a specs)
  submit_follows act [] = same_satisfy act a a refl
  submit_follows act (spec ∷ specs) = adds_follow act kept_version (spec ∷ specs)

  retry_follows : (act : Act) (change : ℕ → ℕ) → AllSatisfy act a (with_blocked change a)
  unfolding with_blocked
  retry_follows act change = same_satisfy act a (with_blocked change a) refl

  follows : (act : Act) → AllSatisfy act a (followed act a)
  follows (Heard heard) = settle_satisfies (Heard heard) a
  follows (Submit spec) = submit_follows (Submit spec) spec.depends
  follows (AddDepend spec) = adds_follow (AddDepend spec) raised (spec ∷ [])
  follows (DropDepend depend) = λ n e at met. drop_satisfies a depend e (settle_satisfies (DropDepend depend) (dropped a depend) n e at met)
  follows (KillJob job) = settle_satisfies (KillJob job) a
  follows (EatFrame p) = settle_satisfies (EatFrame p) a
  follows (RetryFrame p) = retry_follows (RetryFrame p) kept_version
  follows act = same_satisfy act a a refl

-- jobs that finish leave a part of the rows
rows_left : (jobs : List ℕ) (f : Farm) (n : ℕ) (e : DependRow) → slice_get (finish_each jobs f).depends n ≡ Some e → In f.depends e
rows_left [] f n e at = (n, at)
rows_left (job ∷ jobs) f n e at =
    let found = rows_left jobs (finish_one job f) n e at in
    let was = at_kept (λ (d : DependRow). not (waits_by job d)) f.depends found.0 e found.1 in
    (was.0, was.1)

all_left : (f : Farm) (n : ℕ) (e : DependRow) → slice_get (finish_all f).depends n ≡ Some e → In f.depends e
unfolding finish_all
all_left f n e at = rows_left (finishing f) f n e at

closed_left : (act : Act) (f : Farm) (n : ℕ) (e : DependRow) → slice_get (closed act f).depends n ≡ Some e → In f.depends e
closed_left (Heard heard) f n e at = all_left f n e at
closed_left (KillJob job) f n e at = all_left f n e at
closed_left (EatFrame p) f n e at = all_left f n e at
closed_left act f n e at = (n, at)

-- ---- an entry

module _ (f : Farm) (e : Entry) (legal : IsLegalStep f e) (k : IsKeptFarm f) where
  abbrev a : Farm
  a = acted f e

  same : SameGroups f a
  same = acted_same f e legal k

  was_there : (n : ℕ) (d : DependRow) → slice_get a.depends n ≡ Some d → slice_get f.depends n ≡ Some d
  was_there n d at = ap (λ (ds : List DependRow). slice_get ds n) (sym same.depends) ∙ at

  -- the groups of a depend that was there are those that it had
  groups_before : (row : DependRow) → WasUnmet a row → (n : ℕ) (d : DependRow) → slice_get f.depends n ≡ Some d → d.depend ≡ row.depend
      → groups_of a row ≡ groups_of f d
  groups_before row (inr new) n d at number =
      absurd (omega (arith, rising_below depend_key 1 f.depends f.next_depend n d k.depends.rise at, new, acted_next f e legal k, number))
  groups_before row (inl was) n d at number =
      let there = was_there was.0 was.1 was.2 in
      let same_number = number ∙ ap (λ (r : DependRow). r.depend) was.4 in
      let place = rising_once depend_key 1 f.depends f.next_depend n was.0 d was.1 k.depends.rise at there same_number in
      let one : was.1 ≡ d = same_Some was.1 d (sym there ∙ (sym (ap (slice_get f.depends) place) ∙ at)) in
      ap (groups_of a) was.4 ∙ (row_groups a was.1 true ∙ (same.groups was.0 was.1 there was.3 ∙ ap (groups_of f) one))

  entry_row : (n : ℕ) (row : DependRow) → slice_get (after f e).depends n ≡ Some row → Satisfies e.act a row
      → IsSatisfiedIn f row.depend ⊎ IsSatisfiedAt f e row.depend
  entry_row n row at (inl was) =
      inl (record { place = was.place; row = was.row; at = was_there was.place was.row was.at; number = was.number; satisfied = was.satisfied })
  entry_row n row at (inr (inl drops)) = inr (inl drops)
  entry_row n row at (inr (inr now)) =
      inr (inr (record {
        place = n;
        row = row;
        at = at;
        number = refl;
        groups = groups_before row now.from;
        met = λ i x there. marked_before x (now.met i x there);
      }))
    where
      marked_before : (x : Group) → IsMet a row x → (is_marked f row x ≡ true) ⊎ AreDoneAt f e x
      marked_before x (inl marked) = inl (sym (ap (λ (ms : List MetRow). is_marked (record f { met = ms }) row x) same.met) ∙ marked)
      marked_before x (inr done) = inr done

  pub entry_satisfied : (depend : ℕ) → IsSatisfiedIn (after f e) depend → IsSatisfiedIn f depend ⊎ IsSatisfiedAt f e depend
  entry_satisfied depend now =
      let found = closed_left e.act (followed e.act a) now.place now.row now.at in
      subst (λ (m : ℕ). IsSatisfiedIn f m ⊎ IsSatisfiedAt f e m) now.number
      (entry_row now.place now.row now.at (follows a e.act found.0 now.row found.1 now.satisfied))

-- ---- runs

pub run_satisfied : (f : Farm) (es : List Entry) → IsKeptFarm f → IsLegal f es → (depend : ℕ) → IsSatisfiedIn (run_of f es) depend
    → IsSatisfiedIn f depend ⊎ BecomesSatisfied f es depend
run_satisfied f [] k legal depend now = inl now
run_satisfied f (e ∷ es) k legal depend now = later (run_satisfied (after f e) es (kept_step f e legal.0 k) legal.1 depend now)
  where
    here : IsSatisfiedIn f depend ⊎ IsSatisfiedAt f e depend → IsSatisfiedIn f depend ⊎ BecomesSatisfied f (e ∷ es) depend
    here (inl was) = inl was
    here (inr at) = inr (inl at)

    later : IsSatisfiedIn (after f e) depend ⊎ BecomesSatisfied (after f e) es depend → IsSatisfiedIn f depend ⊎ BecomesSatisfied f (e ∷ es) depend
    later (inl next) = here (entry_satisfied f e legal.0 k depend next)
    later (inr rest) = inr (inr rest)
