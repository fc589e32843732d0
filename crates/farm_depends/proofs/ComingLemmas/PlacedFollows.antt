-- What follows a job that is placed.
use Rattle.std.proofs.Common.{◌≡◌, ℕ, false, List, [], length, Option, Some, None, Err, All, refl, sym, ap, subst, ◌∙◌, inl, inr, arith}
use Rattle.std.specs.Prelude.{nat_eq}
use Rattle.std.specs.List.{IsDistinct, slice_get}
use Rattle.std.proofs.lemmas.Option.{none-some}
use Rattle.farm_types.specs.declared.depend.DependRow.{DependRow}
use Rattle.farm_types.specs.declared.depend.DependSpec.{DependSpec}
use Rattle.farm_types.specs.declared.depend.MetRow.{MetRow}
use Rattle.farm_types.specs.declared.entry.Act.TheVariants as act
use Rattle.farm_types.specs.declared.job.JobSpec.{JobSpec}
use Rattle.farm_types.specs.DependActs.{depends_refusal, new_groups, place_refusal, with_depends}
use Rattle.farm_types.specs.Depends.{groups_left, groups_of, is_done}
use Rattle.farm_types.specs.Farm.{Farm, show_named}
use Rattle.farm_types.specs.Formed.{IsFormedJob}
use Rattle.farm_types.specs.Kept.{KeepsRows}
use Rattle.farm_types.specs.Step.{act_refusal, after_submit}
use Rattle.depend_law.proofs.Stable.{left_same}
use Rattle.depend_book.specs.Book.{DependLists, IsBook, joined, marks_of}
use Rattle.depend_book.specs.declared.new_depend.NewDepend.{NewDepend}
use Rattle.depend_graph.specs.Graph as graph
use Rattle.depend_graph.specs.Graph.{IsGroup, no_marks}
use Rattle.farm_types.specs.declared.fault.FarmFault.{FarmFault}
use Rattle.farm_types.specs.declared.fault.FarmFault.TheVariants.{Refused, NoMemory}
use Rattle.farm_depends.specs.declared.new_depends.room.Counts.{Counts}
use Rattle.farm_depends.specs.declared.follow.Follow.{Follow}
use Rattle.farm_depends.specs.declared.new_depends.own_job.OwnJob.{OwnJob}
use Rattle.farm_depends.specs.Coming.{ComeAll, all_unmet_waiters, counts_in, each_coming, follow_placed, refusal_with_all}
use Rattle.depend_book.specs.Fits.{IsBeside}
use Rattle.farm_depends.specs.Follow.{FollowFits, Follows, IsMovable, PreparesFollow, after_follow, all_coming, is_listed, nothing_follows}
use Rattle.farm_depends.specs.Placed.{CanPlace, IsOwn, blocked_own, follow_own, placed}
use Rattle.farm_depends.proofs.ComingLemmas.ComingGroups.{new_are_groups}
use Rattle.farm_depends.proofs.ComingLemmas.ComingInTurn.{all_are, all_roomy, allowed_each, in_turn, own_at, refused_alike, waiters_alike}
use Rattle.farm_depends.proofs.ComingLemmas.PlacedBlocked.{blocked_are, blocked_differ, blocked_movable, done_same}
use Rattle.farm_depends.proofs.CompletionLemmas.Reopened.{none_reopened}
use Rattle.farm_depends.proofs.ComingLemmas.ToCome.{left_is, placed_farm, placed_groups, placed_rows}

-- ---- rows without depends

-- the rows are kept whatever the depends are
pub rows_with : (f : Farm) (ds : List DependRow) (ms : List MetRow) (next : ℕ) → KeepsRows f → KeepsRows (record f { depends = ds; met = ms; next_depend = next })
rows_with f ds ms next k =
    record {
      moment_within = k.moment_within;
      shows = k.shows;
      allocs = k.allocs;
      subs = k.subs;
      limits = k.limits;
      hosts = k.hosts;
      jobs = k.jobs;
      attempts = record { hosted = k.attempts.hosted; measured = k.attempts.measured; billed = k.attempts.billed; subscribed = k.attempts.subscribed; since = k.attempts.since; versioned = k.attempts.versioned };
      sound = record { cores = k.sound.cores; memory = k.sound.memory; attempts = k.sound.attempts };
    }

joined_by : (f : Farm) (b : DependLists) (spec : JobSpec) (o : Option ℕ) → joined (after_submit f spec o) b ≡ after_submit (joined f b) spec o
joined_by f b spec None = refl
joined_by f b spec (Some show) = refl

depends_by : (f : Farm) (spec : JobSpec) (o : Option ℕ) → record (after_submit f spec o) { depends = f.depends; met = f.met; next_depend = f.next_depend } ≡ after_submit f spec o
depends_by f spec None = refl
depends_by f spec (Some show) = refl

module _ (f : Farm) (b : DependLists) (book : IsBook b) (whole : IsBeside f b) (spec : JobSpec) (formed : IsFormedJob spec) (accepted : act_refusal f (act.Submit spec) ≡ None) where
  -- the farm before, the books with the job, and both with the depends
  abbrev old : Farm
  old = joined f b

  abbrev books : Farm
  books = placed f spec

  abbrev farm : Farm
  farm = joined books b

  farm_is : placed old spec ≡ farm
  farm_is = sym (joined_by f b spec (show_named f spec.show))

  farm_rows : KeepsRows farm
  farm_rows = subst KeepsRows farm_is (placed_rows old spec whole.kept formed accepted)

  pub can_place : CanPlace f spec
  can_place =
      record {
        formed = formed;
        accepted = accepted;
        rows = rows_with old f.depends f.met f.next_depend whole.kept.rows;
        rows_then = subst KeepsRows (depends_by f spec (show_named f spec.show)) (rows_with farm f.depends f.met f.next_depend farm_rows);
      }

  groups_stay : (i : ℕ) (d : DependRow) → slice_get old.depends i ≡ Some d → d.met_all ≡ false → groups_of farm d ≡ groups_of old d
  groups_stay i d at unmet = subst (λ (g : Farm). groups_of g d ≡ groups_of old d) farm_is (placed_groups old spec whole.kept formed accepted i d at unmet)

  -- ---- refusals

  abbrev counts : Counts
  counts = record { depends = length b.rows; groups = graph.groups_left b.graph.depends; next = b.next }

  left : graph.groups_left b.graph.depends ≡ groups_left farm
  left = sym (left_same old farm (record { depends = refl; met = refl; groups = groups_stay }) ∙ left_is f b book whole.fits)

  counted : counts ≡ counts_in farm
  counted = ap (λ (n : ℕ). record { depends = length b.rows; groups = n; next = b.next }) left

  refusal_same : refusal_with_all books counts spec.depends ≡ depends_refusal farm spec.depends
  refusal_same =
      sym (refused_alike books b.rows (marks_of b.graph.depends) b.next counts spec.depends)
      ∙ (ap (λ (c : Counts). refusal_with_all farm c spec.depends) counted ∙ sym (in_turn farm spec.depends))

  refusal_then : depends_refusal (placed old spec) spec.depends ≡ depends_refusal farm spec.depends
  refusal_then = ap (λ (g : Farm). depends_refusal g spec.depends) farm_is

  pub submit_refused : (fault : FarmFault) → ComeAll books counts spec.depends (Err fault) → PreparesFollow old farm (act.Submit spec) (Err fault)
  submit_refused (Refused why) refused = refusal_then ∙ (sym refusal_same ∙ refused)
  submit_refused NoMemory refused = tt

  -- ---- the depends

  abbrev EachOwn : Type 0
  EachOwn = (n : ℕ) (d : DependSpec) → slice_get spec.depends n ≡ Some d → (d.waiter.job ≡ spec.name) × (place_refusal books d.waiter ≡ None) × (place_refusal books d.target ≡ None)

  each_own : refusal_with_all books counts spec.depends ≡ None → EachOwn
  each_own none n d at = let allowed = (allowed_each books counts spec.depends none n d at).1 in (own_at spec formed.each_depend n d at, allowed.waiter, allowed.target)

  each_group : EachOwn → (n : ℕ) (d : DependSpec) → slice_get spec.depends n ≡ Some d → All IsGroup (new_groups farm d)
  unfolding groups_of
  each_group each n d at = new_are_groups farm farm_rows d (each n d at).1 (each n d at).2

  module _ (blocked : List ℕ) (allowed : depends_refusal farm spec.depends ≡ None) (each : (n : ℕ) (d : DependSpec) → slice_get spec.depends n ≡ Some d → All IsGroup (new_groups farm d)) (differ : IsDistinct nat_eq blocked)
      (listed : (slot : ℕ) → is_listed blocked slot ≡ is_listed (all_unmet_waiters farm spec.depends) slot) (movable : All (IsMovable farm.slots) blocked) (done : (slot : ℕ) → is_done farm.slots slot ≡ is_done f.slots slot) where
    follow_farm : after_follow farm (follow_placed farm spec.depends blocked) ≡ with_depends farm spec.depends
    follow_farm =
        subst
        (λ (g : Farm). depends_refusal g spec.depends ≡ None → ((slot : ℕ) → is_listed blocked slot ≡ is_listed (all_unmet_waiters g spec.depends) slot) → after_follow g (follow_placed g spec.depends blocked) ≡ with_depends g spec.depends)
        farm_is (λ none same. placed_farm old spec whole.kept formed accepted blocked none differ same) allowed listed

    fits : FollowFits old farm (follow_placed farm spec.depends blocked)
    unfolding IsDistinct
    fits =
        record {
          groups_stay = groups_stay;
          one_kind = inr (inl (refl, refl));
          room = all_roomy farm spec.depends each allowed;
          drop_there = tt;
          done_differ = tt;
          undone = λ k d within. absurd (omega arith);
          done_are = λ slot. done slot ∙ none_reopened (is_done f.slots slot);
          opened_movable = λ k d within. absurd (omega arith);
          blocked_movable = movable;
        }

    follows : Follows old farm (act.Submit spec) (follow_placed farm spec.depends blocked)
    follows = record { accepted = refusal_then ∙ allowed; fits = fits; unreserved = refl; farm = follow_farm; counts = tt }

  -- a job with no depends
  pub none_come : spec.depends ≡ [] → Follows old farm (act.Submit spec) nothing_follows
  unfolding IsDistinct
  none_come none =
      let same : follow_placed farm spec.depends [] ≡ nothing_follows = ap (λ (ds : List DependSpec). follow_placed farm ds []) none in
      subst (Follows old farm (act.Submit spec)) same
      (follows [] (ap (depends_refusal farm) none) (λ n d at. absurd (none-some d (sym (ap (λ (ds : List DependSpec). slice_get ds n) none) ∙ at))) tt
      (λ slot. sym (ap (λ (ds : List DependSpec). is_listed (all_unmet_waiters farm ds) slot) none)) (λ k d within. absurd (omega arith)) (done_same f spec can_place))

  -- the depends, with the frames that they block
  module _ (own : OwnJob) (mine : IsOwn f spec own) where
    coming_same : each_coming books spec.depends ≡ all_coming farm spec.depends
    unfolding groups_of
    coming_same = sym (all_are farm spec.depends)

    unmet_alike : all_unmet_waiters books spec.depends ≡ all_unmet_waiters farm spec.depends
    unmet_alike = waiters_alike books b.rows (marks_of b.graph.depends) b.next spec.depends

    pub submit_follows : (ns : List NewDepend) → refusal_with_all books counts spec.depends ≡ None → ns ≡ each_coming books spec.depends → (w : Follow) → w ≡ follow_own b.graph.done own ns → Follows old farm (act.Submit spec) w
    submit_follows ns none are w is =
        let each = each_own none in
        let blocked = blocked_own b.graph.done own ns in
        let listed = λ (slot : ℕ).
        ap (λ (ms : List NewDepend). is_listed (blocked_own b.graph.done own ms) slot) are
        ∙ (blocked_are f spec can_place own mine b.graph.done whole.fits.done spec.depends each slot ∙ ap (λ (us : List ℕ). is_listed us slot) unmet_alike) in
        let all = is ∙ ap (λ (ms : List NewDepend). record { depends = ms; spares = []; dropped = None; done = []; marks = no_marks; reopened = None; opened = []; blocked = blocked; raises = false; count = 0 }) (are ∙ coming_same) in
        subst (Follows old farm (act.Submit spec)) (sym all)
        (follows blocked (sym refusal_same ∙ none) (each_group each) (blocked_differ f spec can_place own mine b.graph.done ns) listed (blocked_movable f spec can_place own mine b.graph.done ns) (done_same f spec can_place))
