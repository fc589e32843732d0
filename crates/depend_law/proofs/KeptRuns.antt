-- Every legal run from a farm that keeps all ends in such a farm.
use Rattle.std.proofs.Common.{◌≡◌, ℕ, List, [], ◌∷◌, Option, Some, None, refl, ap, ◌∙◌, arith}
use Rattle.std.specs.List.{AllByRecursion}
use Rattle.std.proofs.lemmas.List.Elements.{recursion_from_All}
use Rattle.farm_types.specs.declared.depend.DependSpec.{DependSpec}
use Rattle.farm_types.specs.declared.entry.Act.{Act}
use Rattle.farm_types.specs.declared.entry.Act.TheVariants.{AddDepend, DropDepend, EatFrame, Heard, KillJob, RetryFrame, Submit}
use Rattle.farm_types.specs.declared.entry.Entry.{Entry}
use Rattle.farm_types.specs.declared.job.JobSpec.{JobSpec}
use Rattle.farm_types.specs.declared.refusal.Refusal.{Refusal}
use Rattle.farm_types.specs.DependActs.{add_depend, add_depends, after_depend, depend_refusal, depends_refusal, dropped, or_else, with_depends}
use Rattle.farm_types.specs.Depends.{groups_of}
use Rattle.farm_types.specs.Farm.{Farm, show_named}
use Rattle.farm_types.specs.Formed.{IsFormedAct, IsFormedDepend, IsFormedJob, IsFormedOwn}
use Rattle.farm_types.specs.Kept.{IsKeptFarm, KeepsDepends, KeepsRows}
use Rattle.farm_types.specs.Run.{IsLegal, IsLegalStep, run_of}
use Rattle.farm_types.specs.Settle.{kept_version, raised, settle}
use Rattle.farm_types.specs.Step.{acted, after, after_act, after_submit, at_moment, follow_refusal, followed, moment_of}
use Rattle.farm_law.proofs.KeptRuns.{act_accepted, follow_accepted, kept_acted, refusal_later}
use Rattle.farm_law.proofs.KeptRuns as rows
use Rattle.farm_law.proofs.KeptChanges.{kept_later}
use Rattle.farm_law.proofs.KeptFollowed.{kept_followed}
use Rattle.farm_law.proofs.KeptWork.{work_kept}
use Rattle.farm_law.proofs.Recorded.{record_stays}
use Rattle.farm_law.proofs.SafeRuns.{allowed_later}
use Rattle.depend_law.proofs.Carries.{all_same, kept_by, unsettled_by, waiting_by}
use Rattle.depend_law.proofs.KeptActs.{LeavesDepends, act_leaves}
use Rattle.depend_law.proofs.DependKept.{AreNumbered, add_keeps, adds_keep, drop_keeps, drop_leaves_open}
use Rattle.depend_law.proofs.Blocked.{block_keeps, blocks_keep}
use Rattle.depend_law.proofs.FinishesAll.{closed_keeps}
use Rattle.depend_law.proofs.Settled.{settle_keeps}
use Rattle.depend_law.specs.Ending.{IsSettled}
use Rattle.depend_law.specs.Unsettled.{Unsettled, WaitingOpen}

-- ---- a farm that is settled

pub unsettled_kept : (f : Farm) → KeepsDepends f → Unsettled f
unsettled_kept f k = unsettled_by f f k (all_same f f refl refl refl refl refl refl).carries

pub waiting_kept : (f : Farm) → KeepsDepends f → WaitingOpen f
waiting_kept f k = waiting_by f f k (all_same f f refl refl refl refl refl refl).carries

-- ---- refusals at another moment

module _ (moment : ℕ) where
  depend_later : (f : Farm) (spec : DependSpec) → depend_refusal (at_moment f moment) spec ≡ depend_refusal f spec
  unfolding depend_refusal groups_of
  depend_later f spec = refl

  depends_later : (f : Farm) (specs : List DependSpec) → depends_refusal (at_moment f moment) specs ≡ depends_refusal f specs
  depends_later f [] = refl
  depends_later f (spec ∷ specs) =
      ap (λ (o : Option Refusal). or_else o (depends_refusal (add_depend (at_moment f moment) spec) specs)) (depend_later f spec)
      ∙ ap (or_else (depend_refusal f spec)) (depends_later (add_depend f spec) specs)

  submit_later : (f : Farm) (spec : JobSpec) (o : Option ℕ) → after_submit (at_moment f moment) spec o ≡ at_moment (after_submit f spec o) moment
  submit_later f spec None = refl
  submit_later f spec (Some show) = refl

-- ---- what follows of an act

depends_keep : (g : Farm) (specs : List DependSpec) → AreNumbered g → AllByRecursion IsFormedDepend specs → depends_refusal g specs ≡ None → KeepsDepends g → KeepsDepends (with_depends g specs)
depends_keep g [] jobs formed none k = k
depends_keep g (spec ∷ specs) jobs formed none k = block_keeps kept_version (add_depends g (spec ∷ specs)) (adds_keep g (spec ∷ specs) jobs formed none (unsettled_kept g k))

-- a spec's depends have their forms
own_formed : (name : List ℕ) (specs : List DependSpec) → AllByRecursion (IsFormedOwn name) specs → AllByRecursion IsFormedDepend specs
own_formed name [] each = tt
own_formed name (spec ∷ specs) each = (each.0.depend, own_formed name specs each.1)

-- What follows of an act, on a farm that keeps all, at a later moment.
module _ (f : Farm) (moment : ℕ) (k : IsKeptFarm f) where
  abbrev later : Farm
  later = at_moment f moment

  -- the moment is nothing to depends
  later_keeps : KeepsDepends later
  later_keeps = kept_by f later k.depends (all_same f later refl refl refl refl refl refl)

  add_follows : (spec : DependSpec) → IsFormedDepend spec → depend_refusal f spec ≡ None → KeepsDepends (after_depend later spec)
  add_follows spec formed none =
      block_keeps raised (add_depend later spec) (add_keeps later spec (record { rise = k.rows.jobs.jobs_rise; next_within = k.rows.jobs.next_within }) formed (depend_later moment f spec ∙ none) (unsettled_kept later later_keeps))

  drop_follows : (depend : ℕ) → KeepsDepends (settle (dropped later depend))
  drop_follows depend =
      settle_keeps (dropped later depend) (drop_keeps later depend (unsettled_kept later later_keeps)) (drop_leaves_open later depend (waiting_kept later later_keeps))

  job_follows : (spec : JobSpec) (o : Option ℕ) → IsFormedJob spec → depends_refusal (after_submit f spec o) spec.depends ≡ None → KeepsRows (after_submit later spec o) → KeepsDepends (after_submit later spec o)
      → KeepsDepends (with_depends (after_submit later spec o) spec.depends)
  job_follows spec o formed none rows depends =
      let each : AllByRecursion IsFormedDepend spec.depends = own_formed spec.name spec.depends (recursion_from_All (IsFormedOwn spec.name) spec.depends formed.each_depend) in
      let accepted : depends_refusal (after_submit later spec o) spec.depends ≡ None =
      ap (λ (g : Farm). depends_refusal g spec.depends) (submit_later moment f spec o) ∙ (depends_later moment (after_submit f spec o) spec.depends ∙ none) in
      depends_keep (after_submit later spec o) spec.depends (record { rise = rows.jobs.jobs_rise; next_within = rows.jobs.next_within }) each accepted depends

  follows_keep : (act : Act) → IsFormedAct act → follow_refusal f act ≡ None → KeepsRows (after_act later moment act) → LeavesDepends (after_act later moment act) act → KeepsDepends (followed act (after_act later moment act))
  follows_keep (Heard heard) formed none rows left = settle_keeps (after_act later moment (Heard heard)) left.0 left.1
  follows_keep (Submit spec) formed none rows left = job_follows spec (show_named f spec.show) formed none rows left
  follows_keep (AddDepend spec) formed none rows left = add_follows spec formed none
  follows_keep (DropDepend depend) formed none rows left = drop_follows depend
  follows_keep (KillJob job) formed none rows left = settle_keeps (after_act later moment (KillJob job)) left.0 left.1
  follows_keep (EatFrame p) formed none rows left = settle_keeps (after_act later moment (EatFrame p)) left.0 left.1
  follows_keep (RetryFrame p) formed none rows left = blocks_keep kept_version (after_act later moment (RetryFrame p)) left
  follows_keep act formed none rows left = left

-- ---- runs

-- what the farm keeps before jobs finish
pub followed_step : (f : Farm) (e : Entry) → IsLegalStep f e → IsKeptFarm f → IsSettled (followed e.act (acted f e))
followed_step f e legal k =
    let moment = moment_of f e.moment in
    let now = kept_later f moment (omega arith) (omega (arith, k.rows.moment_within, legal.formed.moment_within)) k.rows in
    let left = act_leaves (at_moment f moment) moment e.act (refusal_later f moment e.act ∙ act_accepted f e legal) (allowed_later f moment e.act legal.condition) now (later_keeps f moment k) in
    let acts = kept_acted f e legal.formed (act_accepted f e legal) legal.condition k.rows in
    record { rows = kept_followed e.act (acted f e) acts; depends = follows_keep f moment k e.act legal.formed.act_formed (follow_accepted f e legal) acts left }

pub kept_step : (f : Farm) (e : Entry) → IsLegalStep f e → IsKeptFarm f → IsKeptFarm (after f e)
kept_step f e legal k =
    let settled = followed_step f e legal k in
    record {
      rows = rows.kept_step f e legal k.rows;
      depends = closed_keeps e.act (followed e.act (acted f e)) settled.rows settled.depends;
      record_kept = record_stays f e;
      work = work_kept (at_moment f (moment_of f e.moment)) (moment_of f e.moment) e.act legal.formed.act_formed k.work;
    }

pub kept_run : (f : Farm) (es : List Entry) → IsKeptFarm f → IsLegal f es → IsKeptFarm (run_of f es)
kept_run f [] k legal = k
kept_run f (e ∷ es) k legal = kept_run (after f e) es (kept_step f e legal.0 k) legal.1
