-- How many frames wait in the unmet groups of a depend: at most as many as a job has.
use Rattle.std.proofs.Common.{◌≡◌, ℕ, ◌+◌, ◌≤◌, Bool, true, false, cond, eqb, not, suc, ℤ, List, [], ◌∷◌, ◌++◌, length, map, length-append, Option, Some, None, refl, sym, ap, subst, ◌∙◌, arith}
use Rattle.std.specs.List.{filter, find, list_all, position_or_len, sum_by}
use Rattle.std.proofs.lemmas.Bool.{eqb-true, false≢true}
use Rattle.std.proofs.lemmas.List.Folds.{find_at}
use Rattle.std.proofs.lemmas.List.Sums.{sum_by-cons}
use Rattle.farm_types.specs.declared.depend.DependRow.{DependRow}
use Rattle.farm_types.specs.declared.depend.DependSpec.{DependSpec}
use Rattle.farm_types.specs.declared.depend.Group.{Group}
use Rattle.farm_types.specs.declared.limits.TheConstants.{MOST_FRAMES}
use Rattle.farm_types.specs.declared.rows.JobRow.{JobRow}
use Rattle.farm_types.specs.declared.rows.LayerRow.{LayerRow}
use Rattle.farm_types.specs.declared.slot_row.SlotRow.{SlotRow}
use Rattle.farm_types.specs.Depends.{groups_of, is_met, layer_shape, shape_in, slots_placed}
use Rattle.farm_types.specs.DependActs.{add_depend, depend_at, unmet_in, unmet_of}
use Rattle.farm_types.specs.Farm.{Farm, layers_of}
use Rattle.farm_types.specs.Groups.{all_slots, part_at}
use Rattle.farm_types.specs.Jobs.{JobLists}
use Rattle.farm_types.specs.Kept.{KeepsJobs, KeepsRows, frames_said, is_formed_job, is_of_pending, is_pending_job}
use Rattle.farm_types.specs.Ranges.{range_numbers}
use Rattle.farm_types.specs.Settle.{settle}
use Rattle.farm_types.proofs.Lists.{and_both, for_some_true, found_is, find_passes}
use Rattle.farm_law.proofs.KeptJobsFormed.{job_formed}
use Rattle.farm_law.proofs.FormedParts.{between_is}
use Rattle.depend_law.proofs.GroupSlots.{all_waiters, groups_among}

-- ---- the frames of a job

none_owned : (jobs : List JobRow) (job : ℕ) (layers : List LayerRow) → is_of_pending jobs job ≡ false → list_all (λ (l : LayerRow). is_of_pending jobs l.job) layers ≡ true → layers_of layers job ≡ []
none_owned jobs job [] none owned = refl
none_owned jobs job (l ∷ ls) none owned =
    let parts = and_both (is_of_pending jobs l.job) (list_all (λ (k : LayerRow). is_of_pending jobs k.job) ls) owned in
    by (eqb l.job job) refl parts.0 (none_owned jobs job ls none parts.1)
  where
    by : (b : Bool) → eqb l.job job ≡ b → is_of_pending jobs l.job ≡ true → layers_of ls job ≡ [] → cond b (l ∷ layers_of ls job) (layers_of ls job) ≡ []
    by true is own rest = absurd (false≢true (sym none ∙ subst (λ (j : ℕ). is_of_pending jobs j ≡ true) (eqb-true l.job job is) own))
    by false is own rest = rest

-- the ranges of a job's layers say at most so many frames
pub said_within : (b : JobLists) (shows : ℕ) → KeepsJobs b shows → (job : ℕ) → frames_said (layers_of b.layers job) ≤ MOST_FRAMES
said_within b shows kept job = by (is_of_pending b.jobs job) refl
  where
    by : (p : Bool) → is_of_pending b.jobs job ≡ p → frames_said (layers_of b.layers job) ≤ MOST_FRAMES
    by true pending =
        let j = for_some_true (find (λ (k : JobRow). eqb k.job job) b.jobs) is_pending_job pending in
        let number = eqb-true j.0.job job (found_is (λ (k : JobRow). eqb k.job job) b.jobs j.0 j.1) in
        let formed = job_formed shows j.0 (find_passes (λ (k : JobRow). eqb k.job job) (is_formed_job shows) b.jobs j.0 kept.jobs_formed j.1) in
        let its = kept.jobs_layered (position_or_len (λ (k : JobRow). eqb k.job job) b.jobs) j.0 (sym (find_at (λ (k : JobRow). eqb k.job job) b.jobs) ∙ j.1) j.2 in
        let said : frames_said (layers_of b.layers job) ≡ j.0.frames = subst (λ (n : ℕ). frames_said (layers_of b.layers n) ≡ j.0.frames) number its.frames in
        omega (arith, said, (between_is 1 MOST_FRAMES j.0.frames formed.frames).1)
    by false none = let empty = ap frames_said (none_owned b.jobs job b.layers none kept.layers_owned) in omega (arith, empty)

pub length-placed : (slots : List SlotRow) (job layer position : ℕ) (ns : List ℤ) → length (slots_placed slots job layer position ns) ≡ length ns
length-placed slots job layer position [] = refl
length-placed slots job layer position (n ∷ ns) = ap suc (length-placed slots job layer (position + 1) ns)

length-shape : (slots : List SlotRow) (layers : List LayerRow) → length (all_slots (map (layer_shape slots) layers)) ≡ frames_said layers
length-shape slots [] = refl
length-shape slots (l ∷ ls) =
    omega (
      arith,
      length-append (slots_placed slots l.job l.place 0 (range_numbers l.range)) (all_slots (map (layer_shape slots) ls)),
      length-placed slots l.job l.place 0 (range_numbers l.range),
      length-shape slots ls,
      sum_by-cons (λ (k : LayerRow). length (range_numbers k.range)) l ls,
    )

-- ---- those who wait

kept_sum : (test : Group → Bool) (gs : List Group) → sum_by (λ (g : Group). length g.waiters) (filter test gs) ≤ length (all_waiters gs)
kept_sum test [] = omega arith
kept_sum test (g ∷ gs) = by (test g) (kept_sum test gs)
  where
    by : (b : Bool) → sum_by (λ (h : Group). length h.waiters) (filter test gs) ≤ length (all_waiters gs)
        → sum_by (λ (h : Group). length h.waiters) (cond b (g ∷ filter test gs) (filter test gs)) ≤ length (g.waiters ++ all_waiters gs)
    by true rest = omega (arith, length-append g.waiters (all_waiters gs), sum_by-cons (λ (h : Group). length h.waiters) g (filter test gs), rest)
    by false rest = omega (arith, length-append g.waiters (all_waiters gs), rest)

module _ (g : Farm) (said : (job : ℕ) → frames_said (layers_of g.layers job) ≤ MOST_FRAMES) where
  waiters_within : (d : DependRow) → length (all_waiters (groups_of g d)) ≤ MOST_FRAMES
  unfolding groups_of
  waiters_within d =
      let most : length (all_slots (shape_in g.layers g.slots d.waiter.job).layers) ≤ MOST_FRAMES = omega (arith, length-shape g.slots (layers_of g.layers d.waiter.job), said d.waiter.job) in
      let some = groups_among MOST_FRAMES d.any (part_at d.waiter) (part_at d.target) (shape_in g.layers g.slots d.waiter.job) (shape_in g.layers g.slots d.target.job) (omega arith) most d.kind in
      omega (arith, some.wait.count, most)

  unmet_few : (o : Option DependRow) → unmet_in g o ≤ MOST_FRAMES
  unmet_few None = omega arith
  unmet_few (Some d) = omega (arith, kept_sum (λ (h : Group). not (is_met g d h)) (groups_of g d), waiters_within d)

-- of a depend that was just added
pub unmet_within : (f : Farm) → KeepsRows f → (spec : DependSpec) (depend : ℕ) → unmet_of (settle (add_depend f spec)) depend ≤ MOST_FRAMES
unfolding unmet_of settle
unmet_within f kept spec depend = unmet_few (settle (add_depend f spec)) (said_within _ (length f.shows) kept.jobs) (depend_at (settle (add_depend f spec)) depend)
