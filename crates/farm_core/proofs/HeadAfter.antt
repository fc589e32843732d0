-- The farm's own row after a change: its counters, by the parts of the change.
use Rattle.std.proofs.Common.{◌≡◌, ◌+◌, ◌<◌, ◌≤◌, ◌^◌, ℕ, Bool, true, List, [], ◌∷◌, length, Option, Some, None, refl, ap, ◌∙◌, arith}
use Rattle.std.specs.Prelude.{if◌then◌else◌}
use Rattle.std.specs.List.{filter}
use Rattle.farm_types.specs.Farm.{Farm}
use Rattle.farm_types.specs.Kept.{is_pending_job}
use Rattle.farm_types.specs.Step.{finish_each, finish_one}
use Rattle.farm_types.specs.declared.limits.TheConstants.{LAST_DEPEND, LAST_JOB}
use Rattle.farm_rows.specs.Rows.{head_row}
use Rattle.farm_rows.specs.declared.head_row.HeadRow.{HeadRow}
use Rattle.farm_rows.specs.declared.head_row.TheConstants.{ROW_FORMAT}
use Rattle.depend_book.specs.declared.new_depend.NewDepend.{NewDepend}
use Rattle.farm_changes.specs.Change.{adds_job, with_more, with_rows}
use Rattle.farm_changes.specs.declared.change.More.{More}
use Rattle.farm_changes.specs.declared.change.More.TheVariants as more
use Rattle.farm_depends.specs.declared.follow.Follow.{Follow}
use Rattle.farm_depends.specs.Follow.{after_follow, with_all, with_row, without}
use Rattle.farm_depends.proofs.RowLemmas.RowsAfter.{room_left}
use Rattle.farm_core.specs.declared.change.Change.{Change}
use Rattle.farm_core.specs.Change.{IsReady, after_act, after_change, followed_by}

-- what the farm's own row tells, and whether the farm has it
record Owns (f : Farm) (moment jobs finishes depends : ℕ) (recorded : Bool) : Type 0 where
  head : head_row f ≡ record { format = ROW_FORMAT; moment = moment; jobs = jobs; finishes = finishes; depends = depends }
  recorded_is : f.recorded ≡ recorded

itself : (f : Farm) → Owns f f.moment f.next_job f.next_finish f.next_depend f.recorded
itself f = record { head = refl; recorded_is = refl }

-- ---- jobs that finish

finished_owns : (jobs : List ℕ) (f : Farm) → Owns (finish_each jobs f) f.moment f.next_job (f.next_finish + length jobs) f.next_depend f.recorded
finished_owns [] f =
    let none : f.next_finish ≡ f.next_finish + 0 = omega arith in
    record { head = ap (λ (n : ℕ). record (head_row f) { finishes = n }) none; recorded_is = refl }
finished_owns (job ∷ jobs) f =
    let rest = finished_owns jobs (finish_one job f) in
    let more : (f.next_finish + 1) + length jobs ≡ f.next_finish + length (job ∷ jobs) = omega arith in
    record { head = rest.head ∙ ap (λ (n : ℕ). record (head_row f) { finishes = n }) more; recorded_is = rest.recorded_is }

-- ---- what follows of depends

coming_owns : (ns : List NewDepend) (f : Farm) → Owns (with_all f ns) f.moment f.next_job f.next_finish (f.next_depend + length ns) f.recorded
coming_owns [] f =
    let none : f.next_depend ≡ f.next_depend + 0 = omega arith in
    record { head = ap (λ (n : ℕ). record (head_row f) { depends = n }) none; recorded_is = refl }
coming_owns (n ∷ ns) f =
    let rest = coming_owns ns (with_row f n) in
    let more : (f.next_depend + 1) + length ns ≡ f.next_depend + length (n ∷ ns) = omega arith in
    record { head = rest.head ∙ ap (λ (m : ℕ). record (head_row f) { depends = m }) more; recorded_is = rest.recorded_is }

dropped_owns : (f : Farm) (o : Option ℕ) → Owns (without f o) f.moment f.next_job f.next_finish f.next_depend f.recorded
dropped_owns f None = itself f
dropped_owns f (Some depend) = record { head = refl; recorded_is = refl }

followed_owns : (f : Farm) (w : Follow) → Owns (after_follow f w) f.moment f.next_job f.next_finish (f.next_depend + length w.depends) f.recorded
followed_owns f w =
    let dropped = dropped_owns (with_all f w.depends) w.dropped in
    let coming = coming_owns w.depends f in
    record { head = dropped.head ∙ coming.head; recorded_is = dropped.recorded_is ∙ coming.recorded_is }

-- ---- the act

more_owns : (f : Farm) (moment : ℕ) (m : More) → Owns (with_more f moment m) f.moment (if adds_job m then f.next_job + 1 else f.next_job) f.next_finish f.next_depend f.recorded
more_owns f moment (more.Job placing spec) = record { head = refl; recorded_is = refl }
more_owns f moment more.Nothing = record { head = refl; recorded_is = refl }
more_owns f moment (more.Show name) = record { head = refl; recorded_is = refl }
more_owns f moment (more.Alloc facility tag) = record { head = refl; recorded_is = refl }
more_owns f moment (more.Sub sub size burst) = record { head = refl; recorded_is = refl }
more_owns f moment (more.Limit planned name most) = record { head = refl; recorded_is = refl }
more_owns f moment (more.Boot planned line) = record { head = refl; recorded_is = refl }
more_owns f moment (more.Paused job paused) = record { head = refl; recorded_is = refl }

-- ---- the whole change

-- the farm's own row after the change
pub head_is : (f : Farm) (change : Change) → head_row (after_change f change) ≡ record {
  format = ROW_FORMAT;
  moment = change.act.moment;
  jobs = if adds_job change.act.more then f.next_job + 1 else f.next_job;
  finishes = f.next_finish + length change.finish;
  depends = f.next_depend + length change.follow.depends;
}
head_is f change =
    (finished_owns change.finish (followed_by f change)).head
    ∙ ap (λ (h : HeadRow). record h { finishes = h.finishes + length change.finish })
    ((followed_owns (after_act f change) change.follow).head
    ∙ ap (λ (h : HeadRow). record h { depends = h.depends + length change.follow.depends }) (more_owns (with_rows f change.act) change.act.moment change.act.more).head)

pub change_recorded : (f : Farm) (change : Change) → (after_change f change).recorded ≡ true
change_recorded f change =
    (finished_owns change.finish (followed_by f change)).recorded_is
    ∙ ((followed_owns (after_act f change) change.follow).recorded_is ∙ (more_owns (with_rows f change.act) change.act.moment change.act.more).recorded_is)

-- the number of the next job that finishes then
pub finishes_then : (f : Farm) (change : Change) → (after_change f change).next_finish ≡ f.next_finish + length change.finish
finishes_then f change = ap (λ (h : HeadRow). h.finishes) (head_is f change)

-- ---- the counters are within their types

pub finishes_within : (f : Farm) (change : Change) → IsReady f change → f.next_finish + length change.finish < 2 ^ 64
finishes_within f change ready =
    let g = after_change f change in
    let jobs = ready.kept.rows.jobs in
    let below : g.next_finish + length (filter is_pending_job g.jobs) ≤ g.next_job = jobs.finish_within in
    let most : g.next_job ≤ LAST_JOB + 1 = jobs.next_within in
    omega (arith, finishes_then f change, below, most)

pub depends_within : (f : Farm) (change : Change) → IsReady f change → f.next_depend ≤ LAST_DEPEND + 1 → f.next_depend + length change.follow.depends < 2 ^ 64
depends_within f change ready within =
    let g = after_act f change in
    let same : g.next_depend ≡ f.next_depend = ap (λ (h : HeadRow). h.depends) (more_owns (with_rows f change.act) change.act.moment change.act.more).head in
    let left : g.next_depend + length change.follow.depends ≤ LAST_DEPEND + 1 = room_left g change.follow.depends (omega (arith, same, within)) ready.follows.room in
    omega (arith, same, left)
