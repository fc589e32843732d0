-- Every legal run from a sound farm is safe, and ends in a sound farm.
use Rattle.std.proofs.Common.{ℕ, List, [], ◌∷◌, refl}
use Rattle.farm_law.proofs.ActLaws.{act_law, act_safely, act_counts}
use Rattle.farm_law.proofs.FollowLaws.{followed_counts, followed_law, followed_safely}
use Rattle.farm_law.proofs.KeepsLaw.{KeepsLaw, law_then, law_of_same_rows}
use Rattle.farm_law.proofs.Once.{CountsOnce, counts_none, counts_then}
use Rattle.farm_law.proofs.Finished.{closed_counts, closed_run, closed_safely}
use Rattle.farm_law.proofs.RunsStay.{KeepsRun, run_of_law, run_same, run_then}
use Rattle.farm_law.proofs.Spent.{spent_stays}
use Rattle.farm_types.specs.Depends.{groups_of}
use Rattle.farm_types.specs.Farm.{Farm}
use Rattle.farm_types.specs.Run.{IsSound, HasItsHosts, IsLegal, IsLegalStep, IsSafe, EachStepSafe, ActsSafely, counted, counted_by, run_of}
use Rattle.farm_types.specs.Step.{HasCondition, acted, after, at_moment, followed, moment_of}
use Rattle.farm_types.specs.declared.entry.Act.{Act}
use Rattle.farm_types.specs.declared.entry.Act.TheVariants.{Book}
use Rattle.farm_types.specs.declared.entry.Entry.{Entry}

-- ---- one entry

-- the entry's moment changes no row
pub moment_law : (f : Farm) (moment : ℕ) → KeepsLaw f (at_moment f moment)
moment_law f moment = law_of_same_rows f (at_moment f moment) refl refl refl refl

-- nor what a booking asks
pub allowed_later : (f : Farm) (moment : ℕ) (act : Act) → HasCondition f act → HasCondition (at_moment f moment) act
unfolding groups_of
allowed_later f moment (Book slot host) allowed = allowed
allowed_later f moment act allowed = tt

-- the act alone
pub acted_law : (f : Farm) (e : Entry) → HasCondition f e.act → KeepsLaw f (acted f e)
acted_law f e allowed =
    let moment = moment_of f e.moment in
    law_then f (at_moment f moment) (acted f e) (moment_law f moment) (act_law (at_moment f moment) moment e.act (allowed_later f moment e.act allowed))

-- the act, then what follows of it, and then the jobs that finish
pub step_law : (f : Farm) (e : Entry) → IsLegalStep f e → KeepsRun f (after f e)
step_law f e legal =
    let follows = followed e.act (acted f e) in
    run_then f follows (after f e) (run_of_law f follows (law_then f (acted f e) follows (acted_law f e legal.condition) (followed_law e.act (acted f e)))) (closed_run e.act follows)

step_safely : (f : Farm) (e : Entry) → IsLegalStep f e → IsSound f → HasItsHosts f → ActsSafely (at_moment f (moment_of f e.moment)) (after f e) e.act
step_safely f e legal ok there =
    let moment = moment_of f e.moment in
    closed_safely (at_moment f moment) (followed e.act (acted f e)) e.act
    (followed_safely (at_moment f moment) (acted f e) e.act (act_safely (at_moment f moment) moment e.act (allowed_later f moment e.act legal.condition) ((moment_law f moment).sound ok there)))

step_counts : (f : Farm) (e : Entry) → IsSound f → HasItsHosts f → CountsOnce f (after f e) (counted_by (at_moment f (moment_of f e.moment)) (moment_of f e.moment) e.act)
step_counts f e ok there =
    let moment = moment_of f e.moment in
    let law = moment_law f moment in
    let ended = counted_by (at_moment f moment) moment e.act in
    let acts = act_counts (at_moment f moment) moment e.act (law.sound ok there) (law.hosts ok there) in
    let counts = closed_counts e.act (at_moment f moment) (followed e.act (acted f e)) ended (followed_counts e.act (at_moment f moment) (acted f e) ended acts) in
    record { none = counts.none; spent = counts.spent; differ = counts.differ }

-- ---- a run

pub run_law : (f : Farm) (es : List Entry) → IsLegal f es → KeepsRun f (run_of f es)
run_law f [] legal = run_same f
run_law f (e ∷ es) legal = run_then f (after f e) (run_of (after f e) es) (step_law f e legal.0) (run_law (after f e) es legal.1)

each_step_safe : (f : Farm) (es : List Entry) → IsSound f → HasItsHosts f → IsLegal f es → EachStepSafe f es
each_step_safe f [] ok there legal = ok
each_step_safe f (e ∷ es) ok there legal =
    let law = step_law f e legal.0 in
    (ok, step_safely f e legal.0 ok there, each_step_safe (after f e) es (law.sound ok there) (law.hosts ok there) legal.1)

run_counts : (f : Farm) (es : List Entry) → IsSound f → HasItsHosts f → IsLegal f es → CountsOnce f (run_of f es) (counted f es)
run_counts f [] ok there legal = counts_none f f
run_counts f (e ∷ es) ok there legal =
    let now = after f e in
    let law = step_law f e legal.0 in
    counts_then f now (run_of now es) (counted_by (at_moment f (moment_of f e.moment)) (moment_of f e.moment) e.act) (counted now es)
    (spent_stays f now law.rows.slots) (spent_stays now (run_of now es) (run_law now es legal.1).rows.slots) (step_counts f e ok there)
    (run_counts now es (law.sound ok there) (law.hosts ok there) legal.1)

pub legal_is_safe : (f : Farm) (es : List Entry) → IsSound f → HasItsHosts f → IsLegal f es → IsSafe f es
legal_is_safe f es ok there legal = record { steps = each_step_safe f es ok there legal; once = (run_counts f es ok there legal).differ }
