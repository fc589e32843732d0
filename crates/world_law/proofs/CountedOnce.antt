-- Each completion that counts is of an attempt of its own, which is over from then on, and stands in a report.
use Rattle.std.proofs.Common.{◌≡◌, ℕ, Bool, true, false, cond, List, [], ◌∷◌, ◌++◌, map, Option, None, Some, refl, sym, ap, subst, ◌∙◌, arith}
use Rattle.std.specs.List.{AllByRecursion}
use Rattle.farm_types.specs.declared.attempt.Attempt.{Attempt}
use Rattle.farm_types.specs.declared.attempt.DoneItem.{DoneItem}
use Rattle.farm_types.specs.declared.entry.Act.{Act}
use Rattle.farm_types.specs.declared.entry.Act.TheVariants.{Heard}
use Rattle.farm_types.specs.declared.entry.Entry.{Entry}
use Rattle.farm_types.specs.declared.entry.HeardAct.{HeardAct}
use Rattle.farm_types.specs.Farm.{Farm, changed_at, empty_farm, host_named}
use Rattle.farm_types.specs.Hosts.{heard_row}
use Rattle.farm_types.specs.Run.{AttemptsDiffer, HasItsHosts, IsLegal, IsSound, counted, counted_by, counted_in, counted_of, run_of}
use Rattle.farm_types.specs.Step.{acted, after, at_moment, end_attempt, expire, followed, is_live, moment_of}
use Rattle.farm_law.proofs.ActLaws.{act_counts}
use Rattle.farm_law.proofs.FollowLaws.{followed_counts}
use Rattle.farm_law.proofs.Finished.{closed_counts}
use Rattle.farm_law.proofs.Once.{AreSpent, CountsOnce, counts_none, counts_then}
use Rattle.farm_law.proofs.SafeRuns.{moment_law, run_law, step_law}
use Rattle.farm_law.proofs.Spent.{spent_stays}
use Rattle.world_law.specs.Attempts.{IsSpent}
use Rattle.world_law.specs.Ends.{ends_along, ends_at, ends_by, ends_in, ends_of}
use Rattle.world_law.proofs.Each.{each_append}

-- ---- the attempts of those that end are those that the farm's run counts

ends_counted_in : (f : Farm) (host boot : ℕ) (ds : List DoneItem) → map (λ (d : DoneItem). d.attempt) (ends_in f host boot ds) ≡ counted_in f host boot ds
ends_counted_in f host boot [] = refl
ends_counted_in f host boot (d ∷ ds) =
    by (is_live f host boot d.attempt.slot d.attempt.version) (ends_counted_in (end_attempt f host boot d) host boot ds) (ends_counted_in f host boot ds)
  where
    by : (b : Bool) → map (λ (d : DoneItem). d.attempt) (ends_in (end_attempt f host boot d) host boot ds) ≡ counted_in (end_attempt f host boot d) host boot ds
        → map (λ (d : DoneItem). d.attempt) (ends_in f host boot ds) ≡ counted_in f host boot ds
        → map (λ (d : DoneItem). d.attempt) (cond b (d ∷ ends_in (end_attempt f host boot d) host boot ds) (ends_in f host boot ds))
        ≡ cond b (d.attempt ∷ counted_in (end_attempt f host boot d) host boot ds) (counted_in f host boot ds)
    by true now left = ap (λ (ys : List Attempt). d.attempt ∷ ys) now
    by false now left = left

ends_counted_of : (f : Farm) (act : HeardAct) (moment : ℕ) (o : Option ℕ) → map (λ (d : DoneItem). d.attempt) (ends_of f act moment o) ≡ counted_of f act moment o
ends_counted_of f act moment None = refl
ends_counted_of f act moment (Some host) = ends_counted_in (record f { hosts = changed_at f.hosts host (heard_row act.seq moment) }) host act.boot act.done

ends_counted_by : (f : Farm) (moment : ℕ) (act : Act) → map (λ (d : DoneItem). d.attempt) (ends_by f moment act) ≡ counted_by f moment act
ends_counted_by f moment (Heard act) = ends_counted_of (expire f moment) act moment (host_named f act.host)
ends_counted_by f moment act = refl

map_both : (xs ys : List DoneItem) → map (λ (d : DoneItem). d.attempt) (xs ++ ys) ≡ map (λ (d : DoneItem). d.attempt) xs ++ map (λ (d : DoneItem). d.attempt) ys
map_both [] ys = refl
map_both (x ∷ xs) ys = ap (λ (ys : List Attempt). x.attempt ∷ ys) (map_both xs ys)

pub ends_counted : (f : Farm) (es : List Entry) → map (λ (d : DoneItem). d.attempt) (ends_along f es) ≡ counted f es
ends_counted f [] = refl
ends_counted f (e ∷ es) =
    map_both (ends_at f e) (ends_along (after f e) es)
    ∙ (λ i. ends_counted_by (at_moment f (moment_of f e.moment)) (moment_of f e.moment) e.act i ++ ends_counted (after f e) es i)

-- ---- each once

step_counts : (f : Farm) (e : Entry) → IsSound f → HasItsHosts f → CountsOnce f (after f e) (counted_by (at_moment f (moment_of f e.moment)) (moment_of f e.moment) e.act)
step_counts f e ok there =
    let moment = moment_of f e.moment in
    let law = moment_law f moment in
    let ended = counted_by (at_moment f moment) moment e.act in
    let acts = act_counts (at_moment f moment) moment e.act (law.sound ok there) (law.hosts ok there) in
    let counts = closed_counts e.act (at_moment f moment) (followed e.act (acted f e)) ended (followed_counts e.act (at_moment f moment) (acted f e) ended acts) in
    record { none = counts.none; spent = counts.spent; differ = counts.differ }

run_counts : (f : Farm) (es : List Entry) → IsSound f → HasItsHosts f → IsLegal f es → CountsOnce f (run_of f es) (counted f es)
run_counts f [] ok there legal = counts_none f f
run_counts f (e ∷ es) ok there legal =
    let now = after f e in
    let law = step_law f e legal.0 in
    counts_then f now (run_of now es) (counted_by (at_moment f (moment_of f e.moment)) (moment_of f e.moment) e.act) (counted now es)
    (spent_stays f now law.rows.slots) (spent_stays now (run_of now es) (run_law now es legal.1).rows.slots) (step_counts f e ok there)
    (run_counts now es (law.sound ok there) (law.hosts ok there) legal.1)

-- what was counted so far: all of it is over, and no attempt stands twice
pub record IsCountedOnce (f : Farm) (xs : List Attempt) : Type 0 where
  pub spent : AllByRecursion (IsSpent f) xs
  pub once : AttemptsDiffer xs

are_spent : (f : Farm) (xs : List Attempt) → AllByRecursion (IsSpent f) xs → AreSpent f xs
are_spent f [] all = tt
are_spent f (x ∷ xs) all = (all.0, are_spent f xs all.1)

each_spent : (f : Farm) (xs : List Attempt) → AreSpent f xs → AllByRecursion (IsSpent f) xs
each_spent f [] all = tt
each_spent f (x ∷ xs) all = (all.0, each_spent f xs all.1)

-- no attempt is over in the empty farm
none_spent : (a : Attempt) → IsSpent empty_farm a → ⊥
none_spent a spent = let below = spent.0 in omega (arith, below)

pub counts_on : (f : Farm) (es : List Entry) (xs : List Attempt) → IsSound f → HasItsHosts f → IsLegal f es → IsCountedOnce f xs
    → IsCountedOnce (run_of f es) (xs ++ map (λ (d : DoneItem). d.attempt) (ends_along f es))
counts_on f es xs ok there legal was =
    let before : CountsOnce empty_farm f xs = record { none = λ a spent. absurd (none_spent a spent); spent = are_spent f xs was.spent; differ = was.once } in
    let all =
    counts_then empty_farm f (run_of f es) xs (counted f es) (λ a spent. absurd (none_spent a spent)) (spent_stays f (run_of f es) (run_law f es legal).rows.slots) before
    (run_counts f es ok there legal) in
    subst (λ (ys : List Attempt). IsCountedOnce (run_of f es) (xs ++ ys)) (sym (ends_counted f es))
    (record { spent = each_spent (run_of f es) (xs ++ counted f es) all.spent; once = all.differ })

-- ---- where they stand

module _ (P : DoneItem → Type 0) where
  -- of a report each completion passes
  abbrev pub HeardHas : Act → Type 0
  HeardHas (Heard act) = AllByRecursion P act.done
  HeardHas other = Unit {0}

  ends_each_in : (f : Farm) (host boot : ℕ) (ds : List DoneItem) → AllByRecursion P ds → AllByRecursion P (ends_in f host boot ds)
  ends_each_in f host boot [] all = tt
  ends_each_in f host boot (d ∷ ds) all =
      by (is_live f host boot d.attempt.slot d.attempt.version) (ends_each_in (end_attempt f host boot d) host boot ds all.1) (ends_each_in f host boot ds all.1)
    where
      by : (b : Bool) → AllByRecursion P (ends_in (end_attempt f host boot d) host boot ds) → AllByRecursion P (ends_in f host boot ds)
          → AllByRecursion P (cond b (d ∷ ends_in (end_attempt f host boot d) host boot ds) (ends_in f host boot ds))
      by true now left = (all.0, now)
      by false now left = left

  ends_each_of : (f : Farm) (act : HeardAct) (moment : ℕ) (o : Option ℕ) → AllByRecursion P act.done → AllByRecursion P (ends_of f act moment o)
  ends_each_of f act moment None all = tt
  ends_each_of f act moment (Some host) all = ends_each_in (record f { hosts = changed_at f.hosts host (heard_row act.seq moment) }) host act.boot act.done all

  ends_each_by : (f : Farm) (moment : ℕ) (act : Act) → HeardHas act → AllByRecursion P (ends_by f moment act)
  ends_each_by f moment (Heard act) all = ends_each_of (expire f moment) act moment (host_named f act.host) all
  ends_each_by f moment act all = tt

  -- what ends along entries stands in one of their reports
  pub ends_each : (f : Farm) (es : List Entry) → AllByRecursion (λ (e : Entry). HeardHas e.act) es → AllByRecursion P (ends_along f es)
  ends_each f [] all = tt
  ends_each f (e ∷ es) all =
      each_append P (ends_at f e) (ends_along (after f e) es) (ends_each_by (at_moment f (moment_of f e.moment)) (moment_of f e.moment) e.act all.0) (ends_each (after f e) es all.1)
