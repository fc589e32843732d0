-- A limit that is set: what the farm says of it, and the change of a row that it comes to.
use Rattle.std.proofs.Common.{◌≡◌, ◌≢◌, ◌≤◌, ◌+◌, ℕ, suc, Bool, true, false, cond, eqb, List, [], ◌∷◌, ◌++◌, length, Option, Some, None, option_map, refl, sym, ap, subst, ◌∙◌, arith}
use Rattle.std.specs.Prelude.{Err, Ok, Result, bytes_eq, nat_lt}
use Rattle.std.specs.List.{slice_get, slice_set}
use Rattle.std.proofs.lemmas.Bool.{eq-eqb, false≢true}
use Rattle.std.proofs.lemmas.Option.{none-some, same_Some}
use Rattle.std.proofs.lemmas.Slice.Eq.{bytes_eq-Decides}
use Rattle.farm_types.specs.declared.answer.Answer.TheVariants as answer
use Rattle.farm_types.specs.declared.entry.Act.TheVariants as act
use Rattle.farm_types.specs.declared.limits.TheConstants.{MOST_LIMITS}
use Rattle.farm_types.specs.declared.refusal.Counted.TheVariants as counted
use Rattle.farm_types.specs.declared.refusal.Refusal.TheVariants as refusal
use Rattle.farm_types.specs.declared.rows.LimitRow.{LimitRow}
use Rattle.farm_types.specs.EntryAnswers.{running_of}
use Rattle.farm_types.specs.Farm.{Farm, limit_from, limit_named}
use Rattle.farm_types.specs.Kept.{KeepsRows, limit_label}
use Rattle.farm_types.specs.Step.{act_refusal, after_limit, at_moment, limit_refusal, limit_row, with_most}
use Rattle.farm_types.proofs.Changed.{changed_at_is, slice_get-set_other, slice_get-set_same}
use Rattle.farm_law.proofs.KeptNames.{named_within}
use Rattle.farm_rows.specs.declared.farm_row.FarmRow.TheVariants as row
use Rattle.farm_rows.specs.declared.row_change.RowChange.TheVariants as change
use Rattle.farm_rows.specs.declared.row_key.RowKey.{RowKey}
use Rattle.farm_rows.specs.declared.row_key.RowKey.TheVariants as key
use Rattle.farm_rows.specs.Changes.{MakesRows, is_head, is_key, row_at}
use Rattle.farm_rows.proofs.MadeLists.{slice_get-last, slice_get-not_last}
use Rattle.farm_rows.proofs.MadeRows.{makes_put}
use Rattle.limit_book.specs.Book.{check_of, number_in, planned}
use Rattle.limit_book.specs.declared.plan.LimitPlan.{LimitPlan}
use Rattle.limit_book.specs.declared.plan.LimitPlan.TheVariants as plan
use Rattle.limit_book.specs.declared.plan.LimitRefusal.{LimitRefusal}
use Rattle.limit_book.specs.declared.plan.LimitRefusal.TheVariants.{Full}
use Rattle.farm_books.specs.Limits.{with_limit}
use Rattle.farm_draft.specs.declared.rows.Rows.{Rows}
use Rattle.farm_changes.specs.Change.{FitsMore, Makes, RunsPlanned, with_more}
use Rattle.farm_changes.specs.declared.act_answer.ActAnswer.TheVariants as known
use Rattle.farm_changes.specs.declared.change.Change.{Change}
use Rattle.farm_changes.specs.declared.change.More.{More}
use Rattle.farm_changes.specs.declared.change.More.TheVariants as more
use Rattle.farm_changes.specs.declared.change.Reserved.TheVariants as taken
use Rattle.farm_changes.proofs.MadeChanges.{IsBare, bare_installed, bare_ready, makes}

-- ---- what the farm says

-- the farm takes the act, which does what the plan says, and answers what runs
pub record IsPlanned (f : Farm) (name : List ℕ) (most : ℕ) (p : LimitPlan) : Type 0 where
  pub accepted : act_refusal f (act.Limit name most) ≡ None
  pub farm : (moment : ℕ) → record (at_moment f moment) { limits = with_limit f.limits name p most } ≡ after_limit (at_moment f moment) name most (limit_named f name)
  pub running : (n : ℕ) → RunsPlanned f p n → n ≡ running_of f (limit_named f name)

known_planned : (f : Farm) (name : List ℕ) (most limit : ℕ) → limit_from 0 name f.limits ≡ Some limit → IsPlanned f name most (plan.Known limit)
known_planned f name most limit is =
    record {
      accepted = ap (limit_refusal f) is;
      farm = λ moment. sym (ap (after_limit (at_moment f moment) name most) is);
      running = λ n runs. runs (named_within limit_label name f.limits limit is) ∙ sym (ap (running_of f) is);
    }

new_planned : (f : Farm) (name : List ℕ) (most : ℕ) → limit_from 0 name f.limits ≡ None → nat_lt (length f.limits) MOST_LIMITS ≡ true → IsPlanned f name most (plan.New (length f.limits))
new_planned f name most is room =
    record {
      accepted = ap (limit_refusal f) is ∙ rw room refl;
      farm = λ moment. sym (ap (after_limit (at_moment f moment) name most) is);
      running = λ n runs. runs ∙ sym (ap (running_of f) is);
    }

abbrev ok_plan : LimitPlan → Result LimitPlan LimitRefusal
ok_plan p = Ok p

known_same : (limit : ℕ) (p : LimitPlan) → ok_plan (plan.Known limit) ≡ Ok p → plan.Known limit ≡ p
known_same limit p e = cc

new_by : (f : Farm) (name : List ℕ) (most : ℕ) (p : LimitPlan) (c : Bool) → nat_lt (length f.limits) MOST_LIMITS ≡ c → limit_from 0 name f.limits ≡ None
    → cond c (ok_plan (plan.New (length f.limits))) (Err Full) ≡ Ok p → IsPlanned f name most p
new_by f name most p true room is ok = let same : plan.New (length f.limits) ≡ p = cc in subst (IsPlanned f name most) same (new_planned f name most is room)
new_by f name most p false room is ok = absurd (cc)

planned_by : (f : Farm) (name : List ℕ) (most : ℕ) (p : LimitPlan) (o : Option ℕ) → limit_from 0 name f.limits ≡ o → planned f.limits o ≡ Ok p → IsPlanned f name most p
planned_by f name most p (Some limit) is ok = subst (IsPlanned f name most) (known_same limit p ok) (known_planned f name most limit is)
planned_by f name most p None is ok = new_by f name most p (nat_lt (length f.limits) MOST_LIMITS) refl is ok

abbrev limit_change : ℕ → List ℕ → ℕ → LimitPlan → ℕ → Rows → Change
limit_change moment name most p running rows =
    record {
      moment = moment;
      answer = known.Whole (answer.Limit most running);
      heard = None;
      rows = rows;
      more = more.Limit p name most;
      reserved = false;
      memory = taken.None;
    }

pub limit_makes : (f : Farm) (name copy : List ℕ) (most moment running : ℕ) (p : LimitPlan) (rows : Rows) (change : Change) → KeepsRows f → f.moment ≤ moment → check_of f.limits name ≡ Ok p → RunsPlanned f p running → copy ≡ name → IsBare rows
    → change ≡ limit_change moment copy most p running rows → Makes f (record { moment = moment; act = act.Limit name most }) change
limit_makes f name copy most moment running p rows change kept ahead check runs same bare is =
    let said = planned_by f name most p (limit_from 0 name f.limits) refl check in
    let whole : change ≡ limit_change moment name most p running rows = is ∙ ap (λ (n : List ℕ). limit_change moment n most p running rows) same in
    subst (Makes f (record { moment = moment; act = act.Limit name most })) (sym whole)
    (makes f moment (act.Limit name most) (limit_change moment name most p running rows) ahead said.accepted tt (bare_ready f rows bare) (record { check = check; there = kept.limits.there }) refl
    (ap (λ (g : Farm). with_more g moment (more.Limit p name most)) (bare_installed (at_moment f moment) rows bare) ∙ said.farm moment)
    (ap (answer.Limit most) (said.running running runs)))

full_by : (f : Farm) (o : Option ℕ) → planned f.limits o ≡ Err Full → limit_refusal f o ≡ Some (refusal.Full MOST_LIMITS counted.Limits)
full_by f (Some limit) full = absurd (cc)
full_by f None full = by (nat_lt (length f.limits) MOST_LIMITS) refl full
  where
    by : (c : Bool) → nat_lt (length f.limits) MOST_LIMITS ≡ c → cond c (ok_plan (plan.New (length f.limits))) (Err Full) ≡ Err Full
        → limit_refusal f None ≡ Some (refusal.Full MOST_LIMITS counted.Limits)
    by true room full = absurd (cc)
    by false room full = rw room refl

-- a new limit finds no room
pub limit_full : (f : Farm) (name : List ℕ) (most : ℕ) → check_of f.limits name ≡ Err Full → act_refusal f (act.Limit name most) ≡ Some (refusal.Full MOST_LIMITS counted.Limits)
limit_full f name most full = full_by f (limit_from 0 name f.limits) full

-- ---- the change of a row

-- where a limit is set, the plan is that of its name
abbrev pub SetsLimit : List LimitRow → More → Type 0
SetsLimit limits (more.Limit p name most) = check_of limits name ≡ Ok p
SetsLimit limits other = Unit {0}

pub sets_limit : (f : Farm) (m : More) → FitsMore f m → SetsLimit f.limits m
sets_limit f more.Nothing fits = tt
sets_limit f (more.Show name) fits = tt
sets_limit f (more.Alloc facility tag) fits = tt
sets_limit f (more.Sub sub size burst) fits = tt
sets_limit f (more.Limit p name most) fits = fits.check
sets_limit f (more.Boot planned line) fits = tt
sets_limit f (more.Paused job paused) fits = tt
sets_limit f (more.Job placing spec) fits = tt

-- the limit that is found by its name
record IsNamed (rows : List LimitRow) (limit : ℕ) (name : List ℕ) : Type 0 where
  its : LimitRow
  at : slice_get rows limit ≡ Some its
  called : its.name ≡ name

named_from : (place : ℕ) (name : List ℕ) (rows : List LimitRow) (limit : ℕ) → limit_from place name rows ≡ Some limit → (k : ℕ) × (limit ≡ place + k) × IsNamed rows k name
named_from place name [] limit is = absurd (none-some limit is)
named_from place name (r ∷ rs) limit is = by (bytes_eq r.name name) refl is (named_from (place + 1) name rs limit)
  where
    by : (b : Bool) → bytes_eq r.name name ≡ b → cond b (Some place) (limit_from (place + 1) name rs) ≡ Some limit
        → (limit_from (place + 1) name rs ≡ Some limit → (k : ℕ) × (limit ≡ (place + 1) + k) × IsNamed rs k name) → (k : ℕ) × (limit ≡ place + k) × IsNamed (r ∷ rs) k name
    by true same is rest = (0, omega (arith, same_Some place limit is), record { its = r; at = refl; called = (bytes_eq-Decides r.name name).0 same })
    by false same is rest =
        let later = rest is in
        (suc later.0, omega (arith, later.1), record { its = later.2.its; at = later.2.at; called = later.2.called })

named_row : (name : List ℕ) (rows : List LimitRow) (limit : ℕ) → limit_from 0 name rows ≡ Some limit → IsNamed rows limit name
named_row name rows limit is =
    let found = named_from 0 name rows limit is in
    let same : found.0 ≡ limit = omega (arith, found.1) in
    subst (λ (k : ℕ). IsNamed rows k name) same found.2

apart : (a b : ℕ) → eqb a b ≡ false → b ≢ a
apart a b e same = absurd (false≢true (sym e ∙ eq-eqb a b (sym same)))

makes_new_limit : (f : Farm) (r : LimitRow) → MakesRows f (record f { limits = f.limits ++ r ∷ [] }) (change.Put (row.Limit (length f.limits) r) ∷ [])
makes_new_limit f r = makes_put f (record f { limits = f.limits ++ r ∷ [] }) (row.Limit (length f.limits) r) (ap (option_map (row.Limit (length f.limits))) (slice_get-last f.limits r)) others
  where
    others : (k : RowKey) → is_head k ≡ false → is_key (key.Limit (length f.limits)) k ≡ false → row_at (record f { limits = f.limits ++ r ∷ [] }) k ≡ row_at f k
    others (key.Limit n) named e = ap (option_map (row.Limit n)) (slice_get-not_last f.limits r n (apart (length f.limits) n e))
    others k named e = refl

makes_old_limit : (f : Farm) (limit : ℕ) (old r : LimitRow) → slice_get f.limits limit ≡ Some old → MakesRows f (record f { limits = slice_set f.limits limit r }) (change.Put (row.Limit limit r) ∷ [])
makes_old_limit f limit old r there =
    makes_put f (record f { limits = slice_set f.limits limit r }) (row.Limit limit r) (ap (option_map (row.Limit limit)) (slice_get-set_same f.limits limit old r there)) others
  where
    others : (k : RowKey) → is_head k ≡ false → is_key (key.Limit limit) k ≡ false → row_at (record f { limits = slice_set f.limits limit r }) k ≡ row_at f k
    others (key.Limit n) named e = ap (option_map (row.Limit n)) (slice_get-set_other f.limits limit n r (apart limit n e))
    others k named e = refl

makes_planned : (f : Farm) (name : List ℕ) (most : ℕ) (p : LimitPlan) (o : Option ℕ) → limit_from 0 name f.limits ≡ o → planned f.limits o ≡ Ok p
    → MakesRows f (record f { limits = with_limit f.limits name p most }) (change.Put (row.Limit (number_in p) (limit_row name most)) ∷ [])
makes_planned f name most p (Some limit) is ok =
    let there = named_row name f.limits limit is in
    let same : with_most most there.its ≡ limit_row name most = ap (λ (n : List ℕ). limit_row n most) there.called in
    subst (λ (q : LimitPlan). MakesRows f (record f { limits = with_limit f.limits name q most }) (change.Put (row.Limit (number_in q) (limit_row name most)) ∷ [])) (known_same limit p ok)
    (subst (λ (rows : List LimitRow). MakesRows f (record f { limits = rows }) (change.Put (row.Limit limit (limit_row name most)) ∷ [])) (sym (changed_at_is f.limits limit (with_most most) there.its there.at ∙ ap (slice_set f.limits limit) same))
    (makes_old_limit f limit there.its (limit_row name most) there.at))
makes_planned f name most p None is ok = by (nat_lt (length f.limits) MOST_LIMITS) ok
  where
    by : (c : Bool) → cond c (ok_plan (plan.New (length f.limits))) (Err Full) ≡ Ok p
        → MakesRows f (record f { limits = with_limit f.limits name p most }) (change.Put (row.Limit (number_in p) (limit_row name most)) ∷ [])
    by true ok =
        let same : plan.New (length f.limits) ≡ p = cc in
        subst (λ (q : LimitPlan). MakesRows f (record f { limits = with_limit f.limits name q most }) (change.Put (row.Limit (number_in q) (limit_row name most)) ∷ [])) same (makes_new_limit f (limit_row name most))
    by false ok = absurd (cc)

pub makes_limit : (f : Farm) (name : List ℕ) (most : ℕ) (p : LimitPlan) → check_of f.limits name ≡ Ok p
    → MakesRows f (record f { limits = with_limit f.limits name p most }) (change.Put (row.Limit (number_in p) (limit_row name most)) ∷ [])
makes_limit f name most p check = makes_planned f name most p (limit_from 0 name f.limits) refl check
