-- A job that is paused or goes on: what doesn't read whether it is paused finds its jobs as they were.
use Rattle.std.proofs.Common.{◌≡◌, ℕ, Bool, true, false, cond, eqb, List, [], ◌∷◌, map, Option, Some, None, refl, ap, ◌∙◌, option_map}
use Rattle.std.specs.List.{filter, find}
use Rattle.farm_types.specs.declared.rows.JobRow.{JobRow}
use Rattle.farm_types.specs.Booking.{is_pending}
use Rattle.farm_types.specs.Farm.{Farm, for_some}
use Rattle.farm_types.specs.Operators.{paused_row, with_paused}
use Rattle.farm_types.proofs.Passes.{cond_each}
use Rattle.farm_law.proofs.KeepsLaw.{KeepsLaw, law_same, law_unchanged}
use Rattle.farm_law.proofs.RowsStay.{JobsStay, allocs_same, hosts_same, slots_same}

-- ---- items changed in what isn't read

module _ {X : Type 0} (change : X → X) where
  -- what is found, is kept, and is told of what there is
  pub find-map : (test : X → Bool) → ((x : X) → test (change x) ≡ test x) → (xs : List X) → find test (map change xs) ≡ option_map change (find test xs)
  find-map test same [] = refl
  find-map test same (x ∷ xs) =
      ap (λ (b : Bool). cond b (Some (change x)) (find test (map change xs))) (same x)
      ∙ (ap (cond (test x) (Some (change x))) (find-map test same xs) ∙ picked (test x))
    where
      picked : (b : Bool) → cond b (Some (change x)) (option_map change (find test xs)) ≡ option_map change (cond b (Some x) (find test xs))
      picked true = refl
      picked false = refl

  pub filter-map : (test : X → Bool) → ((x : X) → test (change x) ≡ test x) → (xs : List X) → filter test (map change xs) ≡ map change (filter test xs)
  filter-map test same [] = refl
  filter-map test same (x ∷ xs) =
      ap (λ (b : Bool). cond b (change x ∷ filter test (map change xs)) (filter test (map change xs))) (same x)
      ∙ (ap (λ (ys : List X). cond (test x) (change x ∷ ys) ys) (filter-map test same xs) ∙ picked (test x))
    where
      picked : (b : Bool) → cond b (change x ∷ map change (filter test xs)) (map change (filter test xs)) ≡ map change (cond b (x ∷ filter test xs) (filter test xs))
      picked true = refl
      picked false = refl

  pub for_some-map : (o : Option X) (test : X → Bool) → ((x : X) → test (change x) ≡ test x) → for_some (option_map change o) test ≡ for_some o test
  for_some-map None test same = refl
  for_some-map (Some x) test same = same x

-- ---- jobs

-- what doesn't read whether a job is paused says the same of it
pub unread : {X : Type 0} (read : JobRow → X) → ((j : JobRow) (b : Bool) → read (record j { paused = b }) ≡ read j) → (job : ℕ) (paused : Bool) (j : JobRow) → read (paused_row job paused j) ≡ read j
unread read same job paused j = cond_each (λ (x : JobRow). read x ≡ read j) (eqb j.job job) (record j { paused = paused }) j (same j paused) refl

jobs_paused : (job : ℕ) (paused : Bool) (jobs : List JobRow) → JobsStay jobs (map (paused_row job paused) jobs)
jobs_paused job paused jobs n j at pending = (
  paused_row job paused j,
  find-map (paused_row job paused) (λ (x : JobRow). eqb x.job n) (unread (λ x. eqb x.job n) (λ x b. refl) job paused) jobs ∙ ap (option_map (paused_row job paused)) at,
  unread (λ x. x.show) (λ x b. refl) job paused j,
  unread (λ x. x.facility) (λ x b. refl) job paused j,
  unread (λ x. is_pending x.state) (λ x b. refl) job paused j ∙ pending,
)

pub pause_law : (f : Farm) (paused : Bool) (o : Option JobRow) → KeepsLaw f (with_paused f paused o)
pause_law f paused None = law_same f
pause_law f paused (Some j) =
    law_unchanged f (with_paused f paused (Some j)) refl refl
    (record { slots = slots_same f.slots; hosts = hosts_same f.hosts; allocs = allocs_same f.allocs; jobs = jobs_paused j.job paused f.jobs })
