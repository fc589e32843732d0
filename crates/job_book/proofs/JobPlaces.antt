-- Keys that rise, and what is at the place of one.
use Rattle.std.proofs.Common.{◌≡◌, ℕ, suc, ◌<◌, ◌+◌, Bool, true, false, List, [], ◌∷◌, length, map, Option, is_some, Some, None, refl, sym, ap, ◌∙◌, arith, eqb}
use Rattle.std.specs.List.{find, slice_get, position_or_len}
use Rattle.std.proofs.lemmas.Bool.{false≢true, eqb-true, eqb-false, ne_eqb}
use Rattle.std.proofs.lemmas.List.Folds.{find_at}
use Rattle.std.proofs.lemmas.Option.{none-some, slice_get-map}
use Rattle.std.specs.Option.{option_map}
use Rattle.farm_types.specs.declared.slot_row.SlotRow.{SlotRow}
use Rattle.farm_types.specs.Farm.{changed_at}
use Rattle.job_book.specs.Book.{counts_of}
use Rattle.job_book.specs.Inside.{counts_for}
use Rattle.farm_types.specs.declared.rows.JobRow.{JobRow}
use Rattle.job_entries.specs.declared.counts.Counts.{Counts}
use Rattle.farm_types.specs.Rising.{IsRising, job_key}
use Rattle.farm_types.proofs.ChangedLists.{changed_at_suc}

is_job : ℕ → JobRow → Bool
is_job job j = eqb j.job job

module _ (f g : ℕ → Counts) (job : ℕ) (change : Counts → Counts) (others : (k : ℕ) → eqb job k ≡ false → g k ≡ f k) (here : g job ≡ change (f job)) where
  -- later jobs have other numbers
  rest_same : (low : ℕ) (js : List JobRow) (high : ℕ) → job < low → IsRising job_key low js high → map (λ (j : JobRow). g j.job) js ≡ map (λ (j : JobRow). f j.job) js
  rest_same low [] high below rise = refl
  rest_same low (j ∷ js) high below rise =
      let first : g j.job ≡ f j.job = others j.job (ne_eqb job j.job (λ e. absurd (omega (arith, rise.0)))) in
      let rest = rest_same (j.job + 1) js high (omega (arith, rise.0)) rise.1 in
      rw (first, rest) refl

  recounted_step : (b : Bool) (low : ℕ) (j : JobRow) (js : List JobRow) (high : ℕ) → eqb j.job job ≡ b → IsRising job_key low (j ∷ js) high
      → map (λ (i : JobRow). g i.job) js ≡ changed_at (map (λ (i : JobRow). f i.job) js) (position_or_len (λ (i : JobRow). eqb i.job job) js) change
      → map (λ (i : JobRow). g i.job) (j ∷ js) ≡ changed_at (map (λ (i : JobRow). f i.job) (j ∷ js)) (position_or_len (λ (i : JobRow). eqb i.job job) (j ∷ js)) change
  recounted_step true low j js high is rise later =
      let same : j.job ≡ job = eqb-true j.job job is in
      let first : g j.job ≡ change (f j.job) = rw same here in
      let rest = rest_same (j.job + 1) js high (omega arith) rise.1 in
      rw (is, first, rest) refl
  recounted_step false low j js high is rise later =
      let e : 1 + position_or_len (λ (i : JobRow). eqb i.job job) js ≡ suc (position_or_len (λ (i : JobRow). eqb i.job job) js) = omega arith in
      let first : g j.job ≡ f j.job = others j.job (ne_eqb job j.job (λ e. eqb-false j.job job is (sym e))) in
      rw (is, e, first, later) (sym (changed_at_suc (f j.job) (map (λ (i : JobRow). f i.job) js) (position_or_len (λ (i : JobRow). eqb i.job job) js) change))

  -- where the value of one job changes, the values of all change at its place alone
  pub recounted : (low : ℕ) (js : List JobRow) (high : ℕ) → IsRising job_key low js high
      → map (λ (j : JobRow). g j.job) js ≡ changed_at (map (λ (j : JobRow). f j.job) js) (position_or_len (λ (j : JobRow). eqb j.job job) js) change
  recounted low [] high rise = refl
  recounted low (j ∷ js) high rise = recounted_step (eqb j.job job) low j js high refl rise (recounted (j.job + 1) js high rise.1)

-- the value at the place of a job, where it is among them
at_step : (b : Bool) (f : ℕ → Counts) (job : ℕ) (c : Counts) (j : JobRow) (js : List JobRow) → eqb j.job job ≡ b
    → (slice_get (map (λ (i : JobRow). f i.job) js) (position_or_len (λ (i : JobRow). eqb i.job job) js) ≡ Some c → c ≡ f job)
    → slice_get (map (λ (i : JobRow). f i.job) (j ∷ js)) (position_or_len (λ (i : JobRow). eqb i.job job) (j ∷ js)) ≡ Some c → c ≡ f job
at_step true f job c j js is later at =
    let first : Some (f j.job) ≡ Some c = rw is at at in
    let same : j.job ≡ job = eqb-true j.job job is in
    let e : f j.job ≡ f job = ap f same in
    cc
at_step false f job c j js is later at =
    let e : 1 + position_or_len (λ (i : JobRow). eqb i.job job) js ≡ suc (position_or_len (λ (i : JobRow). eqb i.job job) js) = omega arith in
    later (rw (is, e) at at)

pub at_place : (f : ℕ → Counts) (job : ℕ) (js : List JobRow) (c : Counts) → slice_get (map (λ (j : JobRow). f j.job) js) (position_or_len (λ (j : JobRow). eqb j.job job) js) ≡ Some c → c ≡ f job
at_place f job [] c at = cc
at_place f job (j ∷ js) c at = at_step (eqb j.job job) f job c j js refl (at_place f job js c) at

within_step : (b : Bool) (job : ℕ) (r : JobRow) (j : JobRow) (js : List JobRow) → eqb j.job job ≡ b
    → (find (λ (i : JobRow). eqb i.job job) js ≡ Some r → position_or_len (λ (i : JobRow). eqb i.job job) js < length js)
    → find (λ (i : JobRow). eqb i.job job) (j ∷ js) ≡ Some r → position_or_len (λ (i : JobRow). eqb i.job job) (j ∷ js) < length (j ∷ js)
within_step true job r j js is later at = rw is (omega arith)
within_step false job r j js is later at =
    let h = later (rw is at at) in
    rw is (omega arith)

-- a job that is there has its place among them
place_within : (job : ℕ) (js : List JobRow) (r : JobRow) → find (λ (j : JobRow). eqb j.job job) js ≡ Some r → position_or_len (λ (j : JobRow). eqb j.job job) js < length js
place_within job [] r at = cc
place_within job (j ∷ js) r at = within_step (eqb j.job job) job r j js refl (place_within job js r) at

some_of : {X : Type 0} (o : Option X) → is_some o ≡ true → (x : X) × (o ≡ Some x)
some_of None h = absurd (false≢true h)
some_of (Some x) h = (x, refl)

pub has_place : (job : ℕ) (js : List JobRow) → is_some (find (λ (j : JobRow). eqb j.job job) js) ≡ true → position_or_len (λ (j : JobRow). eqb j.job job) js < length js
has_place job js has =
    let found = some_of (find (λ (j : JobRow). eqb j.job job) js) has in
    place_within job js found.0 found.1

-- the counts of a job that is there are there
pub counts_there : (job : ℕ) (js : List JobRow) (slots : List SlotRow) → is_some (find (λ (j : JobRow). eqb j.job job) js) ≡ true
    → slice_get (counts_for js slots) (position_or_len (λ (j : JobRow). eqb j.job job) js) ≡ None → ⊥
counts_there job js slots has none = by (find (λ (j : JobRow). eqb j.job job) js) refl has
  where
    by : (o : Option JobRow) → find (λ (j : JobRow). eqb j.job job) js ≡ o → is_some (find (λ (j : JobRow). eqb j.job job) js) ≡ true → ⊥
    by None is has = false≢true (rw is at has)
    by (Some j) is has =
        let read = slice_get-map (λ (k : JobRow). counts_of k.job slots) js (position_or_len (λ (k : JobRow). eqb k.job job) js) ∙ ap (option_map (λ (k : JobRow). counts_of k.job slots)) (sym (find_at (λ (k : JobRow). eqb k.job job) js) ∙ is) in
        none-some (counts_of j.job slots) (sym none ∙ read)
