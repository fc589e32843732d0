-- The jobs by their places: each is found by its number.
use Rattle.std.specs.Bool.{◌==◌}
use Rattle.std.proofs.Common.{◌≡◌, ℕ, zero, suc, ◌+◌, Bool, true, false, cond, eqb, List, [], ◌∷◌, length, map, Option, None, Some, option_map, refl, sym, ap, ◌∙◌, arith}
use Rattle.std.specs.List.{find, slice_get}
use Rattle.std.proofs.lemmas.Bool.{eq-eqb, eqb-true, ne_eqb}
use Rattle.std.proofs.lemmas.List.{length-map}
use Rattle.std.proofs.lemmas.Option.{none-some, same_Some, slice_get-map}
use Rattle.farm_types.specs.declared.rows.JobRow.{JobRow}
use Rattle.farm_types.specs.Farm.{Farm, job_at}
use Rattle.farm_types.specs.Rising.{IsRising, job_key}
use Rattle.farm_types.proofs.Lists.{found_is}
use Rattle.depend_law.proofs.Among.{rising_above}
use Rattle.farm_lines.specs.declared.list_row.ListRow.{ListRow}
use Rattle.farm_lines.specs.Lists.{job_row}
use Rattle.cue_query.proofs.Listed.{item_at}

-- a job that is found has the number
pub job_itself : (f : Farm) (job : ℕ) (j : JobRow) → job_at f job ≡ Some j → job_at f j.job ≡ Some j
job_itself f job j at = ap (job_at f) (eqb-true j.job job (found_is (λ (k : JobRow). k.job == job) f.jobs j at)) ∙ at

found_key : (low : ℕ) (js : List JobRow) (high n : ℕ) (j : JobRow) → IsRising job_key low js high → slice_get js n ≡ Some j → find (λ (e : JobRow). e.job == j.job) js ≡ Some j
found_key low [] high n j rise at = absurd (none-some j at)
found_key low (e ∷ js) high zero j rise at =
    let same = same_Some e j at in
    let itself : eqb e.job j.job ≡ true = eq-eqb e.job j.job (ap job_key same) in
    ap (λ (b : Bool). cond b (Some e) (find (λ (g : JobRow). g.job == j.job) js)) itself ∙ ap (λ (g : JobRow). Some g) same
found_key low (e ∷ js) high (suc n) j rise at =
    let above = rising_above job_key (e.job + 1) js high n j rise.1 at in
    let other : eqb e.job j.job ≡ false = ne_eqb e.job j.job (λ is. absurd (omega (arith, above, is))) in
    ap (λ (b : Bool). cond b (Some e) (find (λ (g : JobRow). g.job == j.job) js)) other ∙ found_key (e.job + 1) js high n j rise.1 at

module _ (f : Farm) (high : ℕ) (rise : IsRising job_key 1 f.jobs high) (numbers : List ℕ) (are : numbers ≡ map job_key f.jobs) where
  pub count_is : length (map (job_row f) f.jobs) ≡ length numbers
  count_is = length-map f.jobs (job_row f) ∙ sym (ap (λ (ns : List ℕ). length ns) are ∙ length-map f.jobs job_key)

  pub row_there : (n number : ℕ) → slice_get numbers n ≡ Some number → (r : ListRow) × (slice_get (map (job_row f) f.jobs) n ≡ Some r) × (option_map (job_row f) (job_at f number) ≡ Some r)
  row_there n number at = by (slice_get f.jobs n) refl (sym (slice_get-map job_key f.jobs n) ∙ (ap (λ (ns : List ℕ). slice_get ns n) (sym are) ∙ at))
    where
      by : (o : Option JobRow) → slice_get f.jobs n ≡ o → option_map job_key o ≡ Some number
          → (r : ListRow) × (slice_get (map (job_row f) f.jobs) n ≡ Some r) × (option_map (job_row f) (job_at f number) ≡ Some r)
      by None is key = absurd (none-some number key)
      by (Some j) is key =
          let found = found_key 1 f.jobs high n j rise is in
          let same : j.job ≡ number = same_Some j.job number key in
          (job_row f j, item_at (job_row f) f.jobs n j is, ap (option_map (job_row f)) (ap (job_at f) (sym same) ∙ found))
