-- Names of jobs, one after another.
use Rattle.std.proofs.Common.{◌≡◌, ℕ, zero, suc, false, ◌||◌, List, [], ◌∷◌, map, take, Some, refl, ap, subst, ◌∙◌}
use Rattle.std.specs.List.{AllByRecursion, list_any, slice_get}
use Rattle.std.specs.Str.{bytes_eq}
use Rattle.std.proofs.lemmas.Map.Keys.{IsDistinct-head, IsDistinct-tail}
use Rattle.std.proofs.lemmas.Option.{none-some, same_Some}
use Rattle.farm_types.specs.declared.rows.JobRow.{JobRow}
use Rattle.farm_types.specs.Kept.{AllDiffer, job_label}
use Rattle.job_book.specs.Names.{is_named}

at_each : (P : List ℕ → Type 0) (js : List JobRow) (i : ℕ) (j : JobRow) → AllByRecursion P (map job_label js) → slice_get js i ≡ Some j → P j.name
at_each P [] i j each at = absurd (none-some j at)
at_each P (k ∷ ks) zero j each at = subst (λ (l : JobRow). P l.name) (same_Some k j at) each.0
at_each P (k ∷ ks) (suc i) j each at = at_each P ks i j each.1 at

-- no job before has its name
pub new_name : (js : List JobRow) (i : ℕ) (j : JobRow) → AllDiffer job_label js → slice_get js i ≡ Some j → list_any (is_named j.name) (take i js) ≡ false
new_name [] i j differ at = absurd (none-some j at)
new_name (k ∷ ks) zero j differ at = refl
new_name (k ∷ ks) (suc i) j differ at =
    let apart : bytes_eq k.name j.name ≡ false = at_each (λ (name : List ℕ). bytes_eq k.name name ≡ false) ks i j (IsDistinct-head bytes_eq k.name (map job_label ks) differ) at in
    ap (λ b. b || list_any (is_named j.name) (take i ks)) apart ∙ new_name ks i j (IsDistinct-tail bytes_eq k.name (map job_label ks) differ) at
