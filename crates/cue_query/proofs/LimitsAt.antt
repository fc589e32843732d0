-- The rows of limits by their numbers.
use Rattle.std.proofs.Common.{◌≡◌, ℕ, zero, suc, ◌+◌, ◌<◌, List, [], ◌∷◌, length, Some, option_map, refl, ap, ◌∙◌, arith}
use Rattle.std.specs.List.{slice_get}
use Rattle.std.proofs.lemmas.Option.{none-some, same_Some}
use Rattle.farm_types.specs.declared.rows.LimitRow.{LimitRow}
use Rattle.farm_types.specs.Farm.{Farm}
use Rattle.farm_types.proofs.Lists.{slice_get_below}
use Rattle.farm_lines.specs.declared.list_row.ListRow.{ListRow}
use Rattle.farm_lines.specs.Lists.{limit_row, limit_rows}

module _ (f : Farm) where
  limit_at : (ls : List LimitRow) (place n : ℕ) (l : LimitRow) → slice_get ls n ≡ Some l → slice_get (limit_rows f place ls) n ≡ Some (limit_row f (place + n) l)
  limit_at [] place n l at = absurd (none-some l at)
  limit_at (g ∷ ls) place zero l at =
      let here : place ≡ place + 0 = omega arith in
      ap (λ (k : ℕ). Some (limit_row f k g)) here ∙ ap (λ (x : LimitRow). Some (limit_row f (place + 0) x)) (same_Some g l at)
  limit_at (g ∷ ls) place (suc n) l at =
      let next : place + 1 + n ≡ place + suc n = omega arith in
      limit_at ls (place + 1) n l at ∙ ap (λ (k : ℕ). Some (limit_row f k l)) next

  count_from : (ls : List LimitRow) (place : ℕ) → length (limit_rows f place ls) ≡ length ls
  count_from [] place = refl
  count_from (l ∷ ls) place = ap suc (count_from ls (place + 1))

  pub count_is : length (limit_rows f 0 f.limits) ≡ length f.limits
  count_is = count_from f.limits 0

  pub row_there : (n : ℕ) → n < length f.limits → (r : ListRow) × (slice_get (limit_rows f 0 f.limits) n ≡ Some r) × (option_map (limit_row f n) (slice_get f.limits n) ≡ Some r)
  row_there n within =
      let there = slice_get_below f.limits n within in
      let same : 0 + n ≡ n = omega arith in
      (limit_row f n there.0, limit_at f.limits 0 n there.0 there.1 ∙ ap (λ (k : ℕ). Some (limit_row f k there.0)) same, ap (option_map (limit_row f n)) there.1)
