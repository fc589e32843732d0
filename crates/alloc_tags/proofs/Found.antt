-- Whether an allocation has the name.
use Rattle.std.proofs.Common.{◌≡◌, ℕ, ◌+◌, Bool, true, false, ◌||◌, List, [], ◌∷◌, is_some, cond, Some, refl}
use Rattle.std.specs.Str.{bytes_eq}
use Rattle.std.specs.List.{list_any}
use Rattle.farm_types.specs.declared.rows.AllocRow.{AllocRow}
use Rattle.farm_types.specs.Farm.{alloc_from, alloc_name}

found_from_step : (b rest : Bool) (place : ℕ) (name : List ℕ) (allocs : List AllocRow) → is_some (alloc_from (place + 1) name allocs) ≡ rest
    → is_some (cond b (Some place) (alloc_from (place + 1) name allocs)) ≡ (b || rest)
found_from_step true rest place name allocs later = refl
found_from_step false rest place name allocs later = later

-- there is a number of that name where an allocation has it
pub found_from : (place : ℕ) (name : List ℕ) (allocs : List AllocRow) → is_some (alloc_from place name allocs) ≡ list_any (λ row. bytes_eq (alloc_name row.facility row.tag) name) allocs
found_from place name [] = refl
found_from place name (row ∷ rows) = found_from_step (bytes_eq (alloc_name row.facility row.tag) name) _ place name rows (found_from (place + 1) name rows)
