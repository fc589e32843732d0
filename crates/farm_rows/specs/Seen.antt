-- The keys that were seen, as numbers, and what is told of a change by them.
use Rattle.std.specs.Prelude.{◌≡◌, ◌+◌, ◌≤◌, ℕ, ⊤, Bool, true, false, List, ◌⊎◌}
use Rattle.arrayvec.specs.ArrayVec.{array_vec_len}
use Rattle.farm_types.specs.Farm.{Farm}
use Rattle.farm_rows.specs.declared.row_change.RowChange.{RowChange}
use Rattle.farm_rows.specs.declared.seen_keys.SeenKeys.{SeenKeys}
use Rattle.farm_rows.specs.declared.seen_keys.SeenKeys.TheVariants as seen_keys
use Rattle.farm_rows.specs.declared.seen_keys.TheConstants.{FEW}
use Rattle.farm_rows.specs.Changes.{change_key, row_at}
use Rattle.farm_rows.specs.Keys.{ChangesNothing, has_parts, key_parts, with_parts}

abbrev pub seen_parts : SeenKeys → List (ℕ × ℕ × ℕ)
seen_parts (seen_keys.Few few) = few.items
seen_parts (seen_keys.Many many) = many.keys

-- So many keys more may be noted.
abbrev pub HasRoom : SeenKeys → ℕ → Type 0
HasRoom (seen_keys.Few few) more = array_vec_len few + more ≤ FEW
HasRoom (seen_keys.Many many) more = ⊤

-- Whether the change is the last one of its key, none of which was seen, and makes another row than the farm's. Its key is seen then.
pub record IsTold (f : Farm) (c : RowChange) (seen : List (ℕ × ℕ × ℕ)) (now : List (ℕ × ℕ × ℕ)) (told : Bool) : Type 0 where
  pub keys : now ≡ with_parts seen (key_parts (change_key c))
  pub last : told ≡ true → (has_parts seen (key_parts (change_key c)) ≡ false) × (ChangesNothing c (row_at f (change_key c)) → ⊥)
  pub other : told ≡ false → (has_parts seen (key_parts (change_key c)) ≡ true) ⊎ ChangesNothing c (row_at f (change_key c))
