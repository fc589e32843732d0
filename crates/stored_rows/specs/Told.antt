-- The farm that the rows so far say, without depends, the key of the last row, and the format of the rows.
use Rattle.std.specs.Prelude.{ℕ, ◌≡◌, ◌&&◌, Bool, true, false, Option, None, Some}
use Rattle.farm_types.specs.DependActs.{or_else}
use Rattle.farm_types.specs.Farm.{Farm, empty_farm}
use Rattle.farm_types.specs.Finish.{finishes}
use Rattle.farm_rows.specs.declared.book_lists.BookLists.{BookLists}
use Rattle.farm_rows.specs.declared.farm_row.FarmRow.{FarmRow}
use Rattle.farm_rows.specs.Lists.{farm_in}
use Rattle.farm_rows.specs.declared.head_row.TheConstants.{ROW_FORMAT}
use Rattle.farm_rows.specs.Recovery.{StoredKey, comes_after, first_job, first_layer, format_after, head_ends, key_of, lacks_frames, lacks_limit, lacks_slots, row_fits, with_stored}

pub record Told : Type 0 where
  pub last : Option StoredKey
  pub farm : Farm
  pub format : ℕ

-- the farm of plain lists and the next number of a depend
abbrev pub farm_of : BookLists → ℕ → Farm
farm_of lists next_depend = record (farm_in lists) { next_depend = next_depend }

-- before the first row, whose format isn't told yet
abbrev pub none_told : Told
none_told = record { last = None; farm = empty_farm; format = ROW_FORMAT }

-- the row comes after the last one, and fits the farm so far
abbrev pub is_next : Told → FarmRow → Bool
is_next t r = comes_after t.last (key_of r) && row_fits t.format t.farm r

abbrev pub told_with : Told → FarmRow → Told
told_with t r = record { last = Some (key_of r); farm = with_stored t.farm r; format = format_after t.format r }

-- a row was taken, or it wasn't next and nothing changed
abbrev pub Accepts : Bool → Told → FarmRow → Told → Type 0
Accepts true old r new = (is_next old r ≡ true) × (new ≡ told_with old r)
Accepts false old r new = (is_next old r ≡ false) × (new ≡ old)

-- the row at fault after the last one, as far as the rows of depends don't matter
abbrev pub early_fault : Farm → Option StoredKey
early_fault f =
    or_else (first_layer (lacks_limit f) f.layers) (or_else (head_ends f) (or_else (first_job (lacks_frames f) f.jobs) (or_else (first_layer (lacks_slots f) f.layers) (first_job (finishes f.slots) f.jobs))))
