-- What is kept beside the rows of depends.
use Rattle.std.specs.Prelude.{ℕ, ◌≡◌, ◌≤◌, ◌+◌, ◌*◌, Bool, true, List, [], map, length, sum_by, nat_lt, Option, if◌then◌else◌}
use Rattle.std.specs.List.{list_all}
use Rattle.farm_types.specs.declared.depend.DependRow.{DependRow}
use Rattle.farm_types.specs.declared.depend.Group.{Group}
use Rattle.farm_types.specs.declared.depend.MetRow.{MetRow}
use Rattle.farm_types.specs.declared.limits.TheConstants.{MOST_GROUPS}
use Rattle.farm_types.specs.Farm.{Farm}
use Rattle.farm_types.specs.Rising.{depend_key}
use Rattle.farm_rows.specs.Recovery.{StoredKey, comes_after, groups_so_far}
use Rattle.farm_rows.specs.declared.ids.TheConstants.{GROUP_IDS}
use Rattle.farm_rows.specs.declared.book_lists.BookLists.{BookLists}
use Rattle.stored_rows.specs.Known.{Rises}
use Rattle.stored_rows.specs.Told.{Told, farm_of}

-- ---- the groups of a depend

-- those of a depend that isn't satisfied
abbrev pub groups_kept : Farm → DependRow → List Group
groups_kept f d = if d.met_all then [] else groups_so_far f d

-- ---- marks

-- a mark's id
abbrev pub met_id : MetRow → ℕ
met_id m = GROUP_IDS * m.depend + m.position

abbrev pub has_own_id : MetRow → Bool
has_own_id m = nat_lt m.position GROUP_IDS

-- ---- what the rows so far say

-- the farm of the other rows with the depends and their marks
abbrev pub with_depends : Farm → List DependRow → List MetRow → Farm
with_depends f depends met = record f { depends = depends; met = met }

-- Where a row may come, it may come after the last one of the other kinds. A row of a kind before those of depends comes before all of them. Beside each
-- depend that isn't satisfied are its groups, and how many there are together.
pub record KeepsDepends (rows : Told) (last : Option StoredKey) (depends : List DependRow) (groups : List (List Group)) (met : List MetRow) (left : ℕ) : Type 0 where
  pub comes : (key : StoredKey) → key.0 ≤ 11 → comes_after last key ≡ true → comes_after rows.last key ≡ true
  pub early : (key : StoredKey) → key.0 ≤ 8 → comes_after last key ≡ true → depends ≡ []
  pub depends_rise : Rises depend_key depends last 9
  pub met_rise : Rises met_id met last 10
  pub met_own : list_all has_own_id met ≡ true
  pub groups_are : groups ≡ map (groups_kept rows.farm) depends
  pub left_is : left ≡ sum_by (λ (gs : List Group). length gs) groups
  pub few : left ≤ MOST_GROUPS

-- the farm of plain lists, its depends and marks, and the next number of a depend
abbrev pub whole_of : BookLists → List DependRow → List MetRow → ℕ → Farm
whole_of lists depends met next_depend = with_depends (farm_of lists next_depend) depends met
