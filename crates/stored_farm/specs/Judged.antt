-- Judging rows of depends and their marks over plain lists.
use Rattle.std.specs.Prelude.{ℕ, ◌==◌, ◌&&◌, ◌||◌, ◌+◌, ◌-◌, Bool, not, List, is_some, length, nat_le, nat_lt, slice_get}
use Rattle.std.specs.List.{list_any, position_or_len}
use Rattle.farm_types.specs.declared.depend.DependRow.{DependRow}
use Rattle.farm_types.specs.declared.depend.Group.{Group}
use Rattle.farm_types.specs.declared.depend.MetRow.{MetRow}
use Rattle.farm_types.specs.declared.limits.TheConstants.{MOST_DEPENDS, MOST_GROUPS}
use Rattle.farm_types.specs.DependActs.{waits_for_itself}
use Rattle.farm_types.specs.Farm.{Farm, for_some}
use Rattle.farm_types.specs.Forms.{is_between}
use Rattle.farm_types.specs.Kept.{is_formed_depend}
use Rattle.farm_rows.specs.Recovery.{depend_fits, end_is_there, met_fits}

-- ---- a depend's row, or a mark's, in a store of any format

abbrev pub takes_depend : Farm → DependRow → Bool
takes_depend f r = f.recorded && depend_fits f r

abbrev pub takes_mark : Farm → MetRow → Bool
takes_mark f m = f.recorded && met_fits f m

-- ---- a depend, of which there are so many, with its groups, beside so many

abbrev pub has_room : ℕ → List Group → Bool
has_room left groups = nat_lt 0 (length groups) && nat_le (left + length groups) MOST_GROUPS

abbrev pub groups_pass : ℕ → List Group → Bool
groups_pass left groups = not (is_some (waits_for_itself groups)) && has_room left groups

abbrev pub passes_unmet : Farm → ℕ → DependRow → List Group → Bool
passes_unmet f left r groups = r.met_all || (end_is_there f r.target && groups_pass left groups)

abbrev pub has_its_forms : Farm → ℕ → DependRow → Bool
has_its_forms f count r = is_between 1 (f.next_depend - 1) r.depend && (nat_lt count MOST_DEPENDS && (is_formed_depend r && end_is_there f r.waiter))

abbrev pub passes : Farm → ℕ → ℕ → DependRow → List Group → Bool
passes f count left r groups = f.recorded && (has_its_forms f count r && passes_unmet f left r groups)

-- ---- a mark

abbrev pub has_position : ℕ → List Group → Bool
has_position position groups = list_any (λ (g : Group). g.position == position) groups

-- the groups kept for its depend have its position
abbrev pub is_mark_among : List DependRow → List (List Group) → MetRow → Bool
is_mark_among depends groups m = for_some (slice_get groups (position_or_len (λ (d : DependRow). d.depend == m.depend) depends)) (has_position m.position)
