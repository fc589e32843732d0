-- A depend as the graph lists it.
use Rattle.std.specs.Prelude.{ℕ, ◌≡◌, ◌==◌, ◌&&◌, ◌<◌, ◌≤◌, ◌^◌, Bool, true, not, List, [], map, length, All, count_by, nat_lt, slice_get, Some, if◌then◌else◌}
use Rattle.farm_types.specs.declared.depend.Group.{Group}
use Rattle.farm_types.specs.declared.limits.TheConstants.{MOST_GROUPS}
use Rattle.depend_edges.specs.Aims.{Aim, aims_from}
use Rattle.depend_edges.specs.Groups.{IsGroup}
use Rattle.depend_edges.specs.declared.links.Edge.{Edge}
use Rattle.depend_edges.specs.declared.listed.Count.{Count}

-- its groups, a count for each of them, an edge for each target of each group, how many groups aren't met, and whether it was forgotten
pub record ListedLists : Type 0 where
  pub depend : ℕ
  pub groups : List Group
  pub counts : List Count
  pub edges : List Edge
  pub unmet : ℕ
  pub gone : Bool

-- it wasn't forgotten
abbrev pub is_there : ListedLists → Bool
is_there d = not d.gone

abbrev pub has_number : ℕ → ListedLists → Bool
has_number depend d = is_there d && d.depend == depend

-- all of it that is left once it is forgotten
abbrev pub emptied : ListedLists → ListedLists
emptied d = record { depend = d.depend; groups = []; counts = []; edges = []; unmet = 0; gone = true }

-- ---- edges and counts

abbrev pub aim_of : Edge → Aim
aim_of e = record { slot = e.slot; group = e.group }

-- so many targets aren't done, which is no hindrance any more
abbrev pub is_enough : Group → ℕ → Bool
is_enough g undone = if g.any then nat_lt undone (length g.targets) else undone == 0

abbrev pub is_unmet : Count → Bool
is_unmet c = not c.met

-- what holds of the group at a place of it, and of the group's count
abbrev pub OfGroup : ListedLists → ℕ → (Group → Count → Type 0) → Type 0
OfGroup d group P = (g : Group) (c : Count) → slice_get d.groups group ≡ Some g → slice_get d.counts group ≡ Some c → P g c

-- ---- what always holds of it

-- a count for each group, and an edge for each target, so many that 32 bits count them
pub record IsListed (d : ListedLists) : Type 0 where
  pub counted : length d.counts ≡ length d.groups
  pub aims : map aim_of d.edges ≡ aims_from 0 d.groups
  pub edges_within : length d.edges < 2 ^ 32
  pub groups_within : length d.groups ≤ MOST_GROUPS
  pub each : All IsGroup d.groups
  pub unmet_kept : d.unmet ≡ count_by is_unmet d.counts

-- it is so with each depend
abbrev pub AllListed : List ListedLists → Type 0
AllListed depends = (p : ℕ) (d : ListedLists) → slice_get depends p ≡ Some d → IsListed d
