-- Which groups of a depend are marked.
use Rattle.std.specs.Prelude.{ℕ, ◌==◌, ◌&&◌, Bool, not, List}
use Rattle.std.specs.List.{list_all, list_any}
use Rattle.depend_graph.specs.Graph.{Watched, is_met}

-- the group is met, and at that position
abbrev pub is_met_at : ℕ → Watched → Bool
is_met_at position w = w.met && w.group.position == position

-- a group at that position is met, and another one isn't
abbrev pub has_mark : ℕ → List Watched → Bool
has_mark position groups = not (list_all is_met groups) && list_any (is_met_at position) groups
