-- A depend that is added with marks: groups that are met although their targets aren't done.
use Rattle.std.specs.Prelude.{ℕ, ◌||◌, Bool, List, [], ◌∷◌, ◌++◌, map}
use Rattle.farm_types.specs.declared.depend.Group.{Group}
use Rattle.depend_edges.specs.declared.listed.Count.{Count}
use Rattle.depend_graph.specs.Graph.{GraphLists, Watch, Watched, watched}

-- where a mark stands at a group's place, the group is met
abbrev pub marked_with : List Watched → List Bool → List Watched
marked_with [] marks = []
marked_with (w ∷ ws) [] = w ∷ ws
marked_with (w ∷ ws) (m ∷ ms) = record w { met = w.met || m } ∷ marked_with ws ms

-- one depend more: a group is met at once where its targets are done, or where it is marked
abbrev pub marked_watch : List Bool → ℕ → List Group → List Bool → Watch
marked_watch done depend groups marks = record { depend = depend; groups = marked_with (map (watched done) groups) marks }

abbrev pub with_marked : GraphLists → ℕ → List Group → List Bool → GraphLists
with_marked g depend groups marks = record g { depends = g.depends ++ marked_watch g.done depend groups marks ∷ [] }

-- ---- counts

abbrev pub marked : Bool → Count → Count
marked mark c = record c { met = c.met || mark }

abbrev pub marked_counts : List Count → List Bool → List Count
marked_counts [] marks = []
marked_counts (c ∷ cs) [] = c ∷ cs
marked_counts (c ∷ cs) (m ∷ ms) = marked m c ∷ marked_counts cs ms
