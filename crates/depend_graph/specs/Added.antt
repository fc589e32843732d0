-- A depend that is added: the counts of its groups, and those who wait in them.
use Rattle.std.specs.Prelude.{ℕ, ◌+◌, ◌-◌, Bool, not, List, [], ◌∷◌, count_by, fold, min, if◌then◌else◌}
use Rattle.farm_types.specs.declared.depend.Group.{Group}
use Rattle.farm_types.specs.Farm.{changed_at}
use Rattle.depend_edges.specs.Listed.{is_enough}
use Rattle.depend_edges.specs.declared.listed.Count.{Count}
use Rattle.depend_graph.specs.Graph.{is_flagged}

-- the slot's frame isn't done
abbrev pub is_lacking : List Bool → ℕ → Bool
is_lacking done slot = not (is_flagged done slot)

-- so many of the group's targets aren't done, and it is met at once where that is no hindrance
abbrev pub count_for : List Bool → Group → Count
count_for done g = record { undone = count_by (is_lacking done) g.targets; met = is_enough g (count_by (is_lacking done) g.targets) }

-- the frame in the slot waits in one unmet group more
abbrev pub one_more : ℕ → ℕ
one_more n = min (n + 1) 4294967295

abbrev pub held : List ℕ → ℕ → List ℕ
held unmet slot = changed_at unmet slot one_more

abbrev pub all_held : List ℕ → List ℕ → List ℕ
all_held unmet waiters = fold held unmet waiters

-- and so it is with each group that isn't met
abbrev pub held_in : List ℕ → List Group → List Count → List ℕ
held_in unmet [] counts = unmet
held_in unmet (g ∷ gs) [] = unmet
held_in unmet (g ∷ gs) (c ∷ cs) = held_in (if c.met then unmet else all_held unmet g.waiters) gs cs

-- ---- a depend that is forgotten

-- the frame in the slot waits in one unmet group fewer
abbrev pub released : List ℕ → ℕ → List ℕ
released unmet slot = changed_at unmet slot (λ n. n - 1)

abbrev pub all_released : List ℕ → List ℕ → List ℕ
all_released unmet waiters = fold released unmet waiters

-- and so it is with each group that isn't met
abbrev pub released_in : List ℕ → List Group → List Count → List ℕ
released_in unmet [] counts = unmet
released_in unmet (g ∷ gs) [] = unmet
released_in unmet (g ∷ gs) (c ∷ cs) = released_in (if c.met then unmet else all_released unmet g.waiters) gs cs
