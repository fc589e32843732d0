-- What a trial says, as it is kept.
use Rattle.std.specs.Prelude.{ℕ, ◌≡◌, false, true, List, [], All, nat_eq}
use Rattle.indexmap.specs.IndexMap.{get}
use Rattle.farm_types.specs.declared.depend.Group.{Group}
use Rattle.depend_edges.specs.Counts.{becomes_due}
use Rattle.depend_edges.specs.Listed.{ListedLists}
use Rattle.depend_edges.specs.declared.listed.Count.{Count}
use Rattle.depend_graph.specs.Graph.{GraphLists, is_flagged, with_all_done, with_done}
use Rattle.depend_graph.specs.Meeting.{met_lists}
use Rattle.depend_graph.specs.Trial.{IsHit, IsMetWhere, IsTried, count_or, key_of, nothing_laid, nothing_met}
use Rattle.depend_graph.specs.declared.trials.trial.Trial.{Trial}

-- what it says is of that graph
abbrev pub Tries : List ListedLists → List ℕ → Trial → GraphLists → Type 0
Tries olds unmet t g = IsTried olds unmet (get nat_eq t.lacking) t.freed.items (met_lists t.meeting) g

-- the frame of the slot is done too in the graph of which it speaks
abbrev pub TriesDone : List ListedLists → ℕ → Trial → Trial → Type 0
TriesDone olds slot old new =
    (unmet : List ℕ) (g : GraphLists) → is_flagged g.done slot ≡ false → Tries olds unmet old g → Tries olds unmet new (with_done g slot true)

-- no frame of these is done in the graph
abbrev pub AreUndone : GraphLists → List ℕ → Type 0
AreUndone g slots = All (λ slot. is_flagged g.done slot ≡ false) slots

-- one target of the group fewer is undone
abbrev pub Hits : ℕ → ℕ → Group → Count → Trial → Trial → Type 0
Hits place group g c old new = IsHit (key_of place group) g c (get nat_eq old.lacking) (get nat_eq new.lacking) old.freed.items new.freed.items

-- and what is met by that
abbrev pub MeetsBy : ℕ → ℕ → ListedLists → Group → Count → Trial → Trial → Type 0
MeetsBy place group d g c old new =
    IsMetWhere (becomes_due g c (count_or c.undone (get nat_eq old.lacking (key_of place group)))) place d g (met_lists old.meeting) (met_lists new.meeting)

-- were these frames done in the graph as it is, that is of what it would speak
abbrev pub TriesAll : List ListedLists → List ℕ → Trial → Type 0
TriesAll olds slots t =
    (unmet : List ℕ) (g : GraphLists) → AreUndone g slots → IsTried olds unmet nothing_laid [] nothing_met g → Tries olds unmet t (with_all_done g slots)
