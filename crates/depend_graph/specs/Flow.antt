-- What changes while groups are met.
use Rattle.std.specs.Prelude.{ℕ, ◌≡◌, ◌==◌, ◌+◌, ◌-◌, ◌<◌, ◌≤◌, Bool, true, if◌then◌else◌, List, [], ◌∷◌, ◌++◌, count_by, fold, length, nat_lt}
use Rattle.farm_types.specs.declared.depend.Group.{Group}
use Rattle.farm_types.specs.declared.limits.TheConstants.{MOST_DEPENDS, MOST_GROUPS, SLOT_LIMIT}
use Rattle.farm_types.specs.Farm.{changed_at}
use Rattle.farm_types.specs.Sums.{total_at}
use Rattle.depend_edges.specs.Counts.{fewer, is_due, lowered, met_at}
use Rattle.depend_edges.specs.Listed.{ListedLists}
use Rattle.depend_edges.specs.Places.{AtDepend, AtGroup, AtTarget}
use Rattle.depend_edges.specs.declared.links.EdgeAt.{EdgeAt}
use Rattle.depend_edges.specs.declared.listed.Count.{Count}
use Rattle.depend_graph.specs.Graph.{OpenedLists}
use Rattle.depend_graph.specs.declared.tally.Tally.{Tally}

-- ---- those who wait in a group

-- how many unmet groups each frame waits in, and the slots of the frames that were opened
pub record Waiting : Type 0 where
  pub unmet : List ℕ
  pub slots : List ℕ

abbrev pub waiting_of : List ℕ → List ℕ → Waiting
waiting_of unmet slots = record { unmet = unmet; slots = slots }

-- the frame in the slot waits in one unmet group fewer, and opens where that was the last
abbrev pub freed : Waiting → ℕ → Waiting
freed w slot = record { unmet = changed_at w.unmet slot (λ n. n - 1); slots = if total_at w.unmet slot == 1 then w.slots ++ slot ∷ [] else w.slots }

abbrev pub all_freed : Waiting → List ℕ → Waiting
all_freed w waiters = fold freed w waiters

abbrev pub is_positive : ℕ → Bool
is_positive n = nat_lt 0 n

-- the slots of those who wait are listed where they open
abbrev pub slots_opened : List ℕ → OpenedLists → List ℕ → OpenedLists
slots_opened unmet opened waiters = record opened { slots = (all_freed (waiting_of unmet opened.slots) waiters).slots }

-- the last of the depend's groups that wasn't met
abbrev pub is_last_of : ListedLists → Bool
is_last_of d = d.unmet == 1

-- and the depend is listed where that is met
abbrev pub depend_opened : ListedLists → OpenedLists → OpenedLists
depend_opened d opened = record opened { satisfied = if is_last_of d then opened.satisfied ++ d.depend ∷ [] else opened.satisfied }

-- ---- the whole

pub record Flow : Type 0 where
  pub depends : List ListedLists
  pub unmet : List ℕ
  pub left : ℕ
  pub opened : OpenedLists

abbrev pub flow_of : List ListedLists → List ℕ → ℕ → OpenedLists → Flow
flow_of depends unmet left opened = record { depends = depends; unmet = unmet; left = left; opened = opened }

abbrev pub flow_in : Tally → OpenedLists → Flow
flow_in t opened = flow_of t.depends.items t.unmet.items t.left opened

abbrev pub waiting_in : Flow → Waiting
waiting_in f = waiting_of f.unmet f.opened.slots

-- the group at a place of the depend at a place is met, with those who wait in it
abbrev pub met_flow : ℕ → ℕ → ListedLists → Group → Flow → Flow
met_flow place group d g f =
    record {
      depends = changed_at f.depends place (met_at group);
      unmet = (all_freed (waiting_in f) g.waiters).unmet;
      left = if is_last_of d then f.left - length d.groups else f.left;
      opened =
          record {
            slots = (all_freed (waiting_in f) g.waiters).slots;
            satisfied = if is_last_of d then f.opened.satisfied ++ d.depend ∷ [] else f.opened.satisfied;
          };
    }

abbrev pub lowered_flow : ℕ → ℕ → Flow → Flow
lowered_flow place group f = record f { depends = changed_at f.depends place (lowered group) }

-- the group is met where it isn't yet and lacks no target
abbrev pub due_flow : ℕ → ℕ → ListedLists → Group → Count → Flow → Flow
due_flow place group d g c f = if is_due g c then met_flow place group d g f else f

-- the target of an edge is done: the group lacks one fewer, and is met where it lacks none
abbrev pub passed_flow : ℕ → ℕ → ListedLists → Group → Count → Flow → Flow
passed_flow place group d g c f = due_flow place group (lowered group d) g (fewer c) (lowered_flow place group f)

-- ---- one flow and the next

-- the group at a place of the depend at a place is met
abbrev pub HasMetGroup : ℕ → ℕ → Flow → Flow → Type 0
HasMetGroup place group f new = AtGroup f.depends place group (λ d g c. new ≡ met_flow place group d g f)

-- where it isn't met yet and lacks no target
abbrev pub HasMetDue : ℕ → ℕ → Flow → Flow → Type 0
HasMetDue place group f new = AtGroup f.depends place group (λ d g c. new ≡ due_flow place group d g c f)

-- where it isn't met yet
abbrev pub HasMetUnmet : ℕ → ℕ → Flow → Flow → Type 0
HasMetUnmet place group f new = AtGroup f.depends place group (λ d g c. new ≡ (if c.met then f else met_flow place group d g f))

-- the way has passed the edge that is named, whose group lacks one fewer
abbrev pub HasPassed : EdgeAt → Flow → Flow → Type 0
HasPassed at f new = AtTarget f.depends at (λ d e g c. new ≡ passed_flow at.depend e.group d g c f)

-- there is room for all that opens where a group of the depend at a place is met
pub record HasRoomAt (f : Flow) (place : ℕ) : Type 0 where
  pub within : AtDepend f.depends place (λ d. length d.groups ≤ MOST_GROUPS)
  pub slots : length f.opened.slots + count_by is_positive f.unmet ≤ SLOT_LIMIT
  pub satisfied : AtDepend f.depends place (λ d. is_last_of d ≡ true → length f.opened.satisfied < MOST_DEPENDS)
