-- A depend one of whose counts is lowered, at its place.
use Rattle.std.proofs.Common.{◌≡◌, ℕ, List, Some, sym, ◌∙◌, subst}
use Rattle.std.specs.List.{slice_get}
use Rattle.std.proofs.lemmas.Option.{same_Some}
use Rattle.farm_types.specs.Farm.{changed_at}
use Rattle.farm_types.proofs.Changed.{changed_at_same}
use Rattle.depend_edges.specs.Counts.{fewer, lowered}
use Rattle.depend_edges.specs.Listed.{ListedLists}
use Rattle.depend_edges.specs.Places.{IsGroupAt}

pub lowered_same : (depends : List ListedLists) (place group : ℕ) (d : ListedLists) → slice_get depends place ≡ Some d → slice_get (changed_at depends place (lowered group)) place ≡ Some (lowered group d)
lowered_same depends place group d at = changed_at_same depends place (lowered group) d at

pub lowered_there : (depends : List ListedLists) (place group : ℕ) → IsGroupAt depends place group → IsGroupAt (changed_at depends place (lowered group)) place group
lowered_there depends place group there =
    record {
      listed = lowered group there.listed;
      one = there.one;
      count = fewer there.count;
      listed_there = lowered_same depends place group there.listed there.listed_there;
      group_there = there.group_there;
      count_there = changed_at_same there.listed.counts group fewer there.count there.count_there;
    }

-- what holds of the depend that is there holds of the lowered one, where it is that of the other
pub lowered_each : (P : ListedLists → Type 0) (depends : List ListedLists) (place group : ℕ) (x : ListedLists) → slice_get depends place ≡ Some x → P (lowered group x)
    → (d : ListedLists) → slice_get (changed_at depends place (lowered group)) place ≡ Some d → P d
lowered_each P depends place group x at holds d is = subst P (same_Some (lowered group x) d (sym (lowered_same depends place group x at) ∙ is)) holds
