-- One step of the way, as the call tells it.
use Rattle.std.proofs.Common.{◌≡◌, ◌<◌, ℕ, Bool, true, List, length, Option, Some, refl, sym, subst, arith}
use Rattle.std.specs.List.{slice_get}
use Rattle.std.proofs.lemmas.Bool.{eqb-true, lt-ltb}
use Rattle.std.proofs.lemmas.Option.{slice_get_within}
use Rattle.farm_types.specs.declared.limits.TheConstants.{MOST_DEPENDS}
use Rattle.depend_edges.specs.Listed.{IsListed, ListedLists}
use Rattle.depend_edges.specs.Places.{AtEdge, IsEdgeAt}
use Rattle.depend_edges.specs.Ways.{IsEdge, IsLast, KeepsNext, edge_lists, is_ahead_of}
use Rattle.depend_edges.specs.declared.links.Edge.{Edge}
use Rattle.depend_edges.specs.declared.links.EdgeAt.{EdgeAt}
use Rattle.depend_edges.proofs.EdgeLists.{edge_found, edge_is}
use Rattle.depend_edges.proofs.Targets.{count_by-there}
use Rattle.depend_graph.specs.Flow.{Flow, HasPassed, HasRoomAt, is_last_of, passed_flow}
use Rattle.depend_graph.specs.Kept.{KeepsFlow, is_left}
use Rattle.depend_graph.specs.Passing.{IsPassing}
use Rattle.depend_graph.proofs.ProgressLemmas.OnWay.{edge_standing}
use Rattle.depend_graph.proofs.ProgressLemmas.Passed.{passed}
use Rattle.depend_graph.proofs.ProgressLemmas.Steps.{steps_fall, steps_left}
use Rattle.depend_graph.proofs.ProgressLemmas.Still.{edge_lists-still}

-- there is room for the number of a depend that is about to be satisfied
satisfied_fits : (olds : List ListedLists) (f : Flow) → KeepsFlow olds f → (q : ℕ) (d : ListedLists) → slice_get f.depends q ≡ Some d → is_last_of d ≡ true → length f.opened.satisfied < MOST_DEPENDS
satisfied_fits olds f kept q d at last =
    let one : d.unmet ≡ 1 = eqb-true d.unmet 1 last in
    omega (arith, kept.satisfied_room, count_by-there is_left f.depends q d at (lt-ltb 0 d.unmet (omega arith)))

-- so there is room for all that opens where one of its groups is met
pub room_at : (olds : List ListedLists) (f : Flow) → KeepsFlow olds f → (q : ℕ) → HasRoomAt f q
room_at olds f kept q =
    record { within = λ d at. (kept.listed q d at).groups_within; slots = kept.slots_room; satisfied = λ d at last. satisfied_fits olds f kept q d at last }

-- the way goes on from an edge to one before it
pub way_falls : (olds : List ListedLists) (a : EdgeAt) (e : Edge) → IsLast (edge_lists olds) e.slot (is_ahead_of a.depend a.edge) e.next → ((p : ℕ) (d : ListedLists) → slice_get olds p ≡ Some d → IsListed d)
    → steps_left e.next < steps_left (Some a)
way_falls olds a e last listed = steps_fall a e.next last.wanted_one small where
  small : (n : EdgeAt) → e.next ≡ Some n → n.edge < 4294967296
  small n there =
      let one = last.one n there in
      let d = edge_found olds n.depend n.edge one.edge one.there in
      omega (arith, slice_get_within d.0.edges n.edge one.edge d.2, (listed n.depend d.0 d.1).edges_within)

module _ (done : List Bool) (slot : ℕ) (olds : List ListedLists) (o : Option EdgeAt) (a : EdgeAt) (f : Flow) (at_o : IsPassing done slot olds o f) (is : o ≡ Some a) where
  at_a : IsPassing done slot olds (Some a) f
  at_a = subst (λ (x : Option EdgeAt). IsPassing done slot olds x f) is at_o

  pub place_there : IsEdgeAt f.depends a
  place_there = edge_standing olds f.depends at_o.flow.structure at_o.flow.listed slot a (at_a.on_way a refl)

  module _ (next : KeepsNext (edge_lists olds)) (result : Option EdgeAt)
      (next_is : AtEdge f.depends a (λ d e. result ≡ e.next))
    where
      edge_there : IsEdge (edge_lists olds) a.depend a.edge place_there.edge
      edge_there =
          subst (λ (ls : List (List Edge)). IsEdge ls a.depend a.edge place_there.edge) (edge_lists-still olds f.depends at_o.flow.structure)
          (edge_is f.depends a.depend a.edge place_there.place.listed place_there.edge place_there.place.listed_there place_there.edge_there)

      result_is : result ≡ place_there.edge.next
      result_is = next_is place_there.place.listed place_there.edge place_there.place.listed_there place_there.edge_there

      pub way_passed : slot < length done
          → IsPassing done slot olds result (passed_flow a.depend place_there.edge.group place_there.place.listed place_there.place.one place_there.place.count f)
      way_passed within =
          let p = place_there in
          let x = p.edge in
          let w = p.place in
          subst (λ (r : Option EdgeAt). IsPassing done slot olds r (passed_flow a.depend x.group w.listed w.one w.count f)) (sym result_is)
          (passed done slot olds a f at_a within w.listed x w.one w.count w.listed_there p.edge_there w.group_there w.count_there
          (λ on. subst (λ (s : ℕ). IsLast (edge_lists olds) s (is_ahead_of a.depend a.edge) x.next) on (next a.depend a.edge x edge_there)))

      pub step_passed : slot < length done → (new : Flow) → HasPassed a f new → IsPassing done slot olds result new
      step_passed within new new_is =
          let w = place_there.place in
          subst (λ (g : Flow). IsPassing done slot olds result g)
          (sym (new_is w.listed place_there.edge w.listed_there place_there.edge_there w.one w.count w.group_there w.count_there)) (way_passed within)

      pub step_falls : ((p : ℕ) (d : ListedLists) → slice_get olds p ≡ Some d → IsListed d) → steps_left result < steps_left o
      step_falls listed =
          subst (λ (x : Option EdgeAt). steps_left result < steps_left x) (sym is)
          (subst (λ (r : Option EdgeAt). steps_left r < steps_left (Some a)) (sym result_is) (way_falls olds a place_there.edge (next a.depend a.edge place_there.edge edge_there) listed))
