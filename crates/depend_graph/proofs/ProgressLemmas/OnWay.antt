-- An edge that a way has come to: where it stands, and what counts once the way goes on.
use Rattle.std.proofs.Common.{◌≡◌, ℕ, Bool, List, map, Some, sym, ap, subst, ◌∙◌, ◌⊎◌, inl, inr}
use Rattle.std.specs.List.{slice_get}
use Rattle.std.proofs.lemmas.Option.{same_Some}
use Rattle.depend_edges.specs.Listed.{AllListed, ListedLists}
use Rattle.depend_edges.specs.Places.{IsEdgeAt}
use Rattle.depend_edges.specs.Ways.{IsEdge, IsEdgeOf, IsLast, edge_lists, is_ahead_of}
use Rattle.depend_edges.specs.declared.links.Edge.{Edge}
use Rattle.depend_edges.specs.declared.links.EdgeAt.{EdgeAt}
use Rattle.depend_edges.specs.declared.listed.Count.{Count}
use Rattle.depend_edges.proofs.EdgeLists.{edge_is, edges_listed}
use Rattle.depend_edges.proofs.Standing.{edge_at}
use Rattle.depend_graph.specs.Kept.{Still, still_of}
use Rattle.depend_graph.specs.Passing.{CountsPending, count_from, is_pending}
use Rattle.depend_graph.proofs.ProgressLemmas.Pending.{pending_other}
use Rattle.depend_graph.proofs.ProgressLemmas.Recounted.{IsElsewhere, IsHere}
use Rattle.depend_graph.proofs.ProgressLemmas.Still.{edge_lists-still}

-- also where only counts have changed since
pub edge_standing : (olds news : List ListedLists) → map still_of news ≡ map still_of olds → AllListed news → (slot : ℕ) (a : EdgeAt) → IsEdgeOf (edge_lists olds) slot a → IsEdgeAt news a
edge_standing olds news structure listed slot a on =
    edge_at news listed slot a (subst (λ (ls : List (List Edge)). IsEdgeOf ls slot a) (sym (edge_lists-still olds news structure)) on)

module _ (slot : ℕ) (olds news : List ListedLists) (structure : map still_of news ≡ map still_of olds) (a : EdgeAt) (on_way : IsEdgeOf (edge_lists olds) slot a)
    (d : ListedLists) (x : Edge) (at : slice_get news a.depend ≡ Some d) (at_edge : slice_get d.edges a.edge ≡ Some x)
  where
    same_lists : edge_lists news ≡ edge_lists olds
    same_lists = edge_lists-still olds news structure

    pub there_before : IsEdge (edge_lists olds) a.depend a.edge x
    there_before = subst (λ (ls : List (List Edge)). IsEdge ls a.depend a.edge x) same_lists (edge_is news a.depend a.edge d x at at_edge)

    pub of_slot : x.slot ≡ slot
    of_slot =
        let there = there_before in
        let lists_same : there.edges ≡ on_way.there.edges = same_Some there.edges on_way.there.edges (sym there.listed ∙ on_way.there.listed) in
        let same : x ≡ on_way.edge = same_Some x on_way.edge (sym there.there ∙ (ap (λ (es : List Edge). slice_get es a.edge) lists_same ∙ on_way.there.there)) in
        ap (λ (e : Edge). e.slot) same ∙ on_way.slot_is

    pub listed_before : slice_get (edge_lists olds) a.depend ≡ Some d.edges
    listed_before = subst (λ (ls : List (List Edge)). slice_get ls a.depend ≡ Some d.edges) same_lists (edges_listed news a.depend d at)

    -- where one count changes with the way, each count is that of what counts as undone then
    pub counts_on : (turned : Bool → Bool) (done : List Bool) → CountsPending turned done slot (Some a) news → IsLast (edge_lists olds) slot (is_ahead_of a.depend a.edge) x.next
        → (c : Count) (change : Count → Count) → (change c).undone ≡ count_from (is_pending turned done slot x.next x.group a.depend) 0 d.edges → (p m : ℕ) (e : ListedLists) (n : Count)
        → (IsHere a.depend x.group p m d e c n change) ⊎ (IsElsewhere news a.depend x.group p m e n) → n.undone ≡ count_from (is_pending turned done slot x.next m p) 0 e.edges
    counts_on turned done counts goes_on c change changed p m e n (inl here) =
        ap (λ (y : Count). y.undone) here.count_is
        ∙ (changed
        ∙ (ap (λ (s : Still). count_from (is_pending turned done slot x.next x.group a.depend) 0 s.edges) here.still
        ∙ λ i. count_from (is_pending turned done slot x.next (sym here.group i) (sym here.place i)) 0 e.edges))
    counts_on turned done counts goes_on c change changed p m e n (inr other) =
        counts p m other.was n other.was_there other.count_there
        ∙ (ap (λ (s : Still). count_from (is_pending turned done slot (Some a) m p) 0 s.edges) other.still
        ∙ pending_other turned done (edge_lists olds) slot a x there_before of_slot x.next goes_on p m e.edges
        (subst (λ (ls : List (List Edge)). slice_get ls p ≡ Some e.edges) same_lists (edges_listed news p other.was other.was_there ∙ ap (λ (s : Still). Some s.edges) other.still)) other.apart)
