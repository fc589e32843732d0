-- Where edges stand once only ways changed.
use Rattle.std.proofs.Common.{◌≡◌, ◌<◌, ℕ, List, map, length, Option, Some, None, refl, sym, ap, ◌∙◌, arith}
use Rattle.std.specs.List.{slice_get}
use Rattle.std.proofs.Math.ListN.{length-set}
use Rattle.std.proofs.lemmas.Option.{same_Some, slice_get_within}
use Rattle.farm_types.specs.declared.limits.TheConstants.{SLOT_LIMIT}
use Rattle.farm_types.proofs.Lists.{slice_get_below}
use Rattle.depend_edges.specs.Bare.{Bare, bare_of}
use Rattle.depend_edges.specs.Linking.{first_without}
use Rattle.depend_edges.specs.Listed.{AllListed, ListedLists}
use Rattle.depend_edges.specs.Places.{IsEdgeAt}
use Rattle.depend_edges.specs.Ways.{IsEdgeOf, edge_lists, place_at}
use Rattle.depend_edges.specs.declared.links.Edge.{Edge}
use Rattle.depend_edges.specs.declared.links.EdgeAt.{EdgeAt}
use Rattle.depend_edges.proofs.Bared.{bare_at, edges_long, length_bare, listed_bare}
use Rattle.depend_edges.proofs.EdgeLists.{edge_found, edge_is}
use Rattle.depend_edges.proofs.Targets.{group_of_edge, slots_within}

-- that edge and its group are there
pub edge_at : (ds : List ListedLists) → AllListed ds → (slot : ℕ) (a : EdgeAt) → IsEdgeOf (edge_lists ds) slot a → IsEdgeAt ds a
edge_at ds listed slot a on =
    let d = edge_found ds a.depend a.edge on.edge on.there in
    let one = listed a.depend d.0 d.1 in
    let g = group_of_edge d.0.edges d.0.groups one.aims a.edge on.edge d.2 in
    let c = slice_get_below d.0.counts on.edge.group (omega (arith, slice_get_within d.0.groups on.edge.group g.0 g.1, one.counted)) in
    record {
      edge = on.edge;
      place = record { listed = d.0; one = g.0; count = c.0; listed_there = d.1; group_there = g.1; count_there = c.1 };
      edge_there = d.2;
    }

module _ (olds news : List ListedLists) (same : map bare_of news ≡ map bare_of olds) (p : ℕ) (d : ListedLists) (at : slice_get olds p ≡ Some d) where
  -- the depend at the place has as many edges
  pub long_there : (x : ListedLists) × (slice_get news p ≡ Some x) × (length x.edges ≡ length d.edges)
  long_there =
      let x = slice_get_below news p (omega (arith, length_bare olds news same, slice_get_within olds p d at)) in
      let old = bare_at olds news same p x.0 x.1 in
      let one : old.0 ≡ d = same_Some old.0 d (sym old.1 ∙ at) in
      let bare : bare_of x.0 ≡ bare_of d = sym old.2 ∙ ap bare_of one in
      let long : length x.0.edges ≡ length d.edges = sym (edges_long x.0) ∙ (ap (λ (b : Bare). length b.aims) bare ∙ edges_long d) in
      (x.0, x.1, long)

  -- and is the same but for the ways
  pub there_same : (x : ListedLists) × (slice_get news p ≡ Some x) × (bare_of x ≡ bare_of d)
  there_same =
      let x = slice_get_below news p (omega (arith, length_bare olds news same, slice_get_within olds p d at)) in
      let old = bare_at olds news same p x.0 x.1 in
      let one : old.0 ≡ d = same_Some old.0 d (sym old.1 ∙ at) in
      (x.0, x.1, sym old.2 ∙ ap bare_of one)

  stands : (i : ℕ) → i < length d.edges → (x : ListedLists) × (slice_get news p ≡ Some x) × (e : Edge) × (slice_get x.edges i ≡ Some e)
  stands i low =
      let x = long_there in
      let e = slice_get_below x.0.edges i (omega (arith, low, x.2)) in
      (x.0, x.1, e.0, e.1)

module _ (ds : List ListedLists) (listed : AllListed ds) (p i : ℕ) (d : ListedLists) (e : Edge) (at : slice_get ds p ≡ Some d) (at_edge : slice_get d.edges i ≡ Some e) where
  edge_stands : IsEdgeAt ds (place_at p i)
  edge_stands = edge_at ds listed e.slot (place_at p i) (record { edge = e; there = edge_is ds p i d e at at_edge; slot_is = refl })

  slot_low : e.slot < SLOT_LIMIT
  slot_low =
      let one = listed p d at in
      slots_within d.edges d.groups one.aims one.each i e at_edge

module _ (olds news : List ListedLists) (same : map bare_of news ≡ map bare_of olds) (listed : AllListed olds) (p i : ℕ) where
  -- the edge at a place below how many there were
  pub edge_below : (d : ListedLists) → slice_get olds p ≡ Some d → i < length d.edges
      → (x : ListedLists) × (slice_get news p ≡ Some x) × (e : Edge) × (slice_get x.edges i ≡ Some e) × IsEdgeAt news (place_at p i)
  edge_below d at low =
      let s = stands olds news same p d at i low in
      (s.0, s.1, s.2, s.3, edge_stands news (listed_bare olds news same listed) p i s.0 s.2 s.1 s.3)

  pub slot_below : (d : ListedLists) (e : Edge) → slice_get news p ≡ Some d → slice_get d.edges i ≡ Some e → e.slot < SLOT_LIMIT
  slot_below d e at at_edge = slot_low news (listed_bare olds news same listed) p i d e at at_edge

pub without_long : (slot : ℕ) (prev next : Option EdgeAt) (first : List (Option EdgeAt)) → length (first_without slot prev next first) ≡ length first
without_long slot None next first = length-set first slot next
without_long slot (Some at) next first = refl
