-- The edges of the depends, as lists and as they stand at their depends.
use Rattle.std.proofs.Common.{◌≡◌, ℕ, List, length, Some, sym, ap, ◌∙◌, option_map}
use Rattle.std.specs.List.{slice_get}
use Rattle.std.proofs.lemmas.List.{length-map}
use Rattle.std.proofs.lemmas.Option.{slice_get-map}
use Rattle.farm_types.proofs.Passes.{option_map-from}
use Rattle.depend_edges.specs.Listed.{ListedLists}
use Rattle.depend_edges.specs.Ways.{IsEdge, edge_lists, edges_in}
use Rattle.depend_edges.specs.declared.links.Edge.{Edge}

pub edges_listed : (ds : List ListedLists) (p : ℕ) (d : ListedLists) → slice_get ds p ≡ Some d → slice_get (edge_lists ds) p ≡ Some d.edges
edges_listed ds p d at = slice_get-map edges_in ds p ∙ ap (option_map edges_in) at

pub edge_is : (ds : List ListedLists) (p i : ℕ) (d : ListedLists) (e : Edge) → slice_get ds p ≡ Some d → slice_get d.edges i ≡ Some e → IsEdge (edge_lists ds) p i e
edge_is ds p i d e at there = record { edges = d.edges; listed = edges_listed ds p d at; there = there }

pub edge_found : (ds : List ListedLists) (p i : ℕ) (e : Edge) → IsEdge (edge_lists ds) p i e → (d : ListedLists) × (slice_get ds p ≡ Some d) × (slice_get d.edges i ≡ Some e)
edge_found ds p i e there =
    let x = option_map-from edges_in (slice_get ds p) there.edges (sym (slice_get-map edges_in ds p) ∙ there.listed) in
    (x.0, x.1, ap (λ (es : List Edge). slice_get es i) x.2 ∙ there.there)

pub edge_lists_long : (ds : List ListedLists) → length (edge_lists ds) ≡ length ds
edge_lists_long ds = length-map ds edges_in
