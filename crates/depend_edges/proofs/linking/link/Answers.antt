use Rattle.std.proofs.Common.{◌≡◌, List, Option, length, map, sym, ap, ◌∙◌, arith}
use Rattle.std.specs.List.{slice_get}
use Rattle.std.proofs.Math.ListN.{length-set}
use Rattle.farm_types.proofs.Lists.{slice_get_below}
use Rattle.depend_edges.specs.Bare.{bare_of}
use Rattle.depend_edges.specs.Listed.{ListedLists}
use Rattle.depend_edges.specs.Ways.{edge_lists, place_at}
use Rattle.depend_edges.specs.declared.links.EdgeAt.{EdgeAt}
use Rattle.depend_edges.proofs.EdgeLists.{edge_is, edges_listed}
use Rattle.depend_edges.proofs.LinkSteps.{linked_bare, linked_ways}
use Rattle.depend_edges.proofs.Standing.{edge_below, long_there, slot_below}
use Rattle.depend_edges.proofs.Wanted.{next_place}
use Rattle.depend_edges.proofs.linking.link.Goals as goal

pub edge_count_at-count-requires-clause-within : goal.edge_count_at-count-requires-clause-within
edge_count_at-count-requires-clause-within c = λ d at. (c.requires.listed c.args.place d (ap (λ (ds : List ListedLists). slice_get ds c.args.place) (sym c.as_slice.ensures.value) ∙ at)).edges_within

pub link_one-requires-clause-there : goal.link_one-requires-clause-there
link_one-requires-clause-there c =
    let olds = c.args.depends.now.items in
    let place = c.args.place in
    let d = slice_get_below olds place c.requires.place in
    let count : c.edge_count_at-count.result ≡ length d.0.edges = c.edge_count_at-count.ensures d.0 (ap (λ (ds : List ListedLists). slice_get ds place) c.as_slice.ensures.value ∙ d.1) in
    (edge_below olds c.loop-edge.depends.items c.loop-edge.invariant.bare c.requires.listed place c.loop-edge.edge d.0 d.1 (omega (arith, c.loop-edge-test.true, count))).4

pub link_one-requires-clause-slot : goal.link_one-requires-clause-slot
link_one-requires-clause-slot c = λ d e at at_e.
    omega (
      arith,
      slot_below c.args.depends.now.items c.loop-edge.depends.items c.loop-edge.invariant.bare c.requires.listed c.args.place c.loop-edge.edge d e at at_e,
      c.loop-edge.invariant.first,
    )

pub loop-edge-preserved : goal.loop-edge-preserved
loop-edge-preserved c =
    let olds = c.args.depends.now.items in
    let mids = c.loop-edge.depends.items in
    let place = c.args.place in
    let d = slice_get_below olds place c.requires.place in
    let count : c.edge_count_at-count.result ≡ length d.0.edges = c.edge_count_at-count.ensures d.0 (ap (λ (ds : List ListedLists). slice_get ds place) c.as_slice.ensures.value ∙ d.1) in
    let s = edge_below olds mids c.loop-edge.invariant.bare c.requires.listed place c.loop-edge.edge d.0 d.1 (omega (arith, c.loop-edge-test.true, count)) in
    let links = c.link_one.ensures.linked s.0 s.2 s.1 s.3 in
    record {
      bare = ap (map bare_of) links.depends_are ∙ (linked_bare (place_at place c.loop-edge.edge) links.next mids ∙ c.loop-edge.invariant.bare);
      first = ap (λ (fs : List (Option EdgeAt)). length fs) links.first_is ∙ (length-set c.loop-edge.first.items s.2.slot _ ∙ c.loop-edge.invariant.first);
      ways = linked_ways place c.loop-edge.edge s.2 c.loop-edge.first.items c.link_one.new.first.items mids c.link_one.new.depends.items (edge_is mids place c.loop-edge.edge s.0 s.2 s.1 s.3) links c.loop-edge.invariant.ways;
      capacity = c.link_one.ensures.capacity ∙ c.loop-edge.invariant.capacity;
    }

pub returns-clause-ways : goal.returns-clause-ways
returns-clause-ways c =
    let olds = c.args.depends.now.items in
    let mids = c.loop-edge.depends.items in
    let place = c.args.place in
    let d = slice_get_below olds place c.requires.place in
    let count : c.edge_count_at-count.result ≡ length d.0.edges = c.edge_count_at-count.ensures d.0 (ap (λ (ds : List ListedLists). slice_get ds place) c.as_slice.ensures.value ∙ d.1) in
    let x = long_there olds mids c.loop-edge.invariant.bare place d.0 d.1 in
    next_place c.loop-edge.first.items (edge_lists mids) place x.0.edges (edges_listed mids place x.0 x.1) c.loop-edge.edge (omega (arith, c.loop-edge-test.false, count, x.2)) c.loop-edge.invariant.ways
