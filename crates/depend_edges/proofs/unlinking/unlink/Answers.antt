use Rattle.std.proofs.Common.{◌≡◌, ℕ, List, Option, length, map, refl, sym, ap, subst, ◌∙◌, arith}
use Rattle.std.specs.List.{slice_get}
use Rattle.farm_types.proofs.Lists.{slice_get_below}
use Rattle.depend_edges.specs.Bare.{bare_of}
use Rattle.depend_edges.specs.Listed.{ListedLists}
use Rattle.depend_edges.specs.Ways.{KeepsWaysOf, edge_lists, is_outside}
use Rattle.depend_edges.specs.declared.links.EdgeAt.{EdgeAt}
use Rattle.depend_edges.proofs.EdgeLists.{edge_is}
use Rattle.depend_edges.proofs.LinkSteps.{unlinked_bare, unlinked_ways}
use Rattle.depend_edges.proofs.Standing.{edge_below, slot_below, without_long}
use Rattle.depend_edges.proofs.Wanted.{begin_outside}
use Rattle.depend_edges.proofs.unlinking.unlink.Goals as goal

pub edge_count_at-count-requires-clause-within : goal.edge_count_at-count-requires-clause-within
edge_count_at-count-requires-clause-within c = λ d at. (c.requires.listed c.args.place d (ap (λ (ds : List ListedLists). slice_get ds c.args.place) (sym c.as_slice.ensures.value) ∙ at)).edges_within

pub loop-edge-init : goal.loop-edge-init
loop-edge-init c =
    record {
      bare = refl;
      first = c.requires.first;
      ways = begin_outside c.args.first.now.items (edge_lists c.args.depends.now.items) c.args.place c.requires.ways;
      capacity = refl;
    }

pub unlink_one-requires-clause-there : goal.unlink_one-requires-clause-there
unlink_one-requires-clause-there c =
    let olds = c.args.depends.now.items in
    let place = c.args.place in
    let d = slice_get_below olds place c.requires.place in
    let count : c.edge_count_at-count.result ≡ length d.0.edges = c.edge_count_at-count.ensures d.0 (ap (λ (ds : List ListedLists). slice_get ds place) c.as_slice.ensures.value ∙ d.1) in
    (edge_below olds c.loop-edge.depends.items c.loop-edge.invariant.bare c.requires.listed place c.loop-edge.edge d.0 d.1 (omega (arith, c.loop-edge-test.true, count))).4

pub unlink_one-requires-clause-slot : goal.unlink_one-requires-clause-slot
unlink_one-requires-clause-slot c = λ d e at at_e.
    omega (
      arith,
      slot_below c.args.depends.now.items c.loop-edge.depends.items c.loop-edge.invariant.bare c.requires.listed c.args.place c.loop-edge.edge d e at at_e,
      c.loop-edge.invariant.first,
    )

pub loop-edge-preserved : goal.loop-edge-preserved
loop-edge-preserved c =
    let olds = c.args.depends.now.items in
    let mids = c.loop-edge.depends.items in
    let place = c.args.place in
    let d = slice_get_below olds place c.requires.place in
    let count : c.edge_count_at-count.result ≡ length d.0.edges = c.edge_count_at-count.ensures d.0 (ap (λ (ds : List ListedLists). slice_get ds place) c.as_slice.ensures.value ∙ d.1) in
    let s = edge_below olds mids c.loop-edge.invariant.bare c.requires.listed place c.loop-edge.edge d.0 d.1 (omega (arith, c.loop-edge-test.true, count)) in
    let first_is = c.unlink_one.ensures.first s.0 s.2 s.1 s.3 in
    let depends_are = c.unlink_one.ensures.depends s.0 s.2 s.1 s.3 in
    record {
      bare = ap (map bare_of) depends_are ∙ (unlinked_bare s.2 mids ∙ c.loop-edge.invariant.bare);
      first = ap (λ (fs : List (Option EdgeAt)). length fs) first_is ∙ (without_long s.2.slot s.2.prev s.2.next c.loop-edge.first.items ∙ c.loop-edge.invariant.first);
      ways =
          unlinked_ways place c.loop-edge.edge s.2 c.loop-edge.first.items c.unlink_one.new.first.items mids c.unlink_one.new.depends.items (edge_is mids place c.loop-edge.edge s.0 s.2 s.1 s.3) first_is depends_are
          c.loop-edge.invariant.ways;
      capacity = c.unlink_one.ensures.capacity ∙ c.loop-edge.invariant.capacity;
    }

pub returns-clause-ways : goal.returns-clause-ways
returns-clause-ways c = λ d at.
    let count : c.edge_count_at-count.result ≡ length d.edges = c.edge_count_at-count.ensures d (ap (λ (ds : List ListedLists). slice_get ds c.args.place) c.as_slice.ensures.value ∙ at) in
    let ended : c.loop-edge.edge ≡ length d.edges = omega (arith, c.loop-edge-test.false, c.loop-edge.auto.edge-end, count) in
    subst (λ (n : ℕ). KeepsWaysOf (is_outside c.args.place n) c.loop-edge.first.items (edge_lists c.loop-edge.depends.items)) ended c.loop-edge.invariant.ways
