use Rattle.std.proofs.Common.{rules, ◌≡◌, ◌≤◌, length, refl, ◌∙◌, arith}
use Rattle.depend_edges.specs.Ways.{edge_lists}
use Rattle.depend_edges.proofs.Bared.{length_bare, listed_bare}
use Rattle.depend_edges.proofs.EdgeLists.{edge_lists_long}
use Rattle.depend_edges.proofs.Wanted.{all_places, no_ways}
use Rattle.depend_edges.proofs.relinking.link_all.Goals as goal

pub loop-place-init : goal.loop-place-init
loop-place-init c =
    record {
      bare = refl;
      first = c.end_ways.ensures.length ∙ c.requires.first;
      ways = no_ways c.end_ways.new.first.items (edge_lists c.args.depends.now.items) c.end_ways.ensures.none;
      capacity = refl;
    }

pub link-requires-clause-listed : goal.link-requires-clause-listed
link-requires-clause-listed c = listed_bare c.args.depends.now.items c.loop-place.depends.items c.loop-place.invariant.bare c.requires.listed

pub loop-place-preserved : goal.loop-place-preserved
loop-place-preserved c =
    record {
      bare = c.link.ensures.bare ∙ c.loop-place.invariant.bare;
      first = c.link.ensures.first;
      ways = c.link.ensures.ways;
      capacity = c.link.ensures.capacity ∙ c.loop-place.invariant.capacity;
    }

pub returns-clause-ways : goal.returns-clause-ways
returns-clause-ways c =
    let news = c.loop-place.depends.items in
    let long : length news ≡ length c.args.depends.now.items = length_bare c.args.depends.now.items news c.loop-place.invariant.bare in
    let ended : length news ≤ c.loop-place.place = search (rules, arith) in
    all_places c.loop-place.first.items (edge_lists news) c.loop-place.place (omega (arith, edge_lists_long news, ended)) c.loop-place.invariant.ways
