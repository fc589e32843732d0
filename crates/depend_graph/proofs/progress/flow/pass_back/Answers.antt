use Rattle.std.proofs.Common.{List, sym, ◌∙◌, ap}
use Rattle.std.specs.List.{slice_get}
use Rattle.std.proofs.lemmas.Option.{same_Some}
use Rattle.farm_types.specs.Farm.{changed_at}
use Rattle.depend_edges.specs.Counts.{raised}
use Rattle.depend_edges.specs.Listed.{ListedLists}
use Rattle.depend_edges.specs.declared.links.Edge.{Edge}
use Rattle.depend_graph.proofs.progress.flow.pass_back.Goals as goal

pub raise_in-requires : goal.raise_in-requires
raise_in-requires c = λ d n at at_count.
    let read = c.edge_in-edge.ensures d (ap (λ (ds : List ListedLists). slice_get ds c.args.at.depend) c.as_slice.ensures.value ∙ at) in
    c.requires.room d c.edge_in-edge.result at read n at_count

pub returns-clause-depends : goal.returns-clause-depends
returns-clause-depends c = λ d e at at_edge.
    let read = c.edge_in-edge.ensures d (ap (λ (ds : List ListedLists). slice_get ds c.args.at.depend) c.as_slice.ensures.value ∙ at) in
    c.raise_in.ensures.depends ∙ ap (λ (x : Edge). changed_at c.args.depends.now.items c.args.at.depend (raised x.group)) (same_Some c.edge_in-edge.result e (sym read ∙ at_edge))
