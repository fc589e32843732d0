use Rattle.std.proofs.Common.{◌++◌, ◌∷◌, [], map, ◌∙◌}
use Rattle.depend_graph.specs.Graph.{watched}
use Rattle.depend_graph.proofs.ComingLemmas.AddedDepend.{marked_none}
use Rattle.depend_graph.proofs.graph.Graph.add.Goals as goal

pub returns : goal.returns
returns c =
    let g = c.args.self.now in
    let gs = c.args.groups in
    c.add_marked.ensures ∙ λ i. record g { depends = g.depends ++ record { depend = c.args.depend; groups = marked_none (map (watched g.done) gs) i } ∷ [] }
