use Rattle.std.proofs.Common.{◌≡◌, ◌∙◌, length, nat_eq, refl, sym, subst}
use Rattle.std.specs.List.{slice_get}
use Rattle.std.proofs.lemmas.Option.{same_Some, slice_get_read, slice_get_within}
use Rattle.indexmap.specs.IndexMap.{get}
use Rattle.depend_edges.specs.Counts.{becomes_due}
use Rattle.depend_edges.specs.Listed.{ListedLists}
use Rattle.depend_edges.specs.declared.links.Edge.{Edge}
use Rattle.depend_graph.specs.Meeting.{met_lists}
use Rattle.depend_graph.specs.Trial.{IsHit, IsMetWhere, count_or, key_of}
use Rattle.depend_graph.proofs.trials.trying.try_edge.Goals as goal

pub returns-clause-hit : goal.returns-clause-hit
returns-clause-hit c = λ d e at at_edge g n at_group at_count.
    let depends = c.args.depends.now in
    let place = c.args.at.depend in
    let read = c.edge_in-edge.result in
    let same : e ≡ read = same_Some e read (sym at_edge ∙ c.edge_in-edge.ensures d at) in
    let there = slice_get_read depends (length depends) place c.index-depends-at.result refl (slice_get_within depends place d at) c.index-depends-at.is in
    let listed : d ≡ c.index-depends-at.result = same_Some d c.index-depends-at.result (sym at ∙ there) in
    subst (λ (x : Edge). IsHit (key_of place x.group) g n (get nat_eq c.args.trial.now.lacking) (get nat_eq c.hit.new.trial.lacking) c.args.trial.now.freed.items c.hit.new.trial.freed.items) (sym same)
    (c.in_ok-hit.ensures.hit g n ((λ i. slice_get (sym listed i).groups (sym same i).group) ∙ at_group) ((λ i. slice_get (sym listed i).counts (sym same i).group) ∙ at_count))

pub returns-clause-met : goal.returns-clause-met
returns-clause-met c = λ d e at at_edge g n at_group at_count.
    let depends = c.args.depends.now in
    let place = c.args.at.depend in
    let read = c.edge_in-edge.result in
    let same : e ≡ read = same_Some e read (sym at_edge ∙ c.edge_in-edge.ensures d at) in
    let there = slice_get_read depends (length depends) place c.index-depends-at.result refl (slice_get_within depends place d at) c.index-depends-at.is in
    let listed : d ≡ c.index-depends-at.result = same_Some d c.index-depends-at.result (sym at ∙ there) in
    let m = met_lists c.args.trial.now.meeting in
    let l = met_lists c.hit.new.trial.meeting in
    let met = c.in_ok-hit.ensures.met g n ((λ i. slice_get (sym listed i).groups (sym same i).group) ∙ at_group) ((λ i. slice_get (sym listed i).counts (sym same i).group) ∙ at_count) in
    subst (λ (y : ListedLists). IsMetWhere (becomes_due g n (count_or n.undone (get nat_eq c.args.trial.now.lacking (key_of place e.group)))) place y g m l) (sym listed)
    (subst (λ (x : Edge). IsMetWhere (becomes_due g n (count_or n.undone (get nat_eq c.args.trial.now.lacking (key_of place x.group)))) place c.index-depends-at.result g m l) (sym same) met)
