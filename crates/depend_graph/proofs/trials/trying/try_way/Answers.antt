use Rattle.std.proofs.Common.{◌<◌, ℕ, Option, Some, nat_eq, sym, ◌∙◌, subst, arith}
use Rattle.indexmap.specs.IndexMap.{get}
use Rattle.depend_edges.specs.Ways.{IsEdgeOf, edge_lists}
use Rattle.depend_edges.specs.declared.links.EdgeAt.{EdgeAt}
use Rattle.depend_edges.proofs.EdgeLists.{edge_found}
use Rattle.depend_edges.proofs.Standing.{edge_at}
use Rattle.depend_graph.specs.Meeting.{met_lists}
use Rattle.depend_graph.specs.Trial.{IsFollowing}
use Rattle.depend_graph.proofs.TrialLemmas.Following.{end_following, start_following, step_following}
use Rattle.depend_graph.proofs.ProgressLemmas.Steps.{steps_left}
use Rattle.depend_graph.proofs.ProgressLemmas.Walked.{way_falls}
use Rattle.depend_graph.proofs.trials.trying.try_way.Goals as goal

pub loop-next-init : goal.loop-next-init
loop-next-init c =
    record {
      on_way = c.requires.first.one;
      following = λ unmet g undone t. start_following c.args.depends.now unmet (get nat_eq c.args.trial.now.lacking) c.args.trial.now.freed.items (met_lists c.args.trial.now.meeting) g c.args.slot c.args.first t undone c.requires.first;
    }

pub try_edge-requires : goal.try_edge-requires
try_edge-requires c = record { there = edge_at c.args.depends.now c.requires.depends.listed c.args.slot c.in-Some.at (c.loop-next.invariant.on_way c.in-Some.at c.in-Some.is) }

pub loop-next-smaller : goal.loop-next-smaller
loop-next-smaller c =
    let depends = c.args.depends.now in
    let at = c.in-Some.at in
    let on = c.loop-next.invariant.on_way at c.in-Some.is in
    let d = edge_found depends at.depend at.edge on.edge on.there in
    let falls = way_falls depends at on.edge (c.requires.next at.depend at.edge on.edge on.there) c.requires.depends.listed in
    subst (λ (o : Option EdgeAt). steps_left c.in_ok-next.next < steps_left o) (sym c.in-Some.is)
    (subst (λ (o : Option EdgeAt). steps_left o < steps_left (Some at)) (sym (c.in_ok-next.ensures.next d.0 on.edge d.1 d.2)) falls)

pub loop-next-preserved : goal.loop-next-preserved
loop-next-preserved c =
    let depends = c.args.depends.now in
    let at = c.in-Some.at in
    let on = c.loop-next.invariant.on_way at c.in-Some.is in
    let d = edge_found depends at.depend at.edge on.edge on.there in
    record {
      on_way = λ a is.
          subst (λ (s : ℕ). IsEdgeOf (edge_lists depends) s a) on.slot_is
          ((c.requires.next at.depend at.edge on.edge on.there).one a (sym (c.in_ok-next.ensures.next d.0 on.edge d.1 d.2) ∙ is));
      following = λ unmet g undone t.
          step_following depends unmet (get nat_eq c.loop-next.trial.lacking) (get nat_eq c.try_edge.new.trial.lacking) c.loop-next.trial.freed.items c.try_edge.new.trial.freed.items (met_lists c.loop-next.trial.meeting) (met_lists c.try_edge.new.trial.meeting) g.done c.args.slot t.news t.structure c.loop-next.next at
          (c.loop-next.invariant.following unmet g undone t) c.in-Some.is (omega (arith, c.requires.slot, t.done_counted)) c.requires.depends.listed c.requires.next c.in_ok-next.next c.in_ok-next.ensures.next
          c.in_ok-next.ensures.hit c.in_ok-next.ensures.met;
    }

pub returns : goal.returns
returns c = λ unmet g undone t.
    let depends = c.args.depends.now in
    let over = get nat_eq c.loop-next.trial.lacking in
    let freed = c.loop-next.trial.freed.items in
    let m = met_lists c.loop-next.trial.meeting in
    end_following depends unmet (get nat_eq c.args.trial.now.lacking) over c.args.trial.now.freed.items freed (met_lists c.args.trial.now.meeting) m g c.args.slot t
    (subst (λ (o : Option EdgeAt). IsFollowing depends unmet g.done c.args.slot t.news o over freed m) c.in_default.is (c.loop-next.invariant.following unmet g undone t))
    (omega (arith, c.requires.slot, t.done_counted))
