use Rattle.std.proofs.Common.{Option, refl, sym, subst, ◌∙◌}
use Rattle.depend_edges.specs.declared.links.EdgeAt.{EdgeAt}
use Rattle.depend_graph.specs.Flow.{flow_in}
use Rattle.depend_graph.specs.Graph.{OpenedLists}
use Rattle.depend_graph.specs.Passing.{IsPassing}
use Rattle.depend_graph.proofs.ProgressLemmas.Finished.{completed_all, end_counted, opened_all, start_passing}
use Rattle.depend_graph.proofs.GoingLemmas.Gone.{few_left}
use Rattle.depend_graph.proofs.ProgressLemmas.Still.{edge_lists-still, there_still}
use Rattle.depend_graph.proofs.Tallied.{tally_kept}
use Rattle.depend_graph.proofs.ProgressLemmas.Walked.{place_there, room_at, step_falls, step_passed}
use Rattle.depend_graph.proofs.tally.Tally.complete.Goals as goal

pub loop-next-init : goal.loop-next-init
loop-next-init c =
    let r = c.requires in
    let olds = c.args.self.now.depends.items in
    record {
      passing =
          subst (λ (o : OpenedLists). IsPassing c.args.done.now.items c.args.slot olds c.args.first (flow_in c.args.self.now o)) (sym r.opened)
          (start_passing c.args.done.now.items c.args.slot olds c.args.first r.first c.args.self.now.unmet.items c.args.self.now.left r.undone r.kept.depends.listed (few_left olds r.kept.depends) r.kept.sums r.counts);
      capacity = refl;
    }

pub pass-next-requires-clause-there : goal.pass-next-requires-clause-there
pass-next-requires-clause-there c = place_there c.args.done.now.items c.args.slot c.args.self.now.depends.items c.loop-next.next c.in-Some.at _ c.loop-next.invariant.passing c.in-Some.is

pub pass-next-requires-clause-room : goal.pass-next-requires-clause-room
pass-next-requires-clause-room c = room_at c.args.self.now.depends.items _ c.loop-next.invariant.passing.flow c.in-Some.at.depend

pub loop-next-smaller : goal.loop-next-smaller
loop-next-smaller c =
    step_falls c.args.done.now.items c.args.slot c.args.self.now.depends.items c.loop-next.next c.in-Some.at _ c.loop-next.invariant.passing c.in-Some.is c.requires.next c.pass-next.result c.pass-next.ensures.next
    c.requires.kept.depends.listed

pub loop-next-preserved : goal.loop-next-preserved
loop-next-preserved c =
    record {
      passing =
          step_passed c.args.done.now.items c.args.slot c.args.self.now.depends.items c.loop-next.next c.in-Some.at _ c.loop-next.invariant.passing c.in-Some.is c.requires.next c.pass-next.result
          c.pass-next.ensures.next c.requires.slot _ c.pass-next.ensures.flow;
      capacity = c.pass-next.ensures.capacity ∙ c.loop-next.invariant.capacity;
    }

pub returns-clause-watches : goal.returns-clause-watches
returns-clause-watches c =
    completed_all c.args.done.now.items c.args.slot c.args.self.now.depends.items _
    (subst (λ (o : Option EdgeAt). IsPassing c.args.done.now.items c.args.slot c.args.self.now.depends.items o (flow_in c.loop-next.self c.loop-next.opened)) c.in_default.is
    c.loop-next.invariant.passing)
    c.requires.slot c.requires.kept.depends.listed

pub returns-clause-edges : goal.returns-clause-edges
returns-clause-edges c = edge_lists-still c.args.self.now.depends.items c.loop-next.self.depends.items c.loop-next.invariant.passing.flow.structure

pub returns-clause-kept : goal.returns-clause-kept
returns-clause-kept c = tally_kept c.args.self.now c.loop-next.self c.loop-next.opened c.requires.kept c.loop-next.invariant.passing.flow c.loop-next.invariant.capacity

pub returns-clause-counts : goal.returns-clause-counts
returns-clause-counts c =
    end_counted c.args.done.now.items c.args.slot c.args.self.now.depends.items _
    (subst (λ (o : Option EdgeAt). IsPassing c.args.done.now.items c.args.slot c.args.self.now.depends.items o (flow_in c.loop-next.self c.loop-next.opened)) c.in_default.is
    c.loop-next.invariant.passing)
    c.requires.slot c.requires.kept.depends.listed

pub returns-clause-opened : goal.returns-clause-opened
returns-clause-opened c =
    opened_all c.args.self.now.depends.items _ c.args.self.now.unmet.items c.args.self.now.left c.sort.new.self c.loop-next.invariant.passing.flow c.requires.kept.sums c.sort.ensures.sorted c.sort.ensures.moved
    c.sort.ensures.satisfied

pub returns-clause-there : goal.returns-clause-there
returns-clause-there c = there_still c.args.self.now.depends.items c.loop-next.self.depends.items c.loop-next.invariant.passing.flow.structure
