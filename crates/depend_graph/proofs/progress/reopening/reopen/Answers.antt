use Rattle.std.proofs.Common.{Option, refl, subst, ◌∙◌}
use Rattle.depend_edges.specs.declared.links.EdgeAt.{EdgeAt}
use Rattle.depend_graph.specs.Passing.{IsReopening}
use Rattle.depend_graph.proofs.ProgressLemmas.Reopened.{raised_fits, reopen_falls, reopened_counted, reopened_depends, standing, start_reopening, step_reopened}
use Rattle.depend_graph.proofs.ProgressLemmas.Still.{edge_lists-still, there_still}
use Rattle.depend_graph.proofs.progress.reopening.reopen.Goals as goal

pub loop-next-init : goal.loop-next-init
loop-next-init c =
    record {
      reopening = start_reopening c.args.done.now.items c.args.slot c.args.depends.now.items c.args.first c.requires.first c.requires.done c.requires.depends.listed c.requires.counts;
      capacity = refl;
    }

pub pass_back-next-requires-clause-there : goal.pass_back-next-requires-clause-there
pass_back-next-requires-clause-there c = standing c.args.done.now.items c.args.slot c.args.depends.now.items c.loop-next.depends.items c.loop-next.next c.in-Some.at c.loop-next.invariant.reopening c.in-Some.is

pub pass_back-next-requires-clause-room : goal.pass_back-next-requires-clause-room
pass_back-next-requires-clause-room c = λ d e at at_edge n at_count.
    raised_fits c.args.done.now.items c.args.slot c.args.depends.now.items c.loop-next.depends.items c.loop-next.next c.in-Some.at c.loop-next.invariant.reopening c.in-Some.is c.requires.next d e at at_edge n at_count

pub loop-next-smaller : goal.loop-next-smaller
loop-next-smaller c =
    reopen_falls c.args.done.now.items c.args.slot c.args.depends.now.items c.loop-next.depends.items c.loop-next.next c.in-Some.at c.loop-next.invariant.reopening c.in-Some.is c.requires.next
    c.pass_back-next.result c.pass_back-next.ensures.next c.requires.depends.listed

pub loop-next-preserved : goal.loop-next-preserved
loop-next-preserved c =
    record {
      reopening =
          step_reopened c.args.done.now.items c.args.slot c.args.depends.now.items c.loop-next.depends.items c.loop-next.next c.in-Some.at c.loop-next.invariant.reopening c.in-Some.is c.requires.next
          c.pass_back-next.result c.pass_back-next.ensures.next _ c.pass_back-next.ensures.depends;
      capacity = c.pass_back-next.ensures.capacity ∙ c.loop-next.invariant.capacity;
    }

pub returns-clause-edges : goal.returns-clause-edges
returns-clause-edges c = edge_lists-still c.args.depends.now.items c.loop-next.depends.items c.loop-next.invariant.reopening.structure

pub returns-clause-watches : goal.returns-clause-watches
returns-clause-watches c = c.loop-next.invariant.reopening.watches_same

pub returns-clause-depends : goal.returns-clause-depends
returns-clause-depends c =
    reopened_depends c.args.done.now.items c.args.slot c.args.depends.now.items c.loop-next.depends.items
    (subst (λ (o : Option EdgeAt). IsReopening c.args.done.now.items c.args.slot c.args.depends.now.items o c.loop-next.depends.items) c.in_default.is c.loop-next.invariant.reopening) c.requires.depends

pub returns-clause-counts : goal.returns-clause-counts
returns-clause-counts c =
    reopened_counted c.args.done.now.items c.args.slot c.args.depends.now.items c.loop-next.depends.items
    (subst (λ (o : Option EdgeAt). IsReopening c.args.done.now.items c.args.slot c.args.depends.now.items o c.loop-next.depends.items) c.in_default.is c.loop-next.invariant.reopening) c.requires.slot

pub returns-clause-there : goal.returns-clause-there
returns-clause-there c = there_still c.args.depends.now.items c.loop-next.depends.items c.loop-next.invariant.reopening.structure
