use Rattle.std.proofs.Common.{◌≡◌, true, List, Option, sym, ap, subst, ◌∙◌}
use Rattle.std.specs.List.{slice_get, slice_set}
use Rattle.depend_edges.specs.declared.links.EdgeAt.{EdgeAt}
use Rattle.depend_graph.specs.Graph.{GraphLists, HasOpened, Watch, completed_in, with_done}
use Rattle.depend_graph.specs.Inside.{there_of, watches}
use Rattle.depend_graph.proofs.GoingLemmas.Thinned.{mapped_there, opened_there, same_there}
use Rattle.depend_graph.proofs.ProgressLemmas.Unchanged.{done_there, opened_none}
use Rattle.depend_graph.proofs.graph.Graph.set_done.Goals as goal

pub returns-then-not-is_change-clause-graph : goal.returns-then-not-is_change-clause-graph
returns-then-not-is_change-clause-graph c =
    let a = c.self.inside in
    let same : slice_set a.done.items c.args.slot c.args.done ≡ a.done.items =
    (λ i. slice_set (sym c.as_slice.ensures.value i) c.args.slot c.args.done) ∙ (c.is_change.ensures.stays c.if-not-is_change.true ∙ c.as_slice.ensures.value) in
    sym c.self.view_is
    ∙ (done_there a.done.items c.args.slot a.tally.depends.items c.self.invariant.tally.depends.listed c.self.invariant.counts c.args.done same
    ∙ ap (λ (g : GraphLists). with_done g c.args.slot c.args.done) c.self.view_is)

pub returns-then-not-is_change-clause-opened : goal.returns-then-not-is_change-clause-opened
returns-then-not-is_change-clause-opened c = opened_none c.args.self.now.depends c.clear.new.self c.clear.ensures

pub reopen-requires-clause-first : goal.reopen-requires-clause-first
reopen-requires-clause-first c =
    c.self.invariant.ways.first_kept c.args.slot c.first_of-first.result (ap (λ (os : List (Option EdgeAt)). slice_get os c.args.slot) (sym c.as_slice-2.ensures.value) ∙ c.first_of-first.ensures)

pub returns-then-not-done-clause-graph : goal.returns-then-not-done-clause-graph
returns-then-not-done-clause-graph c =
    (λ i. record { done = c.reopen.ensures.done i; depends = same_there c.self.inside.tally.depends.items c.reopen.new.depends.items c.reopen.ensures.there c.reopen.ensures.watches i })
    ∙ λ i. with_done (c.self.view_is i) c.args.slot (sym c.if-not-done.true i)

pub returns-then-not-done-clause-opened : goal.returns-then-not-done-clause-opened
returns-then-not-done-clause-opened c =
    subst (λ (ws : List Watch). HasOpened c.args.self.now.depends ws c.clear.new.self)
    (ap (λ (g : GraphLists). g.depends) (sym c.self.view_is) ∙ sym (same_there c.self.inside.tally.depends.items c.reopen.new.depends.items c.reopen.ensures.there c.reopen.ensures.watches))
    (opened_none c.args.self.now.depends c.clear.new.self c.clear.ensures)

pub complete-requires-clause-first : goal.complete-requires-clause-first
complete-requires-clause-first c =
    c.self.invariant.ways.first_kept c.args.slot c.first_of-first.result (ap (λ (os : List (Option EdgeAt)). slice_get os c.args.slot) (sym c.as_slice-2.ensures.value) ∙ c.first_of-first.ensures)

pub returns-clause-graph : goal.returns-clause-graph
returns-clause-graph c =
    let flags = slice_set c.self.inside.done.items c.args.slot true in
    (λ i. record { done = c.complete.ensures.done i; depends = mapped_there c.self.inside.tally.depends.items c.complete.new.self.depends.items c.complete.ensures.there (completed_in flags c.args.slot) c.complete.ensures.watches i })
    ∙ λ i. with_done (c.self.view_is i) c.args.slot (sym c.if-not-done.false i)

pub returns-clause-opened : goal.returns-clause-opened
returns-clause-opened c =
    let ds = c.self.inside.tally.depends.items in
    let news = c.complete.new.self.depends.items in
    subst (λ (ws : List Watch). HasOpened ws (watches (there_of news)) c.complete.new.opened) (ap (λ (g : GraphLists). g.depends) c.self.view_is)
    (opened_there ds news c.self.invariant.tally.depends c.complete.ensures.kept.depends c.complete.ensures.there c.complete.new.opened c.complete.ensures.opened)
