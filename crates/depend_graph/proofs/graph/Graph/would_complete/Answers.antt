use Rattle.std.proofs.Common.{◌≡◌, ℕ, ◌-◌, false, List, [], nat_eq, sym, ap, subst, ◌∙◌}
use Rattle.std.specs.List.{count_by, All}
use Rattle.std.proofs.lemmas.Result.{IfOk-weaker}
use Rattle.indexmap.specs.IndexMap.{get}
use Rattle.farm_types.specs.Sums.{total_at}
use Rattle.depend_edges.specs.Listed.{ListedLists}
use Rattle.depend_graph.specs.Graph.{GraphLists, HasMet, groups_left, is_flagged, unmet_of, with_all_done}
use Rattle.depend_graph.specs.Inside.{watches}
use Rattle.depend_graph.specs.Meeting.{met_lists}
use Rattle.depend_graph.specs.Trial.{IsTried, is_at, marks_told, nothing_laid, nothing_met}
use Rattle.depend_graph.specs.Tries.{Tries}
use Rattle.depend_graph.proofs.TrialLemmas.Following.{start_tried, tried_met, tried_unmet}
use Rattle.depend_graph.proofs.TrialLemmas.NothingOpens.{none_met, none_unmet}
use Rattle.depend_graph.proofs.GoingLemmas.Thinned.{there_done, there_left, there_meets, there_unmet}
use Rattle.depend_graph.proofs.graph.Graph.would_complete.Goals as goal

pub returns-then-self-eq0 : goal.returns-then-self-eq0
returns-then-self-eq0 c =
    let ds = c.self.inside.tally.depends.items in
    let g = c.args.self.now in
    let last = (with_all_done g c.args.done.now).depends in
    let left : groups_left g.depends ≡ 0 =
    ap (λ (h : GraphLists). groups_left h.depends) (sym c.self.view_is)
    ∙ (sym (there_left ds c.self.invariant.tally.depends) ∙ (sym c.self.invariant.tally.sums.left_kept ∙ c.if-self-eq0.true)) in
    record { opened = c.new.ensures ∙ none_unmet g.depends last left; marks = subst (HasMet g.depends last) (sym c.none.ensures) (none_met g.depends last left) }

pub returns : goal.returns
returns c =
    let a = c.self.inside in
    let ds = a.tally.depends.items in
    let kept = c.self.invariant in
    let g = c.args.self.now in
    let slots = c.args.done.now in
    let trial = c.in_ok-trial.trial in
    let read = c.as_slice-2.ensures.value in
    let all : GraphLists = record { done = a.done.items; depends = watches ds } in
    let last = with_all_done all slots in
    let tried : IsTried c.as_slice-2.result.now a.tally.unmet.items nothing_laid [] nothing_met all =
    subst (λ (xs : List ListedLists). IsTried xs a.tally.unmet.items nothing_laid [] nothing_met all) (sym read) (start_tried ds a.tally.unmet.items a.tally.left a.done.items kept.tally.depends kept.tally.sums kept.counts kept.done_counted) in
    let undone : All (λ slot. is_flagged a.done.items slot ≡ false) slots = subst (λ (h : GraphLists). All (λ slot. is_flagged h.done slot ≡ false) slots) (sym c.self.view_is) c.requires.undone in
    let then : Tries ds a.tally.unmet.items trial last =
    subst (λ (xs : List ListedLists). Tries xs a.tally.unmet.items trial last) read (c.in_ok-trial.ensures a.tally.unmet.items all undone tried) in
    let was : (slot : ℕ) → unmet_of g.depends slot ≡ total_at c.as_slice-3.result.now slot =
    λ slot.
    ap (λ (h : GraphLists). unmet_of h.depends slot) (sym c.self.view_is)
    ∙ (sym (there_unmet ds kept.tally.depends slot) ∙ (sym (kept.tally.sums.unmet_kept slot) ∙ ap (λ (ns : List ℕ). total_at ns slot) (sym c.as_slice-3.ensures.value)))
    in
    let left : (slot : ℕ) → unmet_of (with_all_done g slots).depends slot ≡ total_at c.as_slice-3.result.now slot - count_by (is_at slot) trial.freed.items =
    λ slot.
    ap (λ (h : GraphLists). unmet_of (with_all_done h slots).depends slot) (sym c.self.view_is)
    ∙ (there_done ds kept.tally.depends a.done.items slots slot
    ∙ (tried_unmet ds a.tally.unmet.items (get nat_eq trial.lacking) trial.freed.items (met_lists trial.meeting) last then slot
    ∙ ap (λ (ns : List ℕ). total_at ns slot - count_by (is_at slot) trial.freed.items) (sym c.as_slice-3.ensures.value)))
    in
    let met : HasMet g.depends (with_all_done g slots).depends (marks_told (met_lists trial.meeting)) =
    subst (λ (h : GraphLists). HasMet h.depends (with_all_done h slots).depends (marks_told (met_lists trial.meeting))) c.self.view_is
    (there_meets ds kept.tally.depends a.done.items slots (marks_told (met_lists trial.meeting))
    (tried_met ds a.tally.unmet.items (get nat_eq trial.lacking) trial.freed.items (met_lists trial.meeting) last then)) in
    record {
      opened = IfOk-weaker c.completion.result _ _ (λ completion opens. opens g.depends (with_all_done g slots).depends was left) c.completion.ensures.opened;
      marks = IfOk-weaker c.completion.result _ _ (λ completion told. subst (HasMet g.depends (with_all_done g slots).depends) (sym told) met) c.completion.ensures.marks;
    }
