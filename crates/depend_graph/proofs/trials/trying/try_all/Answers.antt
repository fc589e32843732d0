use Rattle.std.proofs.Common.{◌≡◌, ◌∙◌, ◌+◌, ◌∷◌, [], ℕ, false, List, drop, nat_eq, refl, sym, ap, subst, arith}
use Rattle.std.proofs.lemmas.List.{drop_all, drop_more}
use Rattle.std.proofs.lemmas.List.Elements.{recursion_from_All}
use Rattle.indexmap.specs.IndexMap.{get}
use Rattle.depend_graph.specs.Graph.{is_flagged, with_all_done}
use Rattle.depend_graph.specs.Meeting.{met_lists}
use Rattle.depend_graph.specs.Trial.{IsUnderWay, nothing_laid, nothing_met}
use Rattle.depend_graph.proofs.TrialLemmas.Following.{end_under_way, step_under_way, tried_alike}
use Rattle.depend_graph.proofs.trials.trying.try_all.Goals as goal

pub loop-slot-init : goal.loop-slot-init
loop-slot-init c = λ unmet g undone t.
    let new = c.new-trial.result in
    let nothing = c.new-trial.ensures in
    record {
      graph = g;
      tried =
          tried_alike c.args.depends.now unmet nothing_laid (get nat_eq new.lacking) [] new.freed.items nothing_met (met_lists new.meeting) g nothing.lacking nothing.freed nothing.met t;
      leads = refl;
      undone = recursion_from_All (λ (slot : ℕ). is_flagged g.done slot ≡ false) c.args.done.now undone;
      differ = c.requires.differ;
    }

pub loop-slot-preserved : goal.loop-slot-preserved
loop-slot-preserved c = λ unmet g undone t.
    let l = c.loop-slot in
    let depends = c.args.depends.now in
    let done = c.args.done.now in
    let last = with_all_done g done in
    let slot = c.slot-item.result in
    let one : drop l.slot-index done ≡ slot ∷ drop (l.slot-index + 1) done = drop_more done l.slot-index slot (omega arith) ∙ ap (λ (s : ℕ). s ∷ drop (l.slot-index + 1) done) (sym c.slot-item.is) in
    step_under_way depends unmet (get nat_eq l.trial.lacking) (get nat_eq c.try_done.new.trial.lacking) l.trial.freed.items c.try_done.new.trial.freed.items (met_lists l.trial.meeting) (met_lists c.try_done.new.trial.meeting) slot
    (drop (l.slot-index + 1) done) last
    (subst (λ (ss : List ℕ). IsUnderWay depends unmet (get nat_eq l.trial.lacking) l.trial.freed.items (met_lists l.trial.meeting) ss last) one (l.invariant unmet g undone t))
    (λ h undone_then tried. c.in_ok-try_done.ensures unmet h undone_then tried)

pub returns : goal.returns
returns c = λ unmet g undone t.
    let l = c.loop-slot in
    let depends = c.args.depends.now in
    let done = c.args.done.now in
    let last = with_all_done g done in
    let none : drop l.slot-index done ≡ [] = drop_all l.slot-index done (omega arith) in
    end_under_way depends unmet (get nat_eq l.trial.lacking) l.trial.freed.items (met_lists l.trial.meeting) last
    (subst (λ (ss : List ℕ). IsUnderWay depends unmet (get nat_eq l.trial.lacking) l.trial.freed.items (met_lists l.trial.meeting) ss last) none (l.invariant unmet g undone t))
