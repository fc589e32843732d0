use Rattle.std.proofs.Common.{◌≡◌, ℕ, ◌||◌, ◌∙◌, Bool, List, length, false, ap, arith}
use Rattle.std.proofs.lemmas.List.{length-replicate}
use Rattle.std.specs.Bool.{◌==◌}
use Rattle.std.specs.List.{find, list_any}
use Rattle.farm_types.specs.declared.limits.TheConstants.{SLOT_LIMIT}
use Rattle.depend_graph.specs.Graph.{is_flagged}
use Rattle.farm_depends.specs.Follow.{is_listed}
use Rattle.farm_depends.proofs.Walks.{find_below, none_flagged}
use Rattle.farm_depends.proofs.new_depends.checks.own_waiter.Goals as goal

pub returns : goal.returns
returns c =
    let targets = c.args.group.now.targets in
    let waiters = c.args.group.now.waiters in
    let marks = c.in_ok-marks.marks.items in
    let long : length marks ≡ SLOT_LIMIT = ap length c.in_ok-marks.ensures ∙ length-replicate {A = Bool} SLOT_LIMIT false in
    c.first_marked.ensures ∙ ap (λ (ms : List Bool). find (is_flagged ms) c.as_slice-waiters.result.now) c.as_slice.ensures.value
    ∙ ap (find (is_flagged c.mark.new.marks.items)) c.as_slice-waiters.ensures
    ∙ find_below (is_flagged c.mark.new.marks.items) (λ (w : ℕ). list_any (λ (t : ℕ). t == w) targets) waiters c.requires.waiters_within
    (λ w below. c.mark.ensures.marks w (omega (arith, long, below))
    ∙ (ap (λ (b : Bool). b || is_listed c.as_slice-targets.result.now w) (ap (λ (ms : List Bool). is_flagged ms w) c.in_ok-marks.ensures ∙ none_flagged SLOT_LIMIT w)
    ∙ ap (λ (ns : List ℕ). is_listed ns w) c.as_slice-targets.ensures))
