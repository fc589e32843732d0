use Rattle.std.proofs.Common.{◌≡◌, ◌∙◌, ◌||◌, Bool, List, filter, length, false, ap, arith}
use Rattle.std.proofs.lemmas.List.{length-replicate}
use Rattle.farm_types.specs.declared.limits.TheConstants.{SLOT_LIMIT}
use Rattle.farm_types.specs.Groups.{all_slots}
use Rattle.depend_graph.specs.Graph.{is_flagged}
use Rattle.farm_depends.specs.Coming.{all_unmet_by}
use Rattle.farm_depends.specs.Follow.{is_listed}
use Rattle.farm_depends.proofs.Walks.{filter_below, none_flagged}
use Rattle.farm_depends.proofs.new_depends.blocked_own.blocked_own.Goals as goal

pub returns : goal.returns
returns c =
    let slots = all_slots c.args.layers.now in
    let unmet = all_unmet_by c.args.depends.now.graph.done c.args.all.now in
    let long : length c.in_ok-marks.marks.items ≡ SLOT_LIMIT = ap length c.in_ok-marks.ensures ∙ length-replicate {A = Bool} SLOT_LIMIT false in
    c.in_ok-blocked.ensures ∙ (ap (λ (ms : List Bool). filter (is_flagged ms) slots) c.as_slice.ensures.value
    ∙ filter_below (is_flagged c.mark_all.new.marks.items) (is_listed unmet) slots c.requires
    (λ w below. c.mark_all.ensures.marks w (omega (arith, long, below)) ∙ ap (λ (b : Bool). b || is_listed unmet w) (ap (λ (ms : List Bool). is_flagged ms w) c.in_ok-marks.ensures ∙ none_flagged SLOT_LIMIT w)))
