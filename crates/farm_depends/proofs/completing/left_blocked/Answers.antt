use Rattle.std.proofs.Common.{◌≡◌, ◌∙◌, ◌||◌, ◌<◌, ℕ, Bool, List, length, eqb, true, false, sym, ap, arith}
use Rattle.std.proofs.lemmas.List.{length-replicate}
use Rattle.farm_types.specs.declared.limits.TheConstants.{SLOT_LIMIT}
use Rattle.depend_graph.specs.Graph.{is_flagged}
use Rattle.farm_depends.specs.Completing.{blocked_among, newly_done, unmarked_among}
use Rattle.farm_depends.specs.Follow.{is_listed}
use Rattle.farm_depends.proofs.CompletionLemmas.LeftBlocked.{eaten_are, none_eaten, some_eaten}
use Rattle.farm_depends.proofs.Walks.{none_flagged}
use Rattle.farm_depends.proofs.completing.left_blocked.Goals as goal

pub returns-then-is_empty : goal.returns-then-is_empty
returns-then-is_empty c =
    let slots = c.args.books.now.farm.slots in
    let done = newly_done c.args.rows.now in
    let eaten = c.in_ok-eaten.ensures ∙ eaten_are slots c.args.rows.now c.requires.stood in
    let none : eqb (length (blocked_among slots done)) 0 ≡ true = ap (λ (ns : List ℕ). eqb (length ns) 0) (sym eaten) ∙ (sym c.is_empty.ensures ∙ c.if-is_empty.true) in
    c.in_ok-blocked.ensures ∙ none_eaten slots done none c.args.slots.now

pub returns : goal.returns
returns c =
    let slots = c.args.books.now.farm.slots in
    let done = newly_done c.args.rows.now in
    let eaten = c.as_slice.ensures ∙ (c.in_ok-eaten.ensures ∙ eaten_are slots c.args.rows.now c.requires.stood) in
    let long : length c.in_ok-marks.marks.items ≡ SLOT_LIMIT = ap length c.in_ok-marks.ensures ∙ length-replicate {A = Bool} SLOT_LIMIT false in
    let marked : (slot : ℕ) → slot < SLOT_LIMIT → is_flagged c.mark.new.marks.items slot ≡ is_listed (blocked_among slots done) slot =
    λ slot below.
    c.mark.ensures.marks slot (omega (arith, long, below))
    ∙ (ap (λ (b : Bool). b || is_listed c.as_slice.result.now slot) (ap (λ (ms : List Bool). is_flagged ms slot) c.in_ok-marks.ensures ∙ none_flagged SLOT_LIMIT slot)
    ∙ ap (λ (ns : List ℕ). is_listed ns slot) eaten) in
    c.in_ok-left.ensures
    ∙ ((λ i. unmarked_among (c.as_slice-2.ensures.value i) ((c.as_slice-3.ensures ∙ c.in_ok-blocked.ensures) i))
    ∙ some_eaten slots done c.requires.few c.mark.new.marks.items marked c.args.slots.now)
