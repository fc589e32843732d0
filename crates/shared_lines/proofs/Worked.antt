-- What a pass that caught up knows of the work before.
use Rattle.std.proofs.Common.{◌≡◌, ◌⊎◌, ◌∙◌, ◌++◌, ◌∷◌, ℕ, Bool, true, false, List, [], append-nil, ap, inl, inr, refl, subst, sym}
use Rattle.std.proofs.lemmas.List.{append_cancel_left, append_cancel_right}
use Rattle.fault_counts.specs.Counts.{incremented_if}
use Rattle.farm_types.specs.declared.entry.Entry.{Entry}
use Rattle.farm_types.specs.Run.{run_of}
use Rattle.booking_rule.specs.declared.view.View.{View}
use Rattle.booking_rule.specs.Kept.{farm_in}
use Rattle.booking_rule.specs.Link.{farm_of}
use Rattle.line_answers.specs.booking_recorder.specs.Passing.{Passing}
use Rattle.line_answers.specs.booking_recorder.specs.Recording.{Recording}
use Rattle.line_answers.specs.booking_recorder.specs.Views.{Entered, Stays}
use Rattle.shared_rounds.specs.shared_bot.specs.Passes.{CaughtUp, IsTaken, Works, farm_before}
use Rattle.shared_rounds.specs.shared_bot.proofs.Caught.{works_entered, works_stays}
use Rattle.shared_lines.specs.Answered.{failures}

-- ---- how often the store failed

counted : (failed : Bool) → incremented_if failed 0 ≡ failures failed
counted true = refl
counted false = refl

pub failed_so : {K : Type 0} (before now : Recording K) (failed : Bool) → IsTaken before → now.faults ≡ incremented_if failed before.faults
    → now.faults ≡ failures failed
failed_so before now failed taken faults = faults ∙ (ap (incremented_if failed) taken.faults ∙ counted failed)

-- ---- what was recorded

-- an entry was recorded, or nothing was: as the journal has it
pub worked_so : {K : Type 0} (before now : Recording K) (e : Entry) (done : List Entry) (n : ℕ) → IsTaken before
    → Entered before.view e now.view ⊎ Stays before.view now.view → now.view.journal ≡ before.view.journal ++ done → now.faults ≡ n → Works before now done n
worked_so before now e done n taken (inl entered) journal faults =
    subst (λ (es : List Entry). Works before now es n)
    (append_cancel_left before.view.journal (e ∷ []) done (sym (ap (λ (v : View). v.journal) entered.like) ∙ journal))
    (works_entered before now e n taken entered faults)
worked_so before now e done n taken (inr stays) journal faults =
    subst (λ (es : List Entry). Works before now es n)
    (append_cancel_left before.view.journal [] done
    (append-nil before.view.journal ∙ (sym (ap (λ (v : View). v.journal) stays.like) ∙ journal)))
    (works_stays before now n taken stays faults)

-- ---- where the pass stands then

-- what it had seen, and what others had recorded since, is the journal before the work
pub place_is : {K : Type 0} (before now : Recording K) (p q : Passing) (mine : List Entry) (n : ℕ) → (caught : CaughtUp p q mine n)
    → Works before now mine n → q.view.journal ≡ now.view.journal → p.view.journal ++ caught.others ≡ before.view.journal
place_is before now p q mine n caught works same =
    append_cancel_right (p.view.journal ++ caught.others) before.view.journal mine (sym caught.journal ∙ (same ∙ works.journal))

-- so that the farm there is the recorder's before the work
pub farm_is : {K : Type 0} (before : Recording K) (p : Passing) (others : List Entry) → p.view.opening ≡ before.view.opening
    → before.farm ≡ farm_in before.view → p.view.journal ++ others ≡ before.view.journal → farm_before p others ≡ before.farm
farm_is before p others opening farm place = (λ i. run_of (farm_of (opening i)) (place i)) ∙ sym farm

-- where nothing was recorded, it is the farm that the pass has seen
pub farm_still : (p q : Passing) (n : ℕ) → (caught : CaughtUp p q [] n) → farm_before p caught.others ≡ farm_in q.view
farm_still p q n caught =
    let opening : q.view.opening ≡ p.view.opening = ap (λ (v : View). v.opening) caught.learns.like in
    let journal : q.view.journal ≡ p.view.journal ++ caught.others = caught.journal ∙ append-nil (p.view.journal ++ caught.others) in
    λ i. run_of (farm_of (sym opening i)) (sym journal i)
