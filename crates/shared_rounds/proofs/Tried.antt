-- One candidate, by what became of it.
use Rattle.std.proofs.Common.{◌≡◌, ℕ, ◌≤◌, List, [], ◌∷◌, ◌++◌, length, ap, ◌∙◌, subst}
use Rattle.std.specs.Prelude.{MatchResult, Result, Ok, Err}
use Rattle.farm_types.specs.declared.dispatch.Candidate.{Candidate}
use Rattle.farm_types.specs.declared.entry.Entry.{Entry}
use Rattle.booking_rule.specs.declared.opening.Opening.{Opening}
use Rattle.booking_rule.specs.declared.view.View.{View}
use Rattle.booking_table.specs.declared.claiming.Dropped.{Dropped}
use Rattle.booking_table.specs.declared.holds.Claim.{Claim}
use Rattle.booking_table.specs.declared.seen.Seen.{Seen}
use Rattle.booking_table.specs.Calls.{IsDropped}
use Rattle.shared_bot.specs.booking_recorder.specs.declared.book_result.BookResult.{BookResult}
use Rattle.shared_bot.specs.booking_recorder.specs.declared.book_result.BookResult.TheVariants as came
use Rattle.shared_bot.specs.booking_recorder.specs.declared.refusal.ConfirmRefusal.{ConfirmRefusal}
use Rattle.shared_bot.specs.booking_recorder.specs.Passing.{Passing}
use Rattle.shared_bot.specs.Passes.{IsFree}
use Rattle.shared_rounds.specs.Holding.{GoesJust, StepsOn}
use Rattle.shared_rounds.specs.Rounds.{Gains, Grows}
use Rattle.shared_rounds.specs.Steps.{HasFrame, IsLost, claim_for}
use Rattle.shared_rounds.specs.Tries.{Confirms, HasClaim, IsUnbooked, Tries}
use Rattle.shared_rounds.proofs.Booked.{unbooked_gains}
use Rattle.shared_rounds.proofs.Held.{let_go}
use Rattle.shared_rounds.proofs.Sought.{free_on, grows_on, holds_none}
use Rattle.shared_rounds.proofs.Walked.{grows_then}

-- ---- a step before the claim was lost

pub lost_tries : (c : Candidate) (moment : ℕ) (v w : Passing) (r : BookResult) → IsLost c v.view r w.view → w.faults ≡ v.faults → Tries c moment v r w
lost_tries c moment v w (came.Booked row) lost same = absurd lost
lost_tries c moment v w (came.Confirm why) lost same = absurd lost
lost_tries c moment v w (came.Burst why) lost same = (lost, same)
lost_tries c moment v w (came.Limit why) lost same = (lost, same)
lost_tries c moment v w (came.Host why) lost same = (lost, same)
lost_tries c moment v w (came.Taken found) lost same = (lost, same)

pub lost_gains : (c : Candidate) (e : Entry) (v w : View) (r : BookResult) → IsLost c v r w → StepsOn v w → Gains e v r w
lost_gains c e v w (came.Booked row) lost steps = absurd lost
lost_gains c e v w (came.Confirm why) lost steps = absurd lost
lost_gains c e v w (came.Burst why) lost steps = ap (λ (x : View). x.receipts) steps.like
lost_gains c e v w (came.Limit why) lost steps = ap (λ (x : View). x.receipts) steps.like
lost_gains c e v w (came.Host why) lost steps = ap (λ (x : View). x.receipts) steps.like
lost_gains c e v w (came.Taken found) lost steps = ap (λ (x : View). x.receipts) steps.like

-- ---- it was claimed

pub claim_tries : (c : Candidate) (moment : ℕ) (v u w : Passing) (seen : Seen) (r : BookResult) → HasClaim c v seen u → Confirms (claim_for c seen) moment u r w
    → Tries c moment v r w
claim_tries c moment v u w seen (came.Booked row) has so = (seen, u, has, so)
claim_tries c moment v u w seen (came.Confirm why) has so = (seen, u, has, so)
claim_tries c moment v u w seen (came.Burst why) has so = absurd so
claim_tries c moment v u w seen (came.Limit why) has so = absurd so
claim_tries c moment v u w seen (came.Host why) has so = absurd so
claim_tries c moment v u w seen (came.Taken found) has so = absurd so

pub gains_before : (e : Entry) (v u w : View) (r : BookResult) → StepsOn v u → Gains e u r w → Gains e v r w
gains_before e v u w r steps gains = go r gains
  where
    journal : u.journal ≡ v.journal
    journal = ap (λ (x : View). x.journal) steps.like

    receipts : u.receipts ≡ v.receipts
    receipts = ap (λ (x : View). x.receipts) steps.like

    go : (r : BookResult) → Gains e u r w → Gains e v r w
    go (came.Booked row) gains = (
      gains.0,
      subst (λ (l : List Entry). length l ≤ gains.0) journal gains.1,
      gains.2,
      gains.3 ∙ ap (λ (l : List ℕ). l ++ gains.0 ∷ []) receipts,
    )
    go (came.Confirm why) gains = gains ∙ receipts
    go (came.Burst why) gains = gains ∙ receipts
    go (came.Limit why) gains = gains ∙ receipts
    go (came.Host why) gains = gains ∙ receipts
    go (came.Taken found) gains = gains ∙ receipts

-- ---- a claim that wasn't booked is let go

module _ (opening : Opening) (claim : Claim) (why : ConfirmRefusal) (v u w : Passing) (dropped : Dropped) (free : IsFree opening u.view) (left : IsUnbooked claim why v u)
    (drops : IsDropped u.view claim dropped w.view) where
  went : GoesJust u.view [] [] [] w.view
  went = let_go u.view w.view claim dropped (holds_none opening u.view free) drops

  pub left_free : IsFree opening w.view
  left_free = free_on opening u.view w.view free went

  pub left_grows : Grows v.view u.view → Grows v.view w.view
  left_grows grows = grows_then v.view u.view w.view grows (grows_on u.view w.view went.steps)

  pub left_gains : w.view.receipts ≡ v.view.receipts
  left_gains = ap (λ (x : View). x.receipts) went.steps.like ∙ unbooked_gains claim why v u left

  pub left_confirms : (moment : ℕ) → w.faults ≡ u.faults → Confirms claim moment v (came.Confirm why) w
  left_confirms moment same = (u, left, record { dropped = dropped; drops = drops; faults = same })

-- .. of the frame that was seen
pub seen_claimed : (c : Candidate) (v w : View) (seen : Seen) (r : Result Claim BookResult)
    → MatchResult r (λ claim. (claim ≡ claim_for c seen) × HasFrame c v seen w) (λ lost. IsLost c v lost w)
    → MatchResult r (λ claim. (s : Seen) × (claim ≡ claim_for c s) × HasFrame c v s w) (λ lost. IsLost c v lost w)
seen_claimed c v w seen (Ok claim) so = (seen, so.0, so.1)
seen_claimed c v w seen (Err lost) so = so
