-- A claim under the lock: what the recorder said of it, as the pass has then seen it.
use Rattle.std.proofs.Common.{◌≡◌, ℕ, Bool, true, false, if◌then◌else◌, List, [], ◌∷◌, ◌++◌, length, append_assoc, append-nil, Result, Ok, Err, sym, refl, ap, ◌∙◌, subst, arith}
use Rattle.std.specs.Prelude.{Some, slice_get, IfErr, MatchResult}
use Rattle.std.proofs.lemmas.List.{append_cancel_right}
use mathlib.Core.List.{IsPrefix}
use Rattle.farm_types.specs.declared.attempt.ProcRow.{ProcRow}
use Rattle.farm_types.specs.declared.entry.Entry.{Entry}
use Rattle.farm_types.specs.Booking.{may_record}
use Rattle.farm_types.specs.Farm.{Farm}
use Rattle.farm_types.specs.Run.{IsLegal, live_at, run_of}
use Rattle.fault_counts.specs.Counts.{incremented_if}
use Rattle.booking_rule.specs.declared.noted.Noted.{Noted}
use Rattle.booking_rule.specs.declared.opening.Opening.{Opening}
use Rattle.booking_rule.specs.declared.view.View.{View}
use Rattle.booking_rule.specs.Kept.{farm_in}
use Rattle.booking_rule.specs.Link.{farm_of}
use Rattle.booking_rule.specs.Views.{holds, same_claim}
use Rattle.booking_core.specs.Kinds.{claim_item}
use Rattle.booking_table.specs.declared.holds.Claim.{Claim}
use Rattle.booking_table.specs.Holds.{HasClaim, claim_of}
use Rattle.recording_core.specs.Records.{running_for}
use Rattle.shared_bot.specs.booking_recorder.specs.declared.book_result.BookResult.TheVariants as came
use Rattle.shared_bot.specs.booking_recorder.specs.declared.refusal.ConfirmRefusal.{ConfirmRefusal}
use Rattle.shared_bot.specs.booking_recorder.specs.declared.refusal.ConfirmRefusal.TheVariants as refusal
use Rattle.shared_bot.specs.booking_recorder.specs.Claims.{Confirms, IsCause, IsWithdrawn, entry_for}
use Rattle.shared_bot.specs.booking_recorder.specs.Faults.{is_at_store, is_store_left}
use Rattle.shared_bot.specs.booking_recorder.specs.Passing.{IsBehind, Learns, Passing}
use Rattle.shared_bot.specs.booking_recorder.specs.Recording.{Recording}
use Rattle.shared_bot.specs.booking_recorder.specs.Views.{Entered, Stays}
use Rattle.shared_bot.specs.Passes.{CaughtUp, IsFree, IsTaken, Works, farm_before}
use Rattle.shared_bot.proofs.Caught.{free_caught, works_entered, works_stays}
use Rattle.shared_rounds.specs.Rounds.{Gains, Grows}
use Rattle.shared_rounds.specs.Tries.{IsBooked, IsUnbooked, IsWithdrawnIn, failures_of}
use Rattle.shared_rounds.proofs.Sought.{longer}

-- ---- lists

pub at_end : {A : Type 0} (xs : List A) (x : A) → slice_get (xs ++ x ∷ []) (length xs) ≡ Some x
at_end [] x = refl
at_end (y ∷ xs) x = at_end xs x

-- ---- what a pass learns

pub learns_grow : (v w : View) → Learns v w → Grows v w
learns_grow v w learns = record {
  number = ap (λ (x : View). x.number) learns.like;
  opening = ap (λ (x : View). x.opening) learns.like;
  journal = learns.journal;
  trail = learns.trail;
  desk_trail = learns.desk_trail;
}

pub claim_stays : (v w : View) (claim : Claim) → Learns v w → HasClaim v claim → HasClaim w claim
claim_stays v w claim learns has = (has.0, has.1, ap (λ (x : View). holds same_claim (claim_of claim) x.claims) learns.like ∙ has.2)

-- ---- the claim

-- how often the store failed, as the recorder counts it
counts_so : (b : Bool) (n : ℕ) → n ≡ 0 → incremented_if b n ≡ (if b then 1 else 0)
counts_so true n none = omega (arith, none)
counts_so false n none = none

module _ {K : Type 0} (v w : Passing) (before now : Recording K) (claim : Claim) (moment : ℕ) (taken : IsTaken before) (behind : IsBehind v.view before.view)
    (opens : before.view.opening ≡ v.view.opening) (rests : before.farm ≡ farm_in before.view) (journal : w.view.journal ≡ now.view.journal)
    (leads : now.farm ≡ farm_in w.view) where
  -- the farm before it is that of what the pass had seen and what others recorded
  farm_is : (e : Entry) (others : List Entry) → w.view.journal ≡ (v.view.journal ++ others) ++ e ∷ [] → now.view.journal ≡ before.view.journal ++ e ∷ []
      → before.farm ≡ farm_before v others
  farm_is e others has entered =
      let same : before.view.journal ≡ v.view.journal ++ others =
      append_cancel_right before.view.journal (v.view.journal ++ others) (e ∷ []) (sym entered ∙ (sym journal ∙ has)) in
      rests ∙ λ i. run_of (farm_of (opens i)) (same i)

  pub booked_so : (row : ProcRow) (f : Farm) → f ≡ before.farm → ((mine : List Entry) (failures : ℕ) → Works before now mine failures → CaughtUp v w mine failures) → now.faults ≡ before.faults
      → may_record f claim.slot claim.hold.host ≡ true → live_at now.farm claim.slot ≡ Some row → Entered before.view (entry_for claim moment) now.view
      → IsBooked claim moment row v w
  booked_so row f same caught faults may live entered =
      let e = entry_for claim moment in
      let works = works_entered before now e 0 taken entered (faults ∙ taken.faults) in
      let c = caught (e ∷ []) 0 works in
      let farm = farm_is e c.others c.journal (ap (λ (x : View). x.journal) entered.like) in
      record {
        caught = c;
        may = subst (λ (g : Farm). may_record g claim.slot claim.hold.host ≡ true) (same ∙ farm) may;
        live = subst (λ (g : Farm). live_at g claim.slot ≡ Some row) leads live;
      }

  withdrawn_so : (found : ℕ) → IsWithdrawn before.view claim now.view found → IsPrefix now.view.trail w.view.desk_trail → IsWithdrawnIn claim v.view w.view found
  withdrawn_so found is told =
      let item = claim_item 10 (claim_of claim) (running_for (claim_of claim)) found found in
      let seen = behind.trail.0 in
      let had : v.view.desk_trail ++ seen ≡ before.view.trail = behind.trail.1 in
      let noted : now.view.trail ≡ before.view.trail ++ item ∷ [] = ap (λ (x : View). x.trail) is.1 in (
        is.0,
        seen,
        told.0,
        sym told.1
            ∙ (ap (λ (l : List Noted). l ++ told.0) noted ∙ (append_assoc before.view.trail (item ∷ []) told.0 ∙ ap (λ (l : List Noted). l ++ item ∷ told.0) (sym had))),
      )

  cause_so : (why : ConfirmRefusal) (f : Farm) → f ≡ farm_in w.view → length before.view.journal ≡ length w.view.journal → IsPrefix now.view.trail w.view.desk_trail
      → IsCause (IsWithdrawn before.view claim now.view) f (length before.view.journal) claim.slot claim.hold.host why
      → IsCause (IsWithdrawnIn claim v.view w.view) (farm_in w.view) (length w.view.journal) claim.slot claim.hold.host why
  cause_so why f same long told cause =
      move why
      (subst (λ (x : Farm × ℕ). IsCause (IsWithdrawn before.view claim now.view) x.0 x.1 claim.slot claim.hold.host why) (λ i. (same i, long i)) cause)
    where
      move : (why : ConfirmRefusal) → IsCause (IsWithdrawn before.view claim now.view) (farm_in w.view) (length w.view.journal) claim.slot claim.hold.host why
          → IsCause (IsWithdrawnIn claim v.view w.view) (farm_in w.view) (length w.view.journal) claim.slot claim.hold.host why
      move (refusal.Withdrawn found) is = withdrawn_so found is told
      move refusal.EntriesSpent is = is
      move refusal.Paused is = is
      move (refusal.HostClosed state lock) is = is
      move (refusal.BurstLowered booked burst) is = is
      move (refusal.LimitLowered running most) is = is
      move refusal.Memory is = is
      move refusal.Store is = is

  pub unbooked_so : (why : ConfirmRefusal) → ((mine : List Entry) (failures : ℕ) → Works before now mine failures → CaughtUp v w mine failures)
      → now.faults ≡ incremented_if (is_at_store why) before.faults → now.farm ≡ before.farm → Stays before.view now.view
      → IsPrefix now.view.trail w.view.desk_trail → IsCause (IsWithdrawn before.view claim now.view) before.farm (length before.view.journal) claim.slot claim.hold.host why
      → IsUnbooked claim why v w
  unbooked_so why caught faults farm stays told cause =
      let works = works_stays before now (failures_of why) taken stays (faults ∙ counts_so (is_at_store why) before.faults taken.faults) in
      let long : length before.view.journal ≡ length w.view.journal = ap length (sym (ap (λ (x : View). x.journal) stays.like) ∙ sym journal) in record {
        caught = caught [] (failures_of why) works;
        cause = cause_so why before.farm (sym farm ∙ leads) long told cause;
      }

  -- by what the recorder answered
  pub confirmed_so : (r : Result ProcRow (Claim × ConfirmRefusal)) → ((mine : List Entry) (failures : ℕ) → Works before now mine failures → CaughtUp v w mine failures)
      → now.faults ≡ incremented_if (is_store_left r) before.faults → IsPrefix now.view.trail w.view.desk_trail
      → Confirms before.farm before.view claim moment r now.farm now.view
      → MatchResult r (λ row. IsBooked claim moment row v w) (λ left. (left.0 ≡ claim) × IsUnbooked claim left.1 v w)
  confirmed_so (Ok row) caught faults told so =
      booked_so row before.farm refl caught faults so.1 so.3 so.4
  confirmed_so (Err left) caught faults told so = (so.0, unbooked_so left.1 caught faults so.1 so.2 told so.3)

-- ---- whatever it answered, the pass learnt what it then knows

module _ {K : Type 0} (v w : Passing) (before now : Recording K) (claim : Claim) (moment : ℕ) (taken : IsTaken before) where
  caught_so : (r : Result ProcRow (Claim × ConfirmRefusal)) → ((mine : List Entry) (failures : ℕ) → Works before now mine failures → CaughtUp v w mine failures)
      → now.faults ≡ incremented_if (is_store_left r) before.faults → Confirms before.farm before.view claim moment r now.farm now.view
      → (mine : List Entry) × (failures : ℕ) × CaughtUp v w mine failures
  caught_so (Ok row) caught faults so =
      let e = entry_for claim moment in
      (e ∷ [], 0, caught (e ∷ []) 0 (works_entered before now e 0 taken so.4 (faults ∙ taken.faults)))
  caught_so (Err left) caught faults so =
      let n = now.faults in ([], n, caught [] n (works_stays before now n taken so.2 refl))

  pub confirmed_free : (opening : Opening) (r : Result ProcRow (Claim × ConfirmRefusal))
      → ((mine : List Entry) (failures : ℕ) → Works before now mine failures → CaughtUp v w mine failures)
      → now.faults ≡ incremented_if (is_store_left r) before.faults → Confirms before.farm before.view claim moment r now.farm now.view → IsFree opening v.view
      → IsLegal (farm_of opening) w.view.journal → IsFree opening w.view
  confirmed_free opening r caught faults so free legal = let c = caught_so r caught faults so in free_caught opening v w c.0 c.1 free c.2 legal

  pub confirmed_grows : (r : Result ProcRow (Claim × ConfirmRefusal)) → ((mine : List Entry) (failures : ℕ) → Works before now mine failures → CaughtUp v w mine failures)
      → now.faults ≡ incremented_if (is_store_left r) before.faults → Confirms before.farm before.view claim moment r now.farm now.view → Grows v.view w.view
  confirmed_grows r caught faults so = let c = caught_so r caught faults so in learns_grow v.view w.view c.2.learns

  pub confirmed_claim : (r : Result ProcRow (Claim × ConfirmRefusal)) → ((mine : List Entry) (failures : ℕ) → Works before now mine failures → CaughtUp v w mine failures)
      → now.faults ≡ incremented_if (is_store_left r) before.faults → Confirms before.farm before.view claim moment r now.farm now.view → HasClaim v.view claim
      → HasClaim w.view claim
  confirmed_claim r caught faults so has = let c = caught_so r caught faults so in claim_stays v.view w.view claim c.2.learns has

-- the words begin with the same farm still
pub opening_stays : (f g : Farm) (v w : View) (claim : Claim) (moment : ℕ) (r : Result ProcRow (Claim × ConfirmRefusal)) → Confirms f v claim moment r g w
    → w.opening ≡ v.opening
opening_stays f g v w claim moment (Ok row) so = ap (λ (x : View). x.opening) so.4.like
opening_stays f g v w claim moment (Err left) so = ap (λ (x : View). x.opening) so.2.like

-- a claim that is handed back is held still
pub handed_back : (v w : Passing) (claim : Claim) (moment : ℕ) (r : Result ProcRow (Claim × ConfirmRefusal)) → HasClaim w.view claim
    → MatchResult r (λ row. IsBooked claim moment row v w) (λ left. (left.0 ≡ claim) × IsUnbooked claim left.1 v w) → IfErr r (λ left. HasClaim w.view left.0)
handed_back v w claim moment (Ok row) has so = tt
handed_back v w claim moment (Err left) has so = subst (HasClaim w.view) (sym so.0) has

-- ---- its receipt

pub booked_gains : (claim : Claim) (moment : ℕ) (row : ProcRow) (v w : Passing) → IsBooked claim moment row v w
    → Gains (entry_for claim moment) v.view (came.Booked row) w.view
booked_gains claim moment row v w booked =
    let c = booked.caught in
    let log = v.view.journal ++ c.others in (
      length log,
      longer v.view.journal c.others,
      ap (λ (l : List Entry). slice_get l (length log)) c.journal ∙ at_end log (entry_for claim moment),
      c.receipts,
    )

pub unbooked_gains : (claim : Claim) (why : ConfirmRefusal) (v w : Passing) → IsUnbooked claim why v w → w.view.receipts ≡ v.view.receipts
unbooked_gains claim why v w left = left.caught.receipts ∙ append-nil v.view.receipts
