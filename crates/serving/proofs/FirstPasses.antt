-- Passes before the first connection.
use Rattle.std.proofs.Common.{◌≡◌, ◌+◌, List, refl, sym, ap, ◌∙◌, subst, Option, Some}
use Rattle.booking_rule.specs.declared.desk.Desk.{Desk}
use Rattle.booking_rule.specs.declared.opening.Opening.{Opening}
use Rattle.booking_rule.specs.declared.view.View.{View}
use Rattle.booking_rule.specs.Link.{farm_of}
use Rattle.booking_rule.specs.Splits.{desk_split, one_more}
use Rattle.farm_types.specs.declared.entry.Entry.{Entry}
use Rattle.farm_types.specs.Run.{IsLegal}
use Rattle.shared_sessions.specs.booking_recorder.specs.Passing.{HandsOver, Learns}
use Rattle.shared_sessions.specs.booking_recorder.specs.Recording.{Recording}
use Rattle.shared_sessions.specs.shared_bot.specs.Passes.{IsFree, IsTaken}
use Rattle.shared_sessions.specs.shared_bot.specs.recording_turns.specs.Resting.{IsAtRest, split_in}
use Rattle.serving.specs.Serving.{IsSplit}

-- a free pass that learnt of a legal journal is free
pub free_learnt : (opening : Opening) (v w : View) → IsFree opening v → Learns v w → IsLegal (farm_of opening) w.journal → IsFree opening w
free_learnt opening v w free learns legal = record {
  starts = ap (λ (x : View). x.opening) learns.like ∙ free.starts;
  begins = free.begins;
  legal = legal;
  takes = ap (λ (x : View). x.takes) learns.like ∙ free.takes;
  limits = ap (λ (x : View). x.limits) learns.like ∙ free.limits;
  rooms = ap (λ (x : View). x.rooms) learns.like ∙ free.rooms;
  burst = ap (λ (x : View). x.ungranted) learns.like ∙ free.burst;
  place = ap (λ (x : View). x.ungranted_limit) learns.like ∙ free.place;
}

-- the journal that a pass has seen is the recorder's, which is legal
pub legal_seen : (opening : Opening) (v : View) (journal : List Entry) → v.opening ≡ opening → IsLegal (farm_of v.opening) v.journal → journal ≡ v.journal
    → IsLegal (farm_of opening) journal
legal_seen opening v journal starts legal is =
    subst (λ (es : List Entry). IsLegal (farm_of opening) es) (sym is) (subst (λ (o : Opening). IsLegal (farm_of o) v.journal) starts legal)

more_split : (o : Option Desk) (desk : Desk) → o ≡ Some desk → split_in (desk_split o) ≡ split_in o + 1
more_split o desk is = subst (λ (found : Option Desk). split_in (desk_split found) ≡ split_in found + 1) (sym is) refl

-- a seat was split off of a recorder
pub split_off : {K : Type 0} (before now : Recording K) → IsAtRest before.view → now ≡ record before { view = one_more before.view } → IsSplit before now
split_off {K = K} before now rests is =
    subst (λ (r : Recording K). IsSplit before r) (sym is) (record {
      split = more_split before.view.desk rests.settled.desk rests.settled.first;
      opening = refl;
      farm = refl;
      keeper = refl;
    })

-- .. and each receipt is taken, where it was before
pub taken_split : {K : Type 0} (before now : Recording K) → now ≡ record before { view = one_more before.view } → IsTaken before → IsTaken now
taken_split {K = K} before now is taken =
    subst (λ (r : Recording K). IsTaken r) (sym is) (record { receipts = taken.receipts; faults = taken.faults })

-- the same, where the recorder then gave its receipts away
pub split_handed : {K : Type 0} (before mid now : Recording K) → IsSplit before mid → HandsOver mid now → IsSplit before now
split_handed before mid now split over = record {
  split = ap (λ (x : View). split_in x.desk) over.gives.like ∙ split.split;
  opening = ap (λ (x : View). x.opening) over.gives.like ∙ split.opening;
  farm = over.farm ∙ split.farm;
  keeper = over.keeper ∙ split.keeper;
}
