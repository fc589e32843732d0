-- Passes that catch up under the lock.
use Rattle.std.proofs.Common.{◌≡◌, ℕ, List, [], ◌∷◌, ◌++◌, append-nil, length, refl, sym, ap, ◌∙◌, subst}
use mathlib.Core.List.{IsPrefix}
use Rattle.farm_types.specs.declared.entry.Entry.{Entry}
use Rattle.farm_types.specs.Kept.{IsKeptFarm}
use Rattle.farm_types.specs.Run.{IsLegal, run_of}
use Rattle.booking_rule.specs.declared.noted.Noted.{Noted}
use Rattle.booking_rule.specs.declared.opening.Opening.{Opening}
use Rattle.booking_rule.specs.declared.view.View.{View}
use Rattle.booking_rule.specs.Kept.{farm_in}
use Rattle.booking_rule.specs.Link.{farm_of}
use Rattle.booking_rule.specs.Splits.{look_at, numbered}
use Rattle.dispatcher.specs.booking_recorder.specs.Passing.{HandsOver, IsBehind, Learns, Notices, Passing, counted_up}
use Rattle.dispatcher.specs.booking_recorder.specs.Recording.{Recording}
use Rattle.dispatcher.specs.booking_recorder.specs.Views.{Entered, Stays}
use Rattle.dispatcher.specs.booking_recorder.proofs.Rests.{prefix_then}
use Rattle.shared_bot.specs.Passes.{CaughtUp, IsFree, IsReadyFor, IsTaken, Works, places_from}

-- ---- what the recorder did

-- it did nothing
pub works_none : {K : Type 0} (before : Recording K) → IsTaken before → Works before before [] 0
works_none before taken =
    record {
      journal = sym (append-nil before.view.journal);
      receipts = taken.receipts;
      faults = taken.faults;
      opening = refl;
      trail = ([], append-nil before.view.trail);
    }

-- it recorded nothing, and its store failed so often
pub works_stays : {K : Type 0} (before now : Recording K) (failures : ℕ) → IsTaken before → Stays before.view now.view → now.faults ≡ failures
    → Works before now [] failures
works_stays before now failures taken stays faults =
    record {
      journal = ap (λ (v : View). v.journal) stays.like ∙ sym (append-nil before.view.journal);
      receipts = ap (λ (v : View). v.receipts) stays.like ∙ taken.receipts;
      faults = faults;
      opening = ap (λ (v : View). v.opening) stays.like;
      trail = stays.trail;
    }

-- it recorded one entry
pub works_entered : {K : Type 0} (before now : Recording K) (e : Entry) (failures : ℕ) → IsTaken before → Entered before.view e now.view → now.faults ≡ failures
    → Works before now (e ∷ []) failures
works_entered before now e failures taken entered faults =
    record {
      journal = ap (λ (v : View). v.journal) entered.like;
      receipts = ap (λ (v : View). v.receipts) entered.like ∙ ap (λ (places : List ℕ). places ++ length before.view.journal ∷ []) taken.receipts;
      faults = faults;
      opening = ap (λ (v : View). v.opening) entered.like;
      trail = entered.trail;
    }

-- ---- the first step under the lock

pub behind_noticed : (p v w : View) → IsBehind p v → Notices v w → IsBehind p w
behind_noticed p v w behind notices =
    record {
      journal = subst (λ (es : List Entry). IsPrefix p.journal es) (sym (ap (λ (x : View). x.journal) notices.like)) behind.journal;
      trail = prefix_then p.desk_trail v.trail w.trail behind.trail notices.trail;
    }

pub taken_noticed : {K : Type 0} (before now : Recording K) → now ≡ record before { view = now.view } → Notices before.view now.view → IsTaken before
    → IsTaken now
taken_noticed {K = K} before now like notices taken =
    record {
      receipts = ap (λ (x : View). x.receipts) notices.like ∙ taken.receipts;
      faults = ap (λ (x : Recording K). x.faults) like ∙ taken.faults;
    }

pub ready_noticed : {K : Type 0} (opening : Opening) (p q : Passing) (before now : Recording K) → IsTaken before → before.view.opening ≡ opening → q ≡ p
    → IsBehind p.view before.view → now ≡ record before { view = now.view } → Notices before.view now.view → now.farm ≡ farm_in now.view
    → IsReadyFor opening q now
ready_noticed opening p q before now taken starts same behind like notices farm =
    record {
      taken = taken_noticed before now like notices taken;
      starts = ap (λ (v : View). v.opening) notices.like ∙ starts;
      farm = farm;
      behind = subst (λ (x : Passing). IsBehind x.view now.view) (sym same) (behind_noticed p.view before.view now.view behind notices);
    }

-- ---- a pass catches up

pub taken_over : {K : Type 0} (before now : Recording K) → HandsOver before now → IsTaken now
taken_over before now over = record { receipts = ap (λ (x : View). x.receipts) over.gives.like; faults = over.faults }

-- what the pass has seen is what the recorder has
pub legal_caught : {K : Type 0} (r : Recording K) (w : View) (opening : Opening) → r.view.opening ≡ opening → w.journal ≡ r.view.journal
    → IsKeptFarm (farm_of r.view.opening) × IsLegal (farm_of r.view.opening) r.view.journal
    → IsKeptFarm (farm_of opening) × IsLegal (farm_of opening) w.journal
legal_caught r w opening is journal legal =
    subst (λ (x : Opening × List Entry). IsKeptFarm (farm_of x.0) × IsLegal (farm_of x.0) x.1) (λ i. (is i, sym journal i)) legal

pub leads_caught : {K : Type 0} (r : Recording K) (v w : View) (opening : Opening) → r.farm ≡ farm_in r.view → r.view.opening ≡ opening → Learns v w
    → w.journal ≡ r.view.journal → v.opening ≡ opening → r.farm ≡ farm_in w
leads_caught r v w opening leads is learns journal starts =
    let same : r.view.opening ≡ w.opening = is ∙ sym (ap (λ (x : View). x.opening) learns.like ∙ starts) in
    leads ∙ λ i. run_of (farm_of (same i)) (sym journal i)

pub trail_caught : {K : Type 0} (before now : Recording K) (w : View) → HandsOver before now → w.desk_trail ≡ now.view.trail
    → IsPrefix before.view.trail w.desk_trail
trail_caught before now w over trail = subst (λ (items : List Noted). IsPrefix before.view.trail items) (sym trail) over.gives.trail

pub caught_up : {K : Type 0} (v w : Passing) (before now : Recording K) (mine : List Entry) (failures : ℕ) → IsBehind v.view before.view
    → Works before now mine failures → w.view.journal ≡ now.view.journal → w.view.receipts ≡ v.view.receipts ++ now.view.receipts
    → w.faults ≡ counted_up v.faults now.faults → Learns v.view w.view → (found : ℕ) × (w.view.trail ≡ v.view.trail ++ look_at 0 found ∷ [])
    → CaughtUp v w mine failures
caught_up v w before now mine failures behind works journal receipts faults learns looked =
    let is : v.view.journal ++ behind.journal.0 ≡ before.view.journal = behind.journal.1 in
    record {
      others = behind.journal.0;
      journal = journal ∙ works.journal ∙ ap (λ (es : List Entry). es ++ mine) (sym is);
      receipts = receipts ∙ ap (λ (places : List ℕ). v.view.receipts ++ places) works.receipts
          ∙ ap (λ (es : List Entry). v.view.receipts ++ places_from (length es) mine) (sym is);
      faults = faults ∙ ap (counted_up v.faults) works.faults;
      learns = learns;
      found = looked.0;
      look = looked.1;
    }

-- a free pass stays free
pub free_caught : (opening : Opening) (v w : Passing) (mine : List Entry) (failures : ℕ) → IsFree opening v.view → CaughtUp v w mine failures
    → IsLegal (farm_of opening) w.view.journal → IsFree opening w.view
free_caught opening v w mine failures free caught legal =
    let like = caught.learns.like in
    record {
      starts = ap (λ (x : View). x.opening) like ∙ free.starts;
      begins = free.begins;
      legal = legal;
      takes = ap (λ (x : View). x.takes) like ∙ free.takes;
      limits = ap (λ (x : View). x.limits) like ∙ free.limits;
      rooms = ap (λ (x : View). x.rooms) like ∙ free.rooms;
      burst = ap (λ (x : View). x.ungranted) like ∙ free.burst;
      place = ap (λ (x : View). x.ungranted_limit) like ∙ free.place;
    }

-- ---- a pass more

pub free_numbered : (opening : Opening) (v p : View) → v.opening ≡ opening → IsKeptFarm (farm_of v.opening) × IsLegal (farm_of v.opening) v.journal
    → p ≡ numbered v → IsFree opening p × (p.receipts ≡ [])
free_numbered opening v p starts legal is = subst (λ (x : View). IsFree opening x × (x.receipts ≡ [])) (sym is) (free, refl)
  where
    kept : IsKeptFarm (farm_of opening) × IsLegal (farm_of opening) v.journal
    kept = subst (λ (o : Opening). IsKeptFarm (farm_of o) × IsLegal (farm_of o) v.journal) starts legal

    free : IsFree opening (numbered v)
    free =
        record {
          starts = starts;
          begins = kept.0;
          legal = kept.1;
          takes = refl;
          limits = refl;
          rooms = refl;
          burst = refl;
          place = refl;
        }
