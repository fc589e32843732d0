-- Passes beside a recorder behind a lock: what they are between two calls, and what they learn under the lock.
use Rattle.std.specs.Prelude.{◌≡◌, ℕ, ◌+◌, List, [], ◌∷◌, ◌++◌, length, None}
use mathlib.Core.List.{IsPrefix}
use Rattle.farm_types.specs.declared.entry.Entry.{Entry}
use Rattle.farm_types.specs.Farm.{Farm}
use Rattle.farm_types.specs.Kept.{IsKeptFarm}
use Rattle.farm_types.specs.Run.{IsLegal, run_of}
use Rattle.booking_rule.specs.declared.opening.Opening.{Opening}
use Rattle.booking_rule.specs.declared.view.View.{View}
use Rattle.booking_rule.specs.Kept.{farm_in}
use Rattle.booking_rule.specs.Link.{farm_of}
use Rattle.booking_rule.specs.Splits.{look_at}
use Rattle.dispatcher.specs.booking_recorder.specs.Passing.{IsBehind, Learns, Passing, counted_up}
use Rattle.dispatcher.specs.booking_recorder.specs.Recording.{Recording}

-- the recorder has no receipt, and no failure of the store, that no pass has taken
pub record IsTaken {K : Type 0} (r : Recording K) : Type 0 where
  pub receipts : r.view.receipts ≡ []
  pub faults : r.faults ≡ 0

-- A pass between two calls: what it has seen is a legal run from the farm with which the words began, and it holds no cores, place or room, and has nothing
-- in flight. A claim that was booked stays with what it knows; its version has passed.
pub record IsFree (opening : Opening) (v : View) : Type 0 where
  pub starts : v.opening ≡ opening
  pub begins : IsKeptFarm (farm_of opening)
  pub legal : IsLegal (farm_of opening) v.journal
  pub takes : v.takes ≡ []
  pub limits : v.limits ≡ []
  pub rooms : v.rooms ≡ []
  pub burst : v.ungranted ≡ None
  pub place : v.ungranted_limit ≡ None

-- ---- under the lock

-- Work begins: the recorder has nothing that no pass has taken, its farm is that of its journal, and what the pass has seen is a beginning of what it has.
pub record IsReadyFor {K : Type 0} (opening : Opening) (p : Passing) (r : Recording K) : Type 0 where
  pub taken : IsTaken r
  pub starts : r.view.opening ≡ opening
  pub farm : r.farm ≡ farm_in r.view
  pub behind : IsBehind p.view r.view

-- the places of entries that follow so many others
abbrev pub places_from : ℕ → List Entry → List ℕ
places_from place [] = []
places_from place (e ∷ es) = place ∷ places_from (place + 1) es

-- the recorder, which had nothing left to take, recorded these entries, and its store failed so often
pub record Works {K : Type 0} (before now : Recording K) (mine : List Entry) (failures : ℕ) : Type 0 where
  pub journal : now.view.journal ≡ before.view.journal ++ mine
  pub receipts : now.view.receipts ≡ places_from (length before.view.journal) mine
  pub faults : now.faults ≡ failures
  pub opening : now.view.opening ≡ before.view.opening
  pub trail : IsPrefix before.view.trail now.view.trail

-- A pass caught up, once: it learnt what others had recorded since, then what was recorded for it (mine), whose places are its receipts, and how often the
-- store failed. Its own trail has one look at the journal's word more.
pub record CaughtUp (v w : Passing) (mine : List Entry) (failures : ℕ) : Type 0 where
  pub others : List Entry
  pub journal : w.view.journal ≡ (v.view.journal ++ others) ++ mine
  pub receipts : w.view.receipts ≡ v.view.receipts ++ places_from (length (v.view.journal ++ others)) mine
  pub faults : w.faults ≡ counted_up v.faults failures
  pub learns : Learns v.view w.view
  pub found : ℕ
  pub look : w.view.trail ≡ v.view.trail ++ look_at 0 found ∷ []

-- the farm after what the pass had seen and these entries of others, before its own
abbrev pub farm_before : Passing → List Entry → Farm
farm_before v others = run_of (farm_of v.view.opening) (v.view.journal ++ others)
