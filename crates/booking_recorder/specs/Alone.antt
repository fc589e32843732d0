-- A booking by the recorder, with its own seat, while no other seat was split off.
use Rattle.std.specs.Prelude.{◌≡◌, ℕ, ◌+◌, ◌<◌, ◌==◌, Bool, true, false, List, [], ◌∷◌, ◌++◌, length, Option, None, Some, Result, Ok, Err}
use mathlib.Core.List.{IsPrefix}
use Rattle.farm_types.specs.declared.attempt.ProcRow.{ProcRow}
use Rattle.farm_types.specs.declared.entry.Entry.{Entry}
use Rattle.farm_types.specs.declared.limits.TheConstants.{LAST_VERSION, LEAST_CORES, LEAST_MEMORY, MOST_CORES, MOST_MEMORY}
use Rattle.farm_types.specs.Booking.{may_record, suits}
use Rattle.farm_types.specs.Farm.{Farm}
use Rattle.farm_types.specs.Limits.{IsBetween}
use Rattle.farm_types.specs.Run.{live_at}
use Rattle.farm_types.specs.Step.{after}
use Rattle.farm_keeper.specs.Keeping.{Committing}
use Rattle.booking_rule.specs.declared.hold.Claim as rule
use Rattle.booking_rule.specs.declared.hold.Room.{Room}
use Rattle.booking_rule.specs.declared.hold.Take.{Take}
use Rattle.booking_rule.specs.declared.view.View.{View}
use Rattle.booking_rule.specs.Kept.{farm_in}
use Rattle.booking_rule.specs.Link.{stand_at}
use Rattle.booking_rule.specs.Looks.{HasLook}
use Rattle.booking_rule.specs.Views.{room_of, take_of}
use Rattle.booking_core.specs.Machine.{IsFormedClaim}
use Rattle.booking_table.specs.declared.holds.BurstHold.{BurstHold}
use Rattle.booking_table.specs.declared.holds.Claim.{Claim}
use Rattle.booking_table.specs.declared.holds.Hold.{Hold}
use Rattle.booking_table.specs.declared.seen.Seen.{Seen}
use Rattle.booking_table.specs.Alone.{SawStand}
use Rattle.booking_table.specs.Calls.{look_by}
use Rattle.booking_table.specs.Holds.{IsHold, IsLimit, burst_hold, claim_of, hold_of}
use Rattle.recorder.specs.Recording.{booking}
use Rattle.recorder.specs.Telling.{TakesEach}
use Rattle.recording_turns.specs.Resting.{IsSettled, WentOn, split_in}
use Rattle.booking_recorder.specs.declared.book_result.BookResult.{BookResult}
use Rattle.booking_recorder.specs.declared.book_result.BookResult.TheVariants as book
use Rattle.booking_recorder.specs.declared.refusal.ConfirmRefusal.{ConfirmRefusal}
use Rattle.booking_recorder.specs.declared.refusal.ConfirmRefusal.TheVariants as refusal
use Rattle.booking_recorder.specs.Claims.{RunsAhead, TellsAtStop}
use Rattle.booking_recorder.specs.Faults.{is_at_store}
use Rattle.booking_recorder.specs.Recording.{most_entries}
use Rattle.booking_recorder.specs.Views.{Entered, Stays}

-- ---- what became of it

-- the store failed
abbrev pub is_store_book : BookResult → Bool
is_store_book (book.Confirm why) = is_at_store why
is_store_book other = false

-- it is booked
abbrev pub is_booked_now : BookResult → Bool
is_booked_now (book.Booked row) = true
is_booked_now other = false

-- what stops the booking of a claim, where n entries are recorded: a spent journal; want of memory or the store, of one that may be recorded; or it may not
abbrev pub StopsAlone : Farm → ℕ → ℕ → ℕ → ConfirmRefusal → Type 0
StopsAlone f n slot host refusal.EntriesSpent = (n == most_entries) ≡ true
StopsAlone f n slot host refusal.Memory = may_record f slot host ≡ true
StopsAlone f n slot host refusal.Store = may_record f slot host ≡ true
StopsAlone f n slot host other = may_record f slot host ≡ false

-- The booking may be recorded, and was, and its attempt is told; or it may not, but for what stops a claim. Then the farm is as before.
abbrev pub BooksAlone : Farm → ℕ → ℕ → ℕ → ℕ → BookResult → Farm → Type 0
BooksAlone old n slot host moment (book.Booked row) new =
    (may_record old slot host ≡ true) × (new ≡ after old (booking slot host moment)) × (live_at new slot ≡ Some row)
BooksAlone old n slot host moment (book.Confirm why) new = (new ≡ old) × StopsAlone old n slot host why
BooksAlone old n slot host moment other new = (new ≡ old) × (may_record old slot host ≡ false)

-- the journal has exactly the booking more, or nothing
abbrev pub EntersAlone : View → Entry → BookResult → View → Type 0
EntersAlone v e (book.Booked row) w = Entered v e w
EntersAlone v e other w = Stays v w

-- what the keeper was told: nothing before the claim is there
abbrev pub TellsBook : {K : Type 0} → Committing K → Farm → ℕ → ℕ → ℕ → BookResult → K → K → Type 0
TellsBook commits f slot host moment (book.Booked row) before now = TakesEach commits f (booking slot host moment ∷ []) before now
TellsBook commits f slot host moment (book.Confirm why) before now = TellsAtStop commits f slot host moment why before now
TellsBook commits f slot host moment other before now = now ≡ before

-- ---- the recorder's seat on its way

-- no word is left to change, no seat was split off, nothing is in flight, and it holds exactly these
pub record HoldsAlone (ts : List Take) (ls : List ℕ) (rs : List Room) (cs : List rule.Claim) (v : View) : Type 0 where
  pub settled : IsSettled v
  pub split : split_in v.desk ≡ 0
  pub number : v.number ≡ None
  pub takes : v.takes ≡ ts
  pub limits : v.limits ≡ ls
  pub rooms : v.rooms ≡ rs
  pub claims : v.claims ≡ cs
  pub burst : v.ungranted ≡ None
  pub place : v.ungranted_limit ≡ None

-- it went on to hold exactly these
pub record GoesAlone (v : View) (ts : List Take) (ls : List ℕ) (rs : List Room) (cs : List rule.Claim) (w : View) : Type 0 where
  pub went : WentOn v w
  pub alone : HoldsAlone ts ls rs cs w

-- a step before the claim was lost, as the booking may not be recorded; nothing is held any more
abbrev pub IsLost : BookResult → Type 0
IsLost (book.Booked row) = ⊥
IsLost (book.Confirm why) = ⊥
IsLost other = Unit {0}

pub record IsLostAt (f : Farm) (slot host : ℕ) (v : View) (r : BookResult) (w : View) : Type 0 where
  pub lost : IsLost r
  pub may : may_record f slot host ≡ false
  pub goes : GoesAlone v [] [] [] [] w

-- ---- up to the claim

-- a look saw the slot's frame waiting, as the farm has it; it suits the host and the subscription
pub record IsWanted (f : Farm) (slot sub host : ℕ) (seen : Seen) : Type 0 where
  pub at : seen.slot ≡ slot
  pub saw : SawStand (stand_at f seen.slot) seen
  pub waits : seen.phase ≡ 1
  pub within : seen.slot < 65536
  pub below : seen.version < LAST_VERSION
  pub few : seen.cores < 1048576
  pub cores : IsBetween LEAST_CORES MOST_CORES seen.cores
  pub memory : IsBetween LEAST_MEMORY MOST_MEMORY seen.memory
  pub limit : IsLimit seen.limit
  pub suited : suits f seen.slot seen.version host sub ≡ true
  pub of_sub : sub < 1024
  pub on_host : host < 4096

pub record HasLooked (f : Farm) (slot sub host : ℕ) (v : View) (seen : Seen) (w : View) : Type 0 where
  pub wanted : IsWanted f slot sub host seen
  pub look : HasLook w.trail (look_by seen)
  pub goes : GoesAlone v [] [] [] [] w

-- what is held for the frame: its layer's cores, then with its place in a limit, if it has one, then with its room
abbrev pub burst_for : ℕ → Seen → BurstHold
burst_for sub seen = record { sub = sub; cores = seen.cores; limit = seen.limit }

abbrev pub hold_for : ℕ → ℕ → Seen → Hold
hold_for sub host seen = hold_of (burst_for sub seen) host seen.memory

abbrev pub HasCores : ℕ → View → Seen → BurstHold → View → Type 0
HasCores sub v seen b w = (b ≡ burst_hold sub seen.cores) × GoesAlone v (take_of sub seen.cores ∷ []) [] [] [] w

abbrev pub places_in : Option ℕ → List ℕ
places_in None = []
places_in (Some limit) = limit ∷ []

abbrev pub HasBurstFor : ℕ → View → Seen → BurstHold → View → Type 0
HasBurstFor sub v seen b w = (b ≡ burst_for sub seen) × GoesAlone v (take_of sub seen.cores ∷ []) (places_in seen.limit) [] [] w

abbrev pub HasHoldFor : ℕ → ℕ → View → Seen → Hold → View → Type 0
HasHoldFor sub host v seen h w =
    (h ≡ hold_for sub host seen) × GoesAlone v (take_of sub seen.cores ∷ []) (places_in seen.limit) (room_of host seen.cores seen.memory ∷ []) [] w

-- ---- the claim

-- it is all that the seat holds, and is of the frame that the farm of its journal has waiting
pub record OwnsClaim (c : Claim) (v : View) : Type 0 where
  pub alone : HoldsAlone [] [] [] (claim_of c ∷ []) v
  pub formed : IsFormedClaim (claim_of c)
  pub held : IsHold c.hold
  pub next : (stand_at (farm_in v) c.slot).version + 1 ≡ c.version

pub record HasClaimed (slot host : ℕ) (v : View) (c : Claim) (w : View) : Type 0 where
  pub at : c.slot ≡ slot
  pub on : c.hold.host ≡ host
  pub went : WentOn v w
  pub owns : OwnsClaim c w

-- its word runs ahead
abbrev pub WasOwned : Claim → View → Type 0
WasOwned c w = (v : View) × OwnsClaim c v × RunsAhead v (claim_of c) w

-- the journal has the entry more; only the desk's lists, what is held, and the trail may be others beside
pub record EntersOn (v : View) (e : Entry) (w : View) : Type 0 where
  pub like : w
      ≡ record v {
        desk = w.desk;
        journal = v.journal ++ e ∷ [];
        takes = w.takes;
        limits = w.limits;
        rooms = w.rooms;
        claims = w.claims;
        ungranted = w.ungranted;
        ungranted_limit = w.ungranted_limit;
        trail = w.trail;
        receipts = v.receipts ++ length v.journal ∷ [];
      }
  pub split : split_in w.desk ≡ split_in v.desk
  pub trail : IsPrefix v.trail w.trail

abbrev pub EntersClaim : View → Entry → Result ProcRow ConfirmRefusal → View → Type 0
EntersClaim v e (Ok row) w = EntersOn v e w
EntersClaim v e (Err why) w = WentOn v w

abbrev pub EntersBook : View → Entry → BookResult → View → Type 0
EntersBook v e (book.Booked row) w = EntersOn v e w
EntersBook v e other w = WentOn v w

abbrev pub book_of : Result ProcRow ConfirmRefusal → BookResult
book_of (Ok row) = book.Booked row
book_of (Err why) = book.Confirm why
