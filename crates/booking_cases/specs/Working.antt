-- What the seat of a dispatcher knows between two steps.
use Rattle.std.specs.Prelude.{◌≡◌, ◌<◌, true, Option, Some, None}
use Rattle.std.specs.List.{list_all}
use mathlib.Core.List.{IsPrefix}
use Rattle.atomic_table.specs.Seated.{TableId}
use Rattle.atomic_table.specs.declared.shared.Seat.{Seat}
use Rattle.farm_types.specs.Dispatch.{candidate_suits}
use Rattle.farm_types.specs.Limits.{IsBetween}
use Rattle.farm_types.specs.declared.limits.TheConstants.{LEAST_CORES, LEAST_MEMORY, MOST_CORES, MOST_MEMORY}
use Rattle.booking_rule.specs.declared.view.View.{View}
use Rattle.booking_rule.specs.Kept.{farm_in}
use Rattle.booking_rule.specs.Looks.{HasLook}
use Rattle.booking_rule.specs.Seats.{seats}
use Rattle.booking_table.specs.declared.seen.Seen.{Seen}
use Rattle.booking_table.specs.Calls.{look_by}
use Rattle.booking_table.specs.Seats.{view, IsSeatOf}
use Rattle.booking_cases.specs.declared.advance.Work.{Work}
use Rattle.booking_cases.specs.declared.held.HeldRoom.{HeldRoom}
use Rattle.booking_cases.specs.declared.plan.Plan.{Plan}
use Rattle.booking_cases.specs.Holding.{HasHeld}

-- a seat with a number, which has nothing in flight
pub record IsFree (v : View) : Type 0 where
  pub desk : v.desk ≡ None
  pub one : seats v ≡ 1
  pub burst : v.ungranted ≡ None
  pub place : v.ungranted_limit ≡ None

-- the same seat, which has seen as much of the journal, with nothing in flight and a trail that grew
pub record GoesOn (v w : View) : Type 0 where
  pub desk : w.desk ≡ v.desk
  pub number : w.number ≡ v.number
  pub opening : w.opening ≡ v.opening
  pub journal : w.journal ≡ v.journal
  pub burst : w.ungranted ≡ None
  pub place : w.ungranted_limit ≡ None
  pub trail : IsPrefix v.trail w.trail

-- a waiting frame that the seat saw, below the last version
pub record HasSeen (v : View) (s : Seen) : Type 0 where
  pub slot : s.slot < 65536
  pub phase : s.phase ≡ 1
  pub version : s.version < 16777215
  pub cores : IsBetween LEAST_CORES MOST_CORES s.cores
  pub memory : IsBetween LEAST_MEMORY MOST_MEMORY s.memory
  pub look : HasLook v.trail (look_by s)

abbrev pub HasLooked : View → Option Seen → Type 0
HasLooked v None = Unit {0}
HasLooked v (Some s) = HasSeen v s

-- what is kept of a look: all of it, where the frame can be claimed
abbrev pub IsClaimable : Seen → Option Seen → Type 0
IsClaimable s None = Unit {0}
IsClaimable s (Some kept) = (kept ≡ s) × (s.phase ≡ 1) × (s.version < 16777215)

-- so much is held as the frame wants that was seen
abbrev pub IsFor : HeldRoom → Seen → Type 0
IsFor room s = (room.burst.cores ≡ s.cores) × (room.memory ≡ s.memory) × (room.burst.limit ≡ s.limit)

-- each candidate suits the host in the farm of the seat's journal
abbrev pub AllSuit : View → Plan → Type 0
AllSuit v plan = list_all (candidate_suits (farm_in v) plan.host) plan.candidates ≡ true

pub record IsWorking (t : TableId) (s : Seat (Unit {0}) View) (plan : Plan) (work : Work) : Type 0 where
  pub seat : IsSeatOf t s
  pub free : IsFree (view s)
  pub within : plan.host < 4096
  pub suits : AllSuit (view s) plan
  pub looked : HasLooked (view s) work.seen
  pub held : HasHeld (view s) work.held
