-- One turn after the other: what stays the same meanwhile, and what each of them changes.
use Rattle.std.specs.Prelude.{◌≡◌, ◌⊎◌, ℕ, ◌<◌, ◌≤◌, Bool, true, false, if◌then◌else◌, List, [], ◌∷◌, ◌++◌, Option, Some, None, slice_get}
use mathlib.Core.List.{IsPrefix}
use Rattle.farm_types.specs.declared.entry.Entry.{Entry}
use Rattle.farm_types.specs.declared.limits.TheConstants.{LEAST_CORES, LEAST_MEMORY, MOST_CORES, MOST_MEMORY}
use Rattle.farm_types.specs.Farm.{Farm}
use Rattle.farm_types.specs.Kept.{IsKeptFarm}
use Rattle.farm_types.specs.Limits.{IsBetween}
use Rattle.farm_types.specs.Run.{IsLegalStep}
use Rattle.farm_types.specs.Step as farms
use Rattle.farm_rows.specs.declared.row_key.RowKey.{RowKey}
use Rattle.farm_rows.specs.declared.row_key.RowKey.TheVariants as key
use Rattle.frame_words.specs.declared.amount_word.AmountWord.{AmountWord}
use Rattle.frame_words.specs.declared.frame_word.FrameWord.{FrameWord}
use Rattle.booking_rule.specs.declared.desk.Desk.{Desk}
use Rattle.booking_rule.specs.declared.hold.Room.{Room}
use Rattle.booking_rule.specs.declared.view.View.{View}
use Rattle.booking_rule.specs.Kept.{farm_in}
use Rattle.booking_rule.specs.Link.{farm_before, has, stand_at}
use Rattle.booking_rule.specs.Views.{limit_take, room_of, take_of}
use Rattle.booking_core.specs.Machine.{MayGive, MayGiveRoom}
use Rattle.recording_core.specs.Machine.{IsBooking, stand_recorded}
use Rattle.recording_core.specs.Records.{desk_in}
use Rattle.farm_stands.specs.declared.bounds.HostSize.{HostSize}
use Rattle.farm_stands.specs.declared.turn.Turn.{Turn}
use Rattle.farm_stands.specs.declared.turn.Turn.TheVariants as turn
use Rattle.farm_stands.specs.Turns.{Covers, IsInTable, Says, is_done, turn_key}
use Rattle.recording_turns.specs.Owing.{AreOn, Resizes}
use Rattle.recording_turns.specs.Resting.{WentOn}

-- ---- the farm before, and the rows whose words were changed

-- the farm before the last entry, by the seat's own view
abbrev pub was_in : View → Farm
was_in v = farm_before v.opening (desk_in v.desk).before

-- the desk, once the words of the row were changed
abbrev pub desk_done : RowKey → Desk → Desk
desk_done (key.Frame slot) d = record d { slots = slot ∷ d.slots }
desk_done (key.Host host) d = record d { hosts = host ∷ d.hosts }
desk_done (key.Sub sub) d = record d { subs = sub ∷ d.subs }
desk_done (key.Limit limit) d = record d { limits = limit ∷ d.limits }
desk_done other d = d

-- ---- what stays

-- A legal entry that is no booking leads from the farm before to this one. The seat has room on the host that is resized,
-- until that has its size, and holds nothing else.
pub record Going (v : View) (g : Farm) (resized : Option ℕ) : Type 0 where
  pub first : v.desk ≡ Some (desk_in v.desk)
  pub pending : (desk_in v.desk).pending ≡ None
  pub log : List Entry
  pub before : (desk_in v.desk).before ≡ Some log
  pub entry : Entry
  pub kept : IsKeptFarm (was_in v)
  pub legal : IsLegalStep (was_in v) entry
  pub unbooked : IsBooking entry.act → ⊥
  pub leads : farms.after (was_in v) entry ≡ g
  pub farm : farm_in v ≡ g
  pub resizes : Resizes (was_in v) g resized
  pub takes : v.takes ≡ []
  pub places : v.limits ≡ []
  pub rooms : AreOn resized v.rooms
  pub gone : (host : ℕ) → resized ≡ Some host → has host (desk_in v.desk).hosts ≡ true → v.rooms ≡ []
  pub claims : v.claims ≡ []
  pub burst : v.ungranted ≡ None
  pub place : v.ungranted_limit ≡ None

-- ---- one turn

-- it says what the farm before says, of words of the table that weren't changed yet
abbrev pub IsOpen : View → Turn → Type 0
IsOpen v t = Says (was_in v) t × IsInTable t × (is_done (desk_in v.desk) (turn_key t) ≡ false)

-- the words of the row were changed
pub record Turned (v : View) (k : RowKey) (w : View) : Type 0 where
  pub went : WentOn v w
  pub desk : w.desk ≡ Some (desk_done k (desk_in v.desk))

-- .. or the farm says of them what the farm before says
pub record Carried (v : View) (g : Farm) (t : Turn) (w : View) : Type 0 where
  pub went : WentOn v w
  pub desk : ((w.desk ≡ v.desk) × Says g t) ⊎ (w.desk ≡ Some (desk_done (turn_key t) (desk_in v.desk)))

-- the turn is carried out, or is passed over
abbrev pub CarriedIf : Bool → View → Farm → Turn → View → Type 0
CarriedIf true v g t w = Carried v g t w
CarriedIf false v g t w = w ≡ v

abbrev pub is_slot : Turn → Bool
is_slot (turn.Slot slot frame amount) = true
is_slot other = false

abbrev pub slot_turn : ℕ → FrameWord → AmountWord → Turn
slot_turn slot frame amount = turn.Slot slot frame amount

abbrev pub host_turn : ℕ → HostSize → Turn
host_turn host size = turn.Host host size

abbrev pub sub_turn : ℕ → ℕ → Turn
sub_turn sub burst = turn.Sub sub burst

abbrev pub limit_turn : ℕ → ℕ → Turn
limit_turn limit most = turn.Limit limit most

abbrev pub slot_key : ℕ → RowKey
slot_key slot = key.Frame slot

abbrev pub host_key : ℕ → RowKey
host_key host = key.Host host

abbrev pub sub_key : ℕ → RowKey
sub_key sub = key.Sub sub

abbrev pub limit_key : ℕ → RowKey
limit_key limit = key.Limit limit

-- ---- a slot

-- its turn is open, before any of a host, and the farms differ there
pub record IsReady (v : View) (g : Farm) (slot : ℕ) (frame : FrameWord) (amount : AmountWord) (resized : Option ℕ) : Type 0 where
  pub going : Going v g resized
  pub hosts : (desk_in v.desk).hosts ≡ []
  pub opens : IsOpen v (slot_turn slot frame amount)
  pub differs : Says g (slot_turn slot frame amount) → ⊥

-- only the trail grew
pub record IsNoted (v w : View) : Type 0 where
  pub like : w ≡ record v { trail = w.trail }
  pub trail : IsPrefix v.trail w.trail

-- The seat holds what a booked word had booked, beside room on the host that is resized; it may give it back, but for room there.
pub record HasFreed (v : View) (sub c h : ℕ) (a : AmountWord) (resized : Option ℕ) : Type 0 where
  pub may : MayGive v
  pub takes : v.takes ≡ take_of sub c ∷ []
  pub limits : v.limits ≡ limit_take a.limit ++ []
  pub rest : List Room
  pub rooms : v.rooms ≡ room_of h c a.memory ∷ rest
  pub others : AreOn resized rest
  pub below : sub < 1024
  pub cores : IsBetween LEAST_CORES MOST_CORES c
  pub limit : a.limit < 256
  pub host : h < 4096
  pub memory : IsBetween LEAST_MEMORY MOST_MEMORY a.memory
  pub room : (resized ≡ Some h → ⊥) → MayGiveRoom v h

-- it was given back
pub record Gave (v : View) (resized : Option ℕ) (w : View) : Type 0 where
  pub like : w ≡ record v { takes = w.takes; limits = w.limits; rooms = w.rooms; trail = w.trail }
  pub takes : w.takes ≡ []
  pub limits : w.limits ≡ []
  pub rooms : AreOn resized w.rooms
  pub trail : IsPrefix v.trail w.trail

-- ---- all turns

-- what is recorded of each slot is what the farm says
pub record SlotsDone (v : View) (g : Farm) : Type 0 where
  pub each : (slot : ℕ) → stand_recorded v slot ≡ stand_at g slot

abbrev pub bound : ℕ → ℕ → Bool → ℕ
bound n m slot = if slot then n else m

-- the turns of slots below n were carried out, and the others below m; none past these was
pub record Goes (v : View) (g : Farm) (ts : List Turn) (resized : Option ℕ) (n m : ℕ) (w : View) : Type 0 where
  pub going : Going w g resized
  pub went : WentOn v w
  pub covers : Covers (was_in w) g ts
  pub turned : (j : ℕ) (t : Turn) → slice_get ts j ≡ Some t → j < bound n m (is_slot t) → (is_done (desk_in w.desk) (turn_key t) ≡ true) ⊎ Says g t
  pub left : (j : ℕ) (t : Turn) → slice_get ts j ≡ Some t → bound n m (is_slot t) ≤ j → is_done (desk_in w.desk) (turn_key t) ≡ false
