-- What is left to do just after an entry was recorded.
use Rattle.std.specs.Prelude.{◌≡◌, ℕ, ◌<◌, List, [], Option, Some, None}
use Rattle.farm_types.specs.declared.entry.Entry.{Entry}
use Rattle.farm_types.specs.Farm.{Farm}
use Rattle.farm_types.specs.Kept.{IsKeptFarm}
use Rattle.farm_types.specs.Run.{IsLegalStep, run_of}
use Rattle.farm_types.specs.Step as farms
use Rattle.booking_rule.specs.declared.desk.Desk.{Desk}
use Rattle.booking_rule.specs.declared.hold.Room.{Room}
use Rattle.booking_rule.specs.declared.view.View.{View}
use Rattle.booking_rule.specs.Kept.{farm_in}
use Rattle.booking_rule.specs.Link.{farm_of, host_cores, host_memory}
use Rattle.booking_rule.specs.Resizing.{IsResized}
use Rattle.booking_rule.specs.Views.{rooms_off}
use Rattle.recording_core.specs.Machine.{IsBooking}
use Rattle.farm_stands.specs.declared.turn.Turn.{Turn}
use Rattle.farm_stands.specs.Turns.{Covers}

-- all the rooms are on the host that is resized, if any is
abbrev pub AreOn : Option ℕ → List Room → Type 0
AreOn None rooms = rooms ≡ []
AreOn (Some host) rooms = rooms_off host rooms ≡ []

-- exactly this host of the one farm has another size in the other farm, or none has
pub record Resizes (f g : Farm) (resized : Option ℕ) : Type 0 where
  pub each : (host : ℕ) → host < 4096 → IsResized (host_cores f host) (host_memory f host) g host → resized ≡ Some host
  pub within : (host : ℕ) → resized ≡ Some host → host < 4096
  pub only : (host : ℕ) → resized ≡ Some host → IsResized (host_cores f host) (host_memory f host) g host

-- A legal entry, which is no booking, was recorded last, and no word was changed for it yet. The turns cover it. The seat has
-- room on the host that the entry resizes, and holds nothing else.
pub record Owes (v : View) (g : Farm) (ts : List Turn) (resized : Option ℕ) : Type 0 where
  pub desk : Desk
  pub first : v.desk ≡ Some desk
  pub pending : desk.pending ≡ None
  pub log : List Entry
  pub before : desk.before ≡ Some log
  pub slots : desk.slots ≡ []
  pub hosts : desk.hosts ≡ []
  pub subs : desk.subs ≡ []
  pub limits : desk.limits ≡ []
  pub entry : Entry
  pub kept : IsKeptFarm (run_of (farm_of v.opening) log)
  pub legal : IsLegalStep (run_of (farm_of v.opening) log) entry
  pub unbooked : IsBooking entry.act → ⊥
  pub leads : farms.after (run_of (farm_of v.opening) log) entry ≡ g
  pub farm : farm_in v ≡ g
  pub covers : Covers (run_of (farm_of v.opening) log) g ts
  pub resizes : Resizes (run_of (farm_of v.opening) log) g resized
  pub takes : v.takes ≡ []
  pub places : v.limits ≡ []
  pub rooms : AreOn resized v.rooms
  pub claims : v.claims ≡ []
  pub burst : v.ungranted ≡ None
  pub place : v.ungranted_limit ≡ None
