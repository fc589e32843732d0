-- The size of a host that boots with another one.
use Rattle.std.specs.Prelude.{◌≡◌, ℕ, ◌-◌, ◌≤◌, ◌==◌, ◌&&◌, Bool, not, if◌then◌else◌, List, [], ◌∷◌, Option, Some, None}
use mathlib.Core.List.{IsPrefix}
use Rattle.farm_types.specs.declared.limits.TheConstants.{MOST_CORES, MOST_MEMORY}
use Rattle.farm_types.specs.declared.rows.HostRow.{HostRow}
use Rattle.farm_types.specs.Farm.{Farm}
use Rattle.farm_types.specs.Sums.{used_cores, used_memory}
use Rattle.farm_rows.specs.declared.farm_row.FarmRow.{FarmRow}
use Rattle.farm_rows.specs.declared.farm_row.FarmRow.TheVariants as row
use Rattle.farm_rows.specs.declared.row_change.RowChange.{RowChange}
use Rattle.farm_rows.specs.declared.row_change.RowChange.TheVariants as change
use Rattle.frame_words.specs.declared.host_word.HostWord.{HostWord}
use Rattle.booking_rule.specs.declared.view.View.{View}
use Rattle.booking_rule.specs.Link.{host_cores, host_memory}
use Rattle.booking_rule.specs.Views.{room_of}
use Rattle.booking_table.specs.Calls.{IsOtherFree}
use Rattle.recording_core.specs.Machine.{HasAllOf}
use Rattle.recording_turns.specs.Resting.{IsAtRest, IsSettled}

-- ---- which host an entry gives another size

-- the host is there with other amounts than the row's
abbrev pub is_resized : Farm → ℕ → HostRow → Bool
is_resized f host r = not (host_cores f host == 0) && not (host_cores f host == r.cores && host_memory f host == r.memory)

abbrev pub resized_row : Farm → FarmRow → Option ℕ
resized_row f (row.Host host r) = if is_resized f host r then Some host else None
resized_row f other = None

abbrev pub resized_by : Farm → RowChange → Option ℕ
resized_by f (change.Put r) = resized_row f r
resized_by f (change.Delete gone) = None

abbrev pub earlier : Option ℕ → Option ℕ → Option ℕ
earlier (Some host) later = Some host
earlier None later = later

-- the first host that the changes give another size
abbrev pub first_resized : Farm → List RowChange → Option ℕ
first_resized f [] = None
first_resized f (c ∷ cs) = earlier (resized_by f c) (first_resized f cs)

-- ---- all that is free of it

-- by the farm: its size less what its frames use
abbrev pub free_of : Farm → ℕ → HostWord
free_of f host = record { cores = host_cores f host - used_cores f host; memory = host_memory f host - used_memory f host }

-- room of these amounts on the host, within the greatest size, and nothing else
pub record HoldsRoom (v : View) (host : ℕ) (room : HostWord) : Type 0 where
  pub takes : v.takes ≡ []
  pub limits : v.limits ≡ []
  pub rooms : v.rooms ≡ room_of host room.cores room.memory ∷ []
  pub claims : v.claims ≡ []
  pub burst : v.ungranted ≡ None
  pub place : v.ungranted_limit ≡ None
  pub few : (room.cores ≤ MOST_CORES) × (room.memory ≤ MOST_MEMORY)

-- the seat has the room, which with what the host's frames use is all of its size; only its trail is another else
pub record HasSize (v : View) (host : ℕ) (room : HostWord) (w : View) : Type 0 where
  pub settled : IsSettled w
  pub all : HasAllOf host w
  pub holds : HoldsRoom w host room
  pub like : w ≡ record v { rooms = room_of host room.cores room.memory ∷ []; trail = w.trail }
  pub trail : IsPrefix v.trail w.trail

-- other amounts were found free; the seat holds nothing, as before
pub record IsStillHeld (v : View) (f : Farm) (host : ℕ) (found : HostWord) (w : View) : Type 0 where
  pub rests : IsAtRest w
  pub other : IsOtherFree v host (free_of f host) found w

-- the seat has no room any more; only its trail is another else
pub record HasGivenSize (v w : View) : Type 0 where
  pub rests : IsAtRest w
  pub like : w ≡ record v { rooms = []; trail = w.trail }
  pub trail : IsPrefix v.trail w.trail
