-- The recorder's seat while no other seat was split off.
use Rattle.std.specs.Prelude.{◌≡◌, ◌+◌, ℕ, List, Some, None}
use Rattle.farm_types.specs.Sums.{used_cores, used_memory, booked_in, running_in}
use Rattle.frame_words.specs.declared.frame_word.FrameWord.{FrameWord}
use Rattle.frame_words.specs.declared.host_word.HostWord.{HostWord}
use Rattle.frame_words.specs.declared.limit_word.LimitWord.{LimitWord}
use Rattle.frame_words.specs.declared.sub_word.SubWord.{SubWord}
use Rattle.booking_rule.specs.declared.desk.Desk.{Desk}
use Rattle.booking_rule.specs.declared.hold.Claim.{Claim}
use Rattle.booking_rule.specs.declared.view.View.{View}
use Rattle.booking_rule.specs.Link.{IsDone, burst_at, host_cores, host_memory, most_at, stand_at}
use Rattle.booking_rule.specs.Rule.{cores_in, granted_in, granted_on, in_flight, limit_in_flight, memory_in, word_of}
use Rattle.booking_rule.specs.Totals.{total}
use Rattle.booking_rule.specs.Kept.{farm_in}

-- It is the recorder's, and no seat was split off: what others hold is nothing. No word is left to change and none runs
-- ahead, and exactly these claims are its own.
pub record IsAlone (cs : List Claim) (v : View) : Type 0 where
  pub desk : Desk
  pub first : v.desk ≡ Some desk
  pub split : desk.split ≡ 0
  pub pending : desk.pending ≡ None
  pub done : IsDone v.opening v.journal desk
  pub claims : v.claims ≡ cs

-- ---- what its journal's farm says of words, with what it holds itself

-- of a slot's word, where no slot is claimed
abbrev pub ShowsSlot : View → ℕ → FrameWord → Type 0
ShowsSlot v slot word = word ≡ word_of (stand_at (farm_in v) slot)

-- of a host: its size is what is free, what frames use, and the seat's own rooms
pub record ShowsRoom (v : View) (host : ℕ) (word : HostWord) : Type 0 where
  pub cores : word.cores + (used_cores (farm_in v) host + total (cores_in host) v.rooms) ≡ host_cores (farm_in v) host
  pub memory : word.memory + (used_memory (farm_in v) host + total (memory_in host) v.rooms) ≡ host_memory (farm_in v) host

-- of a subscription: its burst, and what is booked of it, with the seat's own takes
pub record ShowsBurst (v : View) (sub : ℕ) (word : SubWord) : Type 0 where
  pub burst : word.burst ≡ burst_at (farm_in v) sub
  pub booked : word.booked ≡ booked_in (farm_in v) sub + (granted_on sub v + in_flight sub v.ungranted)

-- of a limit: how many frames may run, and how many do, with the seat's own places
pub record ShowsLimit (v : View) (limit : ℕ) (word : LimitWord) : Type 0 where
  pub most : word.most ≡ most_at (farm_in v) limit
  pub running : word.running ≡ running_in (farm_in v) limit + (granted_in limit v + limit_in_flight limit v.ungranted_limit)
