-- What the calls of a seat find that is alone.
use Rattle.std.specs.Prelude.{◌≡◌, ℕ, ◌==◌, false}
use Rattle.frame_words.specs.declared.host_word.HostWord.{HostWord}
use Rattle.frame_words.specs.declared.limit_word.LimitWord.{LimitWord}
use Rattle.frame_words.specs.declared.sub_word.SubWord.{SubWord}
use Rattle.booking_rule.specs.declared.view.View.{View}
use Rattle.booking_rule.specs.Alone.{ShowsBurst, ShowsLimit, ShowsRoom}
use Rattle.booking_rule.specs.Kept.{farm_in}
use Rattle.booking_rule.specs.Link.{limit_code, stand_at}
use Rattle.booking_rule.specs.Recorded.{Stand}
use Rattle.booking_table.specs.declared.burst.BurstFull.{BurstFull}
use Rattle.booking_table.specs.declared.limit.LimitFull.{LimitFull}
use Rattle.booking_table.specs.declared.room.HostShort.{HostShort}
use Rattle.booking_table.specs.declared.room.HostShort.TheVariants as host_short
use Rattle.booking_table.specs.declared.seen.Seen.{Seen}

-- a look saw what the stand is: its amounts, where the slot has a frame
pub record SawStand (s : Stand) (seen : Seen) : Type 0 where
  pub phase : seen.phase ≡ s.phase
  pub version : seen.version ≡ s.version
  pub cores : seen.cores ≡ s.cores
  pub show : (s.phase == 0) ≡ false → seen.show ≡ s.show
  pub limit : (s.phase == 0) ≡ false → limit_code seen.limit ≡ s.limit
  pub memory : (s.phase == 0) ≡ false → seen.memory ≡ s.memory

-- .. what the farm of the seat's journal says of the slot
abbrev pub ShowsSeen : View → Seen → Type 0
ShowsSeen v seen = SawStand (stand_at (farm_in v) seen.slot) seen

-- cores that didn't fit, and a place that there wasn't, by what the farm says
abbrev pub ShowsFull : View → ℕ → BurstFull → Type 0
ShowsFull v sub full = ShowsBurst v sub (record { burst = full.burst; booked = full.booked })

abbrev pub ShowsNoPlace : View → ℕ → LimitFull → Type 0
ShowsNoPlace v limit full = ShowsLimit v limit (record { most = full.most; running = full.running })

-- less is free than is wanted, by what the farm says; nobody else changed the word meanwhile
abbrev pub ShowsShort : View → ℕ → HostShort → Type 0
ShowsShort v host (host_short.NoRoom cores memory) = ShowsRoom v host (record { cores = cores; memory = memory })
ShowsShort v host (host_short.Moved expected found) = ⊥
