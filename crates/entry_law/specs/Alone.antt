-- What a booking changes of what words show.
use Rattle.std.specs.Prelude.{◌≡◌, ℕ, ◌+◌, ◌<◌, ◌==◌, false}
use Rattle.booking_rule.specs.Link.{burst_at, host_alloc, host_cores, host_memory, most_at, stand_at}
use Rattle.farm_types.specs.Farm.{Farm}

-- The slot's frame waited below the last version, and runs on the host at the next one, with the same amounts. Each
-- other slot, and all hosts, subscriptions and limits, are as they were.
pub record BooksAlone (f g : Farm) (slot host : ℕ) : Type 0 where
  pub waited : (stand_at f slot).phase ≡ 1
  pub below : (stand_at f slot).version < 16777215
  pub booked : stand_at g slot ≡ record (stand_at f slot) { phase = 4; version = (stand_at f slot).version + 1; host = host }
  pub others : (n : ℕ) → (n == slot) ≡ false → stand_at g n ≡ stand_at f n
  pub cores : (n : ℕ) → host_cores g n ≡ host_cores f n
  pub memory : (n : ℕ) → host_memory g n ≡ host_memory f n
  pub alloc : (n : ℕ) → host_alloc g n ≡ host_alloc f n
  pub burst : (sub : ℕ) → burst_at g sub ≡ burst_at f sub
  pub most : (limit : ℕ) → most_at g limit ≡ most_at f limit
