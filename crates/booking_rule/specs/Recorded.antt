-- What the records say that words have to show.
use Rattle.std.specs.Prelude.{ℕ}

-- of a slot: its phase and version; the host, where it runs; its layer's amounts and limit and its job's show, where it
-- has a frame. The limit is 0 for none, else its number plus 1
pub record Stand : Type 0 where
  pub phase : ℕ
  pub version : ℕ
  pub host : ℕ
  pub cores : ℕ
  pub show : ℕ
  pub limit : ℕ
  pub memory : ℕ

-- a slot without a frame
abbrev pub free_at : ℕ → Stand
free_at version = record { phase = 0; version = version; host = 0; cores = 0; show = 0; limit = 0; memory = 0 }

-- of a host its size and its allocation, of a subscription its burst, of a limit how many frames it lets run: 0 where
-- it isn't recorded; and, while the words are placed for the first time, of which running frames the recorder's seat
-- has the room, the take and the place in a limit, until their words are placed
pub record Recorded : Type 0 where
  pub slot : ℕ → Stand
  pub cores : ℕ → ℕ
  pub memory : ℕ → ℕ
  pub alloc : ℕ → ℕ
  pub burst : ℕ → ℕ
  pub most : ℕ → ℕ
  pub roomed : ℕ → Stand
  pub billed : ℕ → Stand
  pub counted : ℕ → Stand
