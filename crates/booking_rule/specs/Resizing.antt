-- Hosts whose size is about to change.
use Rattle.std.specs.Prelude.{◌≡◌, ◌≢◌, ℕ, ◌<◌, List, None}
use mathlib.Core.Option.{some}
use lib.ListN.{get_elem?}
use Rattle.farm_types.specs.Farm.{Farm}
use Rattle.frame_words.specs.declared.frame_word.FrameWord.{FrameWord}
use Rattle.frame_words.specs.declared.host_word.HostWord.{HostWord}
use Rattle.booking_rule.specs.declared.view.View.{View}
use Rattle.booking_rule.specs.Totals.{total}
use Rattle.booking_rule.specs.Link.{host_cores, host_memory}
use Rattle.booking_rule.specs.Rule.{cores_in, memory_in}

-- the farm says the recorded size
abbrev pub IsOfSize : ℕ → ℕ → Farm → ℕ → Type 0
IsOfSize cores memory f host = (cores ≡ host_cores f host) × (memory ≡ host_memory f host)

-- the host is recorded, and the farm says another size
abbrev pub IsResized : ℕ → ℕ → Farm → ℕ → Type 0
IsResized cores memory f host = (cores ≢ 0) × (IsOfSize cores memory f host → ⊥)

-- a view's room on a host is of no amounts
abbrev pub HasNoRoom : ℕ → View → Type 0
HasNoRoom host v = (total (cores_in host) v.rooms ≡ 0) × (total (memory_in host) v.rooms ≡ 0)

-- nothing is free on the host, no slot is claimed there, and no seat but the recorder's has room there
pub record IsEmptied (host : ℕ) (word : HostWord) (frame : ℕ → FrameWord) (views : List View) : Type 0 where
  pub cores : word.cores ≡ 0
  pub memory : word.memory ≡ 0
  pub unclaimed : (slot : ℕ) → slot < 65536 → (frame slot).host ≡ host → (frame slot).phase ≢ 3
  pub others : (id : ℕ) (v : View) → get_elem? views id ≡ some v → v.desk ≡ None → HasNoRoom host v

-- what isn't running on a host that is resized is the recorder's seat's
pub record Resizing (cores memory : ℕ → ℕ) (f : Farm) (hosts : ℕ → HostWord) (frame : ℕ → FrameWord) (views : List View) : Type 0 where
  pub each : (host : ℕ) → host < 4096 → IsResized (cores host) (memory host) f host → IsEmptied host (hosts host) frame views
