-- What keeps the limits of the farm.
use Rattle.std.specs.Prelude.{ℕ, ◌≤◌, length}
use Rattle.farm_types.specs.declared.boot.BootLine.{BootLine}
use Rattle.farm_types.specs.declared.sub_line.SubLine.{SubLine}
use Rattle.farm_types.specs.declared.limits.TheConstants.{LEAST_CORES, LEAST_MEMORY, MOST_BURST, MOST_CORES, MOST_MEMORY, MOST_TAGS}

-- a number from the least to the most
abbrev pub IsBetween : ℕ → ℕ → ℕ → Type 0
IsBetween least most n = (least ≤ n) × (n ≤ most)

-- a host's boot
pub record BootKeepsLimits (line : BootLine) : Type 0 where
  pub tags_within : length line.tags ≤ MOST_TAGS
  pub cores_within : IsBetween LEAST_CORES MOST_CORES line.cores
  pub memory_within : IsBetween LEAST_MEMORY MOST_MEMORY line.memory

-- what is asked of a subscription
pub record SubKeepsLimits (line : SubLine) : Type 0 where
  pub size_within : line.size ≤ MOST_BURST
  pub burst_within : line.burst ≤ MOST_BURST
