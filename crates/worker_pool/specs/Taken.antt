-- Counts of connections that workers took.
use Rattle.std.specs.Prelude.{ℕ, ◌<◌, zero, suc}
use Rattle.fault_counts.specs.Counts.{HasRisenBy, incremented}

-- a count after so many more
abbrev pub raised : ℕ → ℕ → ℕ
raised zero count = count
raised (suc many) count = incremented (raised many count)

-- a count went up by less than so many, or stands at its last number
abbrev pub HasRisenByLess : ℕ → ℕ → ℕ → Type 0
HasRisenByLess many old new = (taken : ℕ) × (taken < many) × HasRisenBy taken old new
