-- Counts of calls and of faults: each goes up by one at a time, and stays at the last number of 64 bits.
use Rattle.std.specs.Prelude.{◌≡◌, ℕ, ◌+◌, ◌<◌, ◌≤◌, min, ◌⊎◌, Bool, true, false}

-- where a count stays
abbrev pub last_count : ℕ
last_count = 18446744073709551615

-- the count after one more
abbrev pub incremented : ℕ → ℕ
incremented count = min (count + 1) last_count

-- the count after one more where there was one, and else as it was
abbrev pub incremented_if : Bool → ℕ → ℕ
incremented_if true count = incremented count
incremented_if false count = count

-- a count went up, or stands where no count can go up
abbrev pub HasRisen : ℕ → ℕ → Type 0
HasRisen old new = (old < new) ⊎ (last_count ≤ new)

-- a count went up by exactly so many, or stands at its last number
abbrev pub HasRisenBy : ℕ → ℕ → ℕ → Type 0
HasRisenBy many old new = (new ≡ old + many) ⊎ (new ≡ last_count)

-- a count went up by so many or more, or stands where no count can go up
abbrev pub HasRisenAtLeast : ℕ → ℕ → ℕ → Type 0
HasRisenAtLeast many old new = (old + many ≤ new) ⊎ (last_count ≤ new)
