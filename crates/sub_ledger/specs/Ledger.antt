-- What the ledger of subscriptions holds and answers.
use Rattle.std.specs.Prelude.{ℕ, ◌≡◌, ◌≤◌, ◌<◌, ◌==◌, ◌+◌, ◌^◌, List, [], replicate, find, is_some, true, Option, None, Some, option_map}
use Rattle.std.specs.declared.cmp.Ordering.{Ordering}
use Rattle.farm_types.specs.declared.rows.SubRow.{SubRow}
use Rattle.farm_types.specs.Dispatch.{by_ratio}
use Rattle.farm_types.specs.Sums.{total_at}
use Rattle.sub_ledger.specs.declared.subs.SubState.{SubState}
use Rattle.farm_types.specs.declared.limits.TheConstants.{SUB_NUMBERS}

-- the subscriptions in the order of their numbers, and by number the cores that are booked
pub record Ledger : Type 0 where
  pub subs : List SubRow
  pub booked : List ℕ

-- no subscription, and nothing booked
unfoldable pub no_subs : Ledger
no_subs = record { subs = []; booked = replicate SUB_NUMBERS 0 }

abbrev pub row_of : Ledger → ℕ → Option SubRow
row_of b sub = find (λ s. s.sub == sub) b.subs

abbrev pub state_for : ℕ → SubRow → SubState
state_for booked s = record { size = s.size; burst = s.burst; booked = booked }

abbrev pub state_of : Ledger → ℕ → Option SubState
state_of b sub = option_map (state_for (total_at b.booked sub)) (row_of b sub)

-- the size of the subscription of that number
abbrev pub size_in : Option SubRow → ℕ
size_in None = 0
size_in (Some s) = s.size

abbrev pub size_of : Ledger → ℕ → ℕ
size_of b sub = size_in (row_of b sub)

-- how two subscriptions compare by what is booked of their sizes
abbrev pub before : Ledger → ℕ → ℕ → Ordering
before b x y = by_ratio (total_at b.booked x) (size_of b x) (total_at b.booked y) (size_of b y)

-- ---- conditions

-- the subscription is there, and with the cores what is booked of it is within its burst
abbrev pub IsWithin : Option SubRow → ℕ → Type 0
IsWithin None booked = ⊥
IsWithin (Some s) booked = booked ≤ s.burst

abbrev pub CanAdd : Ledger → ℕ → ℕ → Type 0
CanAdd b sub cores = IsWithin (row_of b sub) (total_at b.booked sub + cores)

-- the subscription is there, and what is booked of it with the cores is a number of 32 bits
pub record CanCount (b : Ledger) (sub cores : ℕ) : Type 0 where
  pub there : is_some (row_of b sub) ≡ true
  pub room : total_at b.booked sub + cores < 2 ^ 32

-- the subscription is there, and so many cores of it are booked
pub record CanRemove (b : Ledger) (sub cores : ℕ) : Type 0 where
  pub there : is_some (row_of b sub) ≡ true
  pub enough : cores ≤ total_at b.booked sub
