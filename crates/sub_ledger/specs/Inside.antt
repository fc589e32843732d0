-- What the ledger of subscriptions keeps in its places, one for each number.
use Rattle.std.specs.Prelude.{ℕ, ◌≡◌, ◌≤◌, ◌<◌, ◌+◌, ◌-◌, ◌^◌, List, [], ◌∷◌, map, length, Option, None, Some}
use Rattle.farm_types.specs.declared.rows.SubRow.{SubRow}
use Rattle.sub_ledger.specs.declared.subs.SubState.{SubState}
use Rattle.sub_ledger.specs.declared.subs.Subs.TheInside.{Inside}
use Rattle.sub_ledger.specs.Ledger.{Ledger}
use Rattle.farm_types.specs.declared.limits.TheConstants.{SUB_NUMBERS}

-- ---- the ledger that the places make

abbrev pub row_for : ℕ → SubState → SubRow
row_for sub s = record { sub = sub; size = s.size; burst = s.burst }

-- a place's row, if it has one, before other rows
abbrev pub with_place : ℕ → Option SubState → List SubRow → List SubRow
with_place sub None rows = rows
with_place sub (Some s) rows = row_for sub s ∷ rows

-- the rows of the places, which are numbered from a number
abbrev pub rows_from : ℕ → List (Option SubState) → List SubRow
rows_from sub [] = []
rows_from sub (p ∷ ps) = with_place sub p (rows_from (sub + 1) ps)

abbrev pub booked_of : Option SubState → ℕ
booked_of None = 0
booked_of (Some s) = s.booked

abbrev pub ledger_for : List (Option SubState) → Ledger
ledger_for places = record { subs = rows_from 0 places; booked = map booked_of places }

abbrev pub ledger_of : Inside → Ledger
ledger_of book = ledger_for book.places.items

-- each number has its place
abbrev pub HasAllPlaces : Inside → Type 0
HasAllPlaces book = length book.places.items ≡ SUB_NUMBERS

-- ---- one place

-- what stands at a place, none past the last
abbrev pub state_in : Option (Option SubState) → Option SubState
state_in None = None
state_in (Some p) = p

-- the place with a size and a burst, and what was booked
abbrev pub set_to : ℕ → ℕ → Option SubState → Option SubState
set_to size burst p = Some (record { size = size; burst = burst; booked = booked_of p })

-- the place with more booked, and with less
abbrev pub with_more : ℕ → Option SubState → Option SubState
with_more cores None = None
with_more cores (Some s) = Some (record s { booked = s.booked + cores })

abbrev pub with_less : ℕ → Option SubState → Option SubState
with_less cores None = None
with_less cores (Some s) = Some (record s { booked = s.booked - cores })

-- the subscription at the place takes the cores within its burst
abbrev pub TakesCores : Option SubState → ℕ → Type 0
TakesCores None cores = ⊥
TakesCores (Some s) cores = s.booked + cores ≤ s.burst

-- the subscription at the place has room for the cores in its count
abbrev pub CountsCores : Option SubState → ℕ → Type 0
CountsCores None cores = ⊥
CountsCores (Some s) cores = s.booked + cores < 2 ^ 32

-- so many cores are booked of the subscription at the place
abbrev pub GivesCores : Option SubState → ℕ → Type 0
GivesCores None cores = ⊥
GivesCores (Some s) cores = cores ≤ s.booked
