-- What a seat may do to one word, and what it knows then.
use Rattle.std.specs.Prelude.{◌≡◌, ℕ, ◌+◌, ◌<◌, ◌≤◌, ◌==◌, true, false, [], ◌∷◌, None, slice_index, slice_set}
use mathlib.Core.Option.{some}
use lib.ListN.{get_elem?}
use Rattle.atomic_table.specs.Table.{State, Step}
use Rattle.farm_types.specs.Limits.{IsBetween}
use Rattle.farm_types.specs.declared.limits.TheConstants.{LEAST_CORES, LEAST_MEMORY, MOST_CORES, MOST_MEMORY}
use Rattle.frame_words.specs.declared.frame_word.FrameWord.{FrameWord}
use Rattle.frame_words.specs.Bits.{frame_of, amount_of, host_of, sub_of, limit_of}
use Rattle.booking_rule.specs.declared.hold.Claim.{Claim}
use Rattle.booking_rule.specs.declared.view.View.{View}
use Rattle.booking_rule.specs.Alone.{IsAlone, ShowsBurst, ShowsLimit, ShowsRoom, ShowsSlot}
use Rattle.booking_rule.specs.Kept.{Holds, Sat, farm_in}
use Rattle.booking_rule.specs.Link.{stand_at}
use Rattle.booking_rule.specs.Ranges.{found_used}
use Rattle.booking_rule.specs.Rule.{ShowsAmount}
use Rattle.booking_rule.specs.Words.{frame_place, amount_place, host_place, sub_place, limit_place}
use Rattle.booking_core.specs.Kinds.{loaded, tried_burst, retracted_burst, gave_burst, tried_limit, retracted_limit, gave_limit, tried_host, gave_host, tried_claim, tried_drop, setup_for}
use Rattle.booking_table.specs.declared.doing.Doing.{Doing}
use Rattle.booking_table.specs.declared.doing.Doing.TheVariants as doing
use Rattle.booking_table.specs.Holds.{claim_with}

-- a step leaves what the seat has at home, and tells of its view
abbrev pub told : (View → ℕ → View → Type 0) → Step (Unit {0}) → Sat → ℕ → Sat → Type 0
told tells st m found m' = (m'.1 ≡ m.1) × tells m.0 found m'.0

-- whatever the table is when the word becomes f of what it was, the seat may have a view with which the rule holds on,
-- and of which that is told
abbrev pub MayStep : (View → ℕ → View → Type 0) → View → ℕ → ℕ → (ℕ → ℕ) → Type 0
MayStep tells v id i f =
    (s : State (Unit {0}) View) → Holds s → get_elem? s.views id ≡ some v → slice_index s.words i < 18446744073709551616
    → (w : View) × Holds (record { words = slice_set s.words i (f (slice_index s.words i)); homes = s.homes; views = slice_set s.views id w })
    × tells v (slice_index s.words i) w

-- ---- what steps tell

-- the word is that of the seat's only claim, made of the frame that its journal's farm has waiting
abbrev pub FindsOwn : View → Claim → FrameWord → Type 0
FindsOwn v c word = IsAlone (c ∷ []) v → (stand_at (farm_in v) c.slot).version + 1 ≡ c.version → word ≡ setup_for c

-- what the seat knows then. Of a slot's frame word also: the cores of one that isn't free are a layer's; of its amount
-- word: the memory of one that was found used is. And what was booked of a subscription, and what ran in a limit, have
-- bounds. A seat that is alone finds what its journal's farm says, and the word of its only claim
abbrev pub tells_of : Doing → View → ℕ → View → Type 0
tells_of (doing.LoadFrame slot) v found w =
    (w ≡ loaded v (frame_place slot) found) × (((frame_of found).phase == 0) ≡ false → IsBetween LEAST_CORES MOST_CORES (frame_of found).cores)
    × (IsAlone [] v → ShowsSlot v slot (frame_of found) × (v.number ≡ None))
tells_of (doing.LoadAmount slot) v found w =
    (w ≡ loaded v (amount_place slot) found) × (found_used slot v.trail ≡ true → IsBetween LEAST_MEMORY MOST_MEMORY (amount_of found).memory)
    × (IsAlone [] v → ShowsAmount (stand_at (farm_in v) slot) (amount_of found))
tells_of (doing.LoadHost host) v found w = (w ≡ loaded v (host_place host) found) × (IsAlone [] v → ShowsRoom v host (host_of found))
tells_of (doing.LoadSub sub) v found w = w ≡ loaded v (sub_place sub) found
tells_of (doing.LoadLimit limit) v found w = w ≡ loaded v (limit_place limit) found
tells_of (doing.TakeBurst sub cores) v found w =
    (w ≡ tried_burst v sub cores found) × ((sub_of found).booked ≤ 4160000000) × (IsAlone [] v → ShowsBurst v sub (sub_of found))
tells_of (doing.RetractBurst sub cores) v found w = w ≡ retracted_burst v sub cores found
tells_of (doing.GiveBurst sub cores) v found w = w ≡ gave_burst v sub cores found
tells_of (doing.TakeLimit limit) v found w =
    (w ≡ tried_limit v limit found) × ((limit_of found).running ≤ 65600) × (IsAlone [] v → ShowsLimit v limit (limit_of found))
tells_of (doing.RetractLimit limit) v found w = w ≡ retracted_limit v limit found
tells_of (doing.GiveLimit limit) v found w = w ≡ gave_limit v limit found
tells_of (doing.TakeRoom host cores memory free) v found w =
    (w ≡ tried_host v host cores memory free found) × (IsAlone [] v → ShowsRoom v host (host_of found))
tells_of (doing.GiveRoom host cores memory) v found w = w ≡ gave_host v host cores memory found
tells_of (doing.Claims slot version host sub cores limit memory) v found w =
    (w ≡ tried_claim v (claim_with slot version host sub cores limit memory) found) × (IsAlone [] v → ShowsSlot v slot (frame_of found))
tells_of (doing.Drops slot version host sub cores limit memory) v found w =
    (w ≡ tried_drop v (claim_with slot version host sub cores limit memory) found)
    × FindsOwn v (claim_with slot version host sub cores limit memory) (frame_of found)
