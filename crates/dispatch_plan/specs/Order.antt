-- What the dispatch order of a host is: each frame that may be booked there, once, and none before one that comes before it.
use Rattle.std.specs.Prelude.{ℕ, ◌≡◌, ◌+◌, List, [], ◌∷◌, map, false, if◌then◌else◌}
use Rattle.std.specs.Ordering.{is_gt}
use Rattle.std.specs.List.Sorted.{IsPermutation}
use Rattle.farm_types.specs.declared.dispatch.Rank.{Rank}
use Rattle.farm_types.specs.declared.slot_row.SlotRow.{SlotRow}
use Rattle.farm_types.specs.Farm.{Farm}
use Rattle.farm_types.specs.Booking.{may_book}
use Rattle.farm_types.specs.Dispatch.{rank_cmp, ranks_from, sorted_ranks, order_for}

-- the slots, numbered from a place, whose frame may be booked on the host
abbrev pub bookable_from : Farm → ℕ → ℕ → List SlotRow → List ℕ
bookable_from f host place [] = []
bookable_from f host place (s ∷ ss) = if may_book f place host then place ∷ bookable_from f host (place + 1) ss else bookable_from f host (place + 1) ss

abbrev pub bookable : Farm → ℕ → List ℕ
bookable f host = bookable_from f host 0 f.slots

-- the rank isn't greater than the first of the list
abbrev pub StandsBefore : Farm → Rank → List Rank → Type 0
StandsBefore f x [] = Unit {0}
StandsBefore f x (y ∷ ys) = is_gt (rank_cmp f x y) ≡ false

-- no rank is greater than the next
abbrev pub AreInOrder : Farm → List Rank → Type 0
AreInOrder f [] = Unit {0}
AreInOrder f (x ∷ xs) = StandsBefore f x xs × AreInOrder f xs

-- The order for a host lists each slot whose frame may be booked there exactly once. It is that of ranks of which none is greater than
-- the next.
pub record IsDispatchOrder (f : Farm) (host : ℕ) : Type 0 where
  pub each_once : IsPermutation (bookable f host) (map (λ c. c.slot) (order_for f host))
  pub in_order : AreInOrder f (sorted_ranks f (ranks_from f host 0 f.slots))
