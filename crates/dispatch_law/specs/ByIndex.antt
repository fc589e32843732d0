-- The order of dispatch as the books list it: subscriptions by their ratio, ready jobs, their layers, and the waiting frames of each.
use Rattle.std.specs.Prelude.{ℕ, zero, suc, ◌==◌, ◌+◌, ◌/◌, ◌%◌, List, [], ◌∷◌, length, filter, slice_get, Option, option_and_then, if◌then◌else◌}
use Rattle.std.specs.List.{flat_map}
use Rattle.std.specs.Cmp.Lexicographic.{slice_cmp}
use Rattle.std.specs.Ordering.{nat_cmp, ordering_then, is_gt}
use Rattle.std.specs.declared.cmp.Ordering.{Ordering}
use Rattle.farm_types.specs.declared.dispatch.Rank.{Rank}
use Rattle.farm_types.specs.declared.rows.JobRow.{JobRow}
use Rattle.farm_types.specs.declared.rows.LayerRow.{LayerRow}
use Rattle.farm_types.specs.declared.rows.SubRow.{SubRow}
use Rattle.farm_types.specs.Dispatch.{by_ratio, show_name, rank_of, with_found}
use Rattle.farm_types.specs.Farm.{Farm, layers_of}
use Rattle.farm_types.specs.Ranges.{range_numbers}
use Rattle.farm_types.specs.Step.{lists_of}
use Rattle.farm_types.specs.Sums.{booked_in}
use Rattle.farm_types.specs.declared.limits.TheConstants.{MOST_ALLOCS}
use Rattle.job_book.specs.Index.{ready_of, slot_of}

-- ---- subscriptions

abbrev pub show_of : SubRow → ℕ
show_of s = s.sub / MOST_ALLOCS

-- the subscriptions to an allocation
abbrev pub subs_to : Farm → ℕ → List SubRow
subs_to f alloc = filter (λ (s : SubRow). s.sub % MOST_ALLOCS == alloc) f.subs

-- subscriptions by what is booked of their sizes, ties by the show's name
abbrev pub sub_cmp : Farm → SubRow → SubRow → Ordering
sub_cmp f a b =
    ordering_then (by_ratio (booked_in f a.sub) a.size (booked_in f b.sub) b.size) (slice_cmp nat_cmp (show_name f (show_of a)) (show_name f (show_of b)))

abbrev pub insert_sub : Farm → SubRow → List SubRow → List SubRow
insert_sub f x [] = x ∷ []
insert_sub f x (y ∷ ys) = if is_gt (sub_cmp f x y) then y ∷ insert_sub f x ys else x ∷ y ∷ ys

abbrev pub sorted_subs : Farm → List SubRow → List SubRow
sorted_subs f [] = []
sorted_subs f (x ∷ xs) = insert_sub f x (sorted_subs f xs)

-- ---- jobs

-- jobs by priority, the highest first, then by number
abbrev pub job_cmp : JobRow → JobRow → Ordering
job_cmp a b = ordering_then (nat_cmp b.priority a.priority) (nat_cmp a.job b.job)

-- ---- frames

-- the rank of the frame at a position of a job's layer, none where it may not be booked on the host
abbrev pub rank_in_slot : Farm → ℕ → Option ℕ → Option Rank
rank_in_slot f host o = option_and_then (λ slot. option_and_then (λ s. rank_of f host slot s) (slice_get f.slots slot)) o

abbrev pub rank_at_position : Farm → ℕ → ℕ → ℕ → ℕ → Option Rank
rank_at_position f host job layer position = rank_in_slot f host (slot_of (lists_of f) job layer position)

-- the ranks of so many positions of a layer, from one on
abbrev pub ranks_at : Farm → ℕ → ℕ → ℕ → ℕ → ℕ → List Rank
ranks_at f host job layer position zero = []
ranks_at f host job layer position (suc count) = with_found (rank_at_position f host job layer position) (ranks_at f host job layer (position + 1) count)

abbrev pub ranks_in_layer : Farm → ℕ → LayerRow → List Rank
ranks_in_layer f host l = ranks_at f host l.job l.place 0 (length (range_numbers l.range))

abbrev pub ranks_in_job : Farm → ℕ → ℕ → List Rank
ranks_in_job f host job = flat_map (ranks_in_layer f host) (layers_of f.layers job)

abbrev pub ranks_in_show : Farm → ℕ → ℕ → List Rank
ranks_in_show f host show = flat_map (ranks_in_job f host) (ready_of (lists_of f) show)

-- the ranks of the frames that may be booked on a host of the allocation
abbrev pub ranks_by_index : Farm → ℕ → ℕ → List Rank
ranks_by_index f host alloc = flat_map (λ s. ranks_in_show f host (show_of s)) (sorted_subs f (subs_to f alloc))
