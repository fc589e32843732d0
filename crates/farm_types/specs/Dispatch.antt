-- The order in which frames are offered to a host, and the round of bookings that follows a report.
use Rattle.std.specs.Prelude.{ℕ, ◌==◌, ◌&&◌, ◌-◌, ◌+◌, ◌*◌, List, [], ◌∷◌, map, take, Bool, Option, None, Some, option_map, option_and_then, slice_get, nat_lt, if◌then◌else◌}
use Rattle.std.specs.declared.cmp.Ordering.{Ordering}
use Rattle.std.specs.declared.cmp.Ordering.TheVariants.{Less, Equal, Greater}
use Rattle.std.specs.Ordering.{is_gt, nat_cmp, ordering_then}
use Rattle.std.specs.Cmp.Lexicographic.{slice_cmp}
use Rattle.farm_types.specs.declared.dispatch.Candidate.{Candidate}
use Rattle.farm_types.specs.declared.dispatch.Rank.{Rank}
use Rattle.farm_types.specs.declared.entry.Entry.{Entry}
use Rattle.farm_types.specs.declared.entry.Act.TheVariants.{Book}
use Rattle.farm_types.specs.declared.rows.HostRow.{HostRow}
use Rattle.farm_types.specs.declared.rows.JobRow.{JobRow}
use Rattle.farm_types.specs.declared.rows.ShowRow.{ShowRow}
use Rattle.farm_types.specs.declared.rows.SubRow.{SubRow}
use Rattle.farm_types.specs.declared.slot_row.Frame.{Frame}
use Rattle.farm_types.specs.declared.slot_row.SlotRow.{SlotRow}
use Rattle.farm_types.specs.Farm.{Farm, sub_at, job_at, sub_of}
use Rattle.farm_types.specs.Sums.{booked_in}
use Rattle.farm_types.specs.Booking.{may_book, suits}
use Rattle.farm_types.specs.Step.{after}
use Rattle.farm_types.specs.declared.limits.TheConstants.{BOOKINGS_EACH, CANDIDATES_EACH}

-- ---- which frame comes before which

-- booked of the first times size of the second is the smaller product; size 0 comes last
abbrev pub by_ratio : ℕ → ℕ → ℕ → ℕ → Ordering
by_ratio booked size other_booked other_size =
    if size == 0 then (if other_size == 0 then Equal else Greater)
    else (if other_size == 0 then Less else nat_cmp (booked * other_size) (other_booked * size))

abbrev pub name_of : Option ShowRow → List ℕ
name_of None = []
name_of (Some show) = show.name

abbrev pub show_name : Farm → ℕ → List ℕ
show_name f show = name_of (slice_get f.shows show)

-- Subscriptions by their ratio, ties by the show's name; within one, jobs by priority, the highest first, then by number; then layers in
-- order, then frames in range order.
abbrev pub rank_cmp : Farm → Rank → Rank → Ordering
rank_cmp f a b =
    ordering_then (by_ratio a.booked a.size b.booked b.size) (ordering_then (slice_cmp nat_cmp (show_name f a.show) (show_name f b.show))
    (ordering_then (nat_cmp b.priority a.priority) (ordering_then (nat_cmp a.job b.job) (ordering_then (nat_cmp a.layer b.layer) (nat_cmp a.position b.position)))))

-- ---- sorting

-- the list with x before the first that it isn't greater than
abbrev pub insert_rank : Farm → Rank → List Rank → List Rank
insert_rank f x [] = x ∷ []
insert_rank f x (y ∷ ys) = if is_gt (rank_cmp f x y) then y ∷ insert_rank f x ys else x ∷ y ∷ ys

abbrev pub sorted_ranks : Farm → List Rank → List Rank
sorted_ranks f [] = []
sorted_ranks f (x ∷ xs) = insert_rank f x (sorted_ranks f xs)

-- ---- the order for a host

-- what decides the place of a frame that may be booked on the host
abbrev pub rank_at : Farm → ℕ → ℕ → SlotRow → Frame → JobRow → HostRow → SubRow → Rank
rank_at f slot host s frame job row sub =
    record {
      booked = booked_in f sub.sub;
      size = sub.size;
      show = job.show;
      priority = job.priority;
      job = frame.job;
      layer = frame.layer;
      position = frame.position;
      candidate = record { slot = slot; version = s.version; sub = sub.sub; host = host };
    }

abbrev pub rank_in : Farm → ℕ → ℕ → SlotRow → Option Rank
rank_in f host slot s =
    option_and_then (λ frame. option_and_then (λ job. option_and_then (λ row. option_map (λ sub. rank_at f slot host s frame job row sub)
    (sub_at f (sub_of job.show row.alloc))) (slice_get f.hosts host)) (job_at f frame.job)) s.frame

-- none where the frame may not be booked on the host
abbrev pub rank_of : Farm → ℕ → ℕ → SlotRow → Option Rank
rank_of f host slot s = if may_book f slot host then rank_in f host slot s else None

-- the list with what was found in front
abbrev pub with_found : {X : Type 0} → Option X → List X → List X
with_found None xs = xs
with_found (Some x) xs = x ∷ xs

-- the ranks of the slots, numbered from a place, whose frame may be booked on the host
abbrev pub ranks_from : Farm → ℕ → ℕ → List SlotRow → List Rank
ranks_from f host place [] = []
ranks_from f host place (s ∷ ss) = with_found (rank_of f host place s) (ranks_from f host (place + 1) ss)

-- each frame that may be booked on the host, once, in the order of dispatch
abbrev pub order_for : Farm → ℕ → List Candidate
order_for f host = map (λ r. r.candidate) (sorted_ranks f (ranks_from f host 0 f.slots))

abbrev pub plan_for : Farm → ℕ → List Candidate
plan_for f host = take CANDIDATES_EACH (order_for f host)

-- a candidate for the host, whose slot, version and subscription suit it
abbrev pub candidate_suits : Farm → ℕ → Candidate → Bool
candidate_suits f host c = c.host == host && suits f c.slot c.version host c.sub

-- ---- the round

abbrev pub book_entry : Candidate → ℕ → Entry
book_entry c moment = record { moment = moment; act = Book c.slot c.host }

-- the candidates in turn: each one that may still be booked is booked, while bookings are left
abbrev pub round_from : ℕ → Farm → ℕ → List Candidate → List Entry
round_from left f moment [] = []
round_from left f moment (c ∷ cs) =
    if nat_lt 0 left && may_book f c.slot c.host
    then book_entry c moment ∷ round_from (left - 1) (after f (book_entry c moment)) moment cs
    else round_from left f moment cs

-- the bookings that follow a report of the host
abbrev pub round_for : Farm → ℕ → ℕ → List Entry
round_for f host moment = round_from BOOKINGS_EACH f moment (plan_for f host)
