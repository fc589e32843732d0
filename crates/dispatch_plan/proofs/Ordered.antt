-- The order of dispatch lists each frame that may be booked once, and in order.
use Rattle.std.proofs.Common.{◌≡◌, ℕ, suc, ◌+◌, Bool, true, false, cond, List, [], ◌∷◌, map, Some, None, refl, sym, ap, subst, ◌∙◌, arith}
use Rattle.std.specs.List.{slice_get, prefix_len}
use Rattle.std.specs.declared.cmp.Ordering.{Ordering}
use Rattle.std.specs.declared.cmp.Ordering.TheVariants.{Less, Equal, Greater}
use Rattle.std.specs.Ordering.{is_gt, ordering_reverse}
use Rattle.std.specs.List.Sorted.{IsPermutation}
use Rattle.std.proofs.lemmas.Bool.{false≢true}
use Rattle.std.proofs.lemmas.Option.{same_Some}
use Rattle.std.proofs.lemmas.List.Sorted.{IsPermutation-refl, IsPermutation-trans, IsPermutation-cons, IsPermutation-insert, IsPermutation-map}
use Rattle.farm_types.specs.declared.dispatch.Candidate.{Candidate}
use Rattle.farm_types.specs.declared.dispatch.Rank.{Rank}
use Rattle.farm_types.specs.declared.rows.HostRow.{HostRow}
use Rattle.farm_types.specs.declared.rows.JobRow.{JobRow}
use Rattle.farm_types.specs.declared.rows.LayerRow.{LayerRow}
use Rattle.farm_types.specs.declared.rows.SubRow.{SubRow}
use Rattle.farm_types.specs.declared.slot_row.Frame.{Frame}
use Rattle.farm_types.specs.declared.slot_row.SlotRow.{SlotRow}
use Rattle.farm_types.specs.Farm.{Farm, sub_at, job_at, layer_at, sub_of}
use Rattle.farm_types.specs.Booking.{may_book, may_place, may_record, tags_match, within_burst, within_limit}
use Rattle.farm_types.specs.Dispatch.{rank_cmp, rank_at, rank_in, with_found, ranks_from, insert_rank, sorted_ranks, order_for}
use Rattle.dispatch_plan.specs.Order.{bookable_from, bookable, StandsBefore, AreInOrder, IsDispatchOrder}
use Rattle.farm_types.proofs.Lists.{and_both, for_some_true}
use Rattle.dispatch_law.proofs.RankOrder.{rank_total}
use Rattle.dispatch_plan.proofs.Ranks.{is_above, insert_is}

-- ---- two ranks

below_by : (o p : Ordering) → o ≡ ordering_reverse p → is_gt o ≡ true → is_gt p ≡ false
below_by o Less e h = refl
below_by o Equal e h = refl
below_by o Greater e h = absurd (false≢true (sym (ap is_gt e) ∙ h))

-- where one is greater than another, that one isn't greater than it
below : (f : Farm) (x y : Rank) → is_gt (rank_cmp f x y) ≡ true → is_gt (rank_cmp f y x) ≡ false
below f x y h = below_by (rank_cmp f x y) (rank_cmp f y x) ((rank_total f).antisymm x y) h

-- ---- a rank that is put before the first that it isn't greater than

stands_by : (f : Farm) (b : Bool) (x y z : Rank) (zs : List Rank) → is_gt (rank_cmp f y x) ≡ false → is_gt (rank_cmp f y z) ≡ false → StandsBefore f y (cond b (z ∷ insert_rank f x zs) (x ∷ z ∷ zs))
stands_by f true x y z zs h k = k
stands_by f false x y z zs h k = h

stands : (f : Farm) (x y : Rank) (ys : List Rank) → is_gt (rank_cmp f y x) ≡ false → StandsBefore f y ys → StandsBefore f y (insert_rank f x ys)
stands f x y [] h k = h
stands f x y (z ∷ zs) h k = stands_by f (is_gt (rank_cmp f x z)) x y z zs h k

inserted_by : (f : Farm) (b : Bool) (x y : Rank) (ys : List Rank) → is_gt (rank_cmp f x y) ≡ b → StandsBefore f y ys → AreInOrder f ys → AreInOrder f (insert_rank f x ys) → AreInOrder f (cond b (y ∷ insert_rank f x ys) (x ∷ y ∷ ys))
inserted_by f true x y ys e first ordered later = (stands f x y ys (below f x y e) first, later)
inserted_by f false x y ys e first ordered later = (e, (first, ordered))

inserted : (f : Farm) (x : Rank) (ys : List Rank) → AreInOrder f ys → AreInOrder f (insert_rank f x ys)
inserted f x [] h = (tt, tt)
inserted f x (y ∷ ys) h = inserted_by f (is_gt (rank_cmp f x y)) x y ys refl h.0 h.1 (inserted f x ys h.1)

pub sorted_in_order : (f : Farm) (rs : List Rank) → AreInOrder f (sorted_ranks f rs)
sorted_in_order f [] = tt
sorted_in_order f (r ∷ rs) = inserted f r (sorted_ranks f rs) (sorted_in_order f rs)

pub sorted_permutes : (f : Farm) (rs : List Rank) → IsPermutation rs (sorted_ranks f rs)
sorted_permutes f [] = IsPermutation-refl []
sorted_permutes f (r ∷ rs) =
    let later = sorted_ranks f rs in
    let put = subst (IsPermutation (r ∷ later)) (sym (insert_is f r later)) (IsPermutation-insert later (prefix_len (is_above f r) later) r) in
    IsPermutation-trans (r ∷ rs) (r ∷ later) (insert_rank f r later) (IsPermutation-cons r rs later (sorted_permutes f rs)) put

-- ---- the slots of the ranks

abbrev slot_of : Rank → ℕ
slot_of r = r.candidate.slot

-- the slot's frame has a rank, of that slot
abbrev IsRanked : Farm → ℕ → ℕ → SlotRow → Type 0
IsRanked f host place s = (r : Rank) × (rank_in f host place s ≡ Some r) × (slot_of r ≡ place)

rank_is : (f : Farm) (host place : ℕ) (s : SlotRow) (frame : Frame) (job : JobRow) (row : HostRow) (sub : SubRow) → s.frame ≡ Some frame → job_at f frame.job ≡ Some job → slice_get f.hosts host ≡ Some row → sub_at f (sub_of job.show row.alloc) ≡ Some sub → rank_in f host place s ≡ Some (rank_at f place host s frame job row sub)
rank_is f host place s frame job row sub frame_is job_is host_is sub_is = rw frame_is (rw job_is (rw host_is (rw sub_is refl)))

-- a frame that may be placed fits into the burst
room_in_burst : (f : Farm) (slot host version : ℕ) (frame : Frame) (job : JobRow) (layer : LayerRow) (row : HostRow) → may_place f slot host version frame job layer row ≡ true
    → within_burst f (sub_of job.show row.alloc) layer ≡ true
room_in_burst f slot host version frame job layer row may =
    let counts = and_both _ (within_limit f layer) may in
    (and_both _ (within_burst f (sub_of job.show row.alloc) layer) counts.0).1

-- a frame that may be booked has a rank
ranked : (f : Farm) (host place : ℕ) (s : SlotRow) → may_record f place host ≡ true → slice_get f.slots place ≡ Some s → IsRanked f host place s
ranked f host place s may at =
    let slot = for_some_true (slice_get f.slots place) _ may in
    let frame = for_some_true slot.0.frame _ slot.2 in
    let job = for_some_true (job_at f frame.0.job) _ frame.2 in
    let layer = for_some_true (layer_at f frame.0.job frame.0.layer) _ job.2 in
    let row = for_some_true (slice_get f.hosts host) _ layer.2 in
    let burst = room_in_burst f place host slot.0.version frame.0 job.0 layer.0 row.0 row.2 in
    let sub = for_some_true (sub_at f (sub_of job.0.show row.0.alloc)) _ burst in
    let is = rank_is f host place slot.0 frame.0 job.0 row.0 sub.0 frame.1 job.1 row.1 sub.1 in
    subst (IsRanked f host place) (same_Some slot.0 s (sym slot.1 ∙ at)) (rank_at f place host slot.0 frame.0 job.0 row.0 sub.0, is, refl)

slots_by : (f : Farm) (host place : ℕ) (s : SlotRow) (ss : List SlotRow) (b : Bool) → may_book f place host ≡ b → slice_get f.slots place ≡ Some s → map slot_of (ranks_from f host (place + 1) ss) ≡ bookable_from f host (place + 1) ss → map slot_of (with_found (cond b (rank_in f host place s) None) (ranks_from f host (place + 1) ss)) ≡ cond b (place ∷ bookable_from f host (place + 1) ss) (bookable_from f host (place + 1) ss)
slots_by f host place s ss true e at later =
    let r = ranked f host place s (and_both (may_record f place host) (tags_match f place host) e).0 at in
    rw r.1 (rw r.2 (ap (λ ns. place ∷ ns) later))
slots_by f host place s ss false e at later = later

slots_of_ranks : (f : Farm) (host place : ℕ) (ss : List SlotRow) → ((k : ℕ) → slice_get f.slots (place + k) ≡ slice_get ss k) → map slot_of (ranks_from f host place ss) ≡ bookable_from f host place ss
slots_of_ranks f host place [] same = refl
slots_of_ranks f host place (s ∷ ss) same =
    let at : slice_get f.slots place ≡ Some s = ap (slice_get f.slots) (let e : place ≡ place + 0 = omega arith in e) ∙ same 0 in
    let next : (k : ℕ) → slice_get f.slots ((place + 1) + k) ≡ slice_get ss k = λ k. ap (slice_get f.slots) (let e : (place + 1) + k ≡ place + suc k = omega arith in e) ∙ same (suc k) in
    slots_by f host place s ss (may_book f place host) refl at (slots_of_ranks f host (place + 1) ss next)

slots_split : (rs : List Rank) → map slot_of rs ≡ map (λ (c : Candidate). c.slot) (map (λ (r : Rank). r.candidate) rs)
slots_split [] = refl
slots_split (r ∷ rs) = ap (λ ns. r.candidate.slot ∷ ns) (slots_split rs)

pub dispatch_order : (f : Farm) (host : ℕ) → IsDispatchOrder f host
dispatch_order f host =
    let ranks = ranks_from f host 0 f.slots in
    let slots : map slot_of ranks ≡ bookable f host = slots_of_ranks f host 0 f.slots (λ k. ap (slice_get f.slots) (let e : 0 + k ≡ k = omega arith in e)) in
    let moved = IsPermutation-map slot_of ranks (sorted_ranks f ranks) (sorted_permutes f ranks) in
    let split : map slot_of (sorted_ranks f ranks) ≡ map (λ (c : Candidate). c.slot) (map (λ (r : Rank). r.candidate) (sorted_ranks f ranks)) = slots_split (sorted_ranks f ranks) in
    record {
      each_once = subst (λ (ns : List ℕ). IsPermutation ns (map (λ (c : Candidate). c.slot) (order_for f host))) slots (subst (IsPermutation (map slot_of ranks)) split moved);
      in_order = sorted_in_order f ranks;
    }
