-- What the rank of a frame that may be booked says of the farm.
use Rattle.std.proofs.Common.{◌≡◌, ℕ, suc, zero, ◌+◌, ◌&&◌, ◌⊎◌, inl, inr, Bool, true, false, cond, List, [], ◌∷◌, Option, Some, None, refl, sym, ap, subst, ◌∙◌, arith}
use Rattle.std.specs.List.{slice_get}
use Rattle.std.proofs.lemmas.Option.{same_Some}
use Rattle.farm_types.specs.declared.dispatch.Rank.{Rank}
use Rattle.farm_types.specs.declared.rows.HostRow.{HostRow}
use Rattle.farm_types.specs.declared.rows.JobRow.{JobRow}
use Rattle.farm_types.specs.declared.rows.LayerRow.{LayerRow}
use Rattle.farm_types.specs.declared.rows.SubRow.{SubRow}
use Rattle.farm_types.specs.declared.slot_row.Frame.{Frame}
use Rattle.farm_types.specs.declared.slot_row.SlotRow.{SlotRow}
use Rattle.std.specs.Prelude.{nat_lt, not}
use Rattle.farm_types.specs.Booking.{may_book, may_record, may_place, share_tag, tags_match, tags_of, is_ready, is_waiting, is_pending, in_facility, takes_frames, has_capacity, within_burst, within_limit}
use Rattle.farm_types.specs.Depends.{is_open}
use Rattle.farm_types.specs.declared.limits.TheConstants.{LAST_VERSION}
use Rattle.farm_types.specs.Dispatch.{rank_at, rank_in, rank_of, with_found, ranks_from}
use Rattle.farm_types.specs.Farm.{Farm, for_some, sub_at, job_at, layer_at, sub_of}
use Rattle.farm_types.proofs.Lists.{and_both, for_some_true}
use Rattle.dispatch_law.proofs.Strict.{Has, has_first, has_later, has_none, has_split}

-- the slot's frame may be booked on the host: its rows, and the rank
pub record IsRanked (f : Farm) (host slot : ℕ) (s : SlotRow) (r : Rank) : Type 0 where
  pub frame : Frame
  pub job : JobRow
  pub layer : LayerRow
  pub row : HostRow
  pub sub : SubRow
  pub frame_is : s.frame ≡ Some frame
  pub job_is : job_at f frame.job ≡ Some job
  pub layer_is : layer_at f frame.job frame.layer ≡ Some layer
  pub row_is : slice_get f.hosts host ≡ Some row
  pub sub_is : sub_at f (sub_of job.show row.alloc) ≡ Some sub
  pub waits : is_waiting frame.state ≡ true
  pub pending : is_pending job.state ≡ true
  pub resumed : not job.paused ≡ true
  pub in_place : in_facility f row.alloc job.facility ≡ true
  pub takes : takes_frames row ≡ true
  pub capable : has_capacity f host row layer ≡ true
  pub burst : within_burst f (sub_of job.show row.alloc) layer ≡ true
  pub limited : within_limit f layer ≡ true
  pub tagged : for_some (slice_get f.allocs row.alloc) (λ allocation. share_tag layer.tags (tags_of row allocation)) ≡ true
  pub rank_is : r ≡ rank_at f slot host s frame job row sub

rank_of_rows : (f : Farm) (host slot : ℕ) (s : SlotRow) (frame : Frame) (job : JobRow) (row : HostRow) (sub : SubRow) → s.frame ≡ Some frame → job_at f frame.job ≡ Some job → slice_get f.hosts host ≡ Some row
    → sub_at f (sub_of job.show row.alloc) ≡ Some sub → rank_in f host slot s ≡ Some (rank_at f slot host s frame job row sub)
rank_of_rows f host slot s frame job row sub frame_is job_is row_is sub_is = rw frame_is (rw job_is (rw row_is (rw sub_is refl)))

first_of : (a b c d e g : Bool) → (a && b && c && d && e && g) ≡ true → a ≡ true
first_of true b c d e g h = refl
first_of false b c d e g h = h

last_of : (a b c d e g : Bool) → (a && b && c && d && e && g) ≡ true → g ≡ true
last_of a b c d e g h = (and_both (a && b && c && d && e) g h).1

waiting_of : (a b c d : Bool) → (a && b && c && d) ≡ true → a ≡ true
waiting_of true b c d h = refl
waiting_of false b c d h = h

pending_of : (a b c d : Bool) → (a && b && c && d) ≡ true → c ≡ true
pending_of a b c d h = (and_both (a && b) c (and_both (a && b && c) d h).0).1

-- all but the limit
placed_parts : (f : Farm) (slot host version : ℕ) (frame : Frame) (job : JobRow) (layer : LayerRow) (row : HostRow) → may_place f slot host version frame job layer row ≡ true
    → ((is_ready version frame job && is_open f slot && in_facility f row.alloc job.facility && takes_frames row && has_capacity f host row layer && within_burst f (sub_of job.show row.alloc) layer) ≡ true)
    × (within_limit f layer ≡ true)
placed_parts f slot host version frame job layer row h =
    and_both (is_ready version frame job && is_open f slot && in_facility f row.alloc job.facility && takes_frames row && has_capacity f host row layer && within_burst f (sub_of job.show row.alloc) layer) (within_limit f layer) h

placed_ready : (f : Farm) (slot host version : ℕ) (frame : Frame) (job : JobRow) (layer : LayerRow) (row : HostRow) → may_place f slot host version frame job layer row ≡ true → is_ready version frame job ≡ true
placed_ready f slot host version frame job layer row h =
    first_of (is_ready version frame job) (is_open f slot) (in_facility f row.alloc job.facility) (takes_frames row) (has_capacity f host row layer) (within_burst f (sub_of job.show row.alloc) layer)
    (placed_parts f slot host version frame job layer row h).0

placed_burst : (f : Farm) (slot host version : ℕ) (frame : Frame) (job : JobRow) (layer : LayerRow) (row : HostRow) → may_place f slot host version frame job layer row ≡ true → within_burst f (sub_of job.show row.alloc) layer ≡ true
placed_burst f slot host version frame job layer row h =
    last_of (is_ready version frame job) (is_open f slot) (in_facility f row.alloc job.facility) (takes_frames row) (has_capacity f host row layer) (within_burst f (sub_of job.show row.alloc) layer)
    (placed_parts f slot host version frame job layer row h).0

fifth_of : (a b c d e g : Bool) → (a && b && c && d && e && g) ≡ true → e ≡ true
fifth_of a b c d e g h = (and_both (a && b && c && d) e (and_both (a && b && c && d && e) g h).0).1

placed_capacity : (f : Farm) (slot host version : ℕ) (frame : Frame) (job : JobRow) (layer : LayerRow) (row : HostRow) → may_place f slot host version frame job layer row ≡ true → has_capacity f host row layer ≡ true
placed_capacity f slot host version frame job layer row h =
    fifth_of (is_ready version frame job) (is_open f slot) (in_facility f row.alloc job.facility) (takes_frames row) (has_capacity f host row layer) (within_burst f (sub_of job.show row.alloc) layer)
    (placed_parts f slot host version frame job layer row h).0

third_of : (a b c d e g : Bool) → (a && b && c && d && e && g) ≡ true → c ≡ true
third_of a b c d e g h = (and_both (a && b) c (and_both (a && b && c) d (and_both (a && b && c && d) e (and_both (a && b && c && d && e) g h).0).0).0).1

fourth_of : (a b c d e g : Bool) → (a && b && c && d && e && g) ≡ true → d ≡ true
fourth_of a b c d e g h = (and_both (a && b && c) d (and_both (a && b && c && d) e (and_both (a && b && c && d && e) g h).0).0).1

placed_facility : (f : Farm) (slot host version : ℕ) (frame : Frame) (job : JobRow) (layer : LayerRow) (row : HostRow) → may_place f slot host version frame job layer row ≡ true → in_facility f row.alloc job.facility ≡ true
placed_facility f slot host version frame job layer row h =
    third_of (is_ready version frame job) (is_open f slot) (in_facility f row.alloc job.facility) (takes_frames row) (has_capacity f host row layer) (within_burst f (sub_of job.show row.alloc) layer)
    (placed_parts f slot host version frame job layer row h).0

placed_takes : (f : Farm) (slot host version : ℕ) (frame : Frame) (job : JobRow) (layer : LayerRow) (row : HostRow) → may_place f slot host version frame job layer row ≡ true → takes_frames row ≡ true
placed_takes f slot host version frame job layer row h =
    fourth_of (is_ready version frame job) (is_open f slot) (in_facility f row.alloc job.facility) (takes_frames row) (has_capacity f host row layer) (within_burst f (sub_of job.show row.alloc) layer)
    (placed_parts f slot host version frame job layer row h).0

ready_resumed : (version : ℕ) (frame : Frame) (job : JobRow) → is_ready version frame job ≡ true → not job.paused ≡ true
ready_resumed version frame job h = (and_both (is_waiting frame.state && nat_lt version LAST_VERSION && is_pending job.state) (not job.paused) h).1

ready_waits : (version : ℕ) (frame : Frame) (job : JobRow) → is_ready version frame job ≡ true → is_waiting frame.state ≡ true
ready_waits version frame job h = waiting_of (is_waiting frame.state) (nat_lt version LAST_VERSION) (is_pending job.state) (not job.paused) h

ready_pending : (version : ℕ) (frame : Frame) (job : JobRow) → is_ready version frame job ≡ true → is_pending job.state ≡ true
ready_pending version frame job h = pending_of (is_waiting frame.state) (nat_lt version LAST_VERSION) (is_pending job.state) (not job.paused) h

-- what is there passes the test
at_some : {X : Type 0} (o : Option X) (test : X → Bool) (x : X) → o ≡ Some x → for_some o test ≡ true → test x ≡ true
at_some {X = X} o test x e h = subst (λ (p : Option X). for_some p test ≡ true) e h

-- the tags of the rows match
tagged_by : (f : Farm) (slot host : ℕ) (s : SlotRow) (frame : Frame) (layer : LayerRow) (row : HostRow) → slice_get f.slots slot ≡ Some s → s.frame ≡ Some frame → layer_at f frame.job frame.layer ≡ Some layer
    → slice_get f.hosts host ≡ Some row → tags_match f slot host ≡ true → for_some (slice_get f.allocs row.alloc) (λ allocation. share_tag layer.tags (tags_of row allocation)) ≡ true
tagged_by f slot host s frame layer row at framed layered hosted h =
    at_some (slice_get f.hosts host) _ row hosted (at_some (layer_at f frame.job frame.layer) _ layer layered (at_some s.frame _ frame framed (at_some (slice_get f.slots slot) _ s at h)))

ranked_by : (f : Farm) (host slot : ℕ) (s : SlotRow) (r : Rank) (b : Bool) → may_book f slot host ≡ b → slice_get f.slots slot ≡ Some s → cond b (rank_in f host slot s) None ≡ Some r → IsRanked f host slot s r
ranked_by f host slot s r false may at e = cc
ranked_by f host slot s r true may at e =
    let may_too : may_record f slot host ≡ true = (and_both (may_record f slot host) (tags_match f slot host) may).0 in
    let there = for_some_true (slice_get f.slots slot) _ may_too in
    let frame = for_some_true there.0.frame _ there.2 in
    let job = for_some_true (job_at f frame.0.job) _ frame.2 in
    let layer = for_some_true (layer_at f frame.0.job frame.0.layer) _ job.2 in
    let row = for_some_true (slice_get f.hosts host) _ layer.2 in
    let ready = placed_ready f slot host there.0.version frame.0 job.0 layer.0 row.0 row.2 in
    let burst = placed_burst f slot host there.0.version frame.0 job.0 layer.0 row.0 row.2 in
    let sub = for_some_true (sub_at f (sub_of job.0.show row.0.alloc)) _ burst in
    let same : there.0 ≡ s = same_Some there.0 s (sym there.1 ∙ at) in
    let framed : s.frame ≡ Some frame.0 = ap (λ (t : SlotRow). t.frame) (sym same) ∙ frame.1 in
    record {
      frame = frame.0;
      job = job.0;
      layer = layer.0;
      row = row.0;
      sub = sub.0;
      frame_is = framed;
      job_is = job.1;
      layer_is = layer.1;
      row_is = row.1;
      sub_is = sub.1;
      waits = ready_waits there.0.version frame.0 job.0 ready;
      pending = ready_pending there.0.version frame.0 job.0 ready;
      resumed = ready_resumed there.0.version frame.0 job.0 ready;
      in_place = placed_facility f slot host there.0.version frame.0 job.0 layer.0 row.0 row.2;
      takes = placed_takes f slot host there.0.version frame.0 job.0 layer.0 row.0 row.2;
      limited = (placed_parts f slot host there.0.version frame.0 job.0 layer.0 row.0 row.2).1;
      capable = placed_capacity f slot host there.0.version frame.0 job.0 layer.0 row.0 row.2;
      burst = burst;
      tagged = tagged_by f slot host there.0 frame.0 layer.0 row.0 there.1 frame.1 layer.1 row.1 (and_both (may_record f slot host) (tags_match f slot host) may).1;
      rank_is = same_Some r (rank_at f slot host s frame.0 job.0 row.0 sub.0) (sym e ∙ rank_of_rows f host slot s frame.0 job.0 row.0 sub.0 framed job.1 row.1 sub.1);
    }

pub ranked : (f : Farm) (host slot : ℕ) (s : SlotRow) (r : Rank) → slice_get f.slots slot ≡ Some s → rank_of f host slot s ≡ Some r → IsRanked f host slot s r
ranked f host slot s r at e = ranked_by f host slot s r (may_book f slot host) refl at e

-- a frame that may be booked has a rank
pub bookable : (f : Farm) (host slot : ℕ) (s : SlotRow) → may_book f slot host ≡ true → slice_get f.slots slot ≡ Some s → (r : Rank) × (rank_of f host slot s ≡ Some r)
bookable f host slot s may at =
    let may_too : may_record f slot host ≡ true = (and_both (may_record f slot host) (tags_match f slot host) may).0 in
    let there = for_some_true (slice_get f.slots slot) _ may_too in
    let frame = for_some_true there.0.frame _ there.2 in
    let job = for_some_true (job_at f frame.0.job) _ frame.2 in
    let layer = for_some_true (layer_at f frame.0.job frame.0.layer) _ job.2 in
    let row = for_some_true (slice_get f.hosts host) _ layer.2 in
    let burst = placed_burst f slot host there.0.version frame.0 job.0 layer.0 row.0 row.2 in
    let sub = for_some_true (sub_at f (sub_of job.0.show row.0.alloc)) _ burst in
    let same : there.0 ≡ s = same_Some there.0 s (sym there.1 ∙ at) in
    let framed : s.frame ≡ Some frame.0 = ap (λ (t : SlotRow). t.frame) (sym same) ∙ frame.1 in (
      rank_at f slot host s frame.0 job.0 row.0 sub.0,
      ap (λ b. cond b (rank_in f host slot s) None) may ∙ rank_of_rows f host slot s frame.0 job.0 row.0 sub.0 framed job.1 row.1 sub.1,
    )

-- and one that may not has none
pub unbookable : (f : Farm) (host slot : ℕ) (s : SlotRow) → may_book f slot host ≡ false → rank_of f host slot s ≡ None
unbookable f host slot s may = ap (λ b. cond b (rank_in f host slot s) None) may

-- ---- the ranks of the slots

-- a slot, counted from a place, and its rank
pub record IsRankFrom (f : Farm) (host place : ℕ) (ss : List SlotRow) (r : Rank) : Type 0 where
  pub slot : ℕ
  pub row : SlotRow
  pub at : slice_get ss slot ≡ Some row
  pub ranks : rank_of f host (place + slot) row ≡ Some r

pub found_split : {X : Type 0} (o : Option X) (xs : List X) (x : X) → Has (with_found o xs) x → (o ≡ Some x) ⊎ Has xs x
found_split None xs x h = inr h
found_split (Some y) xs x h = elim (has_split y x xs h) [ inl e ↦ inl (ap Some e) | inr k ↦ inr k ]

pub found_has : {X : Type 0} (o : Option X) (xs : List X) (x : X) → o ≡ Some x → Has (with_found o xs) x
found_has None xs x e = cc
found_has (Some y) xs x e = subst (Has (y ∷ xs)) (same_Some y x e) (has_first y xs)

pub found_later : {X : Type 0} (o : Option X) (xs : List X) (x : X) → Has xs x → Has (with_found o xs) x
found_later None xs x h = h
found_later (Some y) xs x h = has_later y x xs h

pub ranks_have : (f : Farm) (host place : ℕ) (ss : List SlotRow) (r : Rank) → Has (ranks_from f host place ss) r → IsRankFrom f host place ss r
ranks_have f host place [] r h = absurd (has_none r h)
ranks_have f host place (s ∷ ss) r h =
    elim (found_split (rank_of f host place s) (ranks_from f host (place + 1) ss) r h) [
      | inl e ↦ record { slot = 0; row = s; at = refl; ranks = (let same : place + 0 ≡ place = omega arith in ap (λ n. rank_of f host n s) same) ∙ e }
      | inr k ↦ (let later = ranks_have f host (place + 1) ss r k in
          record {
            slot = suc later.slot;
            row = later.row;
            at = later.at;
            ranks = (let same : place + suc later.slot ≡ (place + 1) + later.slot = omega arith in ap (λ n. rank_of f host n later.row) same) ∙ later.ranks;
          })
    ]

pub have_rank : (f : Farm) (host place : ℕ) (ss : List SlotRow) (i : ℕ) (s : SlotRow) (r : Rank) → slice_get ss i ≡ Some s → rank_of f host (place + i) s ≡ Some r → Has (ranks_from f host place ss) r
have_rank f host place [] i s r at e = cc
have_rank f host place (t ∷ ss) zero s r at e =
    let same : t ≡ s = same_Some t s at in
    let start : place + 0 ≡ place = omega arith in
    found_has (rank_of f host place t) (ranks_from f host (place + 1) ss) r (ap (rank_of f host place) same ∙ (sym (ap (λ n. rank_of f host n s) start) ∙ e))
have_rank f host place (t ∷ ss) (suc i) s r at e =
    let next : (place + 1) + i ≡ place + suc i = omega arith in
    found_later (rank_of f host place t) (ranks_from f host (place + 1) ss) r (have_rank f host (place + 1) ss i s r at (ap (λ n. rank_of f host n s) next ∙ e))
