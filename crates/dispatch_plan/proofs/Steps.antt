-- A layer's ranks, by its waiting frames.
use Rattle.std.proofs.Common.{◌≡◌, ℕ, suc, ◌+◌, ◌-◌, ◌≤◌, ◌<◌, Bool, true, false, List, [], ◌∷◌, ◌++◌, length, Option, Some, None, refl, sym, ap, subst, ◌∙◌, arith, eqb}
use Rattle.std.specs.List.{slice_get}
use Rattle.std.proofs.lemmas.Bool.{eqb-true}
use Rattle.std.proofs.lemmas.Option.{same_Some}
use Rattle.farm_types.specs.declared.dispatch.Candidate.{Candidate}
use Rattle.farm_types.specs.declared.dispatch.Rank.{Rank}
use Rattle.farm_types.specs.declared.rows.LayerRow.{LayerRow}
use Rattle.farm_types.specs.declared.rows.SubRow.{SubRow}
use Rattle.farm_types.specs.declared.slot_row.Frame.{Frame}
use Rattle.farm_types.specs.declared.slot_row.SlotRow.{SlotRow}
use Rattle.farm_types.specs.declared.limits.TheConstants.{CANDIDATES_EACH}
use Rattle.farm_types.specs.Booking.{may_book}
use Rattle.farm_types.specs.Dispatch.{rank_of, with_found}
use Rattle.farm_types.specs.Farm.{Farm, layer_at, sub_of, is_placed}
use Rattle.farm_types.specs.Kept.{KeepsRows}
use Rattle.farm_types.specs.Ranges.{range_numbers}
use Rattle.farm_types.specs.Step.{lists_of}
use Rattle.farm_types.proofs.Lists.{found_is}
use Rattle.job_book.specs.Index.{IsFirstWaiting, WaitsFirst, slot_of}
use Rattle.dispatch_law.specs.ByIndex.{rank_in_slot, rank_at_position, ranks_at}
use Rattle.dispatch_plan.specs.Offers.{IsBilled, offered, with_candidate}
use Rattle.dispatch_law.proofs.ByIndexLaw.{in_range}
use Rattle.farm_law.proofs.FoundSlots.{found_slot}
use Rattle.farm_law.proofs.KeptJobsCounts.{StandsAt, stands_at}
use Rattle.dispatch_plan.proofs.Offered.{offered_more, offered_one, offered_none}
use Rattle.dispatch_law.proofs.RankFacts.{IsRanked, ranked, bookable, unbookable}
use Rattle.dispatch_plan.proofs.Waiting.{ranks_later, ranks_none}

-- the frame that is found at a position stands there
pub stands_there : (f : Farm) (job layer position slot : ℕ) (s : SlotRow) (x : Frame) → slot_of (lists_of f) job layer position ≡ Some slot → slice_get f.slots slot ≡ Some s → s.frame ≡ Some x → StandsAt job layer position x
stands_there f job layer position slot s x found at framed =
    let it = found_slot (is_placed job layer position) f.slots slot found in
    let rows : s ≡ it.row = same_Some s it.row (sym at ∙ it.at) in
    let same : x ≡ it.frame = same_Some x it.frame (sym framed ∙ (ap (λ (t : SlotRow). t.frame) rows ∙ it.is)) in
    stands_at job layer position x (ap (is_placed job layer position) same ∙ it.passes)

-- the candidate of a rank
candidate_is : (f : Farm) (host slot sub : ℕ) (s : SlotRow) (r : Rank) (has : IsRanked f host slot s r) → IsBilled f host has.frame.job sub → r.candidate ≡ record { slot = slot; version = s.version; sub = sub; host = host }
candidate_is f host slot sub s r has billed =
    let number : has.sub.sub ≡ sub_of has.job.show has.row.alloc =
    eqb-true has.sub.sub (sub_of has.job.show has.row.alloc) (found_is (λ (z : SubRow). eqb z.sub (sub_of has.job.show has.row.alloc)) f.subs has.sub has.sub_is) in
    let sub_is : has.sub.sub ≡ sub = number ∙ billed has.job has.row has.job_is has.row_is in
    ap (λ (q : Rank). q.candidate) has.rank_is ∙ ap (λ n. record { slot = slot; version = s.version; sub = n; host = host }) sub_is

-- what a rank adds, where there is room
found_offered : (f : Farm) (host slot sub : ℕ) (s : SlotRow) (x : Frame) (plan : List Candidate) (rest : List Rank) (b : Bool) → may_book f slot host ≡ b → slice_get f.slots slot ≡ Some s → s.frame ≡ Some x → IsBilled f host x.job sub
    → length plan + 1 ≤ CANDIDATES_EACH
    → offered plan (with_found (rank_of f host slot s) rest) ≡ offered (with_candidate b plan (record { slot = slot; version = s.version; sub = sub; host = host })) rest
found_offered f host slot sub s x plan rest false may at framed billed room = ap (λ o. offered plan (with_found o rest)) (unbookable f host slot s may)
found_offered f host slot sub s x plan rest true may at framed billed room =
    let made = bookable f host slot s may at in
    let has = ranked f host slot s made.0 at made.1 in
    let frames : x ≡ has.frame = same_Some x has.frame (sym framed ∙ has.frame_is) in
    let is = candidate_is f host slot sub s made.0 has (subst (λ (y : Frame). IsBilled f host y.job sub) frames billed) in
    ap (λ o. offered plan (with_found o rest)) made.1
    ∙ (sym (offered_more plan (made.0 ∷ []) rest)
    ∙ (ap (λ ps. offered ps rest) (offered_one plan made.0 room)
    ∙ ap (λ c. offered (plan ++ c ∷ []) rest) is))

-- one step: the layer's next waiting frame is offered
pub offer_step : (f : Farm) (host job layer sub from slot : ℕ) (l : LayerRow) (s : SlotRow) (x : Frame) (plan : List Candidate) → KeepsRows f → layer_at f job layer ≡ Some l → IsBilled f host job sub
    → IsFirstWaiting (lists_of f) job layer from slot → slice_get f.slots slot ≡ Some s → s.frame ≡ Some x → length plan + 1 ≤ CANDIDATES_EACH
    → (from ≤ x.position) × (x.position < length (range_numbers l.range))
    × (offered plan (ranks_at f host job layer from (length (range_numbers l.range) - from))
    ≡ offered (with_candidate (may_book f slot host) plan (record { slot = slot; version = s.version; sub = sub; host = host }))
    (ranks_at f host job layer (x.position + 1) (length (range_numbers l.range) - (x.position + 1))))
offer_step f host job layer sub from slot l s x plan kept layered billed first at framed room =
    let count = length (range_numbers l.range) in
    let it = stands_there f job layer first.position slot s x first.stands at framed in
    let low = first.from_there in
    let same = it.position_is in
    let layered_there : layer_at f x.job x.layer ≡ Some l = ap (λ n. layer_at f n x.layer) it.job_is ∙ (ap (layer_at f job) it.layer_is ∙ layered) in
    let within = in_range f kept slot s x l at framed layered_there in
    let skipped : count - from ≡ (first.position - from) + (count - first.position) = omega arith in
    let start : from + (first.position - from) ≡ first.position = omega arith in
    let one_more : count - first.position ≡ suc (count - (first.position + 1)) = omega arith in
    let rank_is : rank_at_position f host job layer first.position ≡ rank_of f host slot s =
    ap (rank_in_slot f host) first.stands ∙ ap (λ (o : Option SlotRow). rank_or o) at in
    let later : ranks_at f host job layer from (count - from) ≡ with_found (rank_of f host slot s) (ranks_at f host job layer (first.position + 1) (count - (first.position + 1))) =
    ap (ranks_at f host job layer from) skipped
    ∙ (ranks_later f host job layer from (first.position - from) (count - first.position) (λ k above below. first.none_before k above (omega arith))
    ∙ (ap (λ n. ranks_at f host job layer n (count - first.position)) start
    ∙ (ap (ranks_at f host job layer first.position) one_more
    ∙ ap (λ o. with_found o (ranks_at f host job layer (first.position + 1) (count - (first.position + 1)))) rank_is))) in
    let billed_there : IsBilled f host x.job sub = subst (λ n. IsBilled f host n sub) (sym it.job_is) billed in (
      omega arith,
      within,
      ap (offered plan) later
          ∙ (found_offered f host slot sub s x plan (ranks_at f host job layer (first.position + 1) (count - (first.position + 1))) (may_book f slot host) refl at framed billed_there room
          ∙ ap (λ n. offered (with_candidate (may_book f slot host) plan (record { slot = slot; version = s.version; sub = sub; host = host })) (ranks_at f host job layer (n + 1) (count - (n + 1)))) (sym same)),
    )
  where
    rank_or : Option SlotRow → Option Rank
    rank_or None = None
    rank_or (Some t) = rank_of f host slot t

-- the end: no frame of the layer waits any more
pub offer_end : (f : Farm) (host job layer from count : ℕ) (plan : List Candidate) → WaitsFirst (lists_of f) job layer from None → length plan ≤ CANDIDATES_EACH → offered plan (ranks_at f host job layer from count) ≡ plan
offer_end f host job layer from count plan none few = ap (offered plan) (ranks_none f host job layer from count none) ∙ offered_none plan few
