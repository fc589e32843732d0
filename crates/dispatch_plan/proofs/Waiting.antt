-- A frame that doesn't wait has no rank, so that a layer's ranks are those of its waiting frames.
use Rattle.std.proofs.Common.{◌≡◌, ℕ, zero, suc, ◌+◌, ◌≤◌, ◌<◌, Bool, true, cond, List, [], Option, Some, None, refl, sym, ap, ◌∙◌, arith}
use Rattle.std.specs.List.{slice_get}
use Rattle.std.proofs.lemmas.Option.{none-some, same_Some}
use Rattle.farm_types.specs.declared.dispatch.Rank.{Rank}
use Rattle.farm_types.specs.declared.slot_row.Frame.{Frame}
use Rattle.farm_types.specs.declared.slot_row.SlotRow.{SlotRow}
use Rattle.farm_types.specs.Booking.{is_waiting}
use Rattle.farm_types.specs.Dispatch.{with_found}
use Rattle.farm_types.specs.Farm.{Farm, for_some}
use Rattle.farm_types.specs.Step.{lists_of}
use Rattle.farm_types.proofs.Passes.{for_some-there}
use Rattle.job_book.specs.Index.{NoneWaits, slot_of, waits_in, where_waits}
use Rattle.dispatch_law.specs.ByIndex.{rank_at_position, ranks_at}
use Rattle.dispatch_law.proofs.InLayer.{rank_at}
use Rattle.dispatch_law.proofs.RankFacts.{ranked}

where_is : (slots : List SlotRow) (o : Option ℕ) (slot : ℕ) → o ≡ Some slot → waits_in slots slot ≡ true → where_waits slots o ≡ Some slot
where_is slots None slot e waits = cc
where_is slots (Some n) slot e waits =
    let same : n ≡ slot = same_Some n slot e in
    ap (λ k. cond (waits_in slots k) (Some k) None) same ∙ ap (λ (b : Bool). cond b (Some slot) None) waits

-- a rank is of a frame that waits
ranked_waits : (f : Farm) (host job layer position : ℕ) (r : Rank) → rank_at_position f host job layer position ≡ Some r → NoneWaits (lists_of f) job layer position → ⊥
ranked_waits f host job layer position r e none =
    let it = rank_at f host job layer position r e in
    let has = ranked f host it.slot it.row r it.at it.rank_is in
    let frame : for_some it.row.frame (λ x. is_waiting x.state) ≡ true = for_some-there it.row.frame (λ (x : Frame). is_waiting x.state) has.frame has.frame_is has.waits in
    let waits : waits_in f.slots it.slot ≡ true = for_some-there (slice_get f.slots it.slot) (λ (s : SlotRow). for_some s.frame (λ x. is_waiting x.state)) it.row it.at frame in
    none-some it.slot (sym none ∙ where_is f.slots (slot_of (lists_of f) job layer position) it.slot it.stands_at waits)

unranked_by : (o : Option Rank) → ((r : Rank) → o ≡ Some r → ⊥) → o ≡ None
unranked_by None never = refl
unranked_by (Some r) never = absurd (never r refl)

pub unranked : (f : Farm) (host job layer position : ℕ) → NoneWaits (lists_of f) job layer position → rank_at_position f host job layer position ≡ None
unranked f host job layer position none = unranked_by (rank_at_position f host job layer position) (λ r e. ranked_waits f host job layer position r e none)

-- where no frame waits, the ranks begin later
pub ranks_later : (f : Farm) (host job layer position skipped count : ℕ) → ((k : ℕ) → position ≤ k → k < position + skipped → NoneWaits (lists_of f) job layer k)
    → ranks_at f host job layer position (skipped + count) ≡ ranks_at f host job layer (position + skipped) count
ranks_later f host job layer position zero count none =
    let a : zero + count ≡ count = omega arith in
    let b : position ≡ position + zero = omega arith in
    ap (ranks_at f host job layer position) a ∙ ap (λ n. ranks_at f host job layer n count) b
ranks_later f host job layer position (suc skipped) count none =
    let a : suc skipped + count ≡ suc (skipped + count) = omega arith in
    let b : (position + 1) + skipped ≡ position + suc skipped = omega arith in
    ap (ranks_at f host job layer position) a
    ∙ (ap (λ o. with_found o (ranks_at f host job layer (position + 1) (skipped + count))) (unranked f host job layer position (none position (omega arith) (omega arith)))
    ∙ (ranks_later f host job layer (position + 1) skipped count (λ k low high. none k (omega arith) (omega arith))
    ∙ ap (λ n. ranks_at f host job layer n count) b))

-- and where none waits any more there are none
pub ranks_none : (f : Farm) (host job layer position count : ℕ) → ((k : ℕ) → position ≤ k → NoneWaits (lists_of f) job layer k) → ranks_at f host job layer position count ≡ []
ranks_none f host job layer position zero none = refl
ranks_none f host job layer position (suc count) none =
    ap (λ o. with_found o (ranks_at f host job layer (position + 1) count)) (unranked f host job layer position (none position (omega arith)))
    ∙ ranks_none f host job layer (position + 1) count (λ k low. none k (omega arith))
