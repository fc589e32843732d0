-- The ranks of a layer: at rising positions, each of a frame that stands there.
use Rattle.std.proofs.Common.{◌≡◌, ℕ, zero, suc, ◌+◌, ◌<◌, ◌≤◌, ◌-◌, ◌⊎◌, inl, inr, Option, Some, None, refl, sym, ap, ◌∙◌, arith, option_and_then}
use Rattle.std.specs.List.{slice_get}
use Rattle.std.proofs.lemmas.Option.{same_Some}
use Rattle.farm_types.specs.declared.dispatch.Rank.{Rank}
use Rattle.farm_types.specs.declared.slot_row.SlotRow.{SlotRow}
use Rattle.farm_types.specs.Dispatch.{rank_of, rank_cmp, with_found}
use Rattle.farm_types.specs.Farm.{Farm, is_placed}
use Rattle.farm_types.specs.Step.{lists_of}
use Rattle.job_book.specs.Index.{slot_of}
use Rattle.dispatch_law.specs.ByIndex.{rank_in_slot, rank_at_position, ranks_at}
use Rattle.farm_law.proofs.FoundSlots.{found_slot}
use Rattle.farm_law.proofs.KeptJobsCounts.{stands_at}
use Rattle.dispatch_law.proofs.Keys.{HasKeys, keys_of, one_job, positions_less}
use Rattle.dispatch_law.proofs.RankFacts.{ranked, found_split, found_has, found_later}
use Rattle.dispatch_law.proofs.Strict.{Has, has_none, IsStrict}

-- ---- one position

-- the slot of the frame at a position, and its rank
pub record IsRankAt (f : Farm) (host job layer position : ℕ) (r : Rank) : Type 0 where
  pub slot : ℕ
  pub row : SlotRow
  pub stands_at : slot_of (lists_of f) job layer position ≡ Some slot
  pub at : slice_get f.slots slot ≡ Some row
  pub rank_is : rank_of f host slot row ≡ Some r

then_some : {X Y : Type 0} (g : X → Option Y) (o : Option X) (y : Y) → option_and_then g o ≡ Some y → (x : X) × (o ≡ Some x) × (g x ≡ Some y)
then_some g None y e = cc
then_some g (Some x) y e = (x, refl, e)

pub rank_at : (f : Farm) (host job layer position : ℕ) (r : Rank) → rank_at_position f host job layer position ≡ Some r → IsRankAt f host job layer position r
rank_at f host job layer position r e =
    let slot = then_some (λ slot. option_and_then (λ s. rank_of f host slot s) (slice_get f.slots slot)) (slot_of (lists_of f) job layer position) r e in
    let row = then_some (λ s. rank_of f host slot.0 s) (slice_get f.slots slot.0) r slot.2 in
    record { slot = slot.0; row = row.0; stands_at = slot.1; at = row.1; rank_is = row.2 }

pub at_rank : (f : Farm) (host job layer position slot : ℕ) (s : SlotRow) (r : Rank) → slot_of (lists_of f) job layer position ≡ Some slot → slice_get f.slots slot ≡ Some s → rank_of f host slot s ≡ Some r
    → rank_at_position f host job layer position ≡ Some r
at_rank f host job layer position slot s r stands_at at rank_is =
    ap (rank_in_slot f host) stands_at ∙ (ap (option_and_then (λ (t : SlotRow). rank_of f host slot t)) at ∙ rank_is)

-- the rank is of that job, layer and position
pub record IsOfPlace (f : Farm) (host job layer position : ℕ) (r : Rank) : Type 0 where
  pub keys : HasKeys f host r
  pub job_is : r.job ≡ job
  pub layer_is : r.layer ≡ layer
  pub position_is : r.position ≡ position

pub of_place : (f : Farm) (host job layer position : ℕ) (r : Rank) → IsRankAt f host job layer position r → IsOfPlace f host job layer position r
of_place f host job layer position r it =
    let found = found_slot (is_placed job layer position) f.slots it.slot it.stands_at in
    let rows : it.row ≡ found.row = same_Some it.row found.row (sym it.at ∙ found.at) in
    let has = ranked f host it.slot it.row r it.at it.rank_is in
    let same : found.frame ≡ has.frame = same_Some found.frame has.frame (sym found.is ∙ (ap (λ (s : SlotRow). s.frame) (sym rows) ∙ has.frame_is)) in
    let stands_there = stands_at job layer position has.frame (ap (is_placed job layer position) (sym same) ∙ found.passes) in
    record {
      keys = keys_of f host it.slot it.row r has;
      job_is = ap (λ (x : Rank). x.job) has.rank_is ∙ stands_there.job_is;
      layer_is = ap (λ (x : Rank). x.layer) has.rank_is ∙ stands_there.layer_is;
      position_is = ap (λ (x : Rank). x.position) has.rank_is ∙ stands_there.position_is;
    }

-- ---- positions in a row

-- one of so many positions from one on, and the rank there
pub record IsRankAmong (f : Farm) (host job layer position count : ℕ) (r : Rank) : Type 0 where
  pub k : ℕ
  pub from_there : position ≤ k
  pub to_there : k < position + count
  pub it : IsRankAt f host job layer k r

pub ranks_at_have : (f : Farm) (host job layer position count : ℕ) (r : Rank) → Has (ranks_at f host job layer position count) r → IsRankAmong f host job layer position count r
ranks_at_have f host job layer position zero r h = absurd (has_none r h)
ranks_at_have f host job layer position (suc count) r h =
    elim (found_split (rank_at_position f host job layer position) (ranks_at f host job layer (position + 1) count) r h) [
      | inl e ↦ record { k = position; from_there = omega arith; to_there = omega arith; it = rank_at f host job layer position r e }
      | inr later ↦ (let got = ranks_at_have f host job layer (position + 1) count r later in
          let low = got.from_there in
          let high = got.to_there in
          record { k = got.k; from_there = omega arith; to_there = omega arith; it = got.it })
    ]

start_by : (d m n : ℕ) → d ≡ n - m → m ≤ n → (m ≡ n) ⊎ (m + 1 ≤ n)
start_by zero m n e h = inl (omega arith)
start_by (suc d) m n e h = inr (omega arith)

start : (m n : ℕ) → m ≤ n → (m ≡ n) ⊎ (m + 1 ≤ n)
start m n h = start_by (n - m) m n refl h

pub have_rank_at : (f : Farm) (host job layer position count k : ℕ) (r : Rank) → rank_at_position f host job layer k ≡ Some r → position ≤ k → k < position + count → Has (ranks_at f host job layer position count) r
have_rank_at f host job layer position zero k r e low high = absurd (omega arith)
have_rank_at f host job layer position (suc count) k r e low high =
    elim (start position k low) as (λ _. Has (ranks_at f host job layer position (suc count)) r) [
      | inl same ↦ found_has (rank_at_position f host job layer position) (ranks_at f host job layer (position + 1) count) r (ap (rank_at_position f host job layer) same ∙ e)
      | inr above ↦ found_later (rank_at_position f host job layer position) (ranks_at f host job layer (position + 1) count) r (have_rank_at f host job layer (position + 1) count k r e above (omega arith))
    ]

-- a rank before those of later positions
first_strict : (f : Farm) (host job layer position count : ℕ) (o : Option Rank) → rank_at_position f host job layer position ≡ o → IsStrict (rank_cmp f) (ranks_at f host job layer (position + 1) count)
    → IsStrict (rank_cmp f) (with_found o (ranks_at f host job layer (position + 1) count))
first_strict f host job layer position count None e later = later
first_strict f host job layer position count (Some r) e later = (
  λ y h.
      let got = ranks_at_have f host job layer (position + 1) count y h in
      let a = of_place f host job layer position r (rank_at f host job layer position r e) in
      let b = of_place f host job layer got.k y got.it in
      let low = got.from_there in
      let below : r.position < y.position = omega (arith, a.position_is, b.position_is, low) in
      positions_less f r y (one_job f host r y a.keys b.keys (a.job_is ∙ sym b.job_is)) (a.layer_is ∙ sym b.layer_is) below,
  later,
)

-- the ranks at rising positions of one layer rise
pub ranks_at_strict : (f : Farm) (host job layer position count : ℕ) → IsStrict (rank_cmp f) (ranks_at f host job layer position count)
ranks_at_strict f host job layer position zero = tt
ranks_at_strict f host job layer position (suc count) =
    first_strict f host job layer position count (rank_at_position f host job layer position) refl (ranks_at_strict f host job layer (position + 1) count)
