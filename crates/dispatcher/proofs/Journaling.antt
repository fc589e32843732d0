-- What the journal gains over a round, candidate by candidate, and which candidates are still to be tried.
use Rattle.std.proofs.Common.{◌≡◌, ℕ, ◌+◌, ◌-◌, ◌<◌, ◌^◌, List, [], ◌∷◌, ◌++◌, length, length-append, append-nil, get_or, drop, take, sym, ap, subst, ◌∙◌, arith}
use Rattle.farm_types.specs.declared.dispatch.Candidate.{Candidate}
use Rattle.farm_types.specs.declared.entry.Entry.{Entry}
use Rattle.farm_types.specs.declared.limits.TheConstants.{BOOKINGS_EACH}
use Rattle.farm_types.specs.Dispatch.{round_from}
use Rattle.farm_types.specs.Farm.{Farm}
use Rattle.booking_rule.specs.declared.view.View.{View}
use Rattle.booking_recorder.specs.recording_turns.specs.Resting.{split_in}
use Rattle.booking_recorder.specs.Going.{Journals}
use Rattle.booking_recorder.proofs.Journaled.{journals_then}
use Rattle.dispatcher.specs.Ready.{AreReady, IsReady, LeavesReady}
use Rattle.dispatcher.specs.Rounds.{IsOffered}
use Rattle.dispatcher.proofs.Told.{front_more, own, so_far}
use Rattle.dispatcher.proofs.UnderWay.{IsUnderWay, at_hand, next_item}

-- ---- the candidates that are left

module _ (f : Farm) (all : List Candidate) (c : Candidate) (i : ℕ) (within : i < length all) (is : c ≡ get_or all i c) (ready : AreReady f (drop i all)) where
  front : AreReady f (c ∷ drop (i + 1) all)
  front = subst (AreReady f) (next_item all i c within is) ready

  -- the one at hand may be tried
  pub ready_at : IsReady f c
  ready_at = front.0

  -- and then those behind it
  pub ready_next : (new : Farm) → LeavesReady c.slot f new → AreReady new (drop (i + 1) all)
  ready_next new leaves = leaves (drop (i + 1) all) front.1 front.2

-- ---- the journal

module _ (old : Farm) (moment : ℕ) (all : List Candidate) (left : ℕ) (f : Farm) (c : Candidate) where
  abbrev round : List Entry
  round = round_from BOOKINGS_EACH old moment all

  -- there is room for as many as are left
  pub room_at : (rest : List Candidate) (v u : View) → IsUnderWay old moment all left f rest → Journals v u (take (BOOKINGS_EACH - left) round)
      → length v.journal + BOOKINGS_EACH < 2 ^ 64 → length u.journal + left < 2 ^ 64
  room_at rest v u so gained room =
      let grown : length u.journal ≡ length v.journal + length (take (BOOKINGS_EACH - left) round) =
      ap (λ (es : List Entry). length es) gained.journal ∙ length-append v.journal (take (BOOKINGS_EACH - left) round) in
      let many : length (take (BOOKINGS_EACH - left) round) ≡ length so.booked = ap (λ (es : List Entry). length es) (so_far old moment all left f c rest so) in
      omega (arith, grown, many, so.counted, room)

  -- a fault ended the round
  pub journals_to : (booked : ℕ) (v u w : View) → booked ≡ BOOKINGS_EACH - left → Journals v u (take (BOOKINGS_EACH - left) round) → Journals u w []
      → Journals v w (take booked round)
  journals_to booked v u w many first next =
      subst (Journals v w) (append-nil (take (BOOKINGS_EACH - left) round) ∙ ap (λ (k : ℕ). take k round) (sym many))
      (journals_then v u w (take (BOOKINGS_EACH - left) round) [] first next)

  -- the candidate at hand was offered
  pub journals_next : (i : ℕ) → i < length all → c ≡ get_or all i c → IsUnderWay old moment all left f (drop i all) → (new : Farm) (left_then : ℕ)
      → IsOffered left f moment c left_then new → (v u w : View) → Journals v u (take (BOOKINGS_EACH - left) round) → Journals u w (round_from left f moment (c ∷ []))
      → Journals v w (take (BOOKINGS_EACH - left_then) round)
  journals_next i within is so new left_then offered v u w first next =
      let there = at_hand old moment all left f c i within is so in
      let rest = round_from left_then new moment (drop (i + 1) all) in
      let whole : there.booked ++ (offered.booked ++ rest) ≡ round = ap (λ (es : List Entry). there.booked ++ es) (offered.goes_on (drop (i + 1) all)) ∙ there.goes_on in
      let many : BOOKINGS_EACH - left_then ≡ length (there.booked ++ offered.booked) =
      omega (arith, there.counted, offered.counted, length-append there.booked offered.booked) in
      let done : Journals v u there.booked = subst (Journals v u) (so_far old moment all left f c (c ∷ drop (i + 1) all) there) first in
      let more : Journals u w offered.booked = subst (Journals u w) (sym (own left f moment c left_then new offered)) next in
      subst (Journals v w) (sym (front_more there.booked offered.booked rest round (BOOKINGS_EACH - left_then) whole many))
      (journals_then v u w there.booked offered.booked done more)

-- no seat was split off meanwhile
pub alone_still : (v u : View) (done : List Entry) → Journals v u done → split_in v.desk ≡ 0 → split_in u.desk ≡ 0
alone_still v u done gained alone = gained.split ∙ alone
