-- A claim: won, lost, dropped, or found taken away.
use Rattle.std.proofs.Common.{◌<◌, ◌≡◌, ℕ, ◌-◌, ◌≤◌, ◌==◌, false, List, slice_index, refl, ap, ◌∙◌, subst, arith}
use mathlib.Core.Option.{some}
use lib.ListN.{get_elem?}
use Rattle.std.proofs.lemmas.Bool.Decides.{nat_tests}
use Rattle.farm_types.specs.Limits.{IsBetween}
use Rattle.farm_types.specs.declared.entry.Entry.{Entry}
use Rattle.farm_types.specs.declared.limits.TheConstants.{LEAST_CORES, MOST_CORES}
use Rattle.frame_words.specs.declared.frame_word.FrameWord.{FrameWord}
use Rattle.frame_words.specs.Bits.{FitsFrame, frame_bits, frame_of}
use Rattle.booking_rule.specs.declared.view.View.{View}
use Rattle.booking_rule.specs.declared.hold.Claim.{Claim}
use Rattle.booking_rule.specs.declared.opening.Opening.{Opening}
use Rattle.booking_rule.specs.Words.{Words, frame_place, words_of}
use Rattle.booking_rule.specs.Views.{noted, claimed, dropped}
use Rattle.booking_rule.specs.Link.{farm_of}
use Rattle.booking_rule.specs.Suits.{SuitsOnce}
use Rattle.booking_rule.specs.Kept.{Kept, Holds}
use Rattle.booking_rule.specs.Seats.{IsSeated}
use Rattle.booking_rule.proofs.Recording.{once_more}
use Rattle.booking_rule.proofs.SeatSteps.{load_kept, claim_kept, drop_claim_kept}
use Rattle.entry_law.proofs.Billing.{bills}
use Rattle.booking_core.specs.Kinds.{waiting_for, setup_for, claim_item}
use Rattle.booking_core.specs.Kinds.Kind.{claims, drops}
use Rattle.booking_core.specs.Machine.{Table, word, IsFormedClaim, Asks, acts}
use Rattle.booking_core.proofs.Bits.{frame_back}
use Rattle.booking_core.proofs.Agreeing.{frame_holds, same_holds, exchange_holds}
use Rattle.booking_core.proofs.Seated.{seated_of, finds_frame, settled_own, settled_idle}

pub waiting_fits : (c : Claim) → IsFormedClaim c → FitsFrame (waiting_for c)
waiting_fits c formed = (omega arith, omega (arith, formed.2.1), omega arith, formed.2.3)

-- what suited the farm at a place of the seat's own journal suits it at that place of the journal
suits_known : (n : ℕ) (W : Words) (views : List View) (id : ℕ) (v : View) (K : Kept n W views) → get_elem? views id ≡ some v
    → IsSeated v → (c : Claim) → SuitsOnce (farm_of v.opening) v.journal c → SuitsOnce (farm_of K.opening) K.log c
suits_known n W views id v K at seated c suits =
    let m = K.own.seats.each id v at in
    let P : Opening × List Entry → Type 0 = λ x. SuitsOnce (farm_of x.0) x.1 c in
    subst P (λ i. (m.same seated i, m.prefix.1 i)) (once_more (farm_of v.opening) v.journal m.prefix.0 c suits)

module _ (s : Table) (id : ℕ) (v : View) (h : Holds s) (at : get_elem? s.views id ≡ some v) where
  pub claims_holds : (c : Claim) → Asks s id v (claims c) → Holds (acts s id v (claims c))
  claims_holds c asks =
      let n = word s (frame_place c.slot) in
      let W = words_of s.words in
      let won = claim_item 6 c (setup_for c) n (frame_bits (setup_for c)) in
      let lost = claim_item 6 c (setup_for c) n n in
      let seated = seated_of v asks.0 in
      let seen = asks.4 in
      exchange_holds s id (frame_place c.slot) (n == frame_bits (waiting_for c)) (frame_bits (setup_for c)) n (claimed v c won) (noted v lost)
      (λ hit.
      let e : n ≡ frame_bits (waiting_for c) = grind (arith, nat_tests) in
      let was : W.frame c.slot ≡ waiting_for c = ap frame_of e ∙ frame_back (waiting_for c) (waiting_fits c asks.2) in
      let busy : ((W.frame c.slot).phase == 0) ≡ false = ap (λ (f : FrameWord). f.phase == 0) was in
      let amounts = subst (λ (f : FrameWord). IsBetween LEAST_CORES MOST_CORES f.cores) was (h.1.own.ranged.cores c.slot asks.2.0 busy) in
      let least : 10 ≤ c.cores = amounts.0 in
      let below : c.version < 16777216 = asks.2.2.1 in
      let suits = suits_known (slice_index s.words 0) W s.views id v h.1 at seated c asks.5 in
      let bill = bills (slice_index s.words 0) W s.views id v h.1 at c asks.2.0 below (omega (arith, least)) was asks.3.2 suits in
      frame_holds s id c.slot (frame_bits (setup_for c)) (claimed v c won) h.0 (setup_for c) asks.2.0 (frame_back (setup_for c) asks.2.2)
      (claim_kept (slice_index s.words 0) W s.views id v won h.1 at seated (finds_frame s won c.slot asks.2.0 refl refl) refl c (c.version - 1) seen.0 asks.2.0
      (omega (arith, asks.2.1)) below was bill seen.1 seen.2 seen.3 asks.3.0 asks.3.1 asks.3.2 suits
      (settled_own (slice_index s.words 0) W s.views id v h.1 at c.host (settled_idle v c.host asks.1))))
      (λ _. same_holds s id (frame_place c.slot) (noted v lost) h.0
      (load_kept (slice_index s.words 0) W s.views id v lost h.1 at seated (finds_frame s lost c.slot asks.2.0 refl refl) refl))

  pub drops_holds : (c : Claim) → Asks s id v (drops c) → Holds (acts s id v (drops c))
  drops_holds c asks =
      let n = word s (frame_place c.slot) in
      let W = words_of s.words in
      let won = claim_item 7 c (waiting_for c) n (frame_bits (waiting_for c)) in
      let lost = claim_item 7 c (waiting_for c) n n in
      exchange_holds s id (frame_place c.slot) (n == frame_bits (setup_for c)) (frame_bits (waiting_for c)) n (dropped v c won) (noted v lost)
      (λ hit.
      let e : n ≡ frame_bits (setup_for c) = grind (arith, nat_tests) in
      let was : W.frame c.slot ≡ setup_for c = ap frame_of e ∙ frame_back (setup_for c) asks.1.2 in
      frame_holds s id c.slot (frame_bits (waiting_for c)) (dropped v c won) h.0 (waiting_for c) asks.1.0 (frame_back (waiting_for c) (waiting_fits c asks.1))
      (drop_claim_kept (slice_index s.words 0) W s.views id v won h.1 at asks.0 (finds_frame s won c.slot asks.1.0 refl refl) refl c asks.1.0 was asks.2))
      (λ _. same_holds s id (frame_place c.slot) (noted v lost) h.0
      (load_kept (slice_index s.words 0) W s.views id v lost h.1 at asks.0 (finds_frame s lost c.slot asks.1.0 refl refl) refl))
