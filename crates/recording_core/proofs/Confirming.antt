-- A claim runs ahead of its booking, and comes back.
use Rattle.std.proofs.Common.{◌≡◌, ℕ, ◌==◌, set, slice_index, sym, refl, ap, ◌∙◌, subst, arith}
use Rattle.std.specs.Prelude.{Some, None}
use mathlib.Core.Option.{some}
use lib.ListN.{get_elem?}
use Rattle.std.proofs.lemmas.Bool.Decides.{nat_tests}
use Rattle.frame_words.specs.declared.frame_word.FrameWord.{FrameWord}
use Rattle.frame_words.specs.Bits.{FitsFrame, frame_bits, frame_of}
use Rattle.booking_rule.specs.declared.desk.Desk.{Desk}
use Rattle.booking_rule.specs.declared.hold.Claim.{Claim}
use Rattle.booking_rule.specs.declared.view.View.{View}
use Rattle.booking_rule.specs.Words.{Words, frame_place, with_frame, words_of}
use Rattle.booking_rule.specs.Seats.{IsSeated}
use Rattle.booking_rule.specs.Views.{noted, confirmed}
use Rattle.booking_rule.specs.Kept.{Kept, Holds}
use Rattle.booking_rule.proofs.Confirming.{in_phase, confirm_kept, withdraw_kept}
use Rattle.booking_rule.proofs.Seating.{none_some}
use Rattle.booking_rule.proofs.SeatSteps.{load_kept}
use Rattle.booking_core.specs.Kinds.{setup_for, claim_item}
use Rattle.booking_core.specs.Machine.{Table, word}
use Rattle.booking_core.proofs.Agreeing.{frame_holds, same_holds, exchange_holds}
use Rattle.booking_core.proofs.Bits.{frame_back}
use Rattle.booking_core.proofs.Seated.{finds_frame}
use Rattle.recording_core.specs.Records.{running_for}
use Rattle.recording_core.specs.Records.RecorderKind.{confirms, withdraws}
use Rattle.recording_core.specs.Machine.{IsFormed, Asks, acts}

pub desk_seated : (v : View) (d : Desk) → v.desk ≡ Some d → IsSeated v
desk_seated v d is none = none_some d (sym none.0 ∙ is)

pub running_fits : (c : Claim) → IsFormed c → FitsFrame (running_for c)
running_fits c formed = (omega arith, formed.1.1, formed.1.2, formed.1.3)

module _ (s : Table) (id : ℕ) (v : View) (h : Holds s) (at : get_elem? s.views id ≡ some v) (c : Claim) where
  abbrev W : Words
  W = words_of s.words

  abbrev n : ℕ
  n = slice_index s.words 0

  abbrev f : ℕ
  f = word s (frame_place c.slot)

  pub confirms_holds : Asks s v (confirms c) → Holds (acts s id v (confirms c))
  confirms_holds asks =
      let d = asks.0.0 in
      let is = asks.0.1 in
      let formed = asks.1 in
      let won = claim_item 10 c (running_for c) f (frame_bits (running_for c)) in
      let lost = claim_item 10 c (running_for c) f f in
      exchange_holds s id (frame_place c.slot) (f == frame_bits (setup_for c)) (frame_bits (running_for c)) f (confirmed v (Some c.slot) c.host won) (noted v lost)
      (λ hit.
      let e : f ≡ frame_bits (setup_for c) = grind (arith, nat_tests) in
      let was : W.frame c.slot ≡ setup_for c = ap frame_of e ∙ frame_back (setup_for c) formed.1 in
      frame_holds s id c.slot (frame_bits (running_for c)) (confirmed v (Some c.slot) c.host won) h.0 (running_for c) formed.0 (frame_back (running_for c) (running_fits c formed))
      (subst (λ (x : FrameWord). Kept n (with_frame W c.slot x) (set s.views id (confirmed v (Some c.slot) c.host won))) (ap (in_phase 4) was)
      (confirm_kept n W s.views id v d c.slot c.host won h.1 at is formed.0 refl refl refl asks.0.2 (ap (λ (x : FrameWord). x.phase) was) (ap (λ (x : FrameWord). x.host) was))))
      (λ _. same_holds s id (frame_place c.slot) (noted v lost) h.0
      (load_kept n W s.views id v lost h.1 at (desk_seated v d is) (finds_frame s lost c.slot formed.0 refl refl) refl))

  pub withdraws_holds : Asks s v (withdraws c) → Holds (acts s id v (withdraws c))
  withdraws_holds asks =
      let d = asks.0.0 in
      let is = asks.0.1 in
      let formed = asks.1 in
      let won = claim_item 10 c (setup_for c) f (frame_bits (setup_for c)) in
      let lost = claim_item 10 c (setup_for c) f f in
      exchange_holds s id (frame_place c.slot) (f == frame_bits (running_for c)) (frame_bits (setup_for c)) f (confirmed v None c.host won) (noted v lost)
      (λ hit.
      let e : f ≡ frame_bits (running_for c) = grind (arith, nat_tests) in
      let was : W.frame c.slot ≡ running_for c = ap frame_of e ∙ frame_back (running_for c) (running_fits c formed) in
      frame_holds s id c.slot (frame_bits (setup_for c)) (confirmed v None c.host won) h.0 (setup_for c) formed.0 (frame_back (setup_for c) formed.1)
      (subst (λ (x : FrameWord). Kept n (with_frame W c.slot x) (set s.views id (confirmed v None c.host won))) (ap (in_phase 3) was)
      (withdraw_kept n W s.views id v d c.slot c.host won h.1 at is formed.0 refl refl refl asks.0.2 asks.0.3)))
      (λ _. same_holds s id (frame_place c.slot) (noted v lost) h.0
      (load_kept n W s.views id v lost h.1 at (desk_seated v d is) (finds_frame s lost c.slot formed.0 refl refl) refl))
