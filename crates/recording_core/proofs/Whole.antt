-- What a step of the recorder writes is a word of 64 bits, and the table's wrapping sum is what it wrote.
use Rattle.std.proofs.Common.{◌≡◌, ℕ, ◌+◌, ◌/◌, ◌%◌, ◌^◌, ◌<◌, ◌==◌, Bool, true, false, if◌then◌else◌, length, slice_index, ◌∙◌, subst, arith}
use Rattle.std.specs.Prelude.{Option, Some}
use mathlib.Core.Option.{some}
use lib.ListN.{get_elem?}
use Rattle.frame_words.specs.declared.frame_word.FrameWord.{FrameWord}
use Rattle.frame_words.specs.Bits.{FitsFrame, frame_bits}
use Rattle.booking_rule.specs.declared.desk.Desk.{Desk}
use Rattle.booking_rule.specs.declared.view.View.{View}
use Rattle.booking_rule.specs.Words.{words_of, frame_place, sub_place, limit_place}
use Rattle.booking_rule.specs.Link.{recorded_in}
use Rattle.booking_rule.specs.Kept.{Holds, KeptAs}
use Rattle.booking_rule.proofs.Own.{of_first}
use Rattle.booking_core.specs.Kinds.{setup_for}
use Rattle.booking_core.specs.Machine.{Table, word}
use Rattle.recording_core.specs.Records.{RecorderKind, place, wrote, desk_in, running_for, raised, raise_by}
use Rattle.recording_core.specs.Records.RecorderKind.{opens, closes, records, books, confirms, withdraws, leaves, ends, turns, sets_amount, sets_burst, sets_most, sets_size, places, places_size, places_burst, places_most}
use Rattle.recording_core.specs.Machine.{Asks}
use Rattle.recording_core.proofs.Confirming.{running_fits}
use Rattle.recording_core.proofs.Caps.{burst_few, most_few}
use Rattle.recording_core.proofs.Placing.{places_size_fits, places_burst_fits, places_most_fits}
use Rattle.recording_core.proofs.Sizing.{sets_size_fits}

frame_below : (w : FrameWord) → FitsFrame w → frame_bits w < 2 ^ 64
frame_below w fits = omega (arith, fits.0, fits.1, fits.2, fits.3)

exchanged : (n expected wanted : ℕ) → n < 2 ^ 64 → wanted < 2 ^ 64 → (if n == expected then wanted else n) < 2 ^ 64
exchanged n expected wanted small won = go (n == expected)
  where
    go : (b : Bool) → (if b then wanted else n) < 2 ^ 64
    go true = won
    go false = small

raised_below : (n old new : ℕ) → n < 2 ^ 64 → n / 2 ^ 32 ≡ old → new < 2 ^ 32 → raised old new n < 2 ^ 64
raised_below n old new small is few = omega (arith, small, is, few)

raised_wraps : (n old new : ℕ) → n < 2 ^ 64 → n / 2 ^ 32 ≡ old → new < 2 ^ 32 → (n + raise_by old new) % 2 ^ 64 ≡ raised old new n
raised_wraps n old new small is few = omega (arith, small, is, few)

module _ (s : Table) (id : ℕ) (v : View) (h : Holds s) (at : get_elem? s.views id ≡ some v) where
  own : (d : Desk) → v.desk ≡ Some d → KeptAs (slice_index s.words 0) (words_of s.words) s.views id v.opening d v.journal v.trail
  own d is = of_first (slice_index s.words 0) (words_of s.words) s.views id v d h.1 at is

  -- the journal's word counts its entries
  pub journal_fits : (d : Desk) → v.desk ≡ Some d → length v.journal + 1 < 2 ^ 64 → word s 0 + 1 < 2 ^ 64
  journal_fits d is room = let j = (own d is).journal in omega arith

  -- what the word's upper half is, and that the new one is small
  record Caps (found old new : ℕ) : Type 0 where
    cap : found / 2 ^ 32 ≡ old
    few : new < 2 ^ 32

  burst_caps : (sub old new : ℕ) → Asks s v (sets_burst sub old new) → Caps (word s (sub_place sub)) old new
  burst_caps sub old new asks =
      let d = asks.0.0 in
      let is = asks.0.1 in
      let was = subst (λ (o : Option Desk). (recorded_in v.opening v.journal (desk_in o)).burst sub ≡ old) is asks.3 in
      let few = burst_few s id v h at d sub is in
      let now = asks.4 in
      record { cap = (own d is).rule.burst sub asks.1 ∙ was; few = omega arith }

  most_caps : (limit old new : ℕ) → Asks s v (sets_most limit old new) → Caps (word s (limit_place limit)) old new
  most_caps limit old new asks =
      let d = asks.0.0 in
      let is = asks.0.1 in
      let was = subst (λ (o : Option Desk). (recorded_in v.opening v.journal (desk_in o)).most limit ≡ old) is asks.3 in
      let few = most_few s id v h at d limit is in
      let now = asks.4 in
      record { cap = (own d is).rule.most limit asks.1 ∙ was; few = omega arith }

  -- ---- the table adds the difference, and wraps

  pub sets_burst_writes : (sub old new : ℕ) → Asks s v (sets_burst sub old new) → word s (sub_place sub) < 2 ^ 64
      → (word s (sub_place sub) + raise_by old new) % 2 ^ 64 ≡ wrote (sets_burst sub old new) (word s (sub_place sub))
  sets_burst_writes sub old new asks small = let c = burst_caps sub old new asks in raised_wraps (word s (sub_place sub)) old new small c.cap c.few

  pub sets_most_writes : (limit old new : ℕ) → Asks s v (sets_most limit old new) → word s (limit_place limit) < 2 ^ 64
      → (word s (limit_place limit) + raise_by old new) % 2 ^ 64 ≡ wrote (sets_most limit old new) (word s (limit_place limit))
  sets_most_writes limit old new asks small = let c = most_caps limit old new asks in raised_wraps (word s (limit_place limit)) old new small c.cap c.few

  -- ---- all kinds

  pub recorder_fits : (k : RecorderKind) → Asks s v k → word s (place k) < 2 ^ 64 → wrote k (word s (place k)) < 2 ^ 64
  recorder_fits (opens f) asks small = small
  recorder_fits closes asks small = small
  recorder_fits (records e) asks small = journal_fits asks.0.0 asks.0.1 asks.1.1
  recorder_fits (books c e) asks small = journal_fits asks.0.0 asks.0.1 asks.1.1
  recorder_fits (confirms c) asks small =
      exchanged (word s (frame_place c.slot)) (frame_bits (setup_for c)) (frame_bits (running_for c)) small (frame_below (running_for c) (running_fits c asks.1))
  recorder_fits (withdraws c) asks small = exchanged (word s (frame_place c.slot)) (frame_bits (running_for c)) (frame_bits (setup_for c)) small (frame_below (setup_for c) asks.1.1)
  recorder_fits (leaves slot bits) asks small = asks.1.fits
  recorder_fits (ends slot bits) asks small = asks.1.fits
  recorder_fits (turns slot bits) asks small = asks.1.fits
  recorder_fits (sets_amount slot bits) asks small = asks.2
  recorder_fits (sets_burst sub old new) asks small = let c = burst_caps sub old new asks in raised_below (word s (sub_place sub)) old new small c.cap c.few
  recorder_fits (sets_most limit old new) asks small = let c = most_caps limit old new asks in raised_below (word s (limit_place limit)) old new small c.cap c.few
  recorder_fits (sets_size host cores memory) asks small = (sets_size_fits s id v h at host cores memory asks).1
  recorder_fits (places slot bits) asks small = asks.2
  recorder_fits (places_size host cores memory) asks small = (places_size_fits s id v h at host cores memory asks).1
  recorder_fits (places_burst sub burst booked) asks small = places_burst_fits s id v h at sub burst booked asks
  recorder_fits (places_most limit most running) asks small = places_most_fits s id v h at limit most running asks
