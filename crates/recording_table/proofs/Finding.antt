-- What the word of a step is found to be, by the rule.
use Rattle.std.proofs.Common.{◌≡◌, ◌≢◌, ℕ, ◌+◌, ◌<◌, ◌/◌, ◌%◌, ◌^◌, ◌==◌, if◌then◌else◌, Bool, List, [], ◌∷◌, false, true, length, slice_index, sym, refl, ap, ◌∙◌, subst, arith}
use Rattle.std.specs.Prelude.{Option, Some, None}
use Rattle.std.proofs.lemmas.Bool.Decides.{nat_tests}
use mathlib.Core.Option.{some}
use lib.ListN.{get_elem?}
use Rattle.farm_types.specs.Farm.{empty_farm}
use Rattle.frame_words.specs.declared.frame_word.FrameWord.{FrameWord}
use Rattle.frame_words.specs.Bits.{frame_bits, frame_of}
use Rattle.booking_rule.specs.declared.desk.Desk.{Desk}
use Rattle.farm_types.specs.declared.entry.Entry.{Entry}
use Rattle.booking_rule.specs.declared.view.View.{View}
use Rattle.booking_rule.specs.Words.{words_of, frame_place, host_place, sub_place, limit_place}
use Rattle.booking_rule.specs.Link.{recorded_in, farm_before, stand_at}
use Rattle.booking_rule.specs.Recorded.{Stand, free_at}
use Rattle.booking_rule.specs.Rule.{ShowsFrame, is_pending, word_of}
use Rattle.booking_rule.specs.Kept.{Holds, IsBefore, KeptAs, farm_in}
use Rattle.booking_rule.proofs.Alone.{claim_shown}
use Rattle.booking_rule.proofs.Own.{of_first}
use Rattle.booking_core.specs.Kinds.{setup_for}
use Rattle.booking_core.specs.Machine.{Table, word}
use Rattle.booking_core.proofs.Bits.{frame_back}
use Rattle.recording_core.specs.Records.{RecorderKind, place, desk_in}
use Rattle.recording_core.specs.Records.RecorderKind.{opens, closes, records, books, confirms, withdraws, leaves, ends, turns, sets_amount, sets_burst, sets_most, sets_size}
use Rattle.recording_core.specs.Records.RecorderKind.{places, places_size, places_burst, places_most}
use Rattle.recording_core.specs.Machine.{Asks, stand_recorded}
use Rattle.recording_core.proofs.Sizing.{sets_size_empty}
use Rattle.recording_core.proofs.Placing.{places_size_empty, cap_none, counts_none, most_cap_none, runs_none}
use Rattle.recording_table.specs.Steps.{Finds, IsOnRecorded}
use Rattle.recording_table.proofs.Bookable.{ahead_word, can_book, frame_forth}
use Rattle.recording_table.proofs.Leaving.{below, sized, taken_setup}

not_one : (x : ℕ) → x ≢ 1 → (x == 1) ≡ false
not_one x ne = go (x == 1) refl
  where
    go : (b : Bool) → (x == 1) ≡ b → (x == 1) ≡ false
    go true e = absurd (ne (grind (arith, nat_tests)))
    go false e = e

-- a word whose parts are 0 is 0
no_host : (n : ℕ) → n / 2 ^ 40 ≡ 0 → n % 2 ^ 40 ≡ 0 → n ≡ 0
no_host n upper lower = omega (arith, upper, lower)

no_pair : (n : ℕ) → n / 2 ^ 32 ≡ 0 → n % 2 ^ 32 ≡ 0 → n ≡ 0
no_pair n upper lower = omega (arith, upper, lower)

no_frame : (n : ℕ) → frame_of n ≡ word_of (free_at 0) → n ≡ 0
no_frame n is =
    let phase : n / 2 ^ 60 ≡ 0 = ap (λ (f : FrameWord). f.phase) is in
    let version : n / 2 ^ 36 % 2 ^ 24 ≡ 0 = ap (λ (f : FrameWord). f.version) is in
    let host : n / 2 ^ 20 % 2 ^ 16 ≡ 0 = ap (λ (f : FrameWord). f.host) is in
    let cores : n % 2 ^ 20 ≡ 0 = ap (λ (f : FrameWord). f.cores) is in omega (arith, phase, version, host, cores)

-- the empty farm has no frames
none_stands : (n : ℕ) → stand_at empty_farm n ≡ free_at 0
unfolding stand_at
none_stands n = refl

module _ (s : Table) (id : ℕ) (v : View) (h : Holds s) (at : get_elem? s.views id ≡ some v) where
  own : (d : Desk) → v.desk ≡ Some d → KeptAs (slice_index s.words 0) (words_of s.words) s.views id v.opening d v.journal v.trail
  own d is = of_first (slice_index s.words 0) (words_of s.words) s.views id v d h.1 at is

  -- while no slot runs ahead
  shown : (d : Desk) → v.desk ≡ Some d → d.pending ≡ None → (slot : ℕ) → slot < 65536
      → ShowsFrame ((stand_recorded v slot).phase == 1) false (stand_recorded v slot) (frame_of (word s (frame_place slot)))
  shown d is none slot lt =
      let S : Option Desk → Stand = λ o. (recorded_in v.opening v.journal (desk_in o)).slot slot in
      let f = frame_of (word s (frame_place slot)) in
      subst (λ (o : Option Desk). ShowsFrame ((S o).phase == 1) false (S o) f) (sym is)
      (subst (λ (p : Option ℕ). ShowsFrame ((S (Some d)).phase == 1) (is_pending p slot) (S (Some d)) f) none ((own d is).rule.shows slot lt).frame)

  -- in that phase
  in_phase : (slot : ℕ) (b : Bool) → ((stand_recorded v slot).phase == 1) ≡ b
      → ShowsFrame ((stand_recorded v slot).phase == 1) false (stand_recorded v slot) (frame_of (word s (frame_place slot)))
      → ShowsFrame b false (stand_recorded v slot) (frame_of (word s (frame_place slot)))
  in_phase slot b e shows = subst (λ (x : Bool). ShowsFrame x false (stand_recorded v slot) (frame_of (word s (frame_place slot)))) e shows

  -- the host of a claim's word is recorded
  on_recorded : (d : Desk) → v.desk ≡ Some d → (slot : ℕ) → slot < 65536 → (stand_recorded v slot).phase ≡ 1
      → ShowsFrame true false (stand_recorded v slot) (frame_of (word s (frame_place slot))) → IsOnRecorded v (frame_of (word s (frame_place slot)))
  on_recorded d is slot lt waits shows booked =
      let n = slice_index s.words 0 in
      let W = words_of s.words in
      let setup = taken_setup (stand_recorded v slot) (W.frame slot) waits shows booked in (
        below n W s.views id v.opening d v.journal v.trail (own d is) slot lt setup,
        subst (λ (o : Option Desk). (recorded_in v.opening v.journal (desk_in o)).cores (W.frame slot).host ≢ 0) (sym is)
            (sized n W s.views id v.opening d v.journal v.trail (own d is) slot lt setup),
      )

  -- a slot that wasn't placed
  bare_slot : (slot bits : ℕ) → Asks s v (places slot bits) → word s (frame_place slot) ≡ 0
  bare_slot slot bits asks =
      let d = asks.0.0 in
      let lent = asks.0.3 in
      let f = frame_of (word s (frame_place slot)) in
      let bare : (recorded_in v.opening v.journal d).slot slot ≡ free_at 0 =
      ap (λ (b : Bool). if b then stand_at (farm_in v) slot else stand_at (farm_before v.opening d.before) slot) lent.undone
      ∙ ap (λ (o : Option (List Entry)). stand_at (farm_before v.opening o) slot) lent.opening ∙ none_stands slot in
      no_frame (word s (frame_place slot))
      (subst (λ (S : Stand). ShowsFrame (S.phase == 1) (is_pending d.pending slot) S f) bare ((own d asks.0.1).rule.shows slot asks.1).frame)

  pub finds : (k : RecorderKind) → Asks s v k → word s (place k) < 2 ^ 64 → Finds v k (word s (place k))
  finds (opens f) asks small = (own asks.0.0.0 asks.0.0.1).journal ∙ ap (λ (l : List Entry). length l) asks.0.1
  finds closes asks small =
      let o = own asks.0 asks.1 in
      o.journal ∙ ap (λ (l : List Entry). length l) (subst (λ (x : Option (List Entry)). IsBefore x v.journal) asks.3 o.before)
  finds (records e) asks small = (own asks.0.0 asks.0.1).journal
  finds (books c e) asks small = (own asks.0.0 asks.0.1).journal
  finds (confirms c) asks small = (
    λ e.
        can_book (slice_index s.words 0) (words_of s.words) s.views id v asks.0.0 c h.1 at asks.0.1 asks.1.0 asks.0.3
        (ap frame_of e ∙ frame_back (setup_for c) asks.1.1),
    λ alone next. claim_shown (slice_index s.words 0) (words_of s.words) s.views id v (c ∷ []) h.1 at alone c refl asks.1.0 next,
  )
  finds (withdraws c) asks small =
      let S : Option Desk → Stand = λ o. (recorded_in v.opening v.journal (desk_in o)).slot c.slot in
      let version = subst (λ (o : Option Desk). c.version ≡ (S o).version + 1) asks.0.1 asks.2 in
      let cores = subst (λ (o : Option Desk). c.cores ≡ (S o).cores) asks.0.1 asks.3 in
      frame_forth (word s (frame_place c.slot)) small
      ∙ ap frame_bits
      (ahead_word (slice_index s.words 0) (words_of s.words) s.views id v asks.0.0 c h.1 at asks.0.1 asks.1.0 asks.0.2 (asks.4 asks.0.0 asks.0.1) version cores)
  finds (leaves slot bits) asks small =
      let shows = in_phase slot true (ap (λ (x : ℕ). x == 1) asks.2) (shown asks.0.0 asks.0.1 asks.0.2 slot asks.1.within) in
      (shows, on_recorded asks.0.0 asks.0.1 slot asks.1.within asks.2 shows)
  finds (ends slot bits) asks small = in_phase slot false (ap (λ (x : ℕ). x == 1) asks.2) (shown asks.0.0 asks.0.1 asks.0.2 slot asks.1.within)
  finds (turns slot bits) asks small =
      in_phase slot false (not_one (stand_recorded v slot).phase asks.2) (shown asks.0.0 asks.0.1 asks.0.2 slot asks.1.within)
  finds (sets_amount slot bits) asks small = tt
  finds (sets_burst sub old new) asks small =
      let was = subst (λ (o : Option Desk). (recorded_in v.opening v.journal (desk_in o)).burst sub ≡ old) asks.0.1 asks.3 in
      (own asks.0.0 asks.0.1).rule.burst sub asks.1 ∙ was
  finds (sets_most limit old new) asks small =
      let was = subst (λ (o : Option Desk). (recorded_in v.opening v.journal (desk_in o)).most limit ≡ old) asks.0.1 asks.3 in
      (own asks.0.0 asks.0.1).rule.most limit asks.1 ∙ was
  finds (sets_size host cores memory) asks small =
      let e = sets_size_empty s id v h at host cores memory asks in no_host (word s (host_place host)) e.0 e.1
  finds (places slot bits) asks small = bare_slot slot bits asks
  finds (places_size host cores memory) asks small =
      let e = places_size_empty s id v h at host cores memory asks in no_host (word s (host_place host)) e.0 e.1
  finds (places_burst sub burst booked) asks small =
      no_pair (word s (sub_place sub)) (cap_none s id v h at sub burst booked asks) (counts_none s id v h at sub burst booked asks)
  finds (places_most limit most running) asks small =
      no_pair (word s (limit_place limit)) (most_cap_none s id v h at limit most running asks)
      (runs_none s id v h at limit most running asks)
