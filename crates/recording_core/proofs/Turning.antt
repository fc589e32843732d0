-- A slot's word becomes the farm's: of a frame that waited or was claimed, of one that ran, of any other.
use Rattle.std.proofs.Common.{◌≡◌, ◌≢◌, ℕ, ◌<◌, ◌≤◌, Bool, true, false, ◌==◌, List, set, slice_index, sym, refl, ap, ◌∙◌, subst, arith, ⊎_elim}
use Rattle.std.specs.Prelude.{Option, Some, None}
use Rattle.std.proofs.lemmas.Bool.Decides.{nat_tests}
use mathlib.Core.Option.{some}
use lib.ListN.{get_elem?}
use Rattle.farm_types.specs.Limits.{IsBetween}
use Rattle.farm_types.specs.declared.limits.TheConstants.{LEAST_MEMORY, MOST_MEMORY}
use Rattle.frame_words.specs.declared.frame_word.FrameWord.{FrameWord}
use Rattle.frame_words.specs.declared.amount_word.AmountWord.{AmountWord}
use Rattle.frame_words.specs.Bits.{frame_of}
use Rattle.booking_rule.specs.declared.desk.Desk.{Desk}
use Rattle.booking_rule.specs.declared.noted.Noted.{Noted}
use Rattle.booking_rule.specs.declared.view.View.{View}
use Rattle.booking_rule.specs.Words.{Words, frame_place, with_frame, words_of}
use Rattle.booking_rule.specs.Recorded.{Stand, Recorded}
use Rattle.booking_rule.specs.Link.{farm_of, recorded_in, stand_at}
use Rattle.booking_rule.specs.Rule.{is_booked, word_of, claim_in, is_pending, IsTaken, ShowsFrame, SameAmounts, ShowsAmount, Shows}
use Rattle.booking_rule.specs.Amounts.{IsWritten, last_amount}
use Rattle.booking_rule.specs.Views.{turned, freed}
use Rattle.booking_rule.specs.Kept.{Kept, KeptAs, Holds, farm_in}
use Rattle.booking_rule.proofs.Own.{of_first}
use Rattle.booking_rule.proofs.Says.{none_setup}
use Rattle.booking_rule.proofs.Turning.{Rises, HasAmounts, turn_kept, free_kept}
use Rattle.depend_law.proofs.KeptRuns.{kept_run}
use Rattle.booking_core.specs.Machine.{Table, word}
use Rattle.booking_core.proofs.Agreeing.{frame_holds, either_holds}
use Rattle.recording_core.specs.Records.{desk_in, amounts_of, claim_by, turn_item, freed_by}
use Rattle.recording_core.specs.Records.RecorderKind.{leaves, ends, turns}
use Rattle.recording_core.specs.Machine.{WroteAmounts, Asks, acts}
use Rattle.recording_core.proofs.Between.{Near, recorded_near, stand_within}

-- ---- what a slot's words show

-- a word that is no claim's
word_recorded : (b pending : Bool) (s : Stand) (f : FrameWord) → b ≡ false → ShowsFrame b pending s f → f ≡ word_of s
word_recorded true pending s f e h = absurd (off e)
  where
    off : true ≡ false → ⊥
    off e = cc
word_recorded false pending s f e h = h

-- a word isn't of a later version than the farm says, where that isn't recorded yet
word_version : (b pending : Bool) (s now : Stand) (f : FrameWord) → (s.phase == 1) ≡ b → ShowsFrame b pending s f → Near s now → s ≢ now → f.version ≤ now.version
word_version true pending s now f is shows near left =
    let exact : f ≡ word_of s → f.version ≤ now.version = λ e.
    let v : f.version ≡ s.version = ap (λ (x : FrameWord). x.version) e in
    let r = near.version in omega arith in
    let taken : IsTaken pending s f → f.version ≤ now.version = λ t.
    let next = t.version in
    let below = t.below in
    ⊎_elim (λ (e : s ≡ now). absurd (left e)) (λ (r : s.version < now.version). omega arith) (near.waiting (grind (arith, nat_tests)) (omega arith)) in
    ⊎_elim exact taken shows
word_version false pending s now f is shows near left =
    let v : f.version ≡ s.version = ap (λ (x : FrameWord). x.version) shows in
    let r = near.version in
    omega arith

-- a booked word is of a slot with a frame
booked_busy : (b pending : Bool) (s : Stand) (f : FrameWord) → (s.phase == 1) ≡ b → ShowsFrame b pending s f → is_booked f.phase ≡ true → (s.phase == 0) ≡ false
booked_busy true pending s f is shows booked = grind (arith, nat_tests)
booked_busy false pending s f is shows booked =
    let same : is_booked s.phase ≡ true = ap (λ (x : FrameWord). is_booked x.phase) (sym shows) ∙ booked in
    grind (arith, nat_tests)

same_amounts : (s : Stand) (a : AmountWord) → a ≡ amounts_of s → SameAmounts s a
same_amounts s a e = (ap (λ (x : AmountWord). x.show) e, (ap (λ (x : AmountWord). x.limit) e, ap (λ (x : AmountWord). x.memory) e))

pub amounts_same : (s : Stand) (a : AmountWord) → SameAmounts s a → a ≡ amounts_of s
amounts_same s a h = λ i. record { show = h.0 i; limit = h.1.0 i; memory = h.1.1 i }

-- what was written last is the slot's amount word
wrote_shows : (o : Option ℕ) (s : Stand) (a : AmountWord) → IsWritten a o → WroteAmounts s o → a ≡ amounts_of s
wrote_shows None s a is wrote = absurd wrote
wrote_shows (Some bits) s a is wrote = is ∙ wrote

-- ---- one slot

module _ (n : ℕ) (W : Words) (views : List View) (id : ℕ) (v : View) (d : Desk) (slot : ℕ) (item : Noted) (K : Kept n W views) (at : get_elem? views id ≡ some v)
    (is : v.desk ≡ Some d) (lt : slot < 65536) (pending : d.pending ≡ None) where
  abbrev was : Stand
  was = (recorded_in v.opening v.journal d).slot slot

  abbrev now : Stand
  now = stand_at (farm_in v) slot

  own : KeptAs n W views id v.opening d v.journal v.trail
  own = of_first n W views id v d K at is

  near : Near was now
  near = recorded_near v.opening v.journal d slot own.begins own.legal own.before

  shown : Shows (is_pending d.pending slot) was (W.frame slot) (W.amount slot)
  shown = own.rule.shows slot lt

  rises : Rises was now
  rises = record { version = near.version; waiting = near.waiting }

  -- ---- the slot's amounts are those that the farm says

  module _ (written : was.phase ≡ 0 → (now.phase == 0) ≡ false → WroteAmounts now (last_amount slot v.trail)) where
    pub shows_now : ShowsAmount now (W.amount slot)
    shows_now used = go (was.phase == 0) refl
      where
        go : (b : Bool) → (was.phase == 0) ≡ b → SameAmounts now (W.amount slot)
        go true free =
            same_amounts now (W.amount slot) (wrote_shows (last_amount slot v.trail) now (W.amount slot) (own.written.each slot lt)
            (written (grind (arith, nat_tests)) used))
        go false busy = same_amounts now (W.amount slot) (amounts_same was (W.amount slot) (shown.amount busy) ∙ sym (near.amounts busy used))

    pub within : HasAmounts now (W.amount slot)
    within =
        let kept = kept_run (farm_of v.opening) v.journal own.begins own.legal in
        record {
          cores = λ used. (stand_within (farm_in v) slot kept.rows used).cores;
          memory = λ used. (let s = shows_now used in
              subst (IsBetween LEAST_MEMORY MOST_MEMORY) (sym s.1.1) (stand_within (farm_in v) slot kept.rows used).memory);
        }

    module _ (place : item.word ≡ frame_place slot) (found : frame_of item.found ≡ W.frame slot) (other : (item.did == 14) ≡ false) (left : was ≢ now)
        (over : is_booked now.phase ≡ false) where
      free : is_pending d.pending slot ≡ false
      free = ap (λ (p : Option ℕ). is_pending p slot) pending

      version : (W.frame slot).version ≤ now.version
      version = word_version (was.phase == 1) (is_pending d.pending slot) was now (W.frame slot) refl shown.frame near left

      -- a word that wasn't booked
      pub turned_kept : is_booked (W.frame slot).phase ≡ false → Kept n (with_frame W slot (word_of now)) (set views id (turned v slot item))
      turned_kept idle = turn_kept n W views id v d slot item K at is lt place found other free rises within over version shows_now idle

      -- a booked one
      pub freed_kept : is_booked (W.frame slot).phase ≡ true
          → Kept n (with_frame W slot (word_of now)) (set views id (freed v slot (claim_by (recorded_in v.opening v.journal d) slot (W.frame slot)) item))
      freed_kept booked =
          let R = recorded_in v.opening v.journal d in
          let busy = booked_busy (was.phase == 1) (is_pending d.pending slot) was (W.frame slot) refl shown.frame booked in
          let same : W.amount slot ≡ amounts_of was = amounts_same was (W.amount slot) (shown.amount busy) in
          subst (λ (a : AmountWord). Kept n (with_frame W slot (word_of now)) (set views id (freed v slot (claim_in R.alloc slot (W.frame slot) a) item))) same
          (free_kept n W views id v d slot item K at is lt place found other free rises within over version shows_now booked)

  -- ---- what phase the word is in

  -- a running frame's word is booked
  pub ran : was.phase ≡ 4 → is_booked (W.frame slot).phase ≡ true
  ran runs =
      let same = word_recorded (was.phase == 1) (is_pending d.pending slot) was (W.frame slot) (ap (λ (k : ℕ). k == 1) runs) shown.frame in
      ap (λ (x : FrameWord). is_booked x.phase) same ∙ ap is_booked runs

  -- that of a frame that neither waits nor runs isn't
  pub idled : was.phase ≢ 1 → was.phase ≢ 4 → is_booked (W.frame slot).phase ≡ false
  idled waits runs =
      let one : (was.phase == 1) ≡ false = grind (arith, nat_tests) in
      let same = word_recorded (was.phase == 1) (is_pending d.pending slot) was (W.frame slot) one shown.frame in
      let never = none_setup v.opening v.journal d own.begins.rows own.legal own.before slot in
      let none : is_booked was.phase ≡ false = grind (arith, nat_tests) in
      ap (λ (x : FrameWord). is_booked x.phase) same ∙ none

-- ---- the steps

module _ (s : Table) (id : ℕ) (v : View) (h : Holds s) (at : get_elem? s.views id ≡ some v) (slot bits : ℕ) where
  abbrev W : Words
  W = words_of s.words

  abbrev n : ℕ
  n = slice_index s.words 0

  abbrev known : Option Desk → Recorded
  known o = recorded_in v.opening v.journal (desk_in o)

  -- the claim is that of the seat's own records
  by_own : (d : Desk) → v.desk ≡ Some d → (item : Noted) (f : FrameWord) (X : Words)
      → Kept n X (set s.views id (freed v slot (claim_by (known (Some d)) slot f) item)) → Kept n X (set s.views id (freed v slot (claim_by (known v.desk) slot f) item))
  by_own d is item f X = subst (λ (o : Option Desk). Kept n X (set s.views id (freed v slot (claim_by (known o) slot f) item))) (sym is)

  pub leaves_holds : Asks s v (leaves slot bits) → Holds (acts s id v (leaves slot bits))
  leaves_holds asks =
      let d = asks.0.0 in
      let is = asks.0.1 in
      let due = asks.1 in
      let f = word s (frame_place slot) in
      let item = turn_item 11 slot bits f in
      let waits : ((known (Some d)).slot slot).phase ≡ 1 = subst (λ (o : Option Desk). ((known o).slot slot).phase ≡ 1) is asks.2 in
      let left = subst (λ (o : Option Desk). (known o).slot slot ≢ stand_at (farm_in v) slot) is due.left in
      let had : ((known (Some d)).slot slot).phase ≡ 0 → ((stand_at (farm_in v) slot).phase == 0) ≡ false → WroteAmounts (stand_at (farm_in v) slot) (last_amount slot v.trail) =
      λ z _. absurd (omega (arith, waits, z)) in
      either_holds s id (frame_place slot) bits (is_booked (frame_of f).phase) (freed_by v slot item) (turned v slot item)
      (λ hit. frame_holds s id slot bits (freed_by v slot item) h.0 (word_of (stand_at (farm_in v) slot)) due.within due.shows
      (by_own d is item (frame_of f) _ (freed_kept n W s.views id v d slot item h.1 at is due.within asks.0.2 had refl refl refl left due.over hit)))
      (λ miss. frame_holds s id slot bits (turned v slot item) h.0 (word_of (stand_at (farm_in v) slot)) due.within due.shows
      (turned_kept n W s.views id v d slot item h.1 at is due.within asks.0.2 had refl refl refl left due.over miss))

  pub ends_holds : Asks s v (ends slot bits) → Holds (acts s id v (ends slot bits))
  ends_holds asks =
      let d = asks.0.0 in
      let is = asks.0.1 in
      let due = asks.1 in
      let f = word s (frame_place slot) in
      let item = turn_item 12 slot bits f in
      let runs : ((known (Some d)).slot slot).phase ≡ 4 = subst (λ (o : Option Desk). ((known o).slot slot).phase ≡ 4) is asks.2 in
      let left = subst (λ (o : Option Desk). (known o).slot slot ≢ stand_at (farm_in v) slot) is due.left in
      let had : ((known (Some d)).slot slot).phase ≡ 0 → ((stand_at (farm_in v) slot).phase == 0) ≡ false → WroteAmounts (stand_at (farm_in v) slot) (last_amount slot v.trail) =
      λ z _. absurd (omega (arith, runs, z)) in
      frame_holds s id slot bits (freed_by v slot item) h.0 (word_of (stand_at (farm_in v) slot)) due.within due.shows
      (by_own d is item (frame_of f) _ (freed_kept n W s.views id v d slot item h.1 at is due.within asks.0.2 had refl refl refl left due.over
      (ran n W s.views id v d slot item h.1 at is due.within asks.0.2 runs)))

  pub turns_holds : Asks s v (turns slot bits) → Holds (acts s id v (turns slot bits))
  turns_holds asks =
      let d = asks.0.0 in
      let is = asks.0.1 in
      let due = asks.1 in
      let f = word s (frame_place slot) in
      let item = turn_item 13 slot bits f in
      let waits = subst (λ (o : Option Desk). ((known o).slot slot).phase ≢ 1) is asks.2 in
      let runs = subst (λ (o : Option Desk). ((known o).slot slot).phase ≢ 4) is asks.3 in
      let left = subst (λ (o : Option Desk). (known o).slot slot ≢ stand_at (farm_in v) slot) is due.left in
      let had = subst (λ (o : Option Desk). ((known o).slot slot).phase ≡ 0 → ((stand_at (farm_in v) slot).phase == 0) ≡ false
      → WroteAmounts (stand_at (farm_in v) slot) (last_amount slot v.trail)) is asks.4 in
      frame_holds s id slot bits (turned v slot item) h.0 (word_of (stand_at (farm_in v) slot)) due.within due.shows
      (turned_kept n W s.views id v d slot item h.1 at is due.within asks.0.2 had refl refl refl left due.over
      (idled n W s.views id v d slot item h.1 at is due.within asks.0.2 waits runs))
