-- An entry that is no booking, a free slot's amount word, a subscription's burst, a limit's most.
use Rattle.std.proofs.Common.{◌≡◌, ℕ, ◌+◌, ◌/◌, ◌%◌, ◌^◌, slice_index, sym, refl, ◌∙◌, subst, arith}
use Rattle.std.specs.Prelude.{Option, Some}
use mathlib.Core.Option.{some}
use lib.ListN.{get_elem?}
use Rattle.farm_types.specs.declared.entry.Entry.{Entry}
use Rattle.farm_types.specs.declared.limits.TheConstants.{LEAST_MEMORY, MOST_MEMORY}
use Rattle.farm_types.specs.Limits.{IsBetween}
use Rattle.frame_words.specs.declared.amount_word.AmountWord.{AmountWord}
use Rattle.frame_words.specs.Bits.{amount_of}
use Rattle.booking_rule.specs.declared.desk.Desk.{Desk}
use Rattle.booking_rule.specs.declared.view.View.{View}
use Rattle.booking_rule.specs.Words.{Words, amount_place, sub_place, limit_place, words_of}
use Rattle.booking_rule.specs.Recorded.{Recorded}
use Rattle.booking_rule.specs.Views.{with_sub_done, with_limit_done}
use Rattle.booking_rule.specs.Link.{farm_of, recorded_in}
use Rattle.booking_rule.specs.Kept.{KeptAs, Holds, farm_in}
use Rattle.booking_rule.proofs.Amounting.{amount_kept}
use Rattle.booking_rule.proofs.Own.{of_first}
use Rattle.booking_rule.proofs.Recording.{record_kept}
use Rattle.booking_rule.proofs.Setting.{sets_burst_kept, sets_most_kept}
use Rattle.depend_law.proofs.KeptRuns.{kept_run}
use Rattle.booking_core.specs.Kinds.{item_of}
use Rattle.booking_core.specs.Machine.{Table, word}
use Rattle.booking_core.proofs.Agreeing.{sub_holds, limit_holds}
use Rattle.recording_core.specs.Records.{desk_in, entry_item, entered, wrote_amount, raised, raise_by, raised_burst, raised_most}
use Rattle.recording_core.specs.Records.RecorderKind.{records, sets_amount, sets_burst, sets_most}
use Rattle.recording_core.specs.Machine.{LendsAlike, Asks, acts}
use Rattle.recording_core.proofs.Between.{stand_within}
use Rattle.recording_core.proofs.Sizing.{resizing_after}
use Rattle.recording_core.proofs.Written.{journal_holds, amount_holds}

-- ---- the upper half of a word

raised_cap : (n old new : ℕ) → n / 2 ^ 32 ≡ old → raised old new n / 2 ^ 32 ≡ new
raised_cap n old new is = omega (arith, is)

raised_used : (n old new : ℕ) → n / 2 ^ 32 ≡ old → raised old new n % 2 ^ 32 ≡ n % 2 ^ 32
raised_used n old new is = omega (arith, is)

-- ---- the steps

module _ (s : Table) (id : ℕ) (v : View) (h : Holds s) (at : get_elem? s.views id ≡ some v) where
  abbrev W : Words
  W = words_of s.words

  abbrev n : ℕ
  n = slice_index s.words 0

  abbrev known : Option Desk → Recorded
  known o = recorded_in v.opening v.journal (desk_in o)

  own : (d : Desk) → v.desk ≡ Some d → KeptAs n W s.views id v.opening d v.journal v.trail
  own d is = of_first n W s.views id v d h.1 at is

  pub records_holds : (e : Entry) → Asks s v (records e) → Holds (acts s id v (records e))
  records_holds e asks =
      let d = asks.0.0 in
      let item = entry_item n in
      journal_holds s id (n + 1) (entered v e n) h.0 (record_kept n W s.views id v d e item h.1 at asks.0.1 asks.0.3 asks.1.0
      (resizing_after n W s.views id v d e h.1 at asks.0.1 asks.0.3 asks.3) refl refl)

  pub sets_amount_holds : (slot bits : ℕ) → Asks s v (sets_amount slot bits) → Holds (acts s id v (sets_amount slot bits))
  sets_amount_holds slot bits asks =
      let d = asks.0.0 in
      let is = asks.0.1 in
      let A = own d is in
      let f = word s (amount_place slot) in
      let free = subst (λ (o : Option Desk). ((known o).slot slot).phase ≡ 0) is asks.3 in
      let kept = kept_run (farm_of v.opening) v.journal A.begins A.legal in
      let within = (stand_within (farm_in v) slot kept.rows asks.4).memory in
      let memory : IsBetween LEAST_MEMORY MOST_MEMORY (amount_of bits).memory = subst (λ (a : AmountWord). IsBetween LEAST_MEMORY MOST_MEMORY a.memory) (sym asks.5) within in
      amount_holds s id bits (wrote_amount v slot bits f) h.0 slot (amount_of bits) asks.1 refl
      (amount_kept n W s.views id v d slot (amount_of bits) (item_of 14 (amount_place slot) bits f bits) h.1 at is asks.1 refl refl refl refl free memory)

  pub sets_burst_holds : (sub old new : ℕ) → Asks s v (sets_burst sub old new) → Holds (acts s id v (sets_burst sub old new))
  sets_burst_holds sub old new asks =
      let d = asks.0.0 in
      let is = asks.0.1 in
      let A = own d is in
      let f = word s (sub_place sub) in
      let was = subst (λ (o : Option Desk). (known o).burst sub ≡ old) is asks.3 in
      let cap : f / 2 ^ 32 ≡ old = A.rule.burst sub asks.1 ∙ was in
      let lends : (k : ℕ) → (known (Some d)).billed k ≡ (known (with_sub_done sub (Some d))).billed k =
      λ k. ((subst (λ (o : Option Desk). LendsAlike (known o) (known (with_sub_done sub o))) is asks.5).each k).1 in
      let burst = raised_cap f old new cap ∙ sym asks.4 in
      let booked = raised_used f old new cap in
      sub_holds s id sub (raised old new f) (raised_burst v sub old new f) h.0 _ asks.1 (λ i. record { burst = burst i; booked = booked i })
      (sets_burst_kept n W s.views id v d sub (item_of 15 (sub_place sub) (raise_by old new) f (raised old new f)) h.1 at is asks.1 lends refl refl)

  pub sets_most_holds : (limit old new : ℕ) → Asks s v (sets_most limit old new) → Holds (acts s id v (sets_most limit old new))
  sets_most_holds limit old new asks =
      let d = asks.0.0 in
      let is = asks.0.1 in
      let A = own d is in
      let f = word s (limit_place limit) in
      let was = subst (λ (o : Option Desk). (known o).most limit ≡ old) is asks.3 in
      let cap : f / 2 ^ 32 ≡ old = A.rule.most limit asks.1 ∙ was in
      let lends : (k : ℕ) → (known (Some d)).counted k ≡ (known (with_limit_done limit (Some d))).counted k =
      λ k. ((subst (λ (o : Option Desk). LendsAlike (known o) (known (with_limit_done limit o))) is asks.5).each k).2 in
      let most = raised_cap f old new cap ∙ sym asks.4 in
      let running = raised_used f old new cap in
      limit_holds s id limit (raised old new f) (raised_most v limit old new f) h.0 _ asks.1 (λ i. record { most = most i; running = running i })
      (sets_most_kept n W s.views id v d limit (item_of 20 (limit_place limit) (raise_by old new) f (raised old new f)) h.1 at is asks.1 lends refl refl)
