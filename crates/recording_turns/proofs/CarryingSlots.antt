-- A slot's words become what the farm says.
use Rattle.std.proofs.Common.{◌≡◌, ◌≢◌, ℕ, ◌+◌, ◌/◌, ◌%◌, ◌^◌, ◌<◌, Bool, true, false, ◌==◌, ◌&&◌, if◌then◌else◌, List, [], ◌∷◌, ◌++◌, refl, sym, ap, ◌∙◌, subst, arith, ⊎_elim}
use Rattle.std.specs.Prelude.{Option, Some, None}
use Rattle.std.proofs.lemmas.Bool.{eqb-true, false≢true, true≢false}
use Rattle.std.proofs.lemmas.Option.{none-some, same_Some}
use Rattle.farm_types.specs.declared.limits.TheConstants.{LEAST_CORES, LEAST_MEMORY, MOST_CORES, MOST_MEMORY}
use Rattle.farm_types.specs.Farm.{Farm, sub_of}
use Rattle.farm_types.specs.Limits.{IsBetween}
use Rattle.farm_types.specs.Step.{after}
use Rattle.frame_words.specs.declared.amount_word.AmountWord.{AmountWord}
use Rattle.frame_words.specs.declared.frame_word.FrameWord.{FrameWord}
use Rattle.frame_words.specs.Bits.{FitsAmount, FitsFrame, amount_bits, amount_of, frame_bits, frame_of}
use Rattle.booking_rule.specs.declared.desk.Desk.{Desk}
use Rattle.booking_rule.specs.declared.hold.Claim.{Claim}
use Rattle.booking_rule.specs.declared.noted.Noted.{Noted}
use Rattle.booking_rule.specs.declared.view.View.{View}
use Rattle.booking_rule.specs.Amounts.{last_amount, later_of}
use Rattle.booking_rule.specs.Kept.{farm_in}
use Rattle.booking_rule.specs.Link.{has, host_alloc, host_cores, host_memory, recorded_in, stand_at}
use Rattle.booking_rule.specs.Recorded.{Stand}
use Rattle.booking_rule.specs.Resizing.{IsResized}
use Rattle.booking_rule.specs.Rule.{IsTaken, ShowsFrame, is_booked, word_of}
use Rattle.booking_rule.specs.Views.{freed, limit_take, one_done, room_of, take_of, turned, with_done}
use Rattle.booking_rule.specs.Words.{amount_place}
use Rattle.booking_rule.proofs.Moves.{same_self}
use Rattle.booking_core.specs.Machine.{MayGive, MayGiveRoom, Table}
use Rattle.booking_core.proofs.Bits.{frame_back}
use Rattle.recording_core.specs.Machine.{Asks, HasItsAmounts, IsDue, MayChange, WroteAmounts, stand_now, stand_recorded}
use Rattle.recording_core.specs.Records.{amounts_of, claim_by, desk_in, ended_word, freed_by, left_word, records_in, turn_item, turned_word, wrote_amount}
use Rattle.recording_core.specs.Records.RecorderKind.{sets_amount}
use Rattle.recording_core.proofs.Between.{stand_within}
use Rattle.recording_table.specs.Calls.{MayChangeSlot, changed_word}
use Rattle.recording_table.specs.Steps.{IsOnRecorded}
use Rattle.farm_stands.specs.Turns.{amounts_in}
use Rattle.recording_turns.specs.Carrying.{Gave, Going, HasFreed, IsNoted, IsReady, Turned, slot_key, was_in}
use Rattle.recording_turns.proofs.CarryingFarms.{HasHost, booked_runs, host_below, no_setup, running_host, same_alloc, sized_host, stand_amounts, starts_none, sub_within}
use Rattle.recording_turns.proofs.CarryingViews.{going_turned, prefix_then, turned_made, turned_noted}

-- ---- bits

frame_small : (w : FrameWord) → FitsFrame w → frame_bits w < 2 ^ 64
frame_small w fits = omega (arith, fits.0, fits.1, fits.2, fits.3)

amount_small : (w : AmountWord) → FitsAmount w → amount_bits w < 2 ^ 64
amount_small w fits = omega (arith, fits.0, fits.1, fits.2)

amount_back : (w : AmountWord) → FitsAmount w → amount_of (amount_bits w) ≡ w
amount_back w fits =
    let s : amount_bits w / 2 ^ 48 ≡ w.show = omega (arith, fits.0, fits.1, fits.2) in
    let l : amount_bits w / 2 ^ 40 % 2 ^ 8 ≡ w.limit = omega (arith, fits.0, fits.1, fits.2) in
    let m : amount_bits w % 2 ^ 40 ≡ w.memory = omega (arith, fits.0, fits.1, fits.2) in
    λ i. record { show = s i; limit = l i; memory = m i }

-- ---- the trail

last_here : (slot : ℕ) (ns : List Noted) (item : Noted) → (item.did == 14) ≡ true → (item.word == amount_place slot) ≡ true
    → last_amount slot (ns ++ item ∷ []) ≡ Some item.wrote
last_here slot [] item is place = (λ i. if is i && place i then Some item.wrote else None)
last_here slot (n ∷ ns) item is place =
    ap (λ (x : Option ℕ). later_of x (if n.did == 14 && (n.word == slot + 65537) then Some n.wrote else None)) (last_here slot ns item is place)

-- a booked word that was found is on a host that was there, with the cores of the slot's frame
record Held (f : Farm) (slot : ℕ) (fr : FrameWord) : Type 0 where
  host : HasHost f fr.host
  cores : fr.cores ≡ (stand_at f slot).cores
  used : ((stand_at f slot).phase == 0) ≡ false

-- what is ready stays so while only the trail grows
pub ready_noted : (v w : View) (g : Farm) (slot : ℕ) (frame : FrameWord) (amount : AmountWord) (resized : Option ℕ) → IsNoted v w
    → IsReady v g slot frame amount resized → IsReady w g slot frame amount resized
ready_noted v w g slot frame amount resized n R =
    let G = R.going in
    subst (λ (x : View). IsReady x g slot frame amount resized) (sym n.like) (record {
      going = record {
        first = G.first;
        pending = G.pending;
        log = G.log;
        before = G.before;
        entry = G.entry;
        kept = G.kept;
        legal = G.legal;
        unbooked = G.unbooked;
        leads = G.leads;
        farm = G.farm;
        resizes = G.resizes;
        takes = G.takes;
        places = G.places;
        rooms = G.rooms;
        gone = G.gone;
        claims = G.claims;
        burst = G.burst;
        place = G.place;
      };
      hosts = R.hosts;
      opens = R.opens;
      differs = R.differs;
    })

module _ (v : View) (g : Farm) (slot : ℕ) (frame : FrameWord) (amount : AmountWord) (resized : Option ℕ) (R : IsReady v g slot frame amount resized) where
  abbrev f : Farm
  f = was_in v

  abbrev d : Desk
  d = desk_in v.desk

  recorded : stand_recorded v slot ≡ stand_at f slot
  recorded = ap (λ (b : Bool). if b then stand_at (farm_in v) slot else stand_at f slot) R.opens.2

  now : stand_now v slot ≡ stand_at g slot
  now = ap (λ (x : Farm). stand_at x slot) R.going.farm

  later : stand_at (after f R.going.entry) slot ≡ stand_at g slot
  later = ap (λ (x : Farm). stand_at x slot) R.going.leads

  pub phase : (stand_recorded v slot).phase ≡ frame.phase
  phase = ap (λ (s : Stand). s.phase) recorded ∙ ap (λ (x : FrameWord). x.phase) (sym R.opens.0.0)

  apart : stand_at f slot ≢ stand_at g slot
  apart same = R.differs (R.opens.0.0 ∙ ap word_of same, R.opens.0.1 ∙ ap amounts_in same)

  over : is_booked (stand_now v slot).phase ≡ false
  over =
      ap (λ (s : Stand). is_booked s.phase) (now ∙ sym later)
      ∙ starts_none f R.going.entry R.going.kept R.going.legal R.going.unbooked slot (λ same. apart (same ∙ later))

  left : stand_recorded v slot ≢ stand_now v slot
  left same = apart (sym recorded ∙ (same ∙ now))

  change : MayChange v
  change = (d, R.going.first, R.going.pending)

  pub may_change : (word : FrameWord) → word ≡ word_of (stand_at g slot) → FitsFrame word → HasItsAmounts v slot → MayChangeSlot v slot (frame_bits word)
  may_change word is fits amounts =
      let due : IsDue v slot (frame_bits word) = record {
        within = R.opens.1;
        fits = frame_small word fits;
        left = left;
        shows = frame_back word fits ∙ (is ∙ ap word_of (sym now));
        over = over;
      } in
      (change, due, amounts)

  -- ---- the amounts

  pub may_amount : (word : AmountWord) → word ≡ amounts_in (stand_at g slot) → FitsAmount word → frame.phase ≡ 0
      → ((stand_at g slot).phase == 0) ≡ false → (s : Table) → Asks s v (sets_amount slot (amount_bits word))
  may_amount word is fits free used s = (
    change,
    R.opens.1,
    amount_small word fits,
    phase ∙ free,
    ap (λ (x : Stand). x.phase == 0) now ∙ used,
    amount_back word fits ∙ (is ∙ ap amounts_of (sym now)),
  )

  pub amounts_written : (word : AmountWord) → word ≡ amounts_in (stand_at g slot) → FitsAmount word → (w : View) (found : ℕ)
      → w ≡ wrote_amount v slot (amount_bits word) found → HasItsAmounts w slot × IsNoted v w
  amounts_written word is fits w found wrote =
      subst (λ (x : View). HasItsAmounts x slot × IsNoted v x) (sym wrote) (
        λ free used.
            subst (WroteAmounts (stand_now v slot)) (sym (last_here slot v.trail _ refl (same_self (slot + 65537))))
            (amount_back word fits ∙ (is ∙ ap amounts_of (sym now))),
        record { like = refl; trail = (_, refl) },
      )

  pub amounts_there : frame.phase ≢ 0 → HasItsAmounts v slot
  amounts_there ne free used = absurd (ne (sym phase ∙ free))

  pub amounts_none : (stand_at g slot).phase ≡ 0 → HasItsAmounts v slot
  amounts_none none free used =
      let zero_now : ((stand_now v slot).phase == 0) ≡ true = ap (λ (s : Stand). s.phase == 0) now ∙ ap (λ (k : ℕ). k == 0) none in
      absurd (true≢false (sym zero_now ∙ used))

  -- ---- the word was found

  module _ (found : ℕ) (shows : ShowsFrame (frame.phase == 1) false (stand_recorded v slot) (frame_of found))
      (on : frame.phase ≡ 1 → IsOnRecorded v (frame_of found)) where
    abbrev fr : FrameWord
    fr = frame_of found

    exact : (frame.phase == 1) ≡ false → fr ≡ word_of (stand_at f slot)
    exact other = subst (λ (b : Bool). ShowsFrame b false (stand_recorded v slot) fr) other shows ∙ ap word_of recorded

    runs : (frame.phase == 1) ≡ false → is_booked fr.phase ≡ true → (stand_at f slot).phase ≡ 4
    runs other booked =
        booked_runs (stand_at f slot).phase (no_setup f R.going.kept slot) (ap (λ (x : FrameWord). is_booked x.phase) (sym (exact other)) ∙ booked)

    phase_was : frame.phase ≡ (stand_at f slot).phase
    phase_was = ap (λ (x : FrameWord). x.phase) R.opens.0.0

    abbrev the_claim : Claim
    the_claim = claim_by (records_in v) slot fr

    idle_by : (bits : ℕ) → is_booked fr.phase ≡ false → (a b : Bool) → (frame.phase == 1) ≡ a → (frame.phase == 4) ≡ b
        → (item : Noted)
        × ((if a then left_word v slot bits found else (if b then ended_word v slot bits found else turned_word v slot bits found)) ≡ turned v slot item)
    idle_by bits idle true b is ran = (
      turn_item 11 slot bits found,
      ap (λ (x : Bool). if x then freed_by v slot (turn_item 11 slot bits found) else turned v slot (turn_item 11 slot bits found)) idle,
    )
    idle_by bits idle false true is ran =
        let four : frame.phase ≡ 4 = eqb-true frame.phase 4 ran in
        let booked : is_booked fr.phase ≡ true =
        ap (λ (x : FrameWord). is_booked x.phase) (exact is) ∙ (ap is_booked (sym phase_was) ∙ ap is_booked four) in
        absurd (true≢false (sym booked ∙ idle))
    idle_by bits idle false false is ran = (turn_item 13 slot bits found, refl)

    booked_by : (bits : ℕ) → is_booked fr.phase ≡ true → (a b : Bool) → (frame.phase == 1) ≡ a → (frame.phase == 4) ≡ b
        → (item : Noted)
        × ((if a then left_word v slot bits found else (if b then ended_word v slot bits found else turned_word v slot bits found))
        ≡ freed v slot the_claim item)
    booked_by bits booked true b is ran = (
      turn_item 11 slot bits found,
      ap (λ (x : Bool). if x then freed_by v slot (turn_item 11 slot bits found) else turned v slot (turn_item 11 slot bits found)) booked,
    )
    booked_by bits booked false true is ran = (turn_item 12 slot bits found, refl)
    booked_by bits booked false false is ran =
        let four : (frame.phase == 4) ≡ true = ap (λ (k : ℕ). k == 4) (phase_was ∙ runs is booked) in
        absurd (true≢false (sym four ∙ ran))

    -- it wasn't booked
    pub idle_turned : (bits : ℕ) (w : View) → is_booked fr.phase ≡ false → w ≡ changed_word frame.phase v slot bits found
        → Turned v (slot_key slot) w × Going w g resized
    idle_turned bits w idle changed =
        let item = idle_by bits idle (frame.phase == 1) (frame.phase == 4) refl refl in
        let G = R.going in
        let x = turned v slot item.0 in
        let t : Turned v (slot_key slot) x = turned_made v x (slot_key slot) G.first refl (ap (with_done slot) G.first) (item.0 ∷ [], refl) in
        subst (λ (y : View). Turned v (slot_key slot) y × Going y g resized) (sym (changed ∙ item.1))
        (t, going_turned v x (slot_key slot) g resized G t G.takes G.places G.rooms G.gone refl refl refl)

    -- ---- it was booked

    cores_was : (h : ℕ) → (records_in v).cores h ≡ host_cores f h
    cores_was h = ap (λ (l : List ℕ). if has h l then host_cores (farm_in v) h else host_cores f h) R.hosts

    held_by : is_booked fr.phase ≡ true → (a : Bool) → (frame.phase == 1) ≡ a → Held f slot fr
    held_by booked true is =
        let one : frame.phase ≡ 1 = eqb-true frame.phase 1 is in
        let waits = subst (λ (b : Bool). ShowsFrame b false (stand_recorded v slot) fr) is shows in
        record {
          host = sized_host f fr.host (λ none. (on one booked).1 (cores_was fr.host ∙ none));
          cores = ⊎_elim (λ (e : fr ≡ word_of (stand_recorded v slot)). ap (λ (x : FrameWord). x.cores) e)
              (λ (t : IsTaken false (stand_recorded v slot) fr). t.cores) waits
              ∙ ap (λ (s : Stand). s.cores) recorded;
          used = ap (λ (k : ℕ). k == 0) (sym phase_was ∙ one);
        }
    held_by booked false is =
        let four = runs is booked in
        record {
          host = subst (HasHost f) (ap (λ (x : FrameWord). x.host) (sym (exact is))) (running_host f slot R.going.kept four);
          cores = ap (λ (x : FrameWord). x.cores) (exact is);
          used = ap (λ (k : ℕ). k == 0) four;
        }

    module _ (booked : is_booked fr.phase ≡ true) where
      held : Held f slot fr
      held = held_by booked (frame.phase == 1) refl

      pub sub_fits : sub_of amount.show (host_alloc g fr.host) < 1024
      sub_fits =
          let e = R.going.entry in
          let show : (stand_at f slot).show ≡ amount.show = ap (λ (x : AmountWord). x.show) (sym R.opens.0.1) in
          let alloc : host_alloc (after f e) fr.host ≡ host_alloc g fr.host = ap (λ (x : Farm). host_alloc x fr.host) R.going.leads in
          subst (λ (n : ℕ). n < 1024) (λ i. sub_of (show i) (alloc i))
          (sub_within f e R.going.kept R.going.legal R.going.unbooked slot fr.host held.used held.host)

      alloc_now : (records_in v).alloc fr.host ≡ host_alloc g fr.host
      alloc_now =
          ap (λ (l : List ℕ). if has fr.host l then host_alloc (farm_in v) fr.host else host_alloc f fr.host) R.hosts
          ∙ (sym (same_alloc f R.going.entry R.going.kept R.going.legal R.going.unbooked fr.host held.host)
          ∙ ap (λ (x : Farm). host_alloc x fr.host) R.going.leads)

      abbrev after_free : Noted → View
      after_free item = freed v slot the_claim item

      first_after : (item : Noted) → (after_free item).desk ≡ Some (one_done slot d)
      first_after item = ap (with_done slot) R.going.first

      may_give : (item : Noted) → MayGive (after_free item)
      may_give item = (
        λ p. none-some (one_done slot d) (sym p.0 ∙ first_after item),
        λ D is none.
            let q : one_done slot d ≡ D = same_Some (one_done slot d) D (sym (first_after item) ∙ is) in
            none-some R.going.log (sym none ∙ (ap (λ (x : Desk). x.before) (sym q) ∙ R.going.before)),
      )

      below : fr.host < 4096
      below = host_below f fr.host R.going.kept held.host

      may_give_room : (item : Noted) → (resized ≡ Some fr.host → ⊥) → MayGiveRoom (after_free item) fr.host
      may_give_room item other D is sizes =
          let h = fr.host in
          let q : one_done slot d ≡ D = same_Some (one_done slot d) D (sym (first_after item) ∙ is) in
          let here = subst (λ (x : Desk). IsResized ((recorded_in v.opening v.journal x).cores h) ((recorded_in v.opening v.journal x).memory h) (farm_in v) h)
          (sym q) sizes in
          let was = subst (λ (l : List ℕ). IsResized (if has h l then host_cores (farm_in v) h else host_cores f h)
          (if has h l then host_memory (farm_in v) h else host_memory f h) (farm_in v) h) R.hosts here in
          let said = subst (λ (x : Farm). IsResized (host_cores f h) (host_memory f h) x h) R.going.farm was in
          other (R.going.resizes.each h below said)

      pub freed_has : (item : Noted) → HasFreed (after_free item) (sub_of amount.show (host_alloc g fr.host)) fr.cores fr.host amount resized
      freed_has item =
          let show : (stand_recorded v slot).show ≡ amount.show = ap (λ (s : Stand). s.show) recorded ∙ ap (λ (x : AmountWord). x.show) (sym R.opens.0.1) in
          let limit : (stand_recorded v slot).limit ≡ amount.limit =
          ap (λ (s : Stand). s.limit) recorded ∙ ap (λ (x : AmountWord). x.limit) (sym R.opens.0.1) in
          let memory : (stand_recorded v slot).memory ≡ amount.memory =
          ap (λ (s : Stand). s.memory) recorded ∙ ap (λ (x : AmountWord). x.memory) (sym R.opens.0.1) in
          let within = stand_within f slot R.going.kept.rows held.used in
          let few = (stand_amounts f slot R.going.kept held.used).limit in
          let limit_was : amount.limit ≡ (stand_at f slot).limit = ap (λ (x : AmountWord). x.limit) R.opens.0.1 in
          record {
            may = may_give item;
            takes = λ i. take_of (sub_of (show i) (alloc_now i)) fr.cores ∷ R.going.takes i;
            limits = λ i. limit_take (limit i) ++ R.going.places i;
            rest = v.rooms;
            rooms = λ i. room_of fr.host fr.cores (memory i) ∷ v.rooms;
            others = R.going.rooms;
            below = sub_fits;
            cores = subst (IsBetween LEAST_CORES MOST_CORES) (sym held.cores) within.cores;
            limit = omega (arith, few, limit_was);
            host = below;
            memory = subst (IsBetween LEAST_MEMORY MOST_MEMORY) (ap (λ (x : AmountWord). x.memory) (sym R.opens.0.1)) within.memory;
            room = may_give_room item;
          }

      pub booked_has : (bits : ℕ) (w : View) → w ≡ changed_word frame.phase v slot bits found
          → HasFreed w (sub_of amount.show (host_alloc g fr.host)) fr.cores fr.host amount resized
      booked_has bits w changed =
          let item = booked_by bits booked (frame.phase == 1) (frame.phase == 4) refl refl in
          subst (λ (y : View). HasFreed y (sub_of amount.show (host_alloc g fr.host)) fr.cores fr.host amount resized)
          (sym (changed ∙ item.1)) (freed_has item.0)

      gave_turned : (item : Noted) (x : View) → Gave (after_free item) resized x → Turned v (slot_key slot) x × Going x g resized
      gave_turned item x gave =
          let G = R.going in
          let z : View = record (after_free item) { takes = x.takes; limits = x.limits; rooms = x.rooms; trail = x.trail } in
          let trail = prefix_then v.trail (v.trail ++ item ∷ []) x.trail (item ∷ [], refl) gave.trail in
          let t : Turned v (slot_key slot) z = turned_made v z (slot_key slot) G.first refl (first_after item) trail in
          let gone : (host : ℕ) → resized ≡ Some host → has host d.hosts ≡ true → x.rooms ≡ [] =
          λ host is listed. absurd (false≢true (ap (has host) (sym R.hosts) ∙ listed)) in
          subst (λ (y : View). Turned v (slot_key slot) y × Going y g resized) (sym gave.like)
          (t, going_turned v z (slot_key slot) g resized G t gave.takes gave.limits gave.rooms gone refl refl refl)

      pub booked_turned : (bits : ℕ) (w x : View) → w ≡ changed_word frame.phase v slot bits found → Gave w resized x
          → Turned v (slot_key slot) x × Going x g resized
      booked_turned bits w x changed gave =
          let item = booked_by bits booked (frame.phase == 1) (frame.phase == 4) refl refl in
          gave_turned item.0 x (subst (λ (y : View). Gave y resized x) (changed ∙ item.1) gave)

-- ---- the same over what calls tell: the amount was written first

module _ (u v : View) (g : Farm) (slot : ℕ) (frame : FrameWord) (amount : AmountWord) (resized : Option ℕ) (noted : IsNoted u v)
    (ready : IsReady u g slot frame amount resized) where
  still : IsReady v g slot frame amount resized
  still = ready_noted u v g slot frame amount resized noted ready

  pub change_noted : (word : FrameWord) → word ≡ word_of (stand_at g slot) → FitsFrame word → HasItsAmounts v slot → MayChangeSlot v slot (frame_bits word)
  change_noted = may_change v g slot frame amount resized still

  module _ (w : View) (bits : ℕ) (word : FrameWord) (changed : (found : ℕ) × (word ≡ frame_of found) × (w ≡ changed_word frame.phase v slot bits found))
      (shows : ShowsFrame (frame.phase == 1) false (stand_recorded v slot) word) (on : frame.phase ≡ 1 → IsOnRecorded v word) where
    shows_found : ShowsFrame (frame.phase == 1) false (stand_recorded v slot) (frame_of changed.0)
    shows_found = subst (λ (x : FrameWord). ShowsFrame (frame.phase == 1) false (stand_recorded v slot) x) changed.1 shows

    on_found : frame.phase ≡ 1 → IsOnRecorded v (frame_of changed.0)
    on_found waits = subst (IsOnRecorded v) changed.1 (on waits)

    pub word_idle : is_booked word.phase ≡ false → Turned u (slot_key slot) w × Going w g resized
    word_idle idle =
        let done = idle_turned v g slot frame amount resized still changed.0 shows_found on_found bits w
        (subst (λ (x : FrameWord). is_booked x.phase ≡ false) changed.1 idle) changed.2 in
        (turned_noted u v w (slot_key slot) noted done.0, done.1)

    module _ (booked : is_booked word.phase ≡ true) where
      booked_found : is_booked (frame_of changed.0).phase ≡ true
      booked_found = subst (λ (x : FrameWord). is_booked x.phase ≡ true) changed.1 booked

      pub word_sub : sub_of amount.show (host_alloc g word.host) < 1024
      word_sub =
          subst (λ (x : FrameWord). sub_of amount.show (host_alloc g x.host) < 1024) (sym changed.1)
          (sub_fits v g slot frame amount resized still changed.0 shows_found on_found booked_found)

      pub word_has : (sub : ℕ) → sub ≡ sub_of amount.show (host_alloc g word.host) → HasFreed w sub word.cores word.host amount resized
      word_has sub is =
          subst (λ (n : ℕ). HasFreed w n word.cores word.host amount resized) (sym is)
          (subst (λ (x : FrameWord). HasFreed w (sub_of amount.show (host_alloc g x.host)) x.cores x.host amount resized) (sym changed.1)
          (booked_has v g slot frame amount resized still changed.0 shows_found on_found booked_found bits w changed.2))

      pub word_gave : (x : View) → Gave w resized x → Turned u (slot_key slot) x × Going x g resized
      word_gave x gave =
          let done = booked_turned v g slot frame amount resized still changed.0 shows_found on_found booked_found bits w x changed.2 gave in
          (turned_noted u v x (slot_key slot) noted done.0, done.1)
