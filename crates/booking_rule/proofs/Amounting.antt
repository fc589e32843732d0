-- The amount word of a free slot is written.
use Rattle.std.proofs.Common.{◌≡◌, ℕ, ◌+◌, ◌<◌, Bool, true, false, if◌then◌else◌, ◌==◌, ◌&&◌, List, [], ◌∷◌, ◌++◌, set, sym, refl, ap, ◌∙◌, subst, arith, inl, inr}
use Rattle.std.specs.Prelude.{Option, Some, None}
use Rattle.std.proofs.lemmas.List.{append-nil}
use mathlib.Core.Option.{some}
use mathlib.Core.Logic.{dite}
use native.Mathlib.Decide.{ℕ_discrete}
use lib.ListN.{get_elem?}
use Rattle.farm_types.specs.declared.entry.Entry.{Entry}
use Rattle.farm_types.specs.Run.{run_of}
use Rattle.farm_types.specs.declared.limits.TheConstants.{LEAST_MEMORY, MOST_MEMORY}
use Rattle.farm_types.specs.Limits.{IsBetween}
use Rattle.frame_words.specs.declared.frame_word.FrameWord.{FrameWord}
use Rattle.frame_words.specs.declared.amount_word.AmountWord.{AmountWord}
use Rattle.frame_words.specs.Bits.{amount_of}
use Rattle.booking_rule.specs.declared.desk.Desk.{Desk}
use Rattle.booking_rule.specs.declared.view.View.{View}
use Rattle.booking_rule.specs.declared.noted.Noted.{Noted}
use Rattle.booking_rule.specs.Totals.{total}
use Rattle.booking_rule.specs.Words.{Words, amount_place, put, with_amount}
use Rattle.booking_rule.specs.Recorded.{Recorded, Stand}
use Rattle.booking_rule.specs.Views.{noted}
use Rattle.booking_rule.specs.Link.{farm_of, recorded_in}
use Rattle.booking_rule.specs.Rule.{Account, sum_of, is_booked, cores_of, memory_of, booked_of, granted_of, running_of, counted_of, word_of, ShowsFrame, Shows, claims_like, claim_in, is_pending, is_claimed, Rule}
use Rattle.booking_rule.specs.Amounts.{later_of, last_amount, IsWritten}
use Rattle.booking_rule.specs.Seats.{Seats}
use Rattle.booking_rule.specs.Kept.{Kept}
use Rattle.booking_rule.proofs.Moves.{same_self, same_not, put_here, put_else, sum_moves, weigh_at, HoldsAlike, rule_view}
use Rattle.booking_rule.proofs.Weighing.{cores_free, memory_free, sub_free, limit_free, unclaimed}
use Rattle.booking_rule.proofs.Looking.{all_stand, tells_written}
use Rattle.booking_rule.proofs.Seeing.{suited_set, looks_set, ranged_step}
use Rattle.booking_rule.proofs.Keeping.{found_finds}
use Rattle.booking_rule.proofs.Own.{of_first, rule_like}
use Rattle.booking_rule.proofs.Seating.{desk_steps}
use Rattle.booking_rule.proofs.Resizing.{resizing_desk}

-- ---- the rule

-- the law of one replaced item, where an amount word changes
pub amount_moves : (c : Account) (R : Recorded) (W : Words) (a : AmountWord) (views : List View) (id : ℕ) (v : View) (slot : ℕ) → get_elem? views id ≡ some v → slot < 65536
    → sum_of c R (with_amount W slot a) (set views id v) + (weigh_at c W slot + c.held v) ≡ sum_of c R W views + (c.weigh (W.frame slot) a + c.held v)
amount_moves c R W a views id v slot at lt =
    let m = sum_moves c R R W (with_amount W slot a) views id v v slot at lt
    (λ j ne. ap (λ (x : AmountWord). c.weigh (W.frame j) x + c.lend (R.roomed j) (R.billed j) (R.counted j)) (put_else W.amount slot a j ne)) in
    let here : weigh_at c (with_amount W slot a) slot ≡ c.weigh (W.frame slot) a = ap (λ (x : AmountWord). c.weigh (W.frame slot) x) (put_here W.amount slot a) in
    omega arith

-- what a free slot's frame word is
free_word : (b pending : Bool) (s : Stand) (f : FrameWord) → b ≡ false → ShowsFrame b pending s f → f ≡ word_of s
free_word true pending s f e h = absurd (off e)
  where
    off : true ≡ false → ⊥
    off e = cc
free_word false pending s f e h = h

module _ (R : Recorded) (p : Option ℕ) (W : Words) (views : List View) (slot : ℕ) (a : AmountWord) (K : Rule R p W views) (lt : slot < 65536) (free : (R.slot slot).phase ≡ 0) where
  pub word_free : (W.frame slot).phase ≡ 0
  word_free =
      let not_waiting : ((R.slot slot).phase == 1) ≡ false = ap (λ (n : ℕ). n == 1) free in
      ap (λ (x : FrameWord). x.phase) (free_word ((R.slot slot).phase == 1) (is_pending p slot) (R.slot slot) (W.frame slot) not_waiting (K.shows slot lt).frame) ∙ free

  -- a sum in which a free slot weighs nothing
  same_sum : (c : Account) → ((x : AmountWord) → c.weigh (W.frame slot) x ≡ 0) → (id : ℕ) (v : View) → get_elem? views id ≡ some v → sum_of c R (with_amount W slot a) (set views id v) ≡ sum_of c R W views
  same_sum c nothing id v at = let m = amount_moves c R W a views id v slot at lt in let x = nothing (W.amount slot) in let y = nothing a in omega arith

  pub sets_amount : (id : ℕ) (v : View) → get_elem? views id ≡ some v → Rule R p (with_amount W slot a) (set views id v)
  sets_amount id v at =
      let M = rule_view R p W views id v v K at (record { rooms = record { rooms = refl }; takes = record { takes = refl; ungranted = refl }; limits = record { limits = refl; ungranted = refl }; claims = refl }) in
      let over : is_booked (W.frame slot).phase ≡ false = ap is_booked word_free in
      record {
        shows = λ j l. dite (ℕ_discrete j slot)
            (λ e. let P : ℕ → Type 0 = λ x. Shows (is_pending p x) (R.slot x) (W.frame x) (put W.amount slot a x) in
            subst P (sym e) (record { frame = (K.shows slot lt).frame; amount = λ some_frame. absurd (clash (sym (ap (λ (n : ℕ). n == 0) free) ∙ some_frame)) }))
            (λ ne. subst (λ (x : AmountWord). Shows (is_pending p j) (R.slot j) (W.frame j) x) (sym (put_else W.amount slot a j ne)) (K.shows j l));
        pend = M.pend;
        claims = record {
          one = M.claims.one;
          claimed = λ k l is. dite (ℕ_discrete k slot)
              (λ e. let P : ℕ → Type 0 = λ x. is_claimed (is_pending p x) (W.frame x) ≡ true in absurd (clash (sym (subst P e is) ∙ unclaimed (is_pending p slot) (W.frame slot) over)))
              (λ ne. subst (λ (x : AmountWord). total (claims_like (claim_in R.alloc k (W.frame k) x)) (set views id v) ≡ 1) (sym (put_else W.amount slot a k ne)) (M.claims.claimed k l is));
          not_later = M.claims.not_later;
        };
        cores = λ h l. (let s = same_sum (cores_of h) (λ x. cores_free R (W.frame slot) x over h) id v at in let o = K.cores h l in omega arith);
        memory = λ h l. (let s = same_sum (memory_of h) (λ x. memory_free R (W.frame slot) x over h) id v at in let o = K.memory h l in omega arith);
        booked = λ j l. (let s = same_sum (booked_of R.alloc j) (λ x. sub_free R (W.frame slot) x over j) id v at in let o = K.booked j l in omega arith);
        burst = M.burst;
        within = λ j l. (let s = same_sum (granted_of R.alloc j) (λ x. sub_free R (W.frame slot) x over j) id v at in let o = K.within j l in omega arith);
        running = λ j l. (let s = same_sum (running_of j) (λ x. limit_free R (W.frame slot) x over j) id v at in let o = K.running j l in omega arith);
        most = M.most;
        few = λ j l. (let s = same_sum (counted_of j) (λ x. limit_free R (W.frame slot) x over j) id v at in let o = K.few j l in omega arith);
      }
    where
      clash : true ≡ false → ⊥
      clash e = cc

-- ---- what a trail wrote last

last_here : (slot : ℕ) (ns : List Noted) (item : Noted) → (item.did == 14) ≡ true → (item.word == amount_place slot) ≡ true → last_amount slot (ns ++ item ∷ []) ≡ Some item.wrote
last_here slot [] item is place = (λ i. if is i && place i then Some item.wrote else None)
last_here slot (n ∷ ns) item is place = ap (λ (x : Option ℕ). later_of x (if n.did == 14 && (n.word == slot + 65537) then Some n.wrote else None)) (last_here slot ns item is place)

last_else : (slot : ℕ) (ns : List Noted) (item : Noted) → (item.word == amount_place slot) ≡ false → last_amount slot (ns ++ item ∷ []) ≡ last_amount slot ns
last_else slot [] item apart = ap (λ (b : Bool). if b then Some item.wrote else None) (ap (λ (x : Bool). item.did == 14 && x) apart ∙ and_off (item.did == 14))
  where
    and_off : (b : Bool) → (b && false) ≡ false
    and_off true = refl
    and_off false = refl
last_else slot (n ∷ ns) item apart = ap (λ (x : Option ℕ). later_of x (if n.did == 14 && (n.word == slot + 65537) then Some n.wrote else None)) (last_else slot ns item apart)

-- ---- all that is kept

pub amount_kept : (n : ℕ) (W : Words) (views : List View) (id : ℕ) (v : View) (d : Desk) (slot : ℕ) (a : AmountWord) (item : Noted) (K : Kept n W views) → get_elem? views id ≡ some v → v.desk ≡ Some d → slot < 65536
    → item.did ≡ 14 → item.word ≡ amount_place slot → amount_of item.found ≡ W.amount slot → amount_of item.wrote ≡ a
    → ((recorded_in v.opening v.journal d).slot slot).phase ≡ 0 → IsBetween LEAST_MEMORY MOST_MEMORY a.memory
    → Kept n (with_amount W slot a) (set views id (noted v item))
amount_kept n W views id v d slot a item K at is lt did place word wrote free between =
    let w = noted v item in
    let A = of_first n W views id v d K at is in
    let m = A.seats.each id v at in
    let R = recorded_in v.opening v.journal d in
    let alike : HoldsAlike v w = record { rooms = record { rooms = refl }; takes = record { takes = refl; ungranted = refl }; limits = record { limits = refl; ungranted = refl }; claims = refl } in
    let r = ranged_step W.frame W.amount views W.frame id v w item A.ranged at refl (found_finds W item (inr (inl (record { slot = slot; within = lt; place = place; word = word })))) (λ slot. refl) (λ slot. refl) in
    record {
      seat = id;
      opening = v.opening;
      desk = d;
      log = v.journal;
      trail = v.trail ++ item ∷ [];
      own = record {
        journal = A.journal;
        begins = A.begins;
        legal = A.legal;
        before = A.before;
        alone = A.alone;
        ahead = A.ahead;
        rule = rule_like R d.pending (with_amount W slot a) views id v v w at (sets_amount R d.pending W views slot a A.rule lt free id v at) alike;
        suited = suited_set (farm_of v.opening) v.journal views id w A.suited (A.suited.each id v at);
        looks = looks_set R.slot views id w A.looks (all_stand R.slot v.trail item (A.looks.each id v at) (tells_written R.slot item (ap (λ (x : ℕ). x == 1) did) (omega arith)));
        ranged = record {
          cores = r.cores;
          memory = λ j l used. dite (ℕ_discrete j slot)
              (λ e. let P : ℕ → Type 0 = λ x. IsBetween LEAST_MEMORY MOST_MEMORY (put W.amount slot a x).memory in
              subst P (sym e) (subst (λ (x : AmountWord). IsBetween LEAST_MEMORY MOST_MEMORY x.memory) (sym (put_here W.amount slot a)) between))
              (λ ne. subst (λ (x : AmountWord). IsBetween LEAST_MEMORY MOST_MEMORY x.memory) (sym (put_else W.amount slot a j ne)) (r.memory j l used));
        };
        written = record {
          each = λ j l. dite (ℕ_discrete j slot)
              (λ e. let P : ℕ → Type 0 = λ x. IsWritten (put W.amount slot a x) (last_amount x (v.trail ++ item ∷ [])) in
              subst P (sym e) (subst (IsWritten (put W.amount slot a slot)) (sym (last_here slot v.trail item (ap (λ (x : ℕ). x == 14) did) (ap (λ (x : ℕ). x == amount_place slot) place ∙ same_self (amount_place slot))))
              (put_here W.amount slot a ∙ sym wrote)))
              (λ ne. subst (λ (x : AmountWord). IsWritten x (last_amount j (v.trail ++ item ∷ []))) (sym (put_else W.amount slot a j ne))
              (subst (IsWritten (W.amount j)) (sym (last_else j v.trail item (same_not item.word (amount_place j) (λ q. ne (omega arith))))) (A.written.each j l)));
        };
        resizing = resizing_desk (recorded_in v.opening v.journal d).cores (recorded_in v.opening v.journal d).memory (run_of (farm_of v.opening) v.journal) W.host W.frame views id v w d A.resizing at is;
        seats = subst (λ (l : List Entry). Seats id v.opening d l (v.trail ++ item ∷ []) (set views id w)) (append-nil v.journal)
            (desk_steps id v.opening d d v.journal [] v.trail (item ∷ []) views id v w [] A.seats at is is refl refl refl (sym (append-nil v.journal)) refl refl refl refl
            m.flight m.limit_flight (sym (append-nil v.receipts)) (inl refl));
      };
    }
