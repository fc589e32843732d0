-- The first placing of the words: a running frame's word, which uses up what was lent of it; and words of hosts, subscriptions and limits, by which it is lent.
use Rattle.std.proofs.Common.{◌≡◌, ℕ, ◌+◌, ◌<◌, ◌≤◌, Bool, true, false, if◌then◌else◌, ◌==◌, ◌&&◌, ◌||◌, List, [], ◌∷◌, ◌++◌, set, sym, refl, ap, ◌∙◌, subst, arith, inl}
use Rattle.std.specs.Prelude.{Option, Some, None}
use Rattle.std.proofs.lemmas.List.{append-nil}
use Rattle.std.proofs.lemmas.Bool.Decides.{nat_tests}
use mathlib.Core.Option.{some}
use mathlib.Core.Logic.{dite}
use native.Mathlib.Decide.{ℕ_discrete}
use lib.ListN.{get_elem?}
use Rattle.farm_types.specs.declared.entry.Entry.{Entry}
use Rattle.farm_types.specs.declared.limits.TheConstants.{LEAST_CORES, MOST_CORES}
use Rattle.farm_types.specs.Farm.{empty_farm, sub_of}
use Rattle.farm_types.specs.Limits.{IsBetween}
use Rattle.farm_types.specs.Run.{run_of}
use Rattle.frame_words.specs.declared.amount_word.AmountWord.{AmountWord}
use Rattle.frame_words.specs.declared.frame_word.FrameWord.{FrameWord}
use Rattle.frame_words.specs.Bits.{frame_of}
use Rattle.booking_rule.specs.declared.desk.Desk.{Desk}
use Rattle.booking_rule.specs.declared.noted.Noted.{Noted}
use Rattle.booking_rule.specs.declared.view.View.{View}
use Rattle.booking_rule.specs.Words.{Words, frame_place, put, with_frame}
use Rattle.booking_rule.specs.Recorded.{Recorded, Stand, free_at}
use Rattle.booking_rule.specs.Views.{one_done, with_done, turned}
use Rattle.booking_rule.specs.Link.{farm_of, farm_before, has, lent, hosted, is_billed, is_counted, recorded_in, stand_at}
use Rattle.booking_rule.specs.Rule.{Account, weight, sum_of, is_booked, cores_of, memory_of, booked_on, billed_on, booked_of, granted_of, running_on, counted_on, running_of, counted_of, word_of, ShowsFrame, SameAmounts, Shows, is_pending, is_claimed, Rule}
use Rattle.booking_rule.specs.Looks.{Looks}
use Rattle.booking_rule.specs.Seats.{Seats}
use Rattle.booking_rule.specs.Kept.{Kept, farm_in}
use Rattle.booking_rule.specs.Placing.{IsLent}
use Rattle.booking_rule.proofs.Moves.{same_self, same_not, put_here, put_else, sum_moves, HoldsAlike, cores_held, memory_held, granted_held, flight_held, limit_held, limit_flight_held}
use Rattle.booking_rule.proofs.Weighing.{names_put, shows_put, pend_put, shows_exact, cores_free, memory_free, sub_free, limit_free}
use Rattle.booking_rule.proofs.Claiming.{claims_turn}
use Rattle.booking_rule.proofs.Looking.{all_stand, tells_frame}
use Rattle.booking_rule.proofs.Seeing.{suited_set, looks_set, finds_used, ranged_turn, written_more}
use Rattle.booking_rule.proofs.Own.{of_first}
use Rattle.booking_rule.proofs.Seating.{desk_steps}
use Rattle.booking_rule.proofs.Turning.{done_by, Rises, HasAmounts, all_stay}
use Rattle.booking_rule.proofs.Resizing.{resizing_desk, resizing_frame}
use Rattle.booking_rule.proofs.Lending.{lent_done}

-- ---- the rule: a running frame's word comes to a free slot, of which it was lent

module _ (R : Recorded) (p : Option ℕ) (W : Words) (views : List View) (id : ℕ) (v w : View) (slot : ℕ) (s : Stand) (K : Rule R p W views) (at : get_elem? views id ≡ some v) (lt : slot < 65536)
    (free : is_pending p slot ≡ false) (runs : s.phase ≡ 4) (was : (R.slot slot).phase ≡ 0) (version : (R.slot slot).version ≤ s.version) (amounts : SameAmounts s (W.amount slot))
    (roomed : R.roomed slot ≡ s) (billed : R.billed slot ≡ s) (counted : (l : ℕ) → counted_on l (R.counted slot) ≡ counted_on l s) (same : HoldsAlike v w) where
  abbrev with_placed : Recorded
  with_placed = record R {
    slot = put R.slot slot s;
    roomed = put R.roomed slot (free_at 0);
    billed = put R.billed slot (free_at 0);
    counted = put R.counted slot (free_at 0);
  }

  abbrev X : Words
  X = with_frame W slot (word_of s)

  abbrev a : AmountWord
  a = W.amount slot

  recorded_word : W.frame slot ≡ word_of (R.slot slot)
  recorded_word = subst (λ (b : Bool). ShowsFrame b (is_pending p slot) (R.slot slot) (W.frame slot)) (ap (λ (n : ℕ). n == 1) was) (K.shows slot lt).frame

  idle : is_booked (W.frame slot).phase ≡ false
  idle = ap (λ (x : FrameWord). is_booked x.phase) recorded_word ∙ ap is_booked was

  moves : (c : Account)
      → sum_of c with_placed X (set views id w) + (weight c R W slot + c.held v) ≡ sum_of c R W views + (weight c with_placed X slot + c.held w)
  moves c =
      sum_moves c R with_placed W X views id v w slot at lt
      (λ j ne i. c.weigh (put_else W.frame slot (word_of s) j ne i) (W.amount j)
      + c.lend (put_else R.roomed slot (free_at 0) j ne i) (put_else R.billed slot (free_at 0) j ne i) (put_else R.counted slot (free_at 0) j ne i))

  now : (c : Account) → weight c with_placed X slot ≡ c.weigh (word_of s) a + c.lend (free_at 0) (free_at 0) (free_at 0)
  now c i =
      c.weigh (put_here W.frame slot (word_of s) i) a
      + c.lend (put_here R.roomed slot (free_at 0) i) (put_here R.billed slot (free_at 0) i) (put_here R.counted slot (free_at 0) i)

  before : (c : Account) → weight c R W slot ≡ c.weigh (W.frame slot) a + c.lend s s (R.counted slot)
  before c i = c.weigh (W.frame slot) a + c.lend (roomed i) (billed i) (R.counted slot)

  same_cores : (h : ℕ) → sum_of (cores_of h) with_placed X (set views id w) ≡ sum_of (cores_of h) R W views
  same_cores h =
      let m = moves (cores_of h) in let y = now (cores_of h) in let z = before (cores_of h) in let q = cores_held v w h same.rooms in
      let b = cores_free R (W.frame slot) a idle h in omega arith

  same_memory : (h : ℕ) → sum_of (memory_of h) with_placed X (set views id w) ≡ sum_of (memory_of h) R W views
  same_memory h =
      let m = moves (memory_of h) in let y = now (memory_of h) in let z = before (memory_of h) in let q = memory_held v w h same.rooms in
      let b = memory_free R (W.frame slot) a idle h in
      let x : (memory_of h).weigh (word_of s) a ≡ (memory_of h).lend s s s = ap (λ (k : ℕ). if is_booked s.phase && (s.host == h) then k else 0) amounts.1.1 in
      omega arith

  as_billed : (j : ℕ) → booked_on R.alloc j (word_of s) a ≡ billed_on R.alloc j s
  as_billed j = ap (λ (k : ℕ). if is_booked s.phase && (sub_of k (R.alloc s.host) == j) then s.cores else 0) amounts.0

  as_counted : (l : ℕ) → running_on l (word_of s) a ≡ counted_on l s
  as_counted l = ap (λ (k : ℕ). if is_booked s.phase && (k == l + 1) then 1 else 0) amounts.1.0

  pub places : Rule with_placed p X (set views id w)
  places =
      record {
        shows = shows_put R (put R.slot slot s) p W views slot (word_of s) K (put_else R.slot slot s)
            (subst (λ (x : Stand). Shows (is_pending p slot) x (word_of s) a) (sym (put_here R.slot slot s))
            (record { frame = shows_exact (s.phase == 1) (is_pending p slot) s; amount = λ _. amounts }));
        pend = pend_put R (put R.slot slot s) p W views slot (word_of s) K (put_else R.slot slot s) free;
        claims = claims_turn R.alloc p W.frame W.amount views id v w slot (word_of s) K.claims at same.claims
            (let e : (W.frame slot).version ≡ (R.slot slot).version = ap (λ (x : FrameWord). x.version) recorded_word in omega arith)
            (ap (λ (b : Bool). is_claimed b (word_of s)) free ∙ ap (λ (n : ℕ). n == 3 || (false && (n == 4))) runs);
        cores = λ h l. (let o = K.cores h l in let q = same_cores h in omega arith);
        memory = λ h l. (let o = K.memory h l in let q = same_memory h in omega arith);
        booked = λ j l. (let m = moves (booked_of R.alloc j) in let o = K.booked j l in let y = now (booked_of R.alloc j) in let z = before (booked_of R.alloc j) in
            let q = granted_held v w j same.takes in let u = flight_held v w j same.takes in let b = sub_free R (W.frame slot) a idle j in let x = as_billed j in omega arith);
        burst = K.burst;
        within = λ j l. (let m = moves (granted_of R.alloc j) in let o = K.within j l in let y = now (granted_of R.alloc j) in let z = before (granted_of R.alloc j) in
            let q = granted_held v w j same.takes in let b = sub_free R (W.frame slot) a idle j in let x = as_billed j in omega arith);
        running = λ j l. (let m = moves (running_of j) in let o = K.running j l in let y = now (running_of j) in let z = before (running_of j) in
            let q = limit_held v w j same.limits in let u = limit_flight_held v w j same.limits in let b = limit_free R (W.frame slot) a idle j in
            let x = as_counted j in let c = counted j in omega arith);
        most = K.most;
        few = λ j l. (let m = moves (counted_of j) in let o = K.few j l in let y = now (counted_of j) in let z = before (counted_of j) in
            let q = limit_held v w j same.limits in let b = limit_free R (W.frame slot) a idle j in let x = as_counted j in let c = counted j in omega arith);
      }

-- ---- what is lent of a running frame

pub lent_runs : (before : Option (List Entry)) (done ready : Bool) (s : Stand) → before ≡ None → done ≡ false → ready ≡ true → s.phase ≡ 4 → lent before done ready s ≡ s
lent_runs before done ready s none undone is runs =
    (λ i. lent (none i) (undone i) (is i) s) ∙ ap (λ (n : ℕ). if n == 4 then s else free_at 0) runs

lent_put : (before : Option (List Entry)) (slots : List ℕ) (slot : ℕ) (ready : ℕ → Bool) (stand : ℕ → Stand) (k : ℕ)
    → put (λ j. lent before (has j slots) (ready j) (stand j)) slot (free_at 0) k ≡ lent before (has k (slot ∷ slots)) (ready k) (stand k)
lent_put before slots slot ready stand k = dite (ℕ_discrete k slot)
    (λ e. let P : ℕ → Type 0 = λ x. put (λ j. lent before (has j slots) (ready j) (stand j)) slot (free_at 0) x ≡ lent before (has x (slot ∷ slots)) (ready x) (stand x) in
    subst P (sym e) (put_here (λ j. lent before (has j slots) (ready j) (stand j)) slot (free_at 0)
    ∙ sym (ap (λ (b : Bool). lent before (b || has slot slots) (ready slot) (stand slot)) (same_self slot) ∙ lent_done before (ready slot) (stand slot))))
    (λ ne. put_else (λ j. lent before (has j slots) (ready j) (stand j)) slot (free_at 0) k ne
    ∙ ap (λ (b : Bool). lent before (b || has k slots) (ready k) (stand k)) (sym (same_not slot k (λ e. ne (sym e)))))

none_stand : (n : ℕ) → stand_at empty_farm n ≡ free_at 0
unfolding stand_at
none_stand n = refl

abbrev one_if : Bool → ℕ
one_if b = if b then 1 else 0

-- ---- all that is kept

module _ (n : ℕ) (W : Words) (views : List View) (id : ℕ) (v : View) (d : Desk) (slot : ℕ) (item : Noted) (K : Kept n W views) (at : get_elem? views id ≡ some v) (is : v.desk ≡ Some d) (lt : slot < 65536)
    (place : item.word ≡ frame_place slot) (word : frame_of item.found ≡ W.frame slot) (other : (item.did == 14) ≡ false) (pending : d.pending ≡ None) (lends : IsLent v d slot)
    (amounts : SameAmounts (stand_at (farm_in v) slot) (W.amount slot)) (within : HasAmounts (stand_at (farm_in v) slot) (W.amount slot)) where
  abbrev old : Recorded
  old = recorded_in v.opening v.journal d

  abbrev s : Stand
  s = stand_at (farm_in v) slot

  was : old.slot slot ≡ free_at 0
  was = (λ i. if lends.undone i then s else stand_at (farm_before v.opening (lends.opening i)) slot) ∙ none_stand slot

  counts : (l : ℕ) → counted_on l (old.counted slot) ≡ counted_on l s
  counts l = go (is_counted d s) refl
    where
      off : (n : ℕ) → (0 == n + 1) ≡ false
      off n = grind (arith, nat_tests)

      go : (b : Bool) → is_counted d s ≡ b → counted_on l (old.counted slot) ≡ counted_on l s
      go true e = ap (counted_on l) (lent_runs d.before (has slot d.slots) (is_counted d s) s lends.opening lends.undone e lends.runs)
      go false e =
          let none : lent d.before (has slot d.slots) (is_counted d s) s ≡ free_at 0 = (λ i. lent (lends.opening i) (lends.undone i) (e i) s) in
          let limit : (s.limit == l + 1) ≡ false = ap (λ (k : ℕ). k == l + 1) (lends.count e) ∙ off l in
          ap (counted_on l) none ∙ sym (uncounted (is_booked s.phase) (s.limit == l + 1) limit)
        where
          uncounted : (a b : Bool) → b ≡ false → one_if (a && b) ≡ 0
          uncounted true b q = ap one_if q
          uncounted false b q = refl

  pub place_kept : Kept n (with_frame W slot (word_of s)) (set views id (turned v slot item))
  place_kept =
      let w = turned v slot item in
      let A = of_first n W views id v d K at is in
      let D = one_done slot d in
      let f = word_of s in
      let m = A.seats.each id v at in
      let stands = λ (k : ℕ). stand_at (farm_in v) k in
      let alike : HoldsAlike v w = record { rooms = record { rooms = refl }; takes = record { takes = refl; ungranted = refl }; limits = record { limits = refl; ungranted = refl }; claims = refl } in
      let was_phase : (old.slot slot).phase ≡ 0 = ap (λ (x : Stand). x.phase) was in
      let was_version : (old.slot slot).version ≡ 0 = ap (λ (x : Stand). x.version) was in
      let free : is_pending d.pending slot ≡ false = ap (λ (p : Option ℕ). is_pending p slot) pending in
      let rule =
      places old d.pending W views id v w slot s A.rule at lt free lends.runs was_phase (omega arith) amounts
      (lent_runs d.before (has slot d.slots) (hosted d s) s lends.opening lends.undone lends.room lends.runs)
      (lent_runs d.before (has slot d.slots) (is_billed (farm_in v) d s) s lends.opening lends.undone lends.bill lends.runs) counts alike in
      let next : Recorded = record old {
        slot = put old.slot slot s;
        roomed = put old.roomed slot (free_at 0);
        billed = put old.billed slot (free_at 0);
        counted = put old.counted slot (free_at 0);
      } in
      let same : next ≡ recorded_in v.opening v.journal D = (λ i. record {
        slot = λ k. done_by stand_at (farm_before v.opening d.before) (farm_in v) d.slots slot k i;
        cores = old.cores;
        memory = old.memory;
        alloc = old.alloc;
        burst = old.burst;
        most = old.most;
        roomed = λ k. lent_put d.before d.slots slot (λ j. hosted d (stand_at (farm_in v) j)) stands k i;
        billed = λ k. lent_put d.before d.slots slot (λ j. is_billed (farm_in v) d (stand_at (farm_in v) j)) stands k i;
        counted = λ k. lent_put d.before d.slots slot (λ j. is_counted d (stand_at (farm_in v) j)) stands k i;
      }) in
      let tells = tells_frame old.slot (is_pending d.pending slot) slot (W.frame slot) (W.amount slot) item (A.rule.shows slot lt) lt place word in
      let saw = looks_set old.slot views id w A.looks (all_stand old.slot v.trail item (A.looks.each id v at) tells) in
      let rises : Rises (old.slot slot) s = record { version = omega arith; waiting = λ waits _. absurd (omega (arith, waits, was_phase)) } in
      let looks : Looks next.slot (set views id w) = record { each = λ j x q. all_stay old.slot slot s x.trail rises (saw.each j x q) } in
      record {
        seat = id;
        opening = v.opening;
        desk = D;
        log = v.journal;
        trail = v.trail ++ item ∷ [];
        own = record {
          journal = A.journal;
          begins = A.begins;
          legal = A.legal;
          before = A.before;
          alone = A.alone;
          ahead = names_put d.pending d.on W.frame slot f A.ahead free;
          rule = subst (λ (x : Recorded). Rule x d.pending (with_frame W slot f) (set views id w)) same rule;
          suited = suited_set (farm_of v.opening) v.journal views id w A.suited (A.suited.each id v at);
          looks = subst (λ (x : Recorded). Looks x.slot (set views id w)) same looks;
          ranged = ranged_turn W.frame W.amount views (put W.frame slot f) id v w item slot A.ranged at refl finds (put_else W.frame slot f)
              (λ used. let u : (s.phase == 0) ≡ false = ap (λ (x : FrameWord). x.phase == 0) (sym (put_here W.frame slot f)) ∙ used in
              (subst (λ (x : FrameWord). IsBetween LEAST_CORES MOST_CORES x.cores) (sym (put_here W.frame slot f)) (within.cores u), within.memory u));
          written = written_more W.amount v.trail item A.written other;
          resizing = resizing_desk old.cores old.memory (run_of (farm_of v.opening) v.journal) W.host (put W.frame slot f) views id v w D
              (resizing_frame old.cores old.memory (run_of (farm_of v.opening) v.journal) W.host W.frame views slot f A.resizing
              (λ e. absurd (let q = lends.runs in omega (arith, e, q)))) at (ap (with_done slot) is);
          seats = subst (λ (l : List Entry). Seats id v.opening D l (v.trail ++ item ∷ []) (set views id w)) (append-nil v.journal)
              (desk_steps id v.opening d D v.journal [] v.trail (item ∷ []) views id v w [] A.seats at is (ap (with_done slot) is) refl refl refl (sym (append-nil v.journal)) refl refl refl refl
              m.flight m.limit_flight (sym (append-nil v.receipts)) (inl refl));
        };
      }
    where
      finds : (j : ℕ) → j < 65536 → finds_used j item ≡ true → ((W.frame j).phase == 0) ≡ false
      finds j l used =
          let here : item.word ≡ j + 1 = grind (arith, nat_tests) in
          let busy : ((frame_of item.found).phase == 0) ≡ false = grind (arith, nat_tests) in
          let same : slot ≡ j = omega arith in
          sym (ap (λ (y : FrameWord). y.phase == 0) (word ∙ ap W.frame same)) ∙ busy
