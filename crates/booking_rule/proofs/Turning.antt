-- A slot's word shows the farm again.
use Rattle.std.proofs.Common.{◌≡◌, ◌≢◌, ◌⊎◌, ℕ, ◌+◌, ◌<◌, ◌≤◌, Bool, true, false, if◌then◌else◌, ◌==◌, ◌||◌, List, [], ◌∷◌, ◌++◌, set, sym, refl, ap, ◌∙◌, subst, arith, inl, ⊎_elim}
use Rattle.std.specs.Prelude.{Option, Some}
use Rattle.std.proofs.lemmas.List.{append-nil}
use Rattle.std.proofs.lemmas.Bool.Decides.{nat_tests}
use mathlib.Core.Option.{some}
use mathlib.Core.Logic.{dite}
use native.Mathlib.Decide.{ℕ_discrete}
use lib.ListN.{get_elem?}
use Rattle.atomic_table.proofs.Lists.{at_set}
use Rattle.farm_types.specs.declared.entry.Entry.{Entry}
use Rattle.farm_types.specs.Run.{run_of}
use Rattle.farm_types.specs.declared.limits.TheConstants.{LEAST_CORES, LEAST_MEMORY, MOST_CORES, MOST_MEMORY}
use Rattle.farm_types.specs.Farm.{Farm}
use Rattle.farm_types.specs.Limits.{IsBetween}
use Rattle.frame_words.specs.declared.frame_word.FrameWord.{FrameWord}
use Rattle.frame_words.specs.declared.amount_word.AmountWord.{AmountWord}
use Rattle.frame_words.specs.Bits.{frame_of}
use Rattle.booking_rule.specs.declared.desk.Desk.{Desk}
use Rattle.booking_rule.specs.declared.view.View.{View}
use Rattle.booking_rule.specs.declared.hold.Claim.{Claim}
use Rattle.booking_rule.specs.declared.noted.Noted.{Noted}
use Rattle.booking_rule.specs.Words.{Words, frame_place, put, with_frame}
use Rattle.booking_rule.specs.Recorded.{Stand, Recorded}
use Rattle.booking_rule.specs.Views.{one_done, with_done, turned, freed}
use Rattle.booking_rule.specs.Link.{farm_of, farm_before, has, lent, hosted, is_billed, is_counted, recorded_by, recorded_in, stand_at}
use Rattle.booking_rule.specs.Rule.{is_booked, word_of, claim_in, is_pending, ShowsAmount, Rule}
use Rattle.booking_rule.specs.Looks.{look_of, first_of, Saw, AllStand, Looks}
use Rattle.booking_rule.specs.Seats.{Seats}
use Rattle.booking_rule.specs.Suits.{AllSuit}
use Rattle.booking_rule.specs.Kept.{Kept, farm_in}
use Rattle.booking_rule.proofs.Moves.{same_self, same_not, put_here, put_else}
use Rattle.booking_rule.proofs.Claiming.{frees, turns}
use Rattle.booking_rule.proofs.Looking.{all_stand, stays, tells_frame}
use Rattle.booking_rule.proofs.Seeing.{suited_set, finds_used, ranged_turn, written_more}
use Rattle.booking_rule.proofs.Own.{of_first}
use Rattle.booking_rule.proofs.Seating.{desk_steps}
use Rattle.booking_rule.proofs.Resizing.{resizing_desk, resizing_frame}
use Rattle.booking_rule.proofs.Lending.{lent_turned}
use Rattle.booking_rule.proofs.Weighing.{names_put}

-- what is recorded, once one number's word was changed
pub done_by : {X : Type 0} (says : Farm → ℕ → X) (old now : Farm) (done : List ℕ) (k : ℕ) (n : ℕ) → put (recorded_by says old now done) k (says now k) n ≡ recorded_by says old now (k ∷ done) n
done_by {X} says old now done k n = dite (ℕ_discrete n k)
    (λ e. let P : ℕ → Type 0 = λ x. put (recorded_by says old now done) k (says now k) x ≡ recorded_by says old now (k ∷ done) x in
    subst P (sym e) (ap (λ (b : Bool). if b then says now k else recorded_by says old now done k) (same_self k) ∙ sym (ap (λ (b : Bool). if b || has k done then says now k else says old k) (same_self k))))
    (λ ne. ap (λ (b : Bool). if b then says now k else recorded_by says old now done n) (same_not n k ne) ∙ sym (ap (λ (b : Bool). if b || has n done then says now n else says old n) (same_not k n (λ e. ne (sym e)))))

-- A slot's record changes: its version doesn't fall, and a frame that waited below the last version is as before or of a later one.
pub record Rises (old now : Stand) : Type 0 where
  pub version : old.version ≤ now.version
  pub waiting : old.phase ≡ 1 → old.version < 16777215 → (old ≡ now) ⊎ (old.version < now.version)

-- what was seen stands
saw_stays : (stand : ℕ → Stand) (slot : ℕ) (s : Stand) (n : Noted) (m : Option Noted) → Rises (stand slot) s → Saw stand n m → Saw (put stand slot s) n m
saw_stays stand slot s n m rises saw is = stays stand slot s (look_of n m) rises.version rises.waiting (grind (arith, nat_tests)) (saw is)

pub all_stay : (stand : ℕ → Stand) (slot : ℕ) (s : Stand) (ns : List Noted) → Rises (stand slot) s → AllStand stand ns → AllStand (put stand slot s) ns
all_stay stand slot s [] rises h = tt
all_stay stand slot s (n ∷ ns) rises h = (saw_stays stand slot s n (first_of ns) rises h.0, all_stay stand slot s ns rises h.1)

-- a frame that isn't free has a layer's amounts
pub record HasAmounts (s : Stand) (a : AmountWord) : Type 0 where
  pub cores : (s.phase == 0) ≡ false → IsBetween LEAST_CORES MOST_CORES s.cores
  pub memory : (s.phase == 0) ≡ false → IsBetween LEAST_MEMORY MOST_MEMORY a.memory

module _ (n : ℕ) (W : Words) (views : List View) (id : ℕ) (v w : View) (d : Desk) (slot : ℕ) (item : Noted) (K : Kept n W views) (at : get_elem? views id ≡ some v) (is : v.desk ≡ Some d) (lt : slot < 65536)
    (place : item.word ≡ frame_place slot) (word : frame_of item.found ≡ W.frame slot) (other : (item.did == 14) ≡ false)
    (rises : Rises ((recorded_in v.opening v.journal d).slot slot) (stand_at (farm_in v) slot)) (amounts : HasAmounts (stand_at (farm_in v) slot) (W.amount slot)) where
  abbrev was : Recorded
  was = recorded_in v.opening v.journal d

  abbrev now : Stand
  now = stand_at (farm_in v) slot

  -- a step that keeps the rule keeps all of it
  done_kept : w.desk ≡ with_done slot v.desk → w.number ≡ v.number → w.opening ≡ v.opening → w.journal ≡ v.journal → w.told ≡ v.told → w.trail ≡ v.trail ++ item ∷ [] → w.desk_trail ≡ v.desk_trail → w.told_trail ≡ v.told_trail
      → w.ungranted ≡ v.ungranted → w.ungranted_limit ≡ v.ungranted_limit → w.receipts ≡ v.receipts → w.claims ≡ v.claims → now.phase ≢ 3 → now.phase ≢ 4 → is_pending d.pending slot ≡ false
      → Rule (record was { slot = put was.slot slot now }) d.pending (with_frame W slot (word_of now)) (set views id w)
      → Kept n (with_frame W slot (word_of now)) (set views id w)
  done_kept desk number opening journal told own desk_trail told_trail flies limit_flies receipts claims settled stopped free rule =
      let A = of_first n W views id v d K at is in
      let D = one_done slot d in
      let f = word_of now in
      let m = A.seats.each id v at in
      let next : Recorded = record was { slot = put was.slot slot now } in
      let same : next ≡ recorded_in v.opening v.journal D = (λ i. record {
        slot = λ k. done_by stand_at (farm_before v.opening d.before) (farm_in v) d.slots slot k i;
        cores = was.cores;
        memory = was.memory;
        alloc = was.alloc;
        burst = was.burst;
        most = was.most;
        roomed = λ k. still k (hosted d (stand_at (farm_in v) k)) stopped i;
        billed = λ k. still k (is_billed (farm_in v) d (stand_at (farm_in v) k)) stopped i;
        counted = λ k. still k (is_counted d (stand_at (farm_in v) k)) stopped i;
      }) in
      let tells = tells_frame was.slot (is_pending d.pending slot) slot (W.frame slot) (W.amount slot) item (A.rule.shows slot lt) lt place word in
      let mine : AllStand was.slot w.trail = subst (λ (l : List Noted). AllStand was.slot l) (sym own) (all_stand was.slot v.trail item (A.looks.each id v at) tells) in
      let looks : Looks next.slot (set views id w) = record {
        each = λ j x e. ⊎_elim
            (λ (h : (j ≡ id) × (w ≡ x)). all_stay was.slot slot now x.trail rises (subst (λ (y : View). AllStand was.slot y.trail) h.1 mine))
            (λ (h : (j ≢ id) × (get_elem? views j ≡ some x)). all_stay was.slot slot now x.trail rises (A.looks.each j x h.1))
            (at_set views id j w x e);
      } in
      record {
        seat = id;
        opening = v.opening;
        desk = D;
        log = v.journal;
        trail = v.trail ++ item ∷ [];
        own = record {
          journal = A.journal;
          begins = A.begins;
          legal = A.legal;
          before = A.before;
          alone = A.alone;
          ahead = names_put d.pending d.on W.frame slot f A.ahead free;
          rule = subst (λ (x : Recorded). Rule x d.pending (with_frame W slot f) (set views id w)) same rule;
          suited = suited_set (farm_of v.opening) v.journal views id w A.suited (subst (λ (l : List Claim). AllSuit (farm_of v.opening) v.journal l) (sym claims) (A.suited.each id v at));
          looks = subst (λ (x : Recorded). Looks x.slot (set views id w)) same looks;
          ranged = ranged_turn W.frame W.amount views (put W.frame slot f) id v w item slot A.ranged at own finds (put_else W.frame slot f)
              (λ used. let u : (now.phase == 0) ≡ false = ap (λ (x : FrameWord). x.phase == 0) (sym (put_here W.frame slot f)) ∙ used in
              (subst (λ (x : FrameWord). IsBetween LEAST_CORES MOST_CORES x.cores) (sym (put_here W.frame slot f)) (amounts.cores u), amounts.memory u));
          written = written_more W.amount v.trail item A.written other;
          resizing = resizing_desk was.cores was.memory (run_of (farm_of v.opening) v.journal) W.host (put W.frame slot f) views id v w D
              (resizing_frame was.cores was.memory (run_of (farm_of v.opening) v.journal) W.host W.frame views slot f A.resizing settled) at (desk ∙ ap (with_done slot) is);
          seats = subst (λ (l : List Entry). Seats id v.opening D l (v.trail ++ item ∷ []) (set views id w)) (append-nil v.journal)
              (desk_steps id v.opening d D v.journal [] v.trail (item ∷ []) views id v w [] A.seats at is (desk ∙ ap (with_done slot) is) refl number opening (journal ∙ sym (append-nil v.journal)) told own desk_trail told_trail
              (λ sub. let g = m.flight sub in let e : Rattle.booking_rule.specs.Rule.in_flight sub w.ungranted ≡ Rattle.booking_rule.specs.Rule.in_flight sub v.ungranted = ap (Rattle.booking_rule.specs.Rule.in_flight sub) flies in omega arith)
              (λ l. let g = m.limit_flight l in let e : Rattle.booking_rule.specs.Rule.limit_in_flight l w.ungranted_limit ≡ Rattle.booking_rule.specs.Rule.limit_in_flight l v.ungranted_limit = ap (Rattle.booking_rule.specs.Rule.limit_in_flight l) limit_flies in omega arith)
              (receipts ∙ sym (append-nil v.receipts)) (inl refl));
        };
      }
    where
      still : (k : ℕ) (placed : Bool) → now.phase ≢ 4 → lent d.before (has k d.slots) placed (stand_at (farm_in v) k) ≡ lent d.before (has k (slot ∷ d.slots)) placed (stand_at (farm_in v) k)
      still k placed stopped =
          lent_turned d.before slot k d.slots placed (stand_at (farm_in v) k)
          (λ e. let P : ℕ → Type 0 = λ x. (stand_at (farm_in v) x).phase ≢ 4 in subst P (sym e) stopped)

      finds : (j : ℕ) → j < 65536 → finds_used j item ≡ true → ((W.frame j).phase == 0) ≡ false
      finds j l used =
          let here : item.word ≡ j + 1 = grind (arith, nat_tests) in
          let busy : ((frame_of item.found).phase == 0) ≡ false = grind (arith, nat_tests) in
          let same : slot ≡ j = omega arith in
          sym (ap (λ (y : FrameWord). y.phase == 0) (word ∙ ap W.frame same)) ∙ busy

module _ (n : ℕ) (W : Words) (views : List View) (id : ℕ) (v : View) (d : Desk) (slot : ℕ) (item : Noted) (K : Kept n W views) (at : get_elem? views id ≡ some v) (is : v.desk ≡ Some d) (lt : slot < 65536)
    (place : item.word ≡ frame_place slot) (word : frame_of item.found ≡ W.frame slot) (other : (item.did == 14) ≡ false) (free : is_pending d.pending slot ≡ false)
    (rises : Rises ((recorded_in v.opening v.journal d).slot slot) (stand_at (farm_in v) slot)) (amounts : HasAmounts (stand_at (farm_in v) slot) (W.amount slot))
    (over : is_booked (stand_at (farm_in v) slot).phase ≡ false) (version : (W.frame slot).version ≤ (stand_at (farm_in v) slot).version) (shows : ShowsAmount (stand_at (farm_in v) slot) (W.amount slot)) where
  -- no frame is booked there
  half : (phase : ℕ) → is_booked phase ≡ true → (stand_at (farm_in v) slot).phase ≢ phase
  half phase booked e = clash (sym over ∙ (ap is_booked e ∙ booked))
    where
      clash : false ≡ true → ⊥
      clash q = cc

  -- a word that wasn't booked
  pub turn_kept : is_booked (W.frame slot).phase ≡ false → Kept n (with_frame W slot (word_of (stand_at (farm_in v) slot))) (set views id (turned v slot item))
  turn_kept idle =
      let A = of_first n W views id v d K at is in
      done_kept n W views id v (turned v slot item) d slot item K at is lt place word other rises amounts refl refl refl refl refl refl refl refl refl refl refl refl (half 3 refl) (half 4 refl) free
      (turns (recorded_in v.opening v.journal d) d.pending W views id v (turned v slot item) A.rule at slot (stand_at (farm_in v) slot) lt free over version shows refl idle
      (record { rooms = record { rooms = refl }; takes = record { takes = refl; ungranted = refl }; limits = record { limits = refl; ungranted = refl }; claims = refl }))

  -- a booked one, whose holds the recorder's seat has then
  pub free_kept : is_booked (W.frame slot).phase ≡ true
      → Kept n (with_frame W slot (word_of (stand_at (farm_in v) slot))) (set views id (freed v slot (claim_in (recorded_in v.opening v.journal d).alloc slot (W.frame slot) (W.amount slot)) item))
  free_kept booked =
      let A = of_first n W views id v d K at is in
      let c = claim_in (recorded_in v.opening v.journal d).alloc slot (W.frame slot) (W.amount slot) in
      done_kept n W views id v (freed v slot c item) d slot item K at is lt place word other rises amounts refl refl refl refl refl refl refl refl refl refl refl refl (half 3 refl) (half 4 refl) free
      (frees (recorded_in v.opening v.journal d) d.pending W views id v (freed v slot c item) A.rule at slot (stand_at (farm_in v) slot) lt free over version shows refl booked
      (record { takes = refl; limits = refl; rooms = refl; ungranted = refl; ungranted_limit = refl }))
