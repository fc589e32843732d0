-- The burst of a subscription, and the most of a limit, become the farm's.
use Rattle.std.proofs.Common.{◌≡◌, ◌⊎◌, ℕ, ◌<◌, ◌≤◌, false, ◌==◌, List, [], ◌∷◌, ◌++◌, set, sym, refl, ap, ◌∙◌, subst, arith, inl, inr}
use Rattle.std.specs.Prelude.{Option, Some}
use Rattle.std.proofs.lemmas.List.{append-nil}
use mathlib.Core.Option.{some}
use mathlib.Core.Logic.{dite}
use native.Mathlib.Decide.{ℕ_discrete}
use lib.ListN.{get_elem?}
use Rattle.farm_types.specs.declared.entry.Entry.{Entry}
use Rattle.farm_types.specs.Run.{run_of}
use Rattle.frame_words.specs.declared.limit_word.LimitWord.{LimitWord}
use Rattle.frame_words.specs.declared.sub_word.SubWord.{SubWord}
use Rattle.booking_rule.specs.declared.desk.Desk.{Desk}
use Rattle.booking_rule.specs.declared.view.View.{View}
use Rattle.booking_rule.specs.declared.noted.Noted.{Noted}
use Rattle.booking_rule.specs.Words.{Words, sub_place, limit_place, put, with_sub, with_limit}
use Rattle.booking_rule.specs.Recorded.{Recorded}
use Rattle.booking_rule.specs.Views.{with_sub_done, burst_set, with_limit_done, most_set}
use Rattle.booking_rule.specs.Link.{farm_of, farm_before, recorded_in, burst_at, most_at}
use Rattle.booking_rule.specs.Rule.{sum_of, booked_of, running_of, Rule}
use Rattle.booking_rule.specs.Seats.{Seats}
use Rattle.booking_rule.specs.Kept.{Kept, farm_in}
use Rattle.booking_rule.proofs.Moves.{put_here, put_else, HoldsAlike, rule_view}
use Rattle.booking_rule.proofs.Looking.{all_stand, tells_nothing}
use Rattle.booking_rule.proofs.Seeing.{suited_set, looks_set, ranged_step, written_more}
use Rattle.booking_rule.proofs.Keeping.{found_finds}
use Rattle.booking_rule.proofs.Own.{of_first}
use Rattle.booking_rule.proofs.Seating.{desk_steps}
use Rattle.booking_rule.proofs.Turning.{done_by}
use Rattle.booking_rule.proofs.Resizing.{resizing_desk}

-- ---- the rule

pub sets_burst : (R : Recorded) (p : Option ℕ) (W : Words) (views : List View) (id : ℕ) (v w : View) (k b : ℕ) → Rule R p W views → get_elem? views id ≡ some v → k < 1024 → HoldsAlike v w
    → Rule (record R { burst = put R.burst k b }) p (with_sub W k (record { burst = b; booked = (W.sub k).booked })) (set views id w)
sets_burst R p W views id v w k b K at lt same =
    let M = rule_view R p W views id v w K at same in
    let word : SubWord = record { burst = b; booked = (W.sub k).booked } in
    record {
      shows = M.shows;
      pend = M.pend;
      claims = M.claims;
      cores = M.cores;
      memory = M.memory;
      booked = λ j l. dite (ℕ_discrete j k)
          (λ e. let P : ℕ → Type 0 = λ x. (put W.sub k word x).booked ≡ sum_of (booked_of R.alloc x) R W (set views id w) in
          subst P (sym e) (ap (λ (x : SubWord). x.booked) (put_here W.sub k word) ∙ M.booked k lt))
          (λ ne. ap (λ (x : SubWord). x.booked) (put_else W.sub k word j ne) ∙ M.booked j l);
      burst = λ j l. dite (ℕ_discrete j k)
          (λ e. let P : ℕ → Type 0 = λ x. (put W.sub k word x).burst ≡ put R.burst k b x in
          subst P (sym e) (ap (λ (x : SubWord). x.burst) (put_here W.sub k word) ∙ sym (put_here R.burst k b)))
          (λ ne. ap (λ (x : SubWord). x.burst) (put_else W.sub k word j ne) ∙ M.burst j l ∙ sym (put_else R.burst k b j ne));
      within = M.within;
      running = M.running;
      most = M.most;
      few = M.few;
    }

pub sets_most : (R : Recorded) (p : Option ℕ) (W : Words) (views : List View) (id : ℕ) (v w : View) (k b : ℕ) → Rule R p W views → get_elem? views id ≡ some v → k < 255 → HoldsAlike v w
    → Rule (record R { most = put R.most k b }) p (with_limit W k (record { most = b; running = (W.limit k).running })) (set views id w)
sets_most R p W views id v w k b K at lt same =
    let M = rule_view R p W views id v w K at same in
    let word : LimitWord = record { most = b; running = (W.limit k).running } in
    record {
      shows = M.shows;
      pend = M.pend;
      claims = M.claims;
      cores = M.cores;
      memory = M.memory;
      booked = M.booked;
      burst = M.burst;
      within = M.within;
      running = λ j l. dite (ℕ_discrete j k)
          (λ e. let P : ℕ → Type 0 = λ x. (put W.limit k word x).running ≡ sum_of (running_of x) R W (set views id w) in
          subst P (sym e) (ap (λ (x : LimitWord). x.running) (put_here W.limit k word) ∙ M.running k lt))
          (λ ne. ap (λ (x : LimitWord). x.running) (put_else W.limit k word j ne) ∙ M.running j l);
      most = λ j l. dite (ℕ_discrete j k)
          (λ e. let P : ℕ → Type 0 = λ x. (put W.limit k word x).most ≡ put R.most k b x in
          subst P (sym e) (ap (λ (x : LimitWord). x.most) (put_here W.limit k word) ∙ sym (put_here R.most k b)))
          (λ ne. ap (λ (x : LimitWord). x.most) (put_else W.limit k word j ne) ∙ M.most j l ∙ sym (put_else R.most k b j ne));
      few = M.few;
    }

-- ---- all that is kept

pub sets_burst_kept : (n : ℕ) (W : Words) (views : List View) (id : ℕ) (v : View) (d : Desk) (k : ℕ) (item : Noted) (K : Kept n W views) → get_elem? views id ≡ some v → v.desk ≡ Some d → k < 1024
    → ((j : ℕ) → (recorded_in v.opening v.journal d).billed j ≡ (recorded_in v.opening v.journal (record d { subs = k ∷ d.subs })).billed j)
    → item.word ≡ sub_place k → (item.did == 14) ≡ false
    → Kept n (with_sub W k (record { burst = (burst_at (farm_in v) k); booked = (W.sub k).booked })) (set views id (burst_set v k item))
sets_burst_kept n W views id v d k item K at is lt lends place other =
    let w = burst_set v k item in
    let A = of_first n W views id v d K at is in
    let m = A.seats.each id v at in
    let D : Desk = record d { subs = k ∷ d.subs } in
    let R = recorded_in v.opening v.journal d in
    let next : Recorded = record R { burst = put R.burst k (burst_at (farm_in v) k) } in
    let same : next ≡ recorded_in v.opening v.journal D = (λ i. record {
      slot = R.slot;
      cores = R.cores;
      memory = R.memory;
      alloc = R.alloc;
      burst = λ j. done_by burst_at (farm_before v.opening d.before) (farm_in v) d.subs k j i;
      most = R.most;
      roomed = R.roomed;
      billed = λ j. lends j i;
      counted = R.counted;
    }) in
    let far : (item.word ≡ 0) ⊎ (131073 ≤ item.word) = inr (omega arith) in
    record {
      seat = id;
      opening = v.opening;
      desk = D;
      log = v.journal;
      trail = v.trail ++ item ∷ [];
      own = record {
        journal = A.journal;
        begins = A.begins;
        legal = A.legal;
        before = A.before;
        alone = A.alone;
        ahead = A.ahead;
        rule = subst (λ (x : Recorded). Rule x d.pending (with_sub W k (record { burst = (burst_at (farm_in v) k); booked = (W.sub k).booked })) (set views id w)) same
            (sets_burst R d.pending W views id v w k (burst_at (farm_in v) k) A.rule at lt (record { rooms = record { rooms = refl }; takes = record { takes = refl; ungranted = refl }; limits = record { limits = refl; ungranted = refl }; claims = refl }));
        suited = suited_set (farm_of v.opening) v.journal views id w A.suited (A.suited.each id v at);
        looks = looks_set R.slot views id w A.looks (all_stand R.slot v.trail item (A.looks.each id v at) (tells_nothing R.slot item far));
        ranged = ranged_step W.frame W.amount views W.frame id v w item A.ranged at refl (found_finds W item (inr (inr far))) (λ slot. refl) (λ slot. refl);
        written = written_more W.amount v.trail item A.written other;
        resizing = resizing_desk (recorded_in v.opening v.journal d).cores (recorded_in v.opening v.journal d).memory (run_of (farm_of v.opening) v.journal) W.host W.frame views id v w D A.resizing at (ap (with_sub_done k) is);
        seats = subst (λ (l : List Entry). Seats id v.opening D l (v.trail ++ item ∷ []) (set views id w)) (append-nil v.journal)
            (desk_steps id v.opening d D v.journal [] v.trail (item ∷ []) views id v w [] A.seats at is (ap (with_sub_done k) is) refl refl refl (sym (append-nil v.journal)) refl refl refl refl
            m.flight m.limit_flight (sym (append-nil v.receipts)) (inl refl));
      };
    }

pub sets_most_kept : (n : ℕ) (W : Words) (views : List View) (id : ℕ) (v : View) (d : Desk) (k : ℕ) (item : Noted) (K : Kept n W views) → get_elem? views id ≡ some v → v.desk ≡ Some d → k < 255
    → ((j : ℕ) → (recorded_in v.opening v.journal d).counted j ≡ (recorded_in v.opening v.journal (record d { limits = k ∷ d.limits })).counted j)
    → item.word ≡ limit_place k → (item.did == 14) ≡ false
    → Kept n (with_limit W k (record { most = (most_at (farm_in v) k); running = (W.limit k).running })) (set views id (most_set v k item))
sets_most_kept n W views id v d k item K at is lt lends place other =
    let w = most_set v k item in
    let A = of_first n W views id v d K at is in
    let m = A.seats.each id v at in
    let D : Desk = record d { limits = k ∷ d.limits } in
    let R = recorded_in v.opening v.journal d in
    let next : Recorded = record R { most = put R.most k (most_at (farm_in v) k) } in
    let same : next ≡ recorded_in v.opening v.journal D = (λ i. record {
      slot = R.slot;
      cores = R.cores;
      memory = R.memory;
      alloc = R.alloc;
      burst = R.burst;
      most = λ j. done_by most_at (farm_before v.opening d.before) (farm_in v) d.limits k j i;
      roomed = R.roomed;
      billed = R.billed;
      counted = λ j. lends j i;
    }) in
    let far : (item.word ≡ 0) ⊎ (131073 ≤ item.word) = inr (omega arith) in
    record {
      seat = id;
      opening = v.opening;
      desk = D;
      log = v.journal;
      trail = v.trail ++ item ∷ [];
      own = record {
        journal = A.journal;
        begins = A.begins;
        legal = A.legal;
        before = A.before;
        alone = A.alone;
        ahead = A.ahead;
        rule = subst (λ (x : Recorded). Rule x d.pending (with_limit W k (record { most = (most_at (farm_in v) k); running = (W.limit k).running })) (set views id w)) same
            (sets_most R d.pending W views id v w k (most_at (farm_in v) k) A.rule at lt (record { rooms = record { rooms = refl }; takes = record { takes = refl; ungranted = refl }; limits = record { limits = refl; ungranted = refl }; claims = refl }));
        suited = suited_set (farm_of v.opening) v.journal views id w A.suited (A.suited.each id v at);
        looks = looks_set R.slot views id w A.looks (all_stand R.slot v.trail item (A.looks.each id v at) (tells_nothing R.slot item far));
        ranged = ranged_step W.frame W.amount views W.frame id v w item A.ranged at refl (found_finds W item (inr (inr far))) (λ slot. refl) (λ slot. refl);
        written = written_more W.amount v.trail item A.written other;
        resizing = resizing_desk (recorded_in v.opening v.journal d).cores (recorded_in v.opening v.journal d).memory (run_of (farm_of v.opening) v.journal) W.host W.frame views id v w D A.resizing at (ap (with_limit_done k) is);
        seats = subst (λ (l : List Entry). Seats id v.opening D l (v.trail ++ item ∷ []) (set views id w)) (append-nil v.journal)
            (desk_steps id v.opening d D v.journal [] v.trail (item ∷ []) views id v w [] A.seats at is (ap (with_limit_done k) is) refl refl refl (sym (append-nil v.journal)) refl refl refl refl
            m.flight m.limit_flight (sym (append-nil v.receipts)) (inl refl));
      };
    }
