-- The burst of a subscription, and the most of a limit, are placed for the first time, with what running frames use: it is lent from then on.
use Rattle.std.proofs.Common.{◌≡◌, ◌≢◌, ◌⊎◌, ℕ, ◌+◌, ◌<◌, ◌≤◌, Bool, true, false, if◌then◌else◌, ◌==◌, ◌&&◌, ◌||◌, List, [], ◌∷◌, ◌++◌, set, sym, refl, ap, ◌∙◌, subst, arith, inl, inr}
use Rattle.std.specs.Prelude.{Option, Some, None}
use Rattle.std.proofs.lemmas.List.{append-nil}
use Rattle.std.proofs.lemmas.Bool.Decides.{nat_tests}
use mathlib.Core.Option.{some}
use mathlib.Core.Logic.{dite}
use native.Mathlib.Decide.{ℕ_discrete}
use lib.ListN.{get_elem?}
use Rattle.farm_types.specs.declared.entry.Entry.{Entry}
use Rattle.farm_types.specs.Farm.{empty_farm, sub_of}
use Rattle.farm_types.specs.Run.{run_of}
use Rattle.frame_words.specs.declared.limit_word.LimitWord.{LimitWord}
use Rattle.frame_words.specs.declared.sub_word.SubWord.{SubWord}
use Rattle.booking_rule.specs.declared.desk.Desk.{Desk}
use Rattle.booking_rule.specs.declared.noted.Noted.{Noted}
use Rattle.booking_rule.specs.declared.view.View.{View}
use Rattle.booking_rule.specs.Totals.{sum_to}
use Rattle.booking_rule.specs.Words.{Words, sub_place, limit_place, put, with_sub, with_limit}
use Rattle.booking_rule.specs.Recorded.{Recorded, Stand}
use Rattle.booking_rule.specs.Views.{with_sub_done, burst_set, with_limit_done, most_set}
use Rattle.booking_rule.specs.Link.{farm_of, farm_before, has, has_limit, lent, recorded_in, stand_at, host_alloc, burst_at, most_at}
use Rattle.booking_rule.specs.Rule.{weight, sum_of, is_booked, booked_on, billed_on, booked_of, granted_of, running_on, counted_on, running_of, counted_of, Rule}
use Rattle.booking_rule.specs.Seats.{Seats}
use Rattle.booking_rule.specs.Kept.{Kept, farm_in}
use Rattle.booking_rule.specs.Placing.{sub_uses, limit_uses, FirstSub, FirstLimit}
use Rattle.booking_rule.proofs.Sums.{sum_to-same}
use Rattle.booking_rule.proofs.Moves.{same_self, same_not, put_here, put_else, view_moves, HoldsAlike, granted_held, limit_held, rule_view}
use Rattle.booking_rule.proofs.Looking.{all_stand, tells_nothing}
use Rattle.booking_rule.proofs.Seeing.{suited_set, looks_set, ranged_step, written_more}
use Rattle.booking_rule.proofs.Keeping.{found_finds}
use Rattle.booking_rule.proofs.Own.{of_first}
use Rattle.booking_rule.proofs.Seating.{desk_steps}
use Rattle.booking_rule.proofs.Turning.{done_by}
use Rattle.booking_rule.proofs.Resizing.{resizing_desk}
use Rattle.booking_rule.proofs.Lending.{lent_idle}
use Rattle.booking_rule.proofs.Placing.{lent_runs}
use Rattle.booking_rule.proofs.Hosting.{only_if, sum_to-plus, sum_to-pick, lent_unready}

-- ---- the rule

module _ (R : Recorded) (p : Option ℕ) (W : Words) (views : List View) (id : ℕ) (v w : View) (k b u : ℕ) (more : ℕ → Stand) (K : Rule R p W views) (at : get_elem? views id ≡ some v)
    (lt : k < 1024) (same : HoldsAlike v w)
    (adds : (j : ℕ) → sum_to 65536 (λ n. billed_on R.alloc j (more n)) ≡ sum_to 65536 (λ n. billed_on R.alloc j (R.billed n)) + (if j == k then u else 0))
    (bound : sum_of (granted_of R.alloc k) R W views + u ≤ 4096000000) where
  abbrev next : Recorded
  next = record R { burst = put R.burst k b; billed = more }

  abbrev word : SubWord
  word = record { burst = b; booked = (W.sub k).booked + u }

  sum_bills : (j : ℕ) → sum_to 65536 (weight (booked_of R.alloc j) next W) ≡ sum_to 65536 (weight (booked_of R.alloc j) R W) + (if j == k then u else 0)
  sum_bills j =
      let x = sum_to-plus 65536 (λ n. booked_on R.alloc j (W.frame n) (W.amount n)) (λ n. billed_on R.alloc j (more n)) in
      let y = sum_to-plus 65536 (λ n. booked_on R.alloc j (W.frame n) (W.amount n)) (λ n. billed_on R.alloc j (R.billed n)) in
      let z = adds j in omega arith

  here : (if k == k then u else 0) ≡ u
  here = ap (λ (b : Bool). if b then u else 0) (same_self k)

  apart : (j : ℕ) → j ≢ k → (if j == k then u else 0) ≡ 0
  apart j ne = ap (λ (b : Bool). if b then u else 0) (same_not j k ne)

  pub bills : Rule next p (with_sub W k word) (set views id w)
  bills =
      let M = rule_view R p W views id v w K at same in
      record {
        shows = M.shows;
        pend = M.pend;
        claims = M.claims;
        cores = M.cores;
        memory = M.memory;
        booked = λ j l. dite (ℕ_discrete j k)
            (λ e. let P : ℕ → Type 0 = λ x. (put W.sub k word x).booked ≡ sum_of (booked_of R.alloc x) next W (set views id w) in
            subst P (sym e) (let a : (put W.sub k word k).booked ≡ (W.sub k).booked + u = ap (λ (x : SubWord). x.booked) (put_here W.sub k word) in
            let o = M.booked k lt in let s = sum_bills k in let h = here in omega arith))
            (λ ne. let a : (put W.sub k word j).booked ≡ (W.sub j).booked = ap (λ (x : SubWord). x.booked) (put_else W.sub k word j ne) in
            let o = M.booked j l in let s = sum_bills j in let z = apart j ne in omega arith);
        burst = λ j l. dite (ℕ_discrete j k)
            (λ e. let P : ℕ → Type 0 = λ x. (put W.sub k word x).burst ≡ put R.burst k b x in
            subst P (sym e) (ap (λ (x : SubWord). x.burst) (put_here W.sub k word) ∙ sym (put_here R.burst k b)))
            (λ ne. ap (λ (x : SubWord). x.burst) (put_else W.sub k word j ne) ∙ M.burst j l ∙ sym (put_else R.burst k b j ne));
        within = λ j l. dite (ℕ_discrete j k)
            (λ e. let P : ℕ → Type 0 = λ x. sum_of (granted_of R.alloc x) next W (set views id w) ≤ 4096000000 in
            subst P (sym e) (let s = sum_bills k in let h = here in
            let t = view_moves (granted_of R.alloc k) R W views id v w at in
            let q = granted_held v w k same.takes in omega arith))
            (λ ne. let o = M.within j l in let s = sum_bills j in let z = apart j ne in omega arith);
        running = M.running;
        most = M.most;
        few = M.few;
      }

module _ (R : Recorded) (p : Option ℕ) (W : Words) (views : List View) (id : ℕ) (v w : View) (k b u : ℕ) (more : ℕ → Stand) (K : Rule R p W views) (at : get_elem? views id ≡ some v)
    (lt : k < 255) (same : HoldsAlike v w)
    (adds : (j : ℕ) → sum_to 65536 (λ n. counted_on j (more n)) ≡ sum_to 65536 (λ n. counted_on j (R.counted n)) + (if j == k then u else 0))
    (bound : sum_of (counted_of k) R W views + u ≤ 65536) where
  abbrev next_counts : Recorded
  next_counts = record R { most = put R.most k b; counted = more }

  abbrev limit_word : LimitWord
  limit_word = record { most = b; running = (W.limit k).running + u }

  sum_counts : (j : ℕ) → sum_to 65536 (weight (running_of j) next_counts W) ≡ sum_to 65536 (weight (running_of j) R W) + (if j == k then u else 0)
  sum_counts j =
      let x = sum_to-plus 65536 (λ n. running_on j (W.frame n) (W.amount n)) (λ n. counted_on j (more n)) in
      let y = sum_to-plus 65536 (λ n. running_on j (W.frame n) (W.amount n)) (λ n. counted_on j (R.counted n)) in
      let z = adds j in omega arith

  limit_here : (if k == k then u else 0) ≡ u
  limit_here = ap (λ (b : Bool). if b then u else 0) (same_self k)

  limit_apart : (j : ℕ) → j ≢ k → (if j == k then u else 0) ≡ 0
  limit_apart j ne = ap (λ (b : Bool). if b then u else 0) (same_not j k ne)

  pub counts : Rule next_counts p (with_limit W k limit_word) (set views id w)
  counts =
      let M = rule_view R p W views id v w K at same in
      record {
        shows = M.shows;
        pend = M.pend;
        claims = M.claims;
        cores = M.cores;
        memory = M.memory;
        booked = M.booked;
        burst = M.burst;
        within = M.within;
        running = λ j l. dite (ℕ_discrete j k)
            (λ e. let P : ℕ → Type 0 = λ x. (put W.limit k limit_word x).running ≡ sum_of (running_of x) next_counts W (set views id w) in
            subst P (sym e) (let a : (put W.limit k limit_word k).running ≡ (W.limit k).running + u = ap (λ (x : LimitWord). x.running) (put_here W.limit k limit_word) in
            let o = M.running k lt in let s = sum_counts k in let h = limit_here in omega arith))
            (λ ne. let a : (put W.limit k limit_word j).running ≡ (W.limit j).running = ap (λ (x : LimitWord). x.running) (put_else W.limit k limit_word j ne) in
            let o = M.running j l in let s = sum_counts j in let z = limit_apart j ne in omega arith);
        most = λ j l. dite (ℕ_discrete j k)
            (λ e. let P : ℕ → Type 0 = λ x. (put W.limit k limit_word x).most ≡ put R.most k b x in
            subst P (sym e) (ap (λ (x : LimitWord). x.most) (put_here W.limit k limit_word) ∙ sym (put_here R.most k b)))
            (λ ne. ap (λ (x : LimitWord). x.most) (put_else W.limit k limit_word j ne) ∙ M.most j l ∙ sym (put_else R.most k b j ne));
        few = λ j l. dite (ℕ_discrete j k)
            (λ e. let P : ℕ → Type 0 = λ x. sum_of (counted_of x) next_counts W (set views id w) ≤ 65536 in
            subst P (sym e) (let s = sum_counts k in let h = limit_here in let t = view_moves (counted_of k) R W views id v w at in let q = limit_held v w k same.limits in omega arith))
            (λ ne. let o = M.few j l in let s = sum_counts j in let z = limit_apart j ne in omega arith);
      }

-- ---- what is lent more

and_off : (b : Bool) → (b && false) ≡ false
and_off true = refl
and_off false = refl

zero_of : (b : Bool) → only_if b 0 ≡ 0
zero_of true = refl
zero_of false = refl

flip : (m n : ℕ) → (m == n) ≡ (n == m)
flip m n = grind (arith, nat_tests)

-- one frame, billed to the subscription y
bill_more : (before : Option (List Entry)) (done : Bool) (k j : ℕ) (subs : List ℕ) (alloc : ℕ → ℕ) (on : Bool) (s : Stand) (y : ℕ) → before ≡ None → done ≡ false → has k subs ≡ false
    → (s.phase ≡ 4 → (on ≡ true) × (sub_of s.show (alloc s.host) ≡ y))
    → billed_on alloc j (lent before done (on && has y (k ∷ subs)) s)
    ≡ billed_on alloc j (lent before done (on && has y subs) s) + only_if (j == k) (only_if ((s.phase == 4) && (y == k)) s.cores)
bill_more before done k j subs alloc on s y none undone new runs = dite (ℕ_discrete s.phase 4)
    (λ four. dite (ℕ_discrete y k)
    (λ e.
    let r = runs four in
    let off : (on && has y subs) ≡ false = ap (λ (x : ℕ). on && has x subs) e ∙ (ap (λ (b : Bool). on && b) new ∙ and_off on) in
    let was : billed_on alloc j (lent before done (on && has y subs) s) ≡ 0 = ap (billed_on alloc j) (lent_unready before done (on && has y subs) s off) in
    let has_it : has y (k ∷ subs) ≡ true = ap (λ (x : ℕ). (k == x) || has y subs) e ∙ ap (λ (b : Bool). b || has y subs) (same_self k) in
    let ready : (on && has y (k ∷ subs)) ≡ true = (λ i. r.0 i && has_it i) in
    let is : lent before done (on && has y (k ∷ subs)) s ≡ s = lent_runs before done (on && has y (k ∷ subs)) s none undone ready four in
    let weighs : billed_on alloc j s ≡ only_if (j == k) s.cores = (λ i. only_if (is_booked (four i) && ((r.1 ∙ e) i == j)) s.cores) ∙ ap (λ (b : Bool). only_if b s.cores) (flip k j) in
    let third : only_if (j == k) (only_if ((s.phase == 4) && (y == k)) s.cores) ≡ only_if (j == k) s.cores =
    (λ i. only_if (j == k) (only_if ((four i == 4) && (e i == k)) s.cores)) ∙ ap (λ (b : Bool). only_if (j == k) (only_if b s.cores)) (same_self k) in
    let first = ap (billed_on alloc j) is in
    omega arith)
    (λ ne.
    let same = ap (λ (b : Bool). billed_on alloc j (lent before done (on && (b || has y subs)) s)) (same_not k y (λ e. ne (sym e))) in
    let third : only_if (j == k) (only_if ((s.phase == 4) && (y == k)) s.cores) ≡ 0 =
    ap (λ (b : Bool). only_if (j == k) (only_if ((s.phase == 4) && b) s.cores)) (same_not y k ne) ∙ ap (λ (b : Bool). only_if (j == k) (only_if b s.cores)) (and_off (s.phase == 4)) ∙ zero_of (j == k) in
    omega arith))
    (λ idle.
    let now : billed_on alloc j (lent before done (on && has y (k ∷ subs)) s) ≡ 0 = ap (billed_on alloc j) (lent_idle before done (on && has y (k ∷ subs)) s idle) in
    let was : billed_on alloc j (lent before done (on && has y subs) s) ≡ 0 = ap (billed_on alloc j) (lent_idle before done (on && has y subs) s idle) in
    let third : only_if (j == k) (only_if ((s.phase == 4) && (y == k)) s.cores) ≡ 0 =
    ap (λ (b : Bool). only_if (j == k) (only_if (b && (y == k)) s.cores)) (same_not s.phase 4 idle) ∙ zero_of (j == k) in
    omega arith)

-- one frame, counted in its limit
count_more : (before : Option (List Entry)) (done : Bool) (k j : ℕ) (limits : List ℕ) (s : Stand) → before ≡ None → done ≡ false → has_limit (k + 1) limits ≡ false
    → counted_on j (lent before done (has_limit s.limit (k ∷ limits)) s)
    ≡ counted_on j (lent before done (has_limit s.limit limits) s) + only_if (j == k) (only_if ((s.phase == 4) && (s.limit == k + 1)) 1)
count_more before done k j limits s none undone new = dite (ℕ_discrete s.phase 4)
    (λ four. dite (ℕ_discrete s.limit (k + 1))
    (λ e.
    let off : has_limit s.limit limits ≡ false = ap (λ (x : ℕ). has_limit x limits) e ∙ new in
    let was : counted_on j (lent before done (has_limit s.limit limits) s) ≡ 0 = ap (counted_on j) (lent_unready before done (has_limit s.limit limits) s off) in
    let ready : has_limit s.limit (k ∷ limits) ≡ true = ap (λ (x : ℕ). (x == k + 1) || has_limit s.limit limits) e ∙ ap (λ (b : Bool). b || has_limit s.limit limits) (same_self (k + 1)) in
    let is : lent before done (has_limit s.limit (k ∷ limits)) s ≡ s = lent_runs before done (has_limit s.limit (k ∷ limits)) s none undone ready four in
    let weighs : counted_on j s ≡ only_if (j == k) 1 = (λ i. only_if (is_booked (four i) && (e i == j + 1)) 1) ∙ ap (λ (b : Bool). only_if b 1) (next_one k j) in
    let third : only_if (j == k) (only_if ((s.phase == 4) && (s.limit == k + 1)) 1) ≡ only_if (j == k) 1 =
    (λ i. only_if (j == k) (only_if ((four i == 4) && (e i == k + 1)) 1)) ∙ ap (λ (b : Bool). only_if (j == k) (only_if b 1)) (same_self (k + 1)) in
    let first = ap (counted_on j) is in
    omega arith)
    (λ ne.
    let same = ap (λ (b : Bool). counted_on j (lent before done (b || has_limit s.limit limits) s)) (same_not s.limit (k + 1) ne) in
    let third : only_if (j == k) (only_if ((s.phase == 4) && (s.limit == k + 1)) 1) ≡ 0 =
    ap (λ (b : Bool). only_if (j == k) (only_if ((s.phase == 4) && b) 1)) (same_not s.limit (k + 1) ne) ∙ ap (λ (b : Bool). only_if (j == k) (only_if b 1)) (and_off (s.phase == 4)) ∙ zero_of (j == k) in
    omega arith))
    (λ idle.
    let now : counted_on j (lent before done (has_limit s.limit (k ∷ limits)) s) ≡ 0 = ap (counted_on j) (lent_idle before done (has_limit s.limit (k ∷ limits)) s idle) in
    let was : counted_on j (lent before done (has_limit s.limit limits) s) ≡ 0 = ap (counted_on j) (lent_idle before done (has_limit s.limit limits) s idle) in
    let third : only_if (j == k) (only_if ((s.phase == 4) && (s.limit == k + 1)) 1) ≡ 0 =
    ap (λ (b : Bool). only_if (j == k) (only_if (b && (s.limit == k + 1)) 1)) (same_not s.phase 4 idle) ∙ zero_of (j == k) in
    omega arith)
  where
    next_one : (m n : ℕ) → (m + 1 == n + 1) ≡ (n == m)
    next_one m n = grind (arith, nat_tests)

none_burst : (n : ℕ) → burst_at empty_farm n ≡ 0
unfolding burst_at
none_burst n = refl

none_most : (n : ℕ) → most_at empty_farm n ≡ 0
unfolding most_at
none_most n = refl

-- a limit's number and its code
has_same : (k : ℕ) (l : List ℕ) → has k l ≡ has_limit (k + 1) l
has_same k [] = refl
has_same k (x ∷ xs) = let e : (x == k) ≡ (k + 1 == x + 1) = grind (arith, nat_tests) in λ i. e i || has_same k xs i

-- ---- all that is kept, of a subscription

module _ (n : ℕ) (W : Words) (views : List View) (id : ℕ) (v : View) (d : Desk) (k : ℕ) (item : Noted) (K : Kept n W views) (at : get_elem? views id ≡ some v) (is : v.desk ≡ Some d)
    (lt : k < 1024) (first : FirstSub v d k) where
  abbrev was : Recorded
  was = recorded_in v.opening v.journal d

  abbrev D : Desk
  D = record d { subs = k ∷ d.subs }

  abbrev now : Recorded
  now = recorded_in v.opening v.journal D

  abbrev used : ℕ
  used = sum_to 65536 (λ n. sub_uses (farm_in v) k (stand_at (farm_in v) n))

  adds : (j : ℕ) → sum_to 65536 (λ n. billed_on was.alloc j (now.billed n)) ≡ sum_to 65536 (λ n. billed_on was.alloc j (was.billed n)) + only_if (j == k) used
  adds j =
      let old : ℕ → ℕ = (λ n. billed_on was.alloc j (was.billed n)) in
      let one : ℕ → ℕ = λ n. only_if (j == k) (sub_uses (farm_in v) k (stand_at (farm_in v) n)) in
      let each = sum_to-same 65536 (λ n. old n + one n) (λ n. billed_on was.alloc j (now.billed n))
      (λ n _. (let s = stand_at (farm_in v) n in
      bill_more d.before (has n d.slots) k j d.subs was.alloc (has s.host d.hosts) s (sub_of s.show (host_alloc (farm_in v) s.host)) first.opening (ap (has n) first.slots) first.undone
      (λ runs. (
        first.hosts n runs,
        ap (λ (b : Bool). sub_of s.show (if b then host_alloc (farm_in v) s.host else host_alloc (farm_before v.opening d.before) s.host)) (first.hosts n runs),
      )))) in
      each ∙ sum_to-plus 65536 old one ∙ ap (λ (x : ℕ). sum_to 65536 old + x) (sum_to-pick 65536 (j == k) (λ n. sub_uses (farm_in v) k (stand_at (farm_in v) n)))

  abbrev counted_word : SubWord
  counted_word = record { burst = burst_at (farm_in v) k; booked = (W.sub k).booked + used }

  -- its cap is 0 yet
  pub burst_none : was.burst k ≡ 0
  burst_none = (λ i. if first.undone i then burst_at (farm_in v) k else burst_at (farm_before v.opening (first.opening i)) k) ∙ none_burst k

  pub burst_placed : sum_of (granted_of was.alloc k) was W views + used ≤ 4096000000 → item.word ≡ sub_place k → (item.did == 14) ≡ false
      → Kept n (with_sub W k counted_word) (set views id (burst_set v k item))
  burst_placed bound place other =
      let w = burst_set v k item in
      let A = of_first n W views id v d K at is in
      let m = A.seats.each id v at in
      let b = burst_at (farm_in v) k in
      let alike : HoldsAlike v w = record { rooms = record { rooms = refl }; takes = record { takes = refl; ungranted = refl }; limits = record { limits = refl; ungranted = refl }; claims = refl } in
      let rule = bills was d.pending W views id v w k b used now.billed A.rule at lt alike adds bound in
      let next : Recorded = record was { burst = put was.burst k b; billed = now.billed } in
      let same : next ≡ now = (λ i. record {
        slot = was.slot;
        cores = was.cores;
        memory = was.memory;
        alloc = was.alloc;
        burst = λ j. done_by burst_at (farm_before v.opening d.before) (farm_in v) d.subs k j i;
        most = was.most;
        roomed = was.roomed;
        billed = now.billed;
        counted = now.counted;
      }) in
      let far : (item.word ≡ 0) ⊎ (131073 ≤ item.word) = inr (omega arith) in
      record {
        seat = id;
        opening = v.opening;
        desk = D;
        log = v.journal;
        trail = v.trail ++ item ∷ [];
        own = record {
          journal = A.journal;
          begins = A.begins;
          legal = A.legal;
          before = A.before;
          alone = A.alone;
          ahead = A.ahead;
          rule = subst (λ (x : Recorded). Rule x d.pending (with_sub W k counted_word) (set views id w)) same rule;
          suited = suited_set (farm_of v.opening) v.journal views id w A.suited (A.suited.each id v at);
          looks = looks_set was.slot views id w A.looks (all_stand was.slot v.trail item (A.looks.each id v at) (tells_nothing was.slot item far));
          ranged = ranged_step W.frame W.amount views W.frame id v w item A.ranged at refl (found_finds W item (inr (inr far))) (λ slot. refl) (λ slot. refl);
          written = written_more W.amount v.trail item A.written other;
          resizing = resizing_desk was.cores was.memory (run_of (farm_of v.opening) v.journal) W.host W.frame views id v w D A.resizing at (ap (with_sub_done k) is);
          seats = subst (λ (l : List Entry). Seats id v.opening D l (v.trail ++ item ∷ []) (set views id w)) (append-nil v.journal)
              (desk_steps id v.opening d D v.journal [] v.trail (item ∷ []) views id v w [] A.seats at is (ap (with_sub_done k) is) refl refl refl (sym (append-nil v.journal)) refl refl refl refl
              m.flight m.limit_flight (sym (append-nil v.receipts)) (inl refl));
        };
      }

-- ---- all that is kept, of a limit

module _ (n : ℕ) (W : Words) (views : List View) (id : ℕ) (v : View) (d : Desk) (k : ℕ) (item : Noted) (K : Kept n W views) (at : get_elem? views id ≡ some v) (is : v.desk ≡ Some d)
    (lt : k < 255) (first : FirstLimit v d k) where
  abbrev was_counts : Recorded
  was_counts = recorded_in v.opening v.journal d

  abbrev counts_desk : Desk
  counts_desk = record d { limits = k ∷ d.limits }

  abbrev now_counts : Recorded
  now_counts = recorded_in v.opening v.journal counts_desk

  abbrev places_used : ℕ
  places_used = sum_to 65536 (λ n. limit_uses k (stand_at (farm_in v) n))

  adds_counts : (j : ℕ) → sum_to 65536 (λ n. counted_on j (now_counts.counted n)) ≡ sum_to 65536 (λ n. counted_on j (was_counts.counted n)) + only_if (j == k) places_used
  adds_counts j =
      let old : ℕ → ℕ = (λ n. counted_on j (was_counts.counted n)) in
      let one : ℕ → ℕ = λ n. only_if (j == k) (limit_uses k (stand_at (farm_in v) n)) in
      let each = sum_to-same 65536 (λ n. old n + one n) (λ n. counted_on j (now_counts.counted n))
      (λ n _. count_more d.before (has n d.slots) k j d.limits (stand_at (farm_in v) n) first.opening (ap (has n) first.slots) first.undone) in
      each ∙ sum_to-plus 65536 old one ∙ ap (λ (x : ℕ). sum_to 65536 old + x) (sum_to-pick 65536 (j == k) (λ n. limit_uses k (stand_at (farm_in v) n)))

  abbrev most_word : LimitWord
  most_word = record { most = most_at (farm_in v) k; running = (W.limit k).running + places_used }

  -- its cap is 0 yet
  pub most_none : was_counts.most k ≡ 0
  most_none = undone_most d.limits first.undone
    where
      undone_most : (l : List ℕ) → has_limit (k + 1) l ≡ false → (if has k l then most_at (farm_in v) k else most_at (farm_before v.opening d.before) k) ≡ 0
      undone_most l off =
          ap (λ (b : Bool). if b then most_at (farm_in v) k else most_at (farm_before v.opening d.before) k) (has_same k l ∙ off)
          ∙ ((λ i. most_at (farm_before v.opening (first.opening i)) k) ∙ none_most k)

  pub most_placed : sum_of (counted_of k) was_counts W views + places_used ≤ 65536 → item.word ≡ limit_place k → (item.did == 14) ≡ false
      → Kept n (with_limit W k most_word) (set views id (most_set v k item))
  most_placed bound place other =
      let w = most_set v k item in
      let A = of_first n W views id v d K at is in
      let m = A.seats.each id v at in
      let b = most_at (farm_in v) k in
      let alike : HoldsAlike v w = record { rooms = record { rooms = refl }; takes = record { takes = refl; ungranted = refl }; limits = record { limits = refl; ungranted = refl }; claims = refl } in
      let rule = counts was_counts d.pending W views id v w k b places_used now_counts.counted A.rule at lt alike adds_counts bound in
      let next : Recorded = record was_counts { most = put was_counts.most k b; counted = now_counts.counted } in
      let same : next ≡ now_counts = (λ i. record {
        slot = was_counts.slot;
        cores = was_counts.cores;
        memory = was_counts.memory;
        alloc = was_counts.alloc;
        burst = was_counts.burst;
        most = λ j. done_by most_at (farm_before v.opening d.before) (farm_in v) d.limits k j i;
        roomed = was_counts.roomed;
        billed = now_counts.billed;
        counted = now_counts.counted;
      }) in
      let far : (item.word ≡ 0) ⊎ (131073 ≤ item.word) = inr (omega arith) in
      record {
        seat = id;
        opening = v.opening;
        desk = counts_desk;
        log = v.journal;
        trail = v.trail ++ item ∷ [];
        own = record {
          journal = A.journal;
          begins = A.begins;
          legal = A.legal;
          before = A.before;
          alone = A.alone;
          ahead = A.ahead;
          rule = subst (λ (x : Recorded). Rule x d.pending (with_limit W k most_word) (set views id w)) same rule;
          suited = suited_set (farm_of v.opening) v.journal views id w A.suited (A.suited.each id v at);
          looks = looks_set was_counts.slot views id w A.looks (all_stand was_counts.slot v.trail item (A.looks.each id v at) (tells_nothing was_counts.slot item far));
          ranged = ranged_step W.frame W.amount views W.frame id v w item A.ranged at refl (found_finds W item (inr (inr far))) (λ slot. refl) (λ slot. refl);
          written = written_more W.amount v.trail item A.written other;
          resizing = resizing_desk was_counts.cores was_counts.memory (run_of (farm_of v.opening) v.journal) W.host W.frame views id v w counts_desk A.resizing at (ap (with_limit_done k) is);
          seats = subst (λ (l : List Entry). Seats id v.opening counts_desk l (v.trail ++ item ∷ []) (set views id w)) (append-nil v.journal)
              (desk_steps id v.opening d counts_desk v.journal [] v.trail (item ∷ []) views id v w [] A.seats at is (ap (with_limit_done k) is) refl refl refl (sym (append-nil v.journal)) refl refl refl refl
              m.flight m.limit_flight (sym (append-nil v.receipts)) (inl refl));
        };
      }
