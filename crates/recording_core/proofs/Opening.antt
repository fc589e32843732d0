-- The recorder begins to place a farm: its journal starts from that farm, of which no word was changed yet.
use Rattle.std.proofs.Common.{◌≡◌, ◌≢◌, ℕ, zero, suc, ◌+◌, List, [], ◌∷◌, length, set, slice_index, sym, refl, ap, ◌∙◌, subst, arith, inl, inr, ⊎_elim}
use Rattle.std.specs.Prelude.{Option, Some, None}
use mathlib.Core.List.{IsPrefix}
use mathlib.Core.Option.{some}
use lib.ListN.{get_elem?}
use Rattle.atomic_table.proofs.Lists.{at_set}
use Rattle.farm_types.specs.declared.entry.Entry.{Entry}
use Rattle.farm_types.specs.Farm.{Farm, empty_farm}
use Rattle.farm_types.specs.Kept.{IsKeptFarm}
use Rattle.farm_types.specs.Run.{run_of}
use Rattle.booking_rule.specs.declared.desk.Desk.{Desk}
use Rattle.booking_rule.specs.declared.hold.Claim.{Claim}
use Rattle.booking_rule.specs.declared.noted.Noted.{Noted}
use Rattle.booking_rule.specs.declared.opening.Opening.{Opening}
use Rattle.booking_rule.specs.declared.view.View.{View}
use Rattle.booking_rule.specs.Words.{Words, words_of}
use Rattle.booking_rule.specs.Recorded.{Recorded}
use Rattle.booking_rule.specs.Link.{farm_of, opening_of, recorded_in, stand_at, host_cores, host_memory, host_alloc, burst_at, most_at, IsDone, hosted, is_billed, is_counted}
use Rattle.booking_rule.specs.Rule.{Rule}
use Rattle.booking_rule.specs.Looks.{Looks}
use Rattle.booking_rule.specs.Seats.{desk_seats, number_seats, seats, receipts_at, Fits, Seats}
use Rattle.booking_rule.specs.Splits.{look_at}
use Rattle.booking_rule.specs.Suits.{AllSuit}
use Rattle.booking_rule.specs.Views.{noted}
use Rattle.booking_rule.specs.Kept.{Kept, Holds, farm_in}
use Rattle.booking_rule.proofs.Sums.{total_set}
use Rattle.booking_rule.proofs.Moves.{rule_view}
use Rattle.booking_rule.proofs.Own.{of_first, set_here}
use Rattle.booking_rule.proofs.Seating.{none_some}
use Rattle.booking_rule.proofs.SeatSteps.{load_kept}
use Rattle.booking_rule.proofs.Seeing.{looks_set, ranged_same}
use Rattle.booking_rule.proofs.Lending.{done_lends}
use Rattle.booking_core.specs.Machine.{Table}
use Rattle.booking_core.proofs.Agreeing.{same_holds}
use Rattle.recording_core.specs.Records.{desk_opened, with_opening, opened}
use Rattle.recording_core.specs.Records.RecorderKind.{opens}
use Rattle.recording_core.specs.Machine.{Asks, acts}
use Rattle.recording_core.proofs.Confirming.{desk_seated}

none_of : {X : Type 0} (x : Option X) → ((y : X) → x ≡ Some y → ⊥) → x ≡ None
none_of None h = refl
none_of (Some y) h = absurd (h y refl)

set_twice : {A : Type 0} (l : List A) (i : ℕ) (a b : A) → set (set l i a) i b ≡ set l i b
set_twice [] i a b = refl
set_twice (x ∷ xs) zero a b = refl
set_twice {A = A} (x ∷ xs) (suc i) a b = ap (λ (l : List A). x ∷ l) (set_twice xs i a b)

no_cores : (n : ℕ) → host_cores empty_farm n ≡ 0
unfolding host_cores
no_cores n = refl

-- ---- seats: none has a number, so the others are notes and what is left of notes

module _ (id : ℕ) (o : Opening) (d : Desk) (log : List Entry) (trail : List Noted) (views : List View) (v : View) (f : Farm) (S : Seats id o d log trail views) (at : get_elem? views id ≡ some v)
    (is : v.desk ≡ Some d) (empty : log ≡ []) (unsplit : d.split ≡ 0) where
  abbrev w : View
  w = with_opening v f

  abbrev D : Desk
  D = record d { before = None; slots = []; hosts = []; subs = []; limits = [] }

  no_desk : (j : ℕ) (u : View) → j ≢ id → get_elem? views j ≡ some u → u.desk ≡ None
  no_desk j u ne t = none_of u.desk (λ y h. ne ((S.each j u t).first y h).0)

  no_number : (j : ℕ) (u : View) → get_elem? views j ≡ some u → u.number ≡ None
  no_number j u t = none_of u.number (λ n h. let q = (S.each j u t).number n h in absurd (omega (arith, q.0, unsplit)))

  opened_seats : Seats id (opening_of f) D [] trail (set views id w)
  opened_seats =
      let now : w.desk ≡ Some D = ap desk_opened is in
      let m = S.each id v at in
      let first = m.first d is in
      let same_seats : seats w ≡ seats v = ap (λ (x : Option Desk). desk_seats x + number_seats v.number) now ∙ sym (ap (λ (x : Option Desk). desk_seats x + number_seats v.number) is) in
      record {
        names = S.names;
        split = S.split;
        allowed = (let t = total_set seats views id v w at in let a = S.allowed in omega arith);
        one_receipt = λ place. (let t = total_set (receipts_at place) views id v w at in let q = S.one_receipt place in omega arith);
        receipts_within = λ place past. (let t = total_set (receipts_at place) views id v w at in let z : length log ≡ 0 = ap length empty in
            let q = S.receipts_within place (omega arith) in omega arith);
        each = λ j u t. ⊎_elim
            (λ (x : (j ≡ id) × (w ≡ u)). subst (λ (y : View). Fits id (opening_of f) D [] trail S.names j y) x.1 (record {
              first = λ y h. (x.0, cc (now, h), first.2 ∙ empty, first.3);
              number = λ n h. (let q = m.number n h in (q.0, q.1 ∙ sym x.0));
              prefix = subst (λ (l : List Entry). IsPrefix v.journal l) empty m.prefix;
              told = subst (λ (l : List Entry). IsPrefix v.told l) empty m.told;
              desk_trail = m.desk_trail;
              told_trail = m.told_trail;
              same = λ _. refl;
              flight = λ sub. (let q = m.flight sub in omega arith);
              limit_flight = λ l. (let q = m.limit_flight l in omega arith);
              idle = λ none _. absurd (none_some D (sym none ∙ now));
            }))
            (λ (x : (j ≢ id) × (get_elem? views j ≡ some u)). let g = S.each j u x.1 in
            let none = no_desk j u x.0 x.1 in
            let no = no_number j u x.1 in record {
              first = λ y h. absurd (none_some y (sym none ∙ h));
              number = λ n h. absurd (let q = g.number n h in omega (arith, q.0, unsplit));
              prefix = subst (λ (l : List Entry). IsPrefix u.journal l) empty g.prefix;
              told = subst (λ (l : List Entry). IsPrefix u.told l) empty g.told;
              desk_trail = g.desk_trail;
              told_trail = g.told_trail;
              same = λ seated. absurd (seated (none, no));
              flight = g.flight;
              limit_flight = g.limit_flight;
              idle = g.idle;
            })
            (at_set views id j w u t);
      }

-- ---- all that is kept

opens_kept : (n : ℕ) (W : Words) (views : List View) (id : ℕ) (v : View) (d : Desk) (f : Farm) (K : Kept n W views) → get_elem? views id ≡ some v → v.desk ≡ Some d → IsDone v.opening v.journal d
    → d.split ≡ 0 → v.journal ≡ [] → v.opening ≡ opening_of empty_farm → v.claims ≡ [] → IsKeptFarm f
    → Kept n W (set views id (with_opening v f))
opens_kept n W views id v d f K at is done unsplit empty of_empty claims kept =
    let w = with_opening v f in
    let A = of_first n W views id v d K at is in
    let D : Desk = record d { before = None; slots = []; hosts = []; subs = []; limits = [] } in
    let farm : run_of (farm_of v.opening) v.journal ≡ empty_farm = (λ i. run_of (farm_of (of_empty i)) (empty i)) in
    let R = recorded_in (opening_of f) [] D in
    let same : recorded_in v.opening v.journal d ≡ R = (λ i. record {
      slot = λ k. (done.slot k ∙ ap (λ (g : Farm). stand_at g k) farm) i;
      cores = λ k. (done.cores k ∙ ap (λ (g : Farm). host_cores g k) farm) i;
      memory = λ k. (done.memory k ∙ ap (λ (g : Farm). host_memory g k) farm) i;
      alloc = λ k. (done.alloc k ∙ ap (λ (g : Farm). host_alloc g k) farm) i;
      burst = λ k. (done.burst k ∙ ap (λ (g : Farm). burst_at g k) farm) i;
      most = λ k. (done.most k ∙ ap (λ (g : Farm). most_at g k) farm) i;
      roomed = λ k. done_lends v.opening v.journal d k (hosted d (stand_at (farm_in v) k)) (done.slot k) i;
      billed = λ k. done_lends v.opening v.journal d k (is_billed (farm_in v) d (stand_at (farm_in v) k)) (done.slot k) i;
      counted = λ k. done_lends v.opening v.journal d k (is_counted d (stand_at (farm_in v) k)) (done.slot k) i;
    }) in
    let rule : Rule R d.pending W views = subst (λ (x : Recorded). Rule x d.pending W views) same A.rule in
    let looks : Looks R.slot views = subst (λ (x : Recorded). Looks x.slot views) same A.looks in
    let none_suit : (cs : List Claim) → cs ≡ [] → AllSuit (farm_of (opening_of f)) [] cs = (λ cs e. subst (λ (l : List Claim). AllSuit (farm_of (opening_of f)) [] l) (sym e) tt) in
    record {
      seat = id;
      opening = opening_of f;
      desk = D;
      log = [];
      trail = v.trail;
      own = record {
        journal = A.journal ∙ ap length empty;
        begins = kept;
        legal = tt;
        before = refl;
        alone = λ _. unsplit;
        ahead = A.ahead;
        rule = rule_view R d.pending W views id v w rule at
            (record { rooms = record { rooms = refl }; takes = record { takes = refl; ungranted = refl }; limits = record { limits = refl; ungranted = refl }; claims = refl });
        suited = record {
          each = λ j x t. ⊎_elim
              (λ (y : (j ≡ id) × (w ≡ x)). none_suit x.claims (ap (λ (z : View). z.claims) (sym y.1) ∙ claims))
              (λ (y : (j ≢ id) × (get_elem? views j ≡ some x)). none_suit x.claims
              ((A.seats.each j x y.1).idle (no_desk id v.opening d v.journal v.trail views v f A.seats at is empty unsplit j x y.0 y.1)
              (no_number id v.opening d v.journal v.trail views v f A.seats at is empty unsplit j x y.1)).claims)
              (at_set views id j w x t);
        };
        looks = looks_set R.slot views id w looks (looks.each id v at);
        ranged = ranged_same W.frame W.amount views id v w A.ranged at refl;
        written = A.written;
        resizing = record { each = λ host lt resized. absurd (resized.0 (no_cores host)) };
        seats = opened_seats id v.opening d v.journal v.trail views v f A.seats at is empty unsplit;
      };
    }

-- ---- the step

module _ (s : Table) (id : ℕ) (v : View) (h : Holds s) (at : get_elem? s.views id ≡ some v) where
  pub opens_holds : (f : Farm) → Asks s v (opens f) → Holds (acts s id v (opens f))
  opens_holds f asks =
      let n = slice_index s.words 0 in
      let W = words_of s.words in
      let o = asks.0.0 in
      let d = o.0 in
      let is = o.1 in
      let item = look_at 0 n in
      let u = noted v item in
      let looked = load_kept n W s.views id v item h.1 at (desk_seated v d is) (inr (inr (inl refl))) refl in
      let kept = opens_kept n W (set s.views id u) id u d f looked (set_here s.views id v u at) is o.3 o.4 asks.0.1 asks.0.2 asks.0.3 asks.1 in
      same_holds s id 0 (opened v f n) h.0
      (subst (λ (l : List View). Kept n W l) (set_twice s.views id u (with_opening u f)) kept)
