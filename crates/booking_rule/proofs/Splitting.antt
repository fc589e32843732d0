-- A seat more: the recorder's seat gives the next number to a view that holds nothing.
use Rattle.std.proofs.Common.{◌≡◌, ◌≢◌, ℕ, zero, suc, ◌+◌, ◌<◌, ◌≤◌, max, Bool, true, false, if◌then◌else◌, ◌==◌, List, [], ◌∷◌, ◌++◌, length, set, sym, refl, ap, ◌∙◌, subst, arith, ⊎_elim, length-set}
use Rattle.std.specs.Prelude.{Option, Some, None}
use Rattle.std.proofs.lemmas.List.{append-nil}
use Rattle.std.proofs.lemmas.Bool.Decides.{nat_tests}
use mathlib.Core.Option.{some}
use lib.ListN.{get_elem?}
use Rattle.atomic_table.specs.Table.{Splits}
use Rattle.atomic_table.proofs.Lists.{at_set}
use Rattle.farm_types.specs.declared.entry.Entry.{Entry}
use Rattle.farm_types.specs.Run.{run_of}
use Rattle.booking_rule.specs.declared.view.View.{View}
use Rattle.booking_rule.specs.declared.desk.Desk.{Desk}
use Rattle.booking_rule.specs.declared.noted.Noted.{Noted}
use Rattle.booking_rule.specs.declared.opening.Opening.{Opening}
use Rattle.booking_rule.specs.Totals.{total}
use Rattle.booking_rule.specs.Words.{Words, words_of}
use Rattle.booking_rule.specs.Link.{farm_of, recorded_in}
use Rattle.booking_rule.specs.Rule.{in_flight, limit_in_flight}
use Rattle.booking_rule.specs.Seats.{seats, is_place, receipts_at, HoldsNone, Fits, Seats}
use Rattle.booking_rule.specs.Kept.{Kept, Holds}
use Rattle.booking_rule.specs.Splits.{one_split, desk_split, next_number, one_more, numbered, MaySplit}
use Rattle.booking_rule.proofs.Sums.{at_more, total_set, total_snoc}
use Rattle.booking_rule.proofs.Moves.{HoldsAlike, rule_view, rule_more}
use Rattle.booking_rule.proofs.Own.{of_first}
use Rattle.booking_rule.proofs.Seeing.{suited_set, suited_more, looks_set, looks_more, ranged_same, ranged_more}
use Rattle.booking_rule.proofs.Resizing.{resizing_desk, resizing_more}

abbrev unsplit : ℕ → ℕ
unsplit n = if n == 0 then 1 else 0

splits_seats : (seat : ℕ) (o : Opening) (d : Desk) (log : List Entry) (trail : List Noted) (views : List View) (id : ℕ) (v : View) → Seats seat o d log trail views → get_elem? views id ≡ some v → v.desk ≡ Some d → v.ungranted ≡ None → v.ungranted_limit ≡ None → d.split < 64
    → Seats seat o (one_split d) log trail (set views id (one_more v) ++ numbered v ∷ [])
splits_seats seat o d log trail views id v S at is flies limit_flies more =
    let w = one_more v in
    let u = numbered v in
    let D = one_split d in
    let m = S.each id v at in
    let first = m.first d is in
    let now : w.desk ≡ Some D = ap desk_split is in
    let next : next_number v.desk ≡ d.split = ap next_number is in
    let before : seats v ≡ (if d.split == 0 then 1 else 0) + Rattle.booking_rule.specs.Seats.number_seats v.number = ap (λ (x : Option Desk). Rattle.booking_rule.specs.Seats.desk_seats x + Rattle.booking_rule.specs.Seats.number_seats v.number) is in
    let after : seats w ≡ (if d.split + 1 == 0 then 1 else 0) + Rattle.booking_rule.specs.Seats.number_seats v.number = ap (λ (x : Option Desk). Rattle.booking_rule.specs.Seats.desk_seats x + Rattle.booking_rule.specs.Seats.number_seats v.number) now in
    let names : ℕ → ℕ = (λ n. if n == d.split then length views else S.names n) in
    let receipts : (place : ℕ) → total (receipts_at place) (set views id w ++ u ∷ []) ≡ total (receipts_at place) views = (λ place.
    let t = total_set (receipts_at place) views id v w at in let s = total_snoc (receipts_at place) (set views id w) u in omega arith) in
    let as_before : (j : ℕ) (x : View) → Fits seat o d log trail S.names j x → ((y : Desk) → x.desk ≡ Some y → ⊥) → Fits seat o D log trail names j x = (λ j x f none. record {
      first = λ y h. absurd (none y h);
      number = λ n h. (let q = f.number n h in (omega (arith, q.0), ap (λ (b : Bool). if b then length views else S.names n) (apart n d.split q.0) ∙ q.1));
      prefix = f.prefix;
      told = f.told;
      desk_trail = f.desk_trail;
      told_trail = f.told_trail;
      same = f.same;
      flight = f.flight;
      limit_flight = f.limit_flight;
      idle = f.idle;
    }) in
    record {
      names = names;
      split = omega (arith, more);
      allowed = (let t = total_set seats views id v w at in let s = total_snoc seats (set views id w) u in let a = S.allowed in counts d.split (total seats views) (total seats (set views id w ++ u ∷ [])) (Rattle.booking_rule.specs.Seats.number_seats v.number) a (omega arith));
      one_receipt = λ place. (let r = receipts place in let q = S.one_receipt place in omega arith);
      receipts_within = λ place past. (let r = receipts place in let q = S.receipts_within place past in omega arith);
      each = λ j x t. ⊎_elim
          (λ (h : get_elem? (set views id w) j ≡ some x). ⊎_elim
          (λ (y : (j ≡ id) × (w ≡ x)). subst (λ (z : View). Fits seat o D log trail names j z) y.1 (record {
            first = λ z q. (y.0 ∙ first.0, cc (now, q), first.2, first.3);
            number = λ n q. (let r = m.number n q in (omega (arith, r.0), ap (λ (b : Bool). if b then length views else S.names n) (apart n d.split r.0) ∙ r.1 ∙ sym y.0));
            prefix = m.prefix;
            told = m.told;
            desk_trail = m.desk_trail;
            told_trail = m.told_trail;
            same = λ _. m.same (λ (x : (v.desk ≡ None) × (v.number ≡ None)). off d (sym x.0 ∙ is));
            flight = λ sub. (let z : in_flight sub v.ungranted ≡ 0 = ap (in_flight sub) flies in omega arith);
            limit_flight = λ l. (let z : limit_in_flight l v.ungranted_limit ≡ 0 = ap (limit_in_flight l) limit_flies in omega arith);
            idle = λ no _. absurd (off D (sym no ∙ now));
          }))
          (λ (y : (j ≢ id) × (get_elem? views j ≡ some x)). let f = S.each j x y.1 in as_before j x f (λ z h. y.0 ((f.first z h).0 ∙ sym first.0)))
          (at_set views id j w x h))
          (λ (h : (j ≡ length (set views id w)) × (u ≡ x)). subst (λ (z : View). Fits seat o D log trail names j z) h.1 (record {
            first = λ z q. absurd (off z q);
            number = λ n q. (let e : n ≡ d.split = some_same (next_number v.desk) n q ∙ next in (omega (arith, e), ap (λ (b : Bool). if b then length views else S.names n) (same n d.split e) ∙ sym (h.0 ∙ length-set views id w)));
            prefix = m.prefix;
            told = (log, refl);
            desk_trail = ([], append-nil v.trail ∙ first.3);
            told_trail = (trail, refl);
            same = λ _. m.same (λ (x : (v.desk ≡ None) × (v.number ≡ None)). off d (sym x.0 ∙ is));
            flight = λ sub. omega arith;
            limit_flight = λ l. omega arith;
            idle = λ _ _. record { takes = refl; limits = refl; rooms = refl; claims = refl };
          }))
          (at_more (set views id w) u x j t);
    }
  where
    off : (D : Desk) → None ≡ Some D → ⊥
    off D e = cc

    some_same : (a n : ℕ) → Some a ≡ Some n → n ≡ a
    some_same a n e = cc

    apart : (n m : ℕ) → n < m → (n == m) ≡ false
    apart n m lt = grind (arith, nat_tests)

    same : (n m : ℕ) → n ≡ m → (n == m) ≡ true
    same n m e = grind (arith, nat_tests)

    positive : (n : ℕ) → 0 < n → (n == 0) ≡ false
    positive n lt = grind (arith, nat_tests)

    was_split : (n : ℕ) → 0 < n → unsplit n ≡ 0
    was_split n lt = ap (λ (b : Bool). if b then 1 else 0) (positive n lt)

    most : (n : ℕ) → 1 ≤ n → max 1 n ≡ n
    most n h = omega arith

    counts : (split old new number : ℕ) → old ≡ max 1 split → new + (unsplit split + number) ≡ old + (unsplit (split + 1) + number) + 1 → new ≡ max 1 (split + 1)
    counts zero old new number a e = omega arith
    counts (suc split) old new number a e =
        let x : unsplit (suc split) ≡ 0 = was_split (suc split) (omega arith) in
        let y : unsplit (suc split + 1) ≡ 0 = was_split (suc split + 1) (omega arith) in
        let m : max 1 (suc split) ≡ suc split = most (suc split) (omega arith) in
        let q : max 1 (suc split + 1) ≡ suc split + 1 = most (suc split + 1) (omega arith) in omega arith

alike_more : (v : View) → HoldsAlike v (one_more v)
alike_more v = record { rooms = record { rooms = refl }; takes = record { takes = refl; ungranted = refl }; limits = record { limits = refl; ungranted = refl }; claims = refl }

pub splits_kept : (n : ℕ) (W : Words) (views : List View) (id : ℕ) (v : View) (d : Desk) → Kept n W views → get_elem? views id ≡ some v → v.desk ≡ Some d → v.ungranted ≡ None → v.ungranted_limit ≡ None → d.split < 64 → d.before ≢ None
    → Kept n W (set views id (one_more v) ++ numbered v ∷ [])
splits_kept n W views id v d K at is flies limit_flies more placed =
    let A = of_first n W views id v d K at is in
    record {
      seat = id;
      opening = v.opening;
      desk = one_split d;
      log = v.journal;
      trail = v.trail;
      own = record {
        journal = A.journal;
        begins = A.begins;
        legal = A.legal;
        before = A.before;
        alone = λ e. absurd (placed e);
        ahead = A.ahead;
        rule = rule_more (recorded_in v.opening v.journal d) d.pending W (set views id (one_more v)) (numbered v) (rule_view (recorded_in v.opening v.journal d) d.pending W views id v (one_more v) A.rule at (alike_more v)) (record { takes = refl; limits = refl; rooms = refl; claims = refl }) refl refl;
        suited = suited_more (farm_of v.opening) v.journal (set views id (one_more v)) (numbered v) (suited_set (farm_of v.opening) v.journal views id (one_more v) A.suited (A.suited.each id v at)) tt;
        looks = looks_more (recorded_in v.opening v.journal d).slot (set views id (one_more v)) (numbered v) (looks_set (recorded_in v.opening v.journal d).slot views id (one_more v) A.looks (A.looks.each id v at)) tt;
        ranged = ranged_more W.frame W.amount (set views id (one_more v)) (numbered v) refl (ranged_same W.frame W.amount views id v (one_more v) A.ranged at refl);
        written = A.written;
        resizing = resizing_more (recorded_in v.opening v.journal d).cores (recorded_in v.opening v.journal d).memory (run_of (farm_of v.opening) v.journal) W.host W.frame (set views id (one_more v)) (numbered v)
            (resizing_desk (recorded_in v.opening v.journal d).cores (recorded_in v.opening v.journal d).memory (run_of (farm_of v.opening) v.journal) W.host W.frame views id v (one_more v) (one_split d) A.resizing at (ap desk_split is)) refl;
        seats = splits_seats id v.opening d v.journal v.trail views id v A.seats at is flies limit_flies more;
      };
    }

pub allows_split : (id : ℕ) (v : View) → MaySplit v → Splits Holds id v (one_more v) (numbered v)
allows_split id v may s h at = (h.0, splits_kept (Rattle.std.specs.Prelude.slice_index s.words 0) (words_of s.words) s.views id v may.0 h.1 at may.1 may.2 may.3 may.4 may.5)
