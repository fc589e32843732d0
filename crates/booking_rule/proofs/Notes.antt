-- Notes: what a seat has seen, for another seat to take in.
use Rattle.std.proofs.Common.{◌≡◌, ◌≢◌, ℕ, ◌+◌, List, [], ◌∷◌, ◌++◌, length, set, slice_index, sym, refl, ◌∙◌, subst, arith, ⊎_elim}
use Rattle.std.specs.Prelude.{Option, Some, None}
use Rattle.std.proofs.lemmas.List.{append-nil}
use mathlib.Core.Option.{some}
use mathlib.Core.List.{IsPrefix}
use lib.ListN.{get_elem?}
use Rattle.atomic_table.specs.Table.{Splits, Joins}
use Rattle.atomic_table.proofs.Lists.{at_set}
use Rattle.farm_types.specs.declared.entry.Entry.{Entry}
use Rattle.farm_types.specs.Run.{run_of}
use Rattle.booking_rule.specs.declared.view.View.{View}
use Rattle.booking_rule.specs.declared.desk.Desk.{Desk}
use Rattle.booking_rule.specs.declared.noted.Noted.{Noted}
use Rattle.booking_rule.specs.declared.opening.Opening.{Opening}
use Rattle.booking_rule.specs.Totals.{total}
use Rattle.booking_rule.specs.Words.{Words, words_of}
use Rattle.booking_rule.specs.Link.{farm_of, recorded_in}
use Rattle.booking_rule.specs.Seats.{seats, is_place, receipts_at, HoldsNone, Fits, Seats}
use Rattle.booking_rule.specs.Kept.{Kept, Holds}
use Rattle.booking_rule.specs.Splits.{if_desk, without_receipts, note_of, blank, informed, IsNote}
use Rattle.booking_rule.proofs.Sums.{at_more, total_set, total_snoc}
use Rattle.booking_rule.proofs.Moves.{HoldsAlike, rule_view, rule_more}
use Rattle.booking_rule.proofs.Seating.{none_some, receipts_end}
use Rattle.booking_rule.proofs.Seeing.{suited_set, suited_more, looks_set, looks_more, ranged_same, ranged_none, ranged_more}
use Rattle.booking_rule.proofs.Resizing.{resizing_set, resizing_more}

-- ---- a note more

seen : (seat : ℕ) (o : Opening) (d : Desk) (log : List Entry) (trail : List Noted) (names : ℕ → ℕ) (id : ℕ) (v : View) → Fits seat o d log trail names id v → IsPrefix (if_desk v.desk v.trail v.desk_trail) trail
seen seat o d log trail names id v f = go v.desk refl
  where
    go : (x : Option Desk) → v.desk ≡ x → IsPrefix (if_desk x v.trail v.desk_trail) trail
    go (Some y) is = ([], append-nil v.trail ∙ (f.first y is).3)
    go None is = f.desk_trail

parted : (place : ℕ) (x : Option Desk) (rs : List ℕ) → total (is_place place) (if_desk x [] rs) + total (is_place place) (if_desk x rs []) ≡ total (is_place place) rs
parted place (Some d) rs = omega arith
parted place None rs = omega arith

notes_seats : (seat : ℕ) (o : Opening) (d : Desk) (log : List Entry) (trail : List Noted) (views : List View) (id : ℕ) (v : View) → Seats seat o d log trail views → get_elem? views id ≡ some v
    → Seats seat o d log trail (set views id (without_receipts v) ++ note_of v ∷ [])
notes_seats seat o d log trail views id v S at =
    let w = without_receipts v in
    let u = note_of v in
    let m = S.each id v at in
    let receipts : (place : ℕ) → total (receipts_at place) (set views id w ++ u ∷ []) ≡ total (receipts_at place) views = (λ place.
    let t = total_set (receipts_at place) views id v w at in let s = total_snoc (receipts_at place) (set views id w) u in let p = parted place v.desk v.receipts in omega arith) in
    record {
      names = S.names;
      split = S.split;
      allowed = (let t = total_set seats views id v w at in let s = total_snoc seats (set views id w) u in let a = S.allowed in omega arith);
      one_receipt = λ place. (let r = receipts place in let q = S.one_receipt place in omega arith);
      receipts_within = λ place past. (let r = receipts place in let q = S.receipts_within place past in omega arith);
      each = λ j x t. ⊎_elim
          (λ (h : get_elem? (set views id w) j ≡ some x). ⊎_elim
          (λ (y : (j ≡ id) × (w ≡ x)). subst (λ (z : View). Fits seat o d log trail S.names j z) y.1 (record {
            first = λ z q. (let f = m.first z q in (y.0 ∙ f.0, f.1, f.2, f.3));
            number = λ n q. (let r = m.number n q in (r.0, r.1 ∙ sym y.0));
            prefix = m.prefix;
            told = m.told;
            desk_trail = m.desk_trail;
            told_trail = m.told_trail;
            same = m.same;
            flight = m.flight;
            limit_flight = m.limit_flight;
            idle = λ a b. (let n = m.idle a b in record { takes = n.takes; limits = n.limits; rooms = n.rooms; claims = n.claims });
          }))
          (λ (y : (j ≢ id) × (get_elem? views j ≡ some x)). S.each j x y.1)
          (at_set views id j w x h))
          (λ (h : (j ≡ length (set views id w)) × (u ≡ x)). subst (λ (z : View). Fits seat o d log trail S.names j z) h.1 (record {
            first = λ z q. absurd (none_some z q);
            number = λ n q. absurd (no_number n q);
            prefix = m.prefix;
            told = (log, refl);
            desk_trail = seen seat o d log trail S.names id v m;
            told_trail = (trail, refl);
            same = λ seated. absurd (seated (refl, refl));
            flight = λ sub. omega arith;
            limit_flight = λ l. omega arith;
            idle = λ _ _. record { takes = refl; limits = refl; rooms = refl; claims = refl };
          }))
          (at_more (set views id w) u x j t);
    }
  where
    no_number : (n : ℕ) → None ≡ Some n → ⊥
    no_number n e = cc

alike_note : (v : View) → HoldsAlike v (without_receipts v)
alike_note v = record { rooms = record { rooms = refl }; takes = record { takes = refl; ungranted = refl }; limits = record { limits = refl; ungranted = refl }; claims = refl }

alike_told : (v u : View) → HoldsAlike v (informed v u)
alike_told v u = record { rooms = record { rooms = refl }; takes = record { takes = refl; ungranted = refl }; limits = record { limits = refl; ungranted = refl }; claims = refl }

pub notes_kept : (n : ℕ) (W : Words) (views : List View) (id : ℕ) (v : View) → Kept n W views → get_elem? views id ≡ some v → Kept n W (set views id (without_receipts v) ++ note_of v ∷ [])
notes_kept n W views id v K at =
    let A = K.own in
    let R = recorded_in K.opening K.log K.desk in
    record {
      seat = K.seat;
      opening = K.opening;
      desk = K.desk;
      log = K.log;
      trail = K.trail;
      own = record {
        journal = A.journal;
        begins = A.begins;
        legal = A.legal;
        before = A.before;
        alone = A.alone;
        ahead = A.ahead;
        rule = rule_more R K.desk.pending W (set views id (without_receipts v)) (note_of v) (rule_view R K.desk.pending W views id v (without_receipts v) A.rule at (alike_note v)) (record { takes = refl; limits = refl; rooms = refl; claims = refl }) refl refl;
        suited = suited_more (farm_of K.opening) K.log (set views id (without_receipts v)) (note_of v) (suited_set (farm_of K.opening) K.log views id (without_receipts v) A.suited (A.suited.each id v at)) tt;
        looks = looks_more R.slot (set views id (without_receipts v)) (note_of v) (looks_set R.slot views id (without_receipts v) A.looks (A.looks.each id v at)) tt;
        ranged = ranged_more W.frame W.amount (set views id (without_receipts v)) (note_of v) refl (ranged_same W.frame W.amount views id v (without_receipts v) A.ranged at refl);
        written = A.written;
        resizing = resizing_more (recorded_in K.opening K.log K.desk).cores (recorded_in K.opening K.log K.desk).memory (run_of (farm_of K.opening) K.log) W.host W.frame (set views id (without_receipts v)) (note_of v)
            (resizing_set (recorded_in K.opening K.log K.desk).cores (recorded_in K.opening K.log K.desk).memory (run_of (farm_of K.opening) K.log) W.host W.frame views id v (without_receipts v) A.resizing at (λ none. (none, refl))) refl;
        seats = notes_seats K.seat K.opening K.desk K.log K.trail views id v A.seats at;
      };
    }

pub allows_note : (id : ℕ) (v : View) → Splits Holds id v (without_receipts v) (note_of v)
allows_note id v s h at = (h.0, notes_kept (slice_index s.words 0) (words_of s.words) s.views id v h.1 at)

-- ---- a note is taken in

joins_seats : (seat : ℕ) (o : Opening) (d : Desk) (log : List Entry) (trail : List Noted) (views : List View) (id : ℕ) (v : View) (other : ℕ) (u : View) → Seats seat o d log trail views → get_elem? views id ≡ some v → other ≢ id → get_elem? views other ≡ some u
    → get_elem? (set views id (informed v u)) other ≡ some u → IsNote u
    → Seats seat o d log trail (set (set views id (informed v u)) other blank)
joins_seats seat o d log trail views id v other u S at ne there still note =
    let w = informed v u in
    let m = S.each id v at in
    let l = S.each other u there in
    let seats_u : seats u ≡ 0 = (λ i. Rattle.booking_rule.specs.Seats.desk_seats (note.0 i) + Rattle.booking_rule.specs.Seats.number_seats (note.1 i)) in
    let receipts : (place : ℕ) → total (receipts_at place) (set (set views id w) other blank) ≡ total (receipts_at place) views = (λ place.
    let t = total_set (receipts_at place) views id v w at in let s = total_set (receipts_at place) (set views id w) other u blank still in let p = receipts_end place v.receipts u.receipts in omega arith) in
    record {
      names = S.names;
      split = S.split;
      allowed = (let t = total_set seats views id v w at in let s = total_set seats (set views id w) other u blank still in let a = S.allowed in omega arith);
      one_receipt = λ place. (let r = receipts place in let q = S.one_receipt place in omega arith);
      receipts_within = λ place past. (let r = receipts place in let q = S.receipts_within place past in omega arith);
      each = λ j x t. ⊎_elim
          (λ (y : (j ≡ other) × (blank ≡ x)). subst (λ (z : View). Fits seat o d log trail S.names j z) y.1 (record {
            first = λ z q. absurd (none_some z q);
            number = λ n q. absurd (no_number n q);
            prefix = (log, refl);
            told = (log, refl);
            desk_trail = (trail, refl);
            told_trail = (trail, refl);
            same = λ seated. absurd (seated (refl, refl));
            flight = λ sub. omega arith;
            limit_flight = λ l. omega arith;
            idle = λ _ _. record { takes = refl; limits = refl; rooms = refl; claims = refl };
          }))
          (λ (h : (j ≢ other) × (get_elem? (set views id w) j ≡ some x)). ⊎_elim
          (λ (y : (j ≡ id) × (w ≡ x)). subst (λ (z : View). Fits seat o d log trail S.names j z) y.1 (record {
            first = λ z q. (let f = m.first z q in (y.0 ∙ f.0, f.1, f.2, f.3));
            number = λ n q. (let r = m.number n q in (r.0, r.1 ∙ sym y.0));
            prefix = m.prefix;
            told = l.prefix;
            desk_trail = m.desk_trail;
            told_trail = l.desk_trail;
            same = m.same;
            flight = m.flight;
            limit_flight = m.limit_flight;
            idle = λ a b. (let n = m.idle a b in record { takes = n.takes; limits = n.limits; rooms = n.rooms; claims = n.claims });
          }))
          (λ (y : (j ≢ id) × (get_elem? views j ≡ some x)). S.each j x y.1)
          (at_set views id j w x h.1))
          (at_set (set views id w) other j blank x t);
    }
  where
    no_number : (n : ℕ) → None ≡ Some n → ⊥
    no_number n e = cc

pub joins_kept : (n : ℕ) (W : Words) (views : List View) (id : ℕ) (v : View) (other : ℕ) (u : View) → Kept n W views → get_elem? views id ≡ some v → other ≢ id → get_elem? (set views id (informed v u)) other ≡ some u → IsNote u
    → Kept n W (set (set views id (informed v u)) other blank)
joins_kept n W views id v other u K at ne still note =
    let A = K.own in
    let w = informed v u in
    let R = recorded_in K.opening K.log K.desk in
    let there : get_elem? views other ≡ some u = ⊎_elim (λ (y : (other ≡ id) × (w ≡ u)). absurd (ne y.0)) (λ (y : (other ≢ id) × (get_elem? views other ≡ some u)). y.1) (at_set views id other w u still) in
    let none = (A.seats.each other u there).idle note.0 note.1 in
    record {
      seat = K.seat;
      opening = K.opening;
      desk = K.desk;
      log = K.log;
      trail = K.trail;
      own = record {
        journal = A.journal;
        begins = A.begins;
        legal = A.legal;
        before = A.before;
        alone = A.alone;
        ahead = A.ahead;
        rule = rule_view R K.desk.pending W (set views id w) other u blank (rule_view R K.desk.pending W views id v w A.rule at (alike_told v u)) still (record {
          rooms = record { rooms = sym none.rooms };
          takes = record { takes = sym none.takes; ungranted = sym note.2 };
          limits = record { limits = sym none.limits; ungranted = sym note.3 };
          claims = sym none.claims;
        });
        suited = suited_set (farm_of K.opening) K.log (set views id w) other blank (suited_set (farm_of K.opening) K.log views id w A.suited (A.suited.each id v at)) tt;
        looks = looks_set R.slot (set views id w) other blank (looks_set R.slot views id w A.looks (A.looks.each id v at)) tt;
        ranged = ranged_none W.frame W.amount (set views id w) other blank (ranged_same W.frame W.amount views id v w A.ranged at refl) refl;
        written = A.written;
        resizing = resizing_set (recorded_in K.opening K.log K.desk).cores (recorded_in K.opening K.log K.desk).memory (run_of (farm_of K.opening) K.log) W.host W.frame (set views id w) other u blank
            (resizing_set (recorded_in K.opening K.log K.desk).cores (recorded_in K.opening K.log K.desk).memory (run_of (farm_of K.opening) K.log) W.host W.frame views id v w A.resizing at (λ none. (none, refl))) still (λ _. (note.0, sym none.rooms));
        seats = joins_seats K.seat K.opening K.desk K.log K.trail views id v other u A.seats at ne there still note;
      };
    }

pub allows_join : (id : ℕ) (v : View) (other : ℕ) (u : View) → IsNote u → Joins Holds id v other u (informed v u) blank
allows_join id v other u note s h at ne still = (h.0, joins_kept (slice_index s.words 0) (words_of s.words) s.views id v other u h.1 at ne still note)
