-- What a seat was told becomes what it has seen, when it looks at the journal's word.
use Rattle.std.proofs.Common.{◌≡◌, ℕ, ◌≤◌, Bool, true, false, if◌then◌else◌, nat_le, List, [], ◌∷◌, ◌++◌, length, length-append, set, slice_index, sym, refl, ap, ◌∙◌, subst, arith, inl}
use Rattle.std.specs.Prelude.{Option, Some, None}
use Rattle.std.proofs.lemmas.List.{append-nil}
use Rattle.std.proofs.lemmas.Bool.Decides.{nat_tests}
use mathlib.Core.Option.{some, none}
use mathlib.Core.List.{IsPrefix}
use lib.ListN.{get_elem?}
use Rattle.atomic_table.specs.Table.{Me, step, keeps, Allows}
use Rattle.farm_types.specs.declared.entry.Entry.{Entry}
use Rattle.farm_types.specs.Run.{run_of}
use Rattle.booking_rule.specs.declared.view.View.{View}
use Rattle.booking_rule.specs.declared.desk.Desk.{Desk}
use Rattle.booking_rule.specs.Words.{Words, words_of}
use Rattle.booking_rule.specs.Link.{farm_of, recorded_in}
use Rattle.booking_rule.specs.Seats.{Seats}
use Rattle.booking_rule.specs.Kept.{Kept, Holds}
use Rattle.booking_rule.specs.Splits.{longer_of, look_at, settled, Settles, sees}
use Rattle.booking_rule.proofs.Moves.{HoldsAlike, rule_view}
use Rattle.booking_rule.proofs.Own.{of_first}
use Rattle.booking_rule.proofs.Looking.{all_stand, tells_nothing}
use Rattle.booking_rule.proofs.Seeing.{suited_set, looks_set, ranged_step, journal_unused, written_more}
use Rattle.booking_rule.proofs.Seating.{first_steps, seat_steps, longer}
use Rattle.booking_rule.proofs.Resizing.{resizing_set, resizing_desk}

module _ {A : Type 0} where
  pub prefix_length : (xs ys : List A) → IsPrefix xs ys → length xs ≤ length ys
  prefix_length xs ys p = let l = length-append xs p.0 in let e : length (xs ++ p.0) ≡ length ys = ap length p.1 in omega arith

  -- of two beginnings the shorter begins the longer
  pub shorter : (xs ys zs : List A) → IsPrefix xs zs → IsPrefix ys zs → length xs ≤ length ys → IsPrefix xs ys
  shorter [] ys zs p q le = (ys, refl)
  shorter (x ∷ xs) [] zs p q le = absurd (omega (arith, le))
  shorter (x ∷ xs) (y ∷ ys) [] p q le = absurd (off p.1)
    where
      off : x ∷ xs ++ p.0 ≡ [] → ⊥
      off e = cc
  shorter (x ∷ xs) (y ∷ ys) (z ∷ zs) p q le =
      let a : (x ≡ z) × (xs ++ p.0 ≡ zs) = parts x z (xs ++ p.0) zs p.1 in
      let b : (y ≡ z) × (ys ++ q.0 ≡ zs) = parts y z (ys ++ q.0) zs q.1 in
      let r = shorter xs ys zs (p.0, a.1) (q.0, b.1) (omega (arith, le)) in (r.0, (λ i. (a.0 ∙ sym b.0) i ∷ r.1 i))
    where
      parts : (x z : A) (xs zs : List A) → x ∷ xs ≡ z ∷ zs → (x ≡ z) × (xs ≡ zs)
      parts x z xs zs e = (cc e, cc e)

  same_prefix : (xs : List A) → IsPrefix xs xs
  same_prefix xs = ([], append-nil xs)

  pub either : (xs ys zs : List A) → IsPrefix xs zs → IsPrefix ys zs → IsPrefix (longer_of xs ys) zs × (IsPrefix xs (longer_of xs ys) × IsPrefix ys (longer_of xs ys))
  either xs ys zs p q = go (nat_le (length ys) (length xs)) refl
    where
      go : (b : Bool) → nat_le (length ys) (length xs) ≡ b → IsPrefix (if b then xs else ys) zs × (IsPrefix xs (if b then xs else ys) × IsPrefix ys (if b then xs else ys))
      go true e = (p, (same_prefix xs, shorter ys xs zs q p (grind (arith, nat_tests))))
      go false e = (q, (shorter xs ys zs p q (grind (arith, nat_tests)), same_prefix ys))

  pub whole : (xs ys : List A) → IsPrefix ys xs → longer_of xs ys ≡ xs
  whole xs ys p = let le = prefix_length ys xs p in let b : nat_le (length ys) (length xs) ≡ true = grind (arith, nat_tests) in ap (λ (b : Bool). if b then xs else ys) b

alike_settled : (v : View) (found : ℕ) → HoldsAlike v (settled v found)
alike_settled v found = record { rooms = record { rooms = refl }; takes = record { takes = refl; ungranted = refl }; limits = record { limits = refl; ungranted = refl }; claims = refl }

-- the recorder's seat has the whole journal
pub all_seen : (n : ℕ) (W : Words) (views : List View) (id : ℕ) (v : View) (d : Desk) → Kept n W views → get_elem? views id ≡ some v → v.desk ≡ Some d → longer_of v.journal v.told ≡ v.journal
all_seen n W views id v d K at is = let A = of_first n W views id v d K at is in whole v.journal v.told (A.seats.each id v at).told

-- it did all that it was told of its trail
own_told : (n : ℕ) (W : Words) (views : List View) (id : ℕ) (v : View) (d : Desk) → Kept n W views → get_elem? views id ≡ some v → v.desk ≡ Some d → IsPrefix v.told_trail v.trail
own_told n W views id v d K at is = let A = of_first n W views id v d K at is in (A.seats.each id v at).told_trail

first_settles : (n : ℕ) (W : Words) (views : List View) (id : ℕ) (v : View) (d : Desk) (found : ℕ) → Kept n W views → get_elem? views id ≡ some v → v.desk ≡ Some d → Kept n W (set views id (settled v found))
first_settles n W views id v d found K at is =
    let w = settled v found in
    let A = of_first n W views id v d K at is in
    let item = look_at 0 found in
    let a = A.seats.each id v at in
    let t = either v.desk_trail v.told_trail v.trail a.desk_trail a.told_trail in
    record {
      seat = id;
      opening = v.opening;
      desk = d;
      log = v.journal;
      trail = v.trail ++ item ∷ [];
      own = record {
        journal = A.journal;
        begins = A.begins;
        legal = A.legal;
        before = A.before;
        alone = A.alone;
        ahead = A.ahead;
        rule = rule_view (recorded_in v.opening v.journal d) d.pending W views id v w A.rule at (alike_settled v found);
        suited = suited_set (farm_of v.opening) v.journal views id w A.suited (A.suited.each id v at);
        looks = looks_set (recorded_in v.opening v.journal d).slot views id w A.looks (all_stand (recorded_in v.opening v.journal d).slot v.trail item (A.looks.each id v at) (tells_nothing (recorded_in v.opening v.journal d).slot item (inl refl)));
        ranged = ranged_step W.frame W.amount views W.frame id v w item A.ranged at refl (λ slot lt h. absurd (journal_unused slot found h)) (λ slot. refl) (λ slot. refl);
        written = written_more W.amount v.trail item A.written refl;
        resizing = resizing_desk (recorded_in v.opening v.journal d).cores (recorded_in v.opening v.journal d).memory (run_of (farm_of v.opening) v.journal) W.host W.frame views id v w d A.resizing at is;
        seats = subst (λ (l : List Entry). Seats id v.opening d l (v.trail ++ item ∷ []) (set views id w)) (append-nil v.journal)
            (first_steps id v.opening d d v.journal [] v.trail (item ∷ []) views id v w [] A.seats at is is refl refl refl (all_seen n W views id v d K at is ∙ sym (append-nil v.journal)) (v.journal ++ [], refl) refl
            (longer (longer_of v.desk_trail v.told_trail) v.trail (item ∷ []) t.0) (v.trail ++ item ∷ [], refl) a.flight a.limit_flight (sym (append-nil v.receipts)) (inl refl));
      };
    }

other_settles : (n : ℕ) (W : Words) (views : List View) (id : ℕ) (v : View) (found : ℕ) → Kept n W views → get_elem? views id ≡ some v → v.desk ≡ None → Kept n W (set views id (settled v found))
other_settles n W views id v found K at is =
    let w = settled v found in
    let A = K.own in
    let m = A.seats.each id v at in
    let item = look_at 0 found in
    let R = recorded_in K.opening K.log K.desk in
    let j = either v.journal v.told K.log m.prefix m.told in
    let t = either v.desk_trail v.told_trail K.trail m.desk_trail m.told_trail in
    record {
      seat = K.seat;
      opening = K.opening;
      desk = K.desk;
      log = K.log;
      trail = K.trail;
      own = record {
        journal = A.journal;
        begins = A.begins;
        legal = A.legal;
        before = A.before;
        alone = A.alone;
        ahead = A.ahead;
        rule = rule_view (recorded_in K.opening K.log K.desk) K.desk.pending W views id v w A.rule at (alike_settled v found);
        suited = suited_set (farm_of K.opening) K.log views id w A.suited (A.suited.each id v at);
        looks = looks_set R.slot views id w A.looks (all_stand R.slot v.trail item (A.looks.each id v at) (tells_nothing R.slot item (inl refl)));
        ranged = ranged_step W.frame W.amount views W.frame id v w item A.ranged at refl (λ slot lt h. absurd (journal_unused slot found h)) (λ slot. refl) (λ slot. refl);
        written = A.written;
        resizing = resizing_set (recorded_in K.opening K.log K.desk).cores (recorded_in K.opening K.log K.desk).memory (run_of (farm_of K.opening) K.log) W.host W.frame views id v w A.resizing at (λ none. (none, refl));
        seats = seat_steps K.seat K.opening K.desk K.log K.trail views id v w A.seats at is is refl refl j.0 (K.log, refl) t.0 (K.trail, refl) refl m.flight m.limit_flight
            (λ no. let h = m.idle is no in record { takes = h.takes; limits = h.limits; rooms = h.rooms; claims = h.claims });
      };
    }

pub settles_kept : (n : ℕ) (W : Words) (views : List View) (id : ℕ) (v : View) (found : ℕ) → Kept n W views → get_elem? views id ≡ some v → Kept n W (set views id (settled v found)) × Settles v (settled v found)
settles_kept n W views id v found K at =
    let m = K.own.seats.each id v at in
    let j = either v.journal v.told K.log m.prefix m.told in
    let t = either v.desk_trail v.told_trail K.trail m.desk_trail m.told_trail in (
      go v.desk refl,
      record {
        journal = j.1.0;
        told = j.1.1;
        desk_trail = t.1.0;
        told_trail = t.1.1;
        first = λ d is. all_seen n W views id v d K at is;
        own = λ d is. own_told n W views id v d K at is;
      },
    )
  where
    go : (x : Option Desk) → v.desk ≡ x → Kept n W (set views id (settled v found))
    go None is = other_settles n W views id v found K at is
    go (Some d) is = first_settles n W views id v d found K at is

pub allows_see : (slots id : ℕ) (me : Me (Unit {0}) View) → Allows Holds slots id me 0 (λ n. n) (sees (step slots 0 0 0 none) me)
allows_see slots id me s h len at fits64 =
    let found = slice_index s.words 0 in
    let k = settles_kept found (words_of s.words) s.views id me.0 found h.1 at in (
      settled me.0 found,
      keeps,
      tt,
      subst (λ (l : List ℕ). (length l ≡ 136448) × Kept (slice_index l 0) (words_of l) (set s.views id (settled me.0 found))) (sym (set_same s.words)) (h.0, k.0),
      (refl, k.1),
    )
  where
    set_same : (l : List ℕ) → set l 0 (slice_index l 0) ≡ l
    set_same [] = refl
    set_same (x ∷ xs) = refl
