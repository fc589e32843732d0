-- Steps of the recorder's seat, and of any other, as far as seats go.
use Rattle.std.proofs.Common.{◌≡◌, ◌≢◌, ◌⊎◌, ℕ, ◌+◌, ◌*◌, ◌<◌, ◌≤◌, Bool, true, false, if◌then◌else◌, ◌==◌, List, [], ◌∷◌, ◌++◌, length, set, sym, ap, ◌∙◌, subst, arith, ⊎_elim, length-append, append_assoc}
use Rattle.std.specs.Prelude.{Option, Some, None}
use Rattle.std.proofs.lemmas.List.{append-nil}
use mathlib.Core.Option.{some}
use mathlib.Core.List.{IsPrefix}
use mathlib.Core.Logic.{dite}
use native.Mathlib.Decide.{ℕ_discrete}
use lib.ListN.{get_elem?}
use Rattle.std.proofs.lemmas.Bool.Decides.{nat_tests}
use Rattle.atomic_table.proofs.Lists.{at_set}
use Rattle.farm_types.specs.declared.entry.Entry.{Entry}
use Rattle.booking_rule.specs.declared.view.View.{View}
use Rattle.booking_rule.specs.declared.desk.Desk.{Desk}
use Rattle.booking_rule.specs.declared.noted.Noted.{Noted}
use Rattle.booking_rule.specs.declared.opening.Opening.{Opening}
use Rattle.booking_rule.specs.Totals.{total}
use Rattle.booking_rule.specs.Rule.{in_flight, limit_in_flight}
use Rattle.booking_rule.specs.Seats.{desk_seats, number_seats, seats, is_place, receipts_at, HoldsNone, Fits, Seats}
use Rattle.booking_rule.proofs.Sums.{total_set, total_le}

-- ungranted takes are few
pub flights : (seat : ℕ) (opening : Opening) (desk : Desk) (log : List Entry) (trail : List Noted) (views : List View) → Seats seat opening desk log trail views → (sub : ℕ) → total (λ v. in_flight sub v.ungranted) views ≤ 64000000
flights seat opening desk log trail views S sub =
    let le = total_le (λ (v : View). in_flight sub v.ungranted) seats 1000000 views (λ i v at. (S.each i v at).flight sub) in
    omega (arith, le, S.allowed, S.split)

-- .. of limits too
pub limit_flights : (seat : ℕ) (opening : Opening) (desk : Desk) (log : List Entry) (trail : List Noted) (views : List View) → Seats seat opening desk log trail views → (limit : ℕ) → total (λ v. limit_in_flight limit v.ungranted_limit) views ≤ 64
limit_flights seat opening desk log trail views S limit =
    let le = total_le (λ (v : View). limit_in_flight limit v.ungranted_limit) seats 1 views (λ i v at. let f = (S.each i v at).limit_flight limit in omega arith) in
    omega (arith, le, S.allowed, S.split)

module _ {A : Type 0} where
  pub longer : (xs ys more : List A) → IsPrefix xs ys → IsPrefix xs (ys ++ more)
  longer xs ys more p = (p.0 ++ more, sym (append_assoc xs p.0 more) ∙ ap (λ (l : List A). l ++ more) p.1)

pub none_some : (d : Desk) → None ≡ Some d → ⊥
none_some d e = cc

-- a receipt more or none
pub receipts_end : (place : ℕ) (xs ys : List ℕ) → total (is_place place) (xs ++ ys) ≡ total (is_place place) xs + total (is_place place) ys
receipts_end place [] ys = omega arith
receipts_end place (x ∷ xs) ys = let r = receipts_end place xs ys in omega arith

-- A step of the recorder's seat: its desk is another that has split as many, its journal and its trail grow, and it may get the receipt of the place at the journal's end.
pub first_steps : (seat : ℕ) (opening : Opening) (desk D : Desk) (log more : List Entry) (trail item : List Noted) (views : List View) (id : ℕ) (v w : View) (got : List ℕ)
    → Seats seat opening desk log trail views → get_elem? views id ≡ some v → v.desk ≡ Some desk → w.desk ≡ Some D → D.split ≡ desk.split → w.number ≡ v.number → w.opening ≡ v.opening
    → w.journal ≡ v.journal ++ more → IsPrefix w.told (log ++ more) → w.trail ≡ v.trail ++ item → IsPrefix w.desk_trail (trail ++ item) → IsPrefix w.told_trail (trail ++ item)
    → ((sub : ℕ) → in_flight sub w.ungranted ≤ 1000000 * seats v) → ((limit : ℕ) → limit_in_flight limit w.ungranted_limit ≤ seats v)
    → w.receipts ≡ v.receipts ++ got → (got ≡ []) ⊎ ((got ≡ length log ∷ []) × (0 < length more))
    → Seats seat opening D (log ++ more) (trail ++ item) (set views id w)
first_steps seat opening desk D log more trail item views id v w got S at is now split number same journal told own desk_trail told_trail flight limit_flight receipts allowed_got =
    let mine = S.each id v at in
    let first = mine.first desk is in
    let same_seats : seats w ≡ seats v =
    ap (λ (o : Option Desk). desk_seats o + number_seats w.number) now ∙ ap (λ (n : Option ℕ). desk_seats (Some D) + number_seats n) number
    ∙ ap (λ (n : ℕ). (if n == 0 then 1 else 0) + number_seats v.number) split ∙ sym (ap (λ (o : Option Desk). desk_seats o + number_seats v.number) is) in
    let gains : (place : ℕ) → total (receipts_at place) (set views id w) ≡ total (receipts_at place) views + total (is_place place) got = (λ place.
    let t = total_set (receipts_at place) views id v w at in let r : receipts_at place w ≡ receipts_at place v + total (is_place place) got = ap (total (is_place place)) receipts ∙ receipts_end place v.receipts got in omega arith) in
    let size = length-append log more in
    record {
      names = S.names;
      split = (let s = S.split in omega arith);
      allowed = (let t = total_set seats views id v w at in let a = S.allowed in rw split (omega arith));
      one_receipt = λ place. (let g = gains place in let o = S.one_receipt place in ⊎_elim
          (λ (none : got ≡ []). let z : total (is_place place) got ≡ 0 = ap (total (is_place place)) none in omega arith)
          (λ (one : (got ≡ length log ∷ []) × (0 < length more)). let z : total (is_place place) got ≡ is_place place (length log) + 0 = ap (total (is_place place)) one.0 in dite (ℕ_discrete place (length log))
          (λ e. let y = S.receipts_within place (omega arith) in let k : is_place place (length log) ≤ 1 = small (length log == place) in omega arith)
          (λ ne. let k : is_place place (length log) ≡ 0 = ap (λ (b : Bool). if b then 1 else 0) (not_same (length log) place (λ e. ne (sym e))) in omega arith))
          allowed_got);
      receipts_within = λ place past. (let g = gains place in let o = S.receipts_within place (omega arith) in ⊎_elim
          (λ (none : got ≡ []). let z : total (is_place place) got ≡ 0 = ap (total (is_place place)) none in omega arith)
          (λ (one : (got ≡ length log ∷ []) × (0 < length more)). let z : total (is_place place) got ≡ is_place place (length log) + 0 = ap (total (is_place place)) one.0 in
          let some_more = one.1 in let k : is_place place (length log) ≡ 0 = ap (λ (b : Bool). if b then 1 else 0) (not_same (length log) place (λ e. absurd (omega arith))) in omega arith)
          allowed_got);
      each = λ j u t. ⊎_elim
          (λ (x : (j ≡ id) × (w ≡ u)). subst (λ (y : View). Fits seat opening D (log ++ more) (trail ++ item) S.names j y) x.1 (record {
            first = λ y h. (x.0 ∙ first.0, cc (now, h), journal ∙ ap (λ (l : List Entry). l ++ more) first.2, own ∙ ap (λ (l : List Noted). l ++ item) first.3);
            number = λ n h. (let q = mine.number n (sym number ∙ h) in (omega (arith, q.0, split), q.1 ∙ sym x.0));
            prefix = subst (λ (l : List Entry). IsPrefix l (log ++ more)) (sym (journal ∙ ap (λ (l : List Entry). l ++ more) first.2)) ([], append-nil (log ++ more));
            told = told;
            desk_trail = desk_trail;
            told_trail = told_trail;
            same = λ _. same ∙ mine.same (λ (x : (v.desk ≡ None) × (v.number ≡ None)). none_some desk (sym x.0 ∙ is));
            flight = λ sub. (let f = flight sub in omega arith);
            limit_flight = λ l. (let f = limit_flight l in omega arith);
            idle = λ none _. absurd cc;
          }))
          (λ (x : (j ≢ id) × (get_elem? views j ≡ some u)). let f = S.each j u x.1 in record {
            first = λ y h. absurd (x.0 ((f.first y h).0 ∙ sym first.0));
            number = λ n h. (let q = f.number n h in (omega (arith, q.0, split), q.1));
            prefix = longer u.journal log more f.prefix;
            told = longer u.told log more f.told;
            desk_trail = longer u.desk_trail trail item f.desk_trail;
            told_trail = longer u.told_trail trail item f.told_trail;
            same = f.same;
            flight = f.flight;
            limit_flight = f.limit_flight;
            idle = f.idle;
          })
          (at_set views id j w u t);
    }
  where
    small : (b : Bool) → (if b then 1 else 0) ≤ 1
    small true = omega arith
    small false = omega arith

    not_same : (n m : ℕ) → n ≢ m → (n == m) ≡ false
    not_same n m ne = grind (arith, nat_tests)

-- .. which was told nothing
pub desk_steps : (seat : ℕ) (opening : Opening) (desk D : Desk) (log more : List Entry) (trail item : List Noted) (views : List View) (id : ℕ) (v w : View) (got : List ℕ)
    → Seats seat opening desk log trail views → get_elem? views id ≡ some v → v.desk ≡ Some desk → w.desk ≡ Some D → D.split ≡ desk.split → w.number ≡ v.number → w.opening ≡ v.opening
    → w.journal ≡ v.journal ++ more → w.told ≡ v.told → w.trail ≡ v.trail ++ item → w.desk_trail ≡ v.desk_trail → w.told_trail ≡ v.told_trail
    → ((sub : ℕ) → in_flight sub w.ungranted ≤ 1000000 * seats v) → ((limit : ℕ) → limit_in_flight limit w.ungranted_limit ≤ seats v)
    → w.receipts ≡ v.receipts ++ got → (got ≡ []) ⊎ ((got ≡ length log ∷ []) × (0 < length more))
    → Seats seat opening D (log ++ more) (trail ++ item) (set views id w)
desk_steps seat opening desk D log more trail item views id v w got S at is now split number same journal told own desk_trail told_trail flight limit_flight receipts allowed_got =
    let mine = S.each id v at in
    first_steps seat opening desk D log more trail item views id v w got S at is now split number same journal
    (subst (λ (l : List Entry). IsPrefix l (log ++ more)) (sym told) (longer v.told log more mine.told))
    own
    (subst (λ (l : List Noted). IsPrefix l (trail ++ item)) (sym desk_trail) (longer v.desk_trail trail item mine.desk_trail))
    (subst (λ (l : List Noted). IsPrefix l (trail ++ item)) (sym told_trail) (longer v.told_trail trail item mine.told_trail))
    flight limit_flight receipts allowed_got

-- A step of another seat: what all share stays, its own trail may be any.
pub seat_steps : (seat : ℕ) (opening : Opening) (desk : Desk) (log : List Entry) (trail : List Noted) (views : List View) (id : ℕ) (v w : View)
    → Seats seat opening desk log trail views → get_elem? views id ≡ some v → v.desk ≡ None → w.desk ≡ None → w.number ≡ v.number → w.opening ≡ v.opening
    → IsPrefix w.journal log → IsPrefix w.told log → IsPrefix w.desk_trail trail → IsPrefix w.told_trail trail → w.receipts ≡ v.receipts
    → ((sub : ℕ) → in_flight sub w.ungranted ≤ 1000000 * seats v) → ((limit : ℕ) → limit_in_flight limit w.ungranted_limit ≤ seats v) → (v.number ≡ None → HoldsNone w)
    → Seats seat opening desk log trail (set views id w)
seat_steps seat opening desk log trail views id v w S at none now number same journal told desk_trail told_trail receipts flight limit_flight idle =
    let mine = S.each id v at in
    let same_seats : seats w ≡ seats v = ap (λ (o : Option Desk). desk_seats o + number_seats w.number) (now ∙ sym none) ∙ ap (λ (n : Option ℕ). desk_seats v.desk + number_seats n) number in
    let gains : (place : ℕ) → total (receipts_at place) (set views id w) ≡ total (receipts_at place) views = (λ place.
    let t = total_set (receipts_at place) views id v w at in let r : receipts_at place w ≡ receipts_at place v = ap (total (is_place place)) receipts in omega arith) in
    record {
      names = S.names;
      split = S.split;
      allowed = (let t = total_set seats views id v w at in let a = S.allowed in omega arith);
      one_receipt = λ place. (let g = gains place in let o = S.one_receipt place in omega arith);
      receipts_within = λ place past. (let g = gains place in let o = S.receipts_within place past in omega arith);
      each = λ j u t. ⊎_elim
          (λ (x : (j ≡ id) × (w ≡ u)). subst (λ (y : View). Fits seat opening desk log trail S.names j y) x.1 (record {
            first = λ y h. absurd (none_some y (sym now ∙ h));
            number = λ n h. (let q = mine.number n (sym number ∙ h) in (q.0, q.1 ∙ sym x.0));
            prefix = journal;
            told = told;
            desk_trail = desk_trail;
            told_trail = told_trail;
            same = λ seated. same ∙ mine.same (λ (x : (v.desk ≡ None) × (v.number ≡ None)). seated (now, number ∙ x.1));
            flight = λ sub. (let f = flight sub in omega arith);
            limit_flight = λ l. (let f = limit_flight l in omega arith);
            idle = λ _ no. idle (sym number ∙ no);
          }))
          (λ (x : (j ≢ id) × (get_elem? views j ≡ some u)). S.each j u x.1)
          (at_set views id j w u t);
    }
