-- The position of a number among a layer's, and what has no slot.
use Rattle.std.proofs.Common.{◌≡◌, ◌<◌, ◌≤◌, ℕ, ℤ, suc, zero, ◌+◌, Bool, true, false, cond, not, ◌&&◌, eqb, List, [], ◌∷◌, length, Option, Some, None, refl, sym, ap, ◌∙◌, subst, arith}
use Rattle.std.specs.Prelude.{is_some, option_map}
use Rattle.std.specs.List.{find, list_any, position_or_len}
use Rattle.std.specs.Ordering.{int_eq}
use Rattle.std.specs.Cmp.{int_eq_equiv}
use Rattle.std.proofs.lemmas.Bool.{eqb-true}
use Rattle.frame_range.specs.Places.{place_of}
use Rattle.farm_types.specs.declared.rows.LayerRow.{LayerRow}
use Rattle.farm_types.specs.declared.slot_row.SlotRow.{SlotRow}
use Rattle.farm_types.specs.Farm.{for_some, is_placed, slot_from}
use Rattle.farm_types.specs.Ranges.{range_numbers}
use Rattle.farm_types.proofs.Lists.{and_both, found_is}
use Rattle.farm_rows.specs.Recovery.{numbers_in}
use Rattle.row_index.specs.Index.{LayerKnown, found_at}
use Rattle.stored_rows.specs.Known.{found_from, is_free, is_free_at, layer_known, place_or}

-- what a number's place says: it is the first that is the number
abbrev pub Places : ℤ → List ℤ → Option ℕ → Type 0
Places z xs None = (list_any (λ x. int_eq x z) xs ≡ false) × (position_or_len (λ x. int_eq x z) xs ≡ length xs)
Places z xs (Some p) = (list_any (λ x. int_eq x z) xs ≡ true) × (position_or_len (λ x. int_eq x z) xs ≡ p) × (p < length xs)

places_step : (b : Bool) (z x : ℤ) (xs : List ℤ) (o : Option ℕ) → int_eq x z ≡ b → Places z xs o → Places z (x ∷ xs) (cond b (Some 0) (option_map suc o))
places_step true z x xs o is rest = (rw is refl, rw is refl, omega arith)
places_step false z x xs None is rest = (rw is rest.0, rw is (omega (arith, rest.1)))
places_step false z x xs (Some p) is rest = (rw is rest.0, rw is (omega (arith, rest.1)), omega (arith, rest.2))

pub places : (z : ℤ) (xs : List ℤ) → Places z xs (place_of z xs)
places z [] = (refl, refl)
places z (x ∷ xs) =
    subst (λ (b : Bool). Places z (x ∷ xs) (cond b (Some 0) (option_map suc (place_of z xs)))) (int_eq_equiv.symm x z)
    (places_step (int_eq x z) z x xs (place_of z xs) refl (places z xs))

-- the slot at a position
pub found_slot : (slots : List SlotRow) (l : LayerRow) (base i : ℕ) (ns : List ℤ) → i < length ns → found_at (found_from slots l base ns) i ≡ slot_from 0 (is_placed l.job l.place (base + i)) slots
found_slot slots l base i [] less = absurd (omega (arith, less))
found_slot slots l base zero (n ∷ ns) less = let here : base ≡ base + zero = omega arith in ap (λ (p : ℕ). slot_from 0 (is_placed l.job l.place p) slots) here
found_slot slots l base (suc i) (n ∷ ns) less =
    let here : base + 1 + i ≡ base + suc i = omega arith in
    found_slot slots l (base + 1) i ns (omega (arith, less)) ∙ ap (λ (p : ℕ). slot_from 0 (is_placed l.job l.place p) slots) here

pub slot_at : (slots : List SlotRow) (l : LayerRow) (i : ℕ) → i < length (range_numbers l.range) → found_at (layer_known slots l).slots i ≡ slot_from 0 (is_placed l.job l.place i) slots
slot_at slots l i less =
    let here : 0 + i ≡ i = omega arith in
    found_slot slots l 0 i (range_numbers l.range) less ∙ ap (λ (p : ℕ). slot_from 0 (is_placed l.job l.place p) slots) here

free_by : (slots : List SlotRow) (l : LayerRow) (z : ℤ) (o : Option ℕ) → Places z (range_numbers l.range) o → is_free_at (layer_known slots l) o
    ≡ (list_any (λ x. int_eq x z) (range_numbers l.range) && not (is_some (slot_from 0 (is_placed l.job l.place (position_or_len (λ x. int_eq x z) (range_numbers l.range))) slots)))
free_by slots l z None p = λ i. sym p.0 i && not (is_some (slot_from 0 (is_placed l.job l.place (position_or_len (λ x. int_eq x z) (range_numbers l.range))) slots))
free_by slots l z (Some n) p =
    ap (λ (o : Option ℕ). not (is_some o)) (slot_at slots l n p.2) ∙ (λ i. sym p.0 i && not (is_some (slot_from 0 (is_placed l.job l.place (sym p.1 i)) slots)))

-- what is known of the layer at a place of a job says whether a number is its and has no slot
pub known_free : (slots : List SlotRow) (layers : List LayerRow) (job place : ℕ) (z : ℤ) (o : Option LayerRow) → find (λ (l : LayerRow). eqb l.job job && eqb l.place place) layers ≡ o → for_some (option_map (layer_known slots) o) (λ k. is_free k z)
    ≡ (list_any (λ x. int_eq x z) (numbers_in o) && not (is_some (slot_from 0 (is_placed job place (position_or_len (λ x. int_eq x z) (numbers_in o))) slots)))
known_free slots layers job place z None at = refl
known_free slots layers job place z (Some l) at =
    let both = and_both (eqb l.job job) (eqb l.place place) (found_is (λ (m : LayerRow). eqb m.job job && eqb m.place place) layers l at) in
    let jobs = eqb-true l.job job both.0 in
    let spots = eqb-true l.place place both.1 in
    free_by slots l z (place_of z (range_numbers l.range)) (places z (range_numbers l.range))
    ∙ (λ i. list_any (λ x. int_eq x z) (range_numbers l.range) && not (is_some (slot_from 0 (is_placed (jobs i) (spots i) (position_or_len (λ x. int_eq x z) (range_numbers l.range))) slots)))

-- the numbers of what is known
abbrev pub known_numbers : Option LayerKnown → List ℤ
known_numbers None = []
known_numbers (Some k) = k.numbers

pub numbers_known : (slots : List SlotRow) (o : Option LayerRow) → known_numbers (option_map (layer_known slots) o) ≡ numbers_in o
numbers_known slots None = refl
numbers_known slots (Some l) = refl

pub place_or_len : (z : ℤ) (xs : List ℤ) (o : Option ℕ) → Places z xs o → place_or (length xs) o ≡ position_or_len (λ x. int_eq x z) xs
place_or_len z xs None p = sym p.1
place_or_len z xs (Some n) p = sym p.1

pub place_within : (count : ℕ) (z : ℤ) (xs : List ℤ) (o : Option ℕ) → Places z xs o → length xs ≤ count → place_or (length xs) o ≤ count
place_within count z xs None p few = few
place_within count z xs (Some n) p few = omega (arith, p.2, few)
