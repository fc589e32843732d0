-- The slots of a layer's frames are those that are listed for it.
use Rattle.std.proofs.Common.{◌≡◌, ℕ, zero, suc, ◌+◌, Bool, true, false, ◌&&◌, ◌||◌, cond, eqb, List, [], ◌∷◌, Option, Some, refl, sym, ap, subst, ◌∙◌, arith}
use Rattle.std.specs.List.{list_any, slice_get}
use Rattle.std.specs.Cmp.Derive.{both_true}
use Rattle.std.proofs.lemmas.Bool.{eq-eqb, eqb-true, false≢true}
use Rattle.std.proofs.lemmas.Option.{none-some, same_Some}
use Rattle.farm_types.specs.declared.slot_row.Frame.{Frame}
use Rattle.farm_types.specs.declared.slot_row.SlotRow.{SlotRow}
use Rattle.farm_types.specs.Farm.{for_some, is_placed, slot_from}
use Rattle.farm_types.specs.Kept.{EachOnce, is_same_place}
use Rattle.farm_types.proofs.Lists.{and_both, for_some_true}
use Rattle.farm_types.proofs.Passes.{for_some-there}
use Rattle.farm_books.specs.Cleared.{is_listed}
use Rattle.depend_book.proofs.Zips.{list_any-at}
use Rattle.farm_books.specs.Cleared.{is_in_layer}

same_bool : (a b : Bool) → (a ≡ true → b ≡ true) → (b ≡ true → a ≡ true) → a ≡ b
same_bool true b there back = sym (there refl)
same_bool false true there back = back refl
same_bool false false there back = refl

-- what is found has the frame, and what has one is not passed over
record Found (test : Frame → Bool) (place : ℕ) (slots : List SlotRow) (slot : ℕ) : Type 0 where
  index : ℕ
  slot_is : slot ≡ place + index
  row : SlotRow
  at : slice_get slots index ≡ Some row
  passes : for_some row.frame test ≡ true

from_step : (test : Frame → Bool) (place slot : ℕ) (s : SlotRow) (ss : List SlotRow) (b : Bool) → for_some s.frame test ≡ b → (slot_from (place + 1) test ss ≡ Some slot → Found test (place + 1) ss slot)
    → cond b (Some place) (slot_from (place + 1) test ss) ≡ Some slot → Found test place (s ∷ ss) slot
from_step test place slot s ss true is later at =
    let here : place ≡ slot = same_Some place slot at in
    record { index = 0; slot_is = omega (arith, here); row = s; at = refl; passes = is }
from_step test place slot s ss false is later at =
    let r = later at in
    record { index = suc r.index; slot_is = omega (arith, r.slot_is); row = r.row; at = r.at; passes = r.passes }

found : (test : Frame → Bool) (place slot : ℕ) (slots : List SlotRow) → slot_from place test slots ≡ Some slot → Found test place slots slot
found test place slot [] at = absurd (none-some slot at)
found test place slot (s ∷ ss) at = from_step test place slot s ss (for_some s.frame test) refl (found test (place + 1) slot ss) at

finds : (test : Frame → Bool) (place n : ℕ) (slots : List SlotRow) (s : SlotRow) → slice_get slots n ≡ Some s → for_some s.frame test ≡ true → (slot : ℕ) × (slot_from place test slots ≡ Some slot)
finds test place n [] s at passes = absurd (none-some s at)
finds test place n (r ∷ rs) s at passes = by_test (for_some r.frame test) refl (λ m there. finds test (place + 1) m rs s there passes) n at where
  by_test : (b : Bool) → for_some r.frame test ≡ b → ((m : ℕ) → slice_get rs m ≡ Some s → (slot : ℕ) × (slot_from (place + 1) test rs ≡ Some slot)) → (m : ℕ) → slice_get (r ∷ rs) m ≡ Some s → (slot : ℕ) × (slot_from place test (r ∷ rs) ≡ Some slot)
  by_test true is rest m there = (place, ap (λ (b : Bool). cond b (Some place) (slot_from (place + 1) test rs)) is)
  by_test false is rest zero there = absurd (false≢true (sym is ∙ (ap (λ (t : SlotRow). for_some t.frame test) (same_Some r s there) ∙ passes)))
  by_test false is rest (suc m) there =
      let later = rest m there in
      (later.0, ap (λ (b : Bool). cond b (Some place) (slot_from (place + 1) test rs)) is ∙ later.1)

any_place : (p : ℕ → Bool) (xs : List ℕ) → list_any p xs ≡ true → (i x : ℕ) × (slice_get xs i ≡ Some x) × (p x ≡ true)
any_place p [] there = absurd (false≢true there)
any_place p (x ∷ xs) there = by_test (p x) refl (any_place p xs) where
  by_test : (b : Bool) → p x ≡ b → (list_any p xs ≡ true → (i y : ℕ) × (slice_get xs i ≡ Some y) × (p y ≡ true)) → (i y : ℕ) × (slice_get (x ∷ xs) i ≡ Some y) × (p y ≡ true)
  by_test true is later = (0, x, refl, is)
  by_test false is later =
      let rest = later (sym (ap (λ (b : Bool). b || list_any p xs) is) ∙ there) in
      (suc rest.0, rest.1, rest.2, rest.3)

-- another frame at the position of one of the layer's
same_frame : (job place : ℕ) (x y : Frame) → x.job ≡ job → x.layer ≡ place → is_placed job place x.position y ≡ true → is_same_place x y ≡ true
same_frame job place x y own layer there = (λ i. is_placed (own i) (layer i) x.position y) ∙ there

module _ (slots : List SlotRow) (job place : ℕ) (list : List ℕ) (once : EachOnce slots) (listed : (position : ℕ) → slot_from 0 (is_placed job place position) slots ≡ slice_get list position) where
  there : (n : ℕ) → is_in_layer slots job place n ≡ true → is_listed list n ≡ true
  there n is =
      let s = for_some_true (slice_get slots n) (λ (s : SlotRow). for_some s.frame (λ (x : Frame). eqb x.job job && eqb place x.layer)) is in
      let x = for_some_true s.0.frame (λ (x : Frame). eqb x.job job && eqb place x.layer) s.2 in
      let parts = and_both (eqb x.0.job job) (eqb place x.0.layer) x.2 in
      let layer : eqb x.0.layer place ≡ true = eq-eqb x.0.layer place (sym (eqb-true place x.0.layer parts.1)) in
      let stands : is_placed job place x.0.position x.0 ≡ true = both_true (both_true parts.0 layer) (eq-eqb x.0.position x.0.position refl) in
      let passes = for_some-there s.0.frame (is_placed job place x.0.position) x.0 x.1 stands in
      let slot = finds (is_placed job place x.0.position) 0 n slots s.0 s.1 passes in
      let r = found (is_placed job place x.0.position) 0 slot.0 slots slot.1 in
      let y = for_some_true r.row.frame (is_placed job place x.0.position) r.passes in
      let same = same_frame job place x.0 y.0 (eqb-true x.0.job job parts.0) (eqb-true x.0.layer place layer) y.2 in
      let one : n ≡ r.index = once n r.index s.0 r.row x.0 y.0 s.1 x.1 r.at y.1 same in
      let here : slice_get list x.0.position ≡ Some slot.0 = subst (λ (o : Option ℕ). o ≡ Some slot.0) (listed x.0.position) slot.1 in
      list_any-at (λ m. eqb m n) list x.0.position slot.0 here (eq-eqb slot.0 n (omega (arith, one, r.slot_is)))

  back : (n : ℕ) → is_listed list n ≡ true → is_in_layer slots job place n ≡ true
  back n is =
      let m = any_place (λ m. eqb m n) list is in
      let at : slot_from 0 (is_placed job place m.0) slots ≡ Some n = listed m.0 ∙ (m.2 ∙ ap Some (eqb-true m.1 n m.3)) in
      let r = found (is_placed job place m.0) 0 n slots at in
      let y = for_some_true r.row.frame (is_placed job place m.0) r.passes in
      let parts = and_both (eqb y.0.job job && eqb y.0.layer place) (eqb y.0.position m.0) y.2 in
      let owner = and_both (eqb y.0.job job) (eqb y.0.layer place) parts.0 in
      let passes : (eqb y.0.job job && eqb place y.0.layer) ≡ true = both_true owner.0 (eq-eqb place y.0.layer (sym (eqb-true y.0.layer place owner.1))) in
      let index_is : r.index ≡ n = omega (arith, r.slot_is) in
      for_some-there (slice_get slots n) (λ (s : SlotRow). for_some s.frame (λ (x : Frame). eqb x.job job && eqb place x.layer)) r.row (subst (λ (k : ℕ). slice_get slots k ≡ Some r.row) index_is r.at)
      (for_some-there r.row.frame (λ (x : Frame). eqb x.job job && eqb place x.layer) y.0 y.1 passes)

  pub layer_listed : (n : ℕ) → is_in_layer slots job place n ≡ is_listed list n
  layer_listed n = same_bool (is_in_layer slots job place n) (is_listed list n) (there n) (back n)
