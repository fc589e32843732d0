-- The slot that is found for a test of frames.
use Rattle.std.proofs.Common.{◌≡◌, ℕ, suc, zero, ◌+◌, Bool, true, false, cond, List, [], ◌∷◌, Option, Some, None, refl, sym, ap, subst, ◌∙◌, arith}
use Rattle.std.specs.List.{slice_get}
use Rattle.std.specs.Option.{is_some}
use Rattle.std.proofs.lemmas.Bool.{false≢true}
use Rattle.std.proofs.lemmas.Option.{none-some, same_Some}
use Rattle.farm_types.specs.declared.slot_row.Frame.{Frame}
use Rattle.farm_types.specs.declared.slot_row.SlotRow.{SlotRow}
use Rattle.farm_types.specs.Farm.{for_some, slot_from}
use Rattle.farm_types.proofs.Lists.{for_some_true}

-- the slot of that number has a frame that passes the test
pub record FoundSlot (test : Frame → Bool) (slots : List SlotRow) (n : ℕ) : Type 0 where
  pub row : SlotRow
  pub frame : Frame
  pub at : slice_get slots n ≡ Some row
  pub is : row.frame ≡ Some frame
  pub passes : test frame ≡ true

found_by : (test : Frame → Bool) (place n : ℕ) (s : SlotRow) (ss : List SlotRow) (b : Bool) → for_some s.frame test ≡ b
    → (slot_from (place + 1) test ss ≡ Some n → (k : ℕ) × (n ≡ place + 1 + k) × FoundSlot test ss k) → cond b (Some place) (slot_from (place + 1) test ss) ≡ Some n
    → (k : ℕ) × (n ≡ place + k) × FoundSlot test (s ∷ ss) k
found_by test place n s ss true passes later at =
    let here : place ≡ n = same_Some place n at in
    let x = for_some_true s.frame test passes in
    (0, omega (arith, here), record { row = s; frame = x.0; at = refl; is = x.1; passes = x.2 })
found_by test place n s ss false passes later at =
    let rest = later at in
    let r = rest.2 in
    (suc rest.0, omega (arith, rest.1), record { row = r.row; frame = r.frame; at = r.at; is = r.is; passes = r.passes })

found_from : (test : Frame → Bool) (place n : ℕ) (slots : List SlotRow) → slot_from place test slots ≡ Some n → (k : ℕ) × (n ≡ place + k) × FoundSlot test slots k
found_from test place n [] at = absurd (none-some n at)
found_from test place n (s ∷ ss) at = found_by test place n s ss (for_some s.frame test) refl (found_from test (place + 1) n ss) at

-- what is found is one
pub found_slot : (test : Frame → Bool) (slots : List SlotRow) (n : ℕ) → slot_from 0 test slots ≡ Some n → FoundSlot test slots n
found_slot test slots n at =
    let found = found_from test 0 n slots at in
    let same : found.0 ≡ n = omega (arith, found.1) in
    subst (FoundSlot test slots) same found.2

-- as a test says it
pub slot_if : (test : Frame → Bool) (slots : List SlotRow) → is_some (slot_from 0 test slots) ≡ true → (n : ℕ) × FoundSlot test slots n
slot_if test slots there = by (slot_from 0 test slots) refl there
  where
    by : (o : Option ℕ) → slot_from 0 test slots ≡ o → is_some o ≡ true → (n : ℕ) × FoundSlot test slots n
    by None at none = absurd (false≢true none)
    by (Some n) at some = (n, found_slot test slots n at)

some_by : (test : Frame → Bool) (place : ℕ) (s : SlotRow) (ss : List SlotRow) (b : Bool) → (b ≡ false → (n : ℕ) × (slot_from (place + 1) test ss ≡ Some n))
    → (n : ℕ) × (cond b (Some place) (slot_from (place + 1) test ss) ≡ Some n)
some_by test place s ss true later = (place, refl)
some_by test place s ss false later = later refl

-- where there is one, one is found
pub some_slot : (test : Frame → Bool) (place i : ℕ) (slots : List SlotRow) (s : SlotRow) → slice_get slots i ≡ Some s → for_some s.frame test ≡ true
    → (n : ℕ) × (slot_from place test slots ≡ Some n)
some_slot test place i [] s at passes = absurd (none-some s at)
some_slot test place zero (t ∷ ss) s at passes =
    some_by test place t ss (for_some t.frame test)
    (λ none. absurd (false≢true (sym none ∙ (ap (λ (r : SlotRow). for_some r.frame test) (same_Some t s at) ∙ passes))))
some_slot test place (suc i) (t ∷ ss) s at passes = some_by test place t ss (for_some t.frame test) (λ none. some_slot test (place + 1) i ss s at passes)
