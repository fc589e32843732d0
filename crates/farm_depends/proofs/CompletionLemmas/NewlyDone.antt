-- The frames that rows complete: exactly those are done after, beside those that were.
use Rattle.std.proofs.Common.{◌≡◌, ℕ, ◌||◌, ◌&&◌, not, Bool, true, false, cond, eqb, List, [], ◌∷◌, length, map, filter, Option, None, Some, All, refl, sym, ap, subst, ◌∙◌}
use Rattle.std.specs.Prelude.{nat_eq}
use Rattle.std.specs.List.{AllByRecursion, IsDistinct, slice_get, slice_set}
use Rattle.std.proofs.Math.ListN.{length-set}
use Rattle.std.proofs.lemmas.Bool.{eqb-false, eqb-true, ne_eqb, or_from, and_parts, not-true}
use Rattle.std.proofs.lemmas.List.Elements.{All-from_recursion, All-head, All-tail}
use Rattle.std.proofs.lemmas.Map.Keys.{IsDistinct-cons, IsDistinct-head, IsDistinct-tail}
use Rattle.farm_types.specs.declared.slot_row.SlotRow.{SlotRow}
use Rattle.farm_types.specs.Depends.{is_done}
use Rattle.farm_types.specs.Farm.{for_some}
use Rattle.farm_types.proofs.Changed.{slice_get-set_other, slice_get-set_same}
use Rattle.farm_types.specs.declared.rows.SubRow.{SubRow}
use Rattle.job_book.specs.Book.{KeepsFrame}
use Rattle.farm_draft.specs.Rows.{AreInstallable, Stood, put_slots, slot_of}
use Rattle.farm_draft.specs.declared.slot_change.SlotChange.{SlotChange}
use Rattle.farm_depends.specs.Completing.{completes, is_done_row, newly_done}
use Rattle.farm_depends.specs.Follow.{is_listed}

-- ---- lists

pub length-put_slots : (slots : List SlotRow) (rows : List SlotChange) → length (put_slots slots rows) ≡ length slots
length-put_slots slots [] = refl
length-put_slots slots (e ∷ es) = length-put_slots (slice_set slots e.slot e.row) es ∙ length-set slots e.slot e.row

apart_by : (n : ℕ) (e : SlotChange) (fs : List SlotChange) (b : Bool) → nat_eq n e.slot ≡ false → AllByRecursion (λ m. nat_eq n m ≡ false) (map slot_of fs) → AllByRecursion (λ m. nat_eq n m ≡ false) (map slot_of (cond b (e ∷ fs) fs))
apart_by n e fs true own later = (own, later)
apart_by n e fs false own later = later

apart_kept : (test : SlotChange → Bool) (n : ℕ) (rows : List SlotChange) → AllByRecursion (λ m. nat_eq n m ≡ false) (map slot_of rows) → AllByRecursion (λ m. nat_eq n m ≡ false) (map slot_of (filter test rows))
apart_kept test n [] apart = tt
apart_kept test n (e ∷ es) apart = apart_by n e (filter test es) (test e) apart.0 (apart_kept test n es apart.1)

differ_by : (e : SlotChange) (fs : List SlotChange) (b : Bool) → AllByRecursion (λ m. nat_eq e.slot m ≡ false) (map slot_of fs) → IsDistinct nat_eq (map slot_of fs) → IsDistinct nat_eq (map slot_of (cond b (e ∷ fs) fs))
differ_by e fs true apart later = IsDistinct-cons nat_eq e.slot (map slot_of fs) apart later
differ_by e fs false apart later = later

differ_kept : (test : SlotChange → Bool) (rows : List SlotChange) → IsDistinct nat_eq (map slot_of rows) → IsDistinct nat_eq (map slot_of (filter test rows))
differ_kept test [] differ = differ
differ_kept test (e ∷ es) differ =
    differ_by e (filter test es) (test e) (apart_kept test e.slot es (IsDistinct-head nat_eq e.slot (map slot_of es) differ))
    (differ_kept test es (IsDistinct-tail nat_eq e.slot (map slot_of es) differ))

or_none : (b : Bool) → b ≡ (b || false)
or_none true = refl
or_none false = refl

-- none of a list is the slot
not_listed : (n : ℕ) (ns : List ℕ) → AllByRecursion (λ m. nat_eq n m ≡ false) ns → is_listed ns n ≡ false
not_listed n [] apart = refl
not_listed n (m ∷ ms) apart = or_from (eqb m n) (is_listed ms n) (ne_eqb m n (λ e. eqb-false n m apart.0 (sym e))) (not_listed n ms apart.1)

-- ---- one slot

there : (o : Option SlotRow) (row : SlotRow) → KeepsFrame o row → (x : SlotRow) × (o ≡ Some x)
there None row h = absurd h
there (Some x) row h = (x, refl)

-- rows of other slots leave it
kept_row : (n : ℕ) (rows : List SlotChange) (now : List SlotRow) → AllByRecursion (λ m. nat_eq n m ≡ false) (map slot_of rows) → slice_get (put_slots now rows) n ≡ slice_get now n
kept_row n [] now apart = refl
kept_row n (e ∷ es) now apart =
    kept_row n es (slice_set now e.slot e.row) apart.1 ∙ slice_get-set_other now e.slot n e.row (λ (is : n ≡ e.slot). eqb-false n e.slot apart.0 is)

abbrev is_done_at : Option SlotRow → Bool
is_done_at o = for_some o is_done_row

told : (was row : Bool) → (was ≡ true → row ≡ true) → row ≡ (was || (row && not was || false))
told true row stays = stays refl
told false true stays = refl
told false false stays = refl

other_by : (n : ℕ) (e : SlotChange) (fs : List SlotChange) (b : Bool) → eqb e.slot n ≡ false → is_listed (map slot_of (cond b (e ∷ fs) fs)) n ≡ is_listed (map slot_of fs) n
other_by n e fs true other = ap (λ (c : Bool). c || is_listed (map slot_of fs) n) other
other_by n e fs false other = refl

own_by : (n : ℕ) (e : SlotChange) (fs : List SlotChange) (b : Bool) → eqb e.slot n ≡ true → is_listed (map slot_of fs) n ≡ false → is_listed (map slot_of (cond b (e ∷ fs) fs)) n ≡ (b || false)
own_by n e fs true own none = ap (λ (c : Bool). c || is_listed (map slot_of fs) n) own
own_by n e fs false own none = none

module _ (olds : List SlotRow) (subs : List SubRow) (n : ℕ) where
  none_left : (e : SlotChange) (es : List SlotChange) → IsDistinct nat_eq (map slot_of (e ∷ es)) → e.slot ≡ n → AllByRecursion (λ m. nat_eq n m ≡ false) (map slot_of es)
  none_left e es differ is = subst (λ (k : ℕ). AllByRecursion (λ m. nat_eq k m ≡ false) (map slot_of es)) is (IsDistinct-head nat_eq e.slot (map slot_of es) differ)

  own_done : (e : SlotChange) (es : List SlotChange) (now : List SlotRow) → IsDistinct nat_eq (map slot_of (e ∷ es)) → KeepsFrame (slice_get now e.slot) e.row → e.slot ≡ n
      → is_done (put_slots (slice_set now e.slot e.row) es) n ≡ is_done_row e.row
  own_done e es now differ keeps is =
      let x = there (slice_get now e.slot) e.row keeps in
      let put : slice_get (slice_set now e.slot e.row) n ≡ Some e.row = subst (λ (k : ℕ). slice_get (slice_set now e.slot e.row) k ≡ Some e.row) is (slice_get-set_same now e.slot x.0 e.row x.1) in
      ap is_done_at (kept_row n es (slice_set now e.slot e.row) (none_left e es differ is) ∙ put)

  by_place : (e : SlotChange) (es : List SlotChange) (now : List SlotRow) → IsDistinct nat_eq (map slot_of (e ∷ es)) → KeepsFrame (slice_get now e.slot) e.row → Stood olds e → is_done now n ≡ is_done olds n
      → (is_done olds n ≡ true → is_done (put_slots (slice_set now e.slot e.row) es) n ≡ true) → (b : Bool) → eqb e.slot n ≡ b
      → (is_done (slice_set now e.slot e.row) n ≡ is_done olds n → is_done (put_slots (slice_set now e.slot e.row) es) n ≡ (is_done olds n || is_listed (newly_done es) n))
      → is_done (put_slots (slice_set now e.slot e.row) es) n ≡ (is_done olds n || is_listed (newly_done (e ∷ es)) n)
  by_place e es now differ keeps stood same stays true is later =
      let at : e.slot ≡ n = eqb-true e.slot n is in
      let own = own_done e es now differ keeps at in
      let none = not_listed n (newly_done es) (apart_kept completes n es (none_left e es differ at)) in
      own
      ∙ (told (is_done olds n) (is_done_row e.row) (λ h. sym own ∙ stays h)
      ∙ (ap (λ (k : Bool). is_done olds n || (is_done_row e.row && not k || false)) (ap (is_done olds) (sym at) ∙ ap is_done_at stood)
      ∙ ap (λ (c : Bool). is_done olds n || c) (sym (own_by n e (filter completes es) (completes e) is none))))
  by_place e es now differ keeps stood same stays false is later =
      later (ap is_done_at (slice_get-set_other now e.slot n e.row (λ (at : n ≡ e.slot). eqb-false e.slot n is (sym at))) ∙ same)
      ∙ ap (λ (c : Bool). is_done olds n || c) (sym (other_by n e (filter completes es) (completes e) is))

  done_step : (rows : List SlotChange) (now : List SlotRow) → IsDistinct nat_eq (map slot_of rows) → AreInstallable subs now rows → All (Stood olds) rows → is_done now n ≡ is_done olds n
      → (is_done olds n ≡ true → is_done (put_slots now rows) n ≡ true) → is_done (put_slots now rows) n ≡ (is_done olds n || is_listed (newly_done rows) n)
  done_step [] now differ ready stood same stays = same ∙ or_none (is_done olds n)
  done_step (e ∷ es) now differ ready stood same stays =
      by_place e es now differ ready.0.keeps (All-head (Stood olds) e es stood) same stays (eqb e.slot n) refl
      (λ kept. done_step es (slice_set now e.slot e.row) (IsDistinct-tail nat_eq e.slot (map slot_of es) differ) ready.1 (All-tail (Stood olds) e es stood) kept stays)

-- ---- all slots

-- no slot is completed twice
pub newly_differ : (rows : List SlotChange) → IsDistinct nat_eq (map slot_of rows) → IsDistinct nat_eq (newly_done rows)
newly_differ rows differ = differ_kept completes rows differ

-- where what was done stays done, exactly those are done beside it
pub newly_are : (slots : List SlotRow) (subs : List SubRow) (rows : List SlotChange) → IsDistinct nat_eq (map slot_of rows) → AreInstallable subs slots rows → All (Stood slots) rows
    → ((slot : ℕ) → is_done slots slot ≡ true → is_done (put_slots slots rows) slot ≡ true) → (slot : ℕ) → is_done (put_slots slots rows) slot ≡ (is_done slots slot || is_listed (newly_done rows) slot)
newly_are slots subs rows differ ready stood stays slot = done_step slots subs slot rows slots differ ready stood refl (stays slot)

undone_first : (slots : List SlotRow) (e : SlotChange) (fs : List SlotChange) (b : Bool) → Stood slots e → completes e ≡ b → AllByRecursion (λ slot. is_done slots slot ≡ false) (map slot_of fs)
    → AllByRecursion (λ slot. is_done slots slot ≡ false) (map slot_of (cond b (e ∷ fs) fs))
undone_first slots e fs true stood is later = (ap is_done_at stood ∙ not-true (is_done_row e.was) (and_parts (is_done_row e.row) (not (is_done_row e.was)) is).1, later)
undone_first slots e fs false stood is later = later

undone_by : (slots : List SlotRow) (rows : List SlotChange) → All (Stood slots) rows → AllByRecursion (λ slot. is_done slots slot ≡ false) (newly_done rows)
undone_by slots [] stood = tt
undone_by slots (e ∷ es) stood =
    undone_first slots e (filter completes es) (completes e) (All-head (Stood slots) e es stood) refl (undone_by slots es (All-tail (Stood slots) e es stood))

-- none of them was done
pub newly_undone : (slots : List SlotRow) (rows : List SlotChange) → All (Stood slots) rows → All (λ slot. is_done slots slot ≡ false) (newly_done rows)
newly_undone slots rows stood = All-from_recursion (λ slot. is_done slots slot ≡ false) (newly_done rows) (undone_by slots rows stood)
