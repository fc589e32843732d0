-- Slots that are moved one after the other: one step of a list.
use Rattle.std.proofs.Common.{◌≡◌, ℕ, zero, suc, ◌+◌, ◌<◌, Bool, List, [], ◌∷◌, drop, get_or, length, All, refl, sym, ap, subst, ◌∙◌, arith}
use Rattle.std.specs.List.{AllByRecursion}
use Rattle.std.proofs.lemmas.List.Elements.{All-weaker}
use Rattle.farm_types.specs.declared.slot_row.SlotRow.{SlotRow}
use Rattle.farm_types.specs.declared.states.FrameState.TheVariants as frame_state
use Rattle.farm_types.specs.Farm.{Farm, changed_at}
use Rattle.farm_types.specs.Settle.{blocked_row, in_state}
use Rattle.farm_books.specs.Books.{FarmBooks, with_farm}
use Rattle.farm_depends.specs.Follow.{IsMovable, change_of, put_blocked, put_opened}
use Rattle.farm_depends.proofs.MovingLemmas.Movable.{movable_blocked, movable_opened, movable_put_opened}

-- the item at a place is the next of those that are left
pub drop_next : (slots : List ℕ) (i slot : ℕ) → i < length slots → slot ≡ get_or slots i slot → drop i slots ≡ slot ∷ drop (i + 1) slots
drop_next [] i slot within at = absurd (omega arith)
drop_next (s ∷ ss) zero slot within at = ap (λ (n : ℕ). n ∷ ss) (sym at)
drop_next (s ∷ ss) (suc i) slot within at =
    let later : suc i + 1 ≡ suc (i + 1) = omega arith in
    rw later (drop_next ss i slot (omega arith) at)

each_moved : (olds news : List SlotRow) → ((k : ℕ) → IsMovable olds k → IsMovable news k) → (ns : List ℕ) → AllByRecursion (IsMovable olds) ns → AllByRecursion (IsMovable news) ns
each_moved olds news moved [] all = tt
each_moved olds news moved (n ∷ ns) all = (moved n all.0, each_moved olds news moved ns all.1)

module _ (put : List ℕ → List SlotRow → List SlotRow) (change : SlotRow → SlotRow) (puts : (n : ℕ) (ns : List ℕ) (slots : List SlotRow) → put (n ∷ ns) slots ≡ put ns (changed_at slots n change))
    (moved : (slots : List SlotRow) (n k : ℕ) → IsMovable slots k → IsMovable (changed_at slots n change) k) where
  step : (f next first : Farm) (slots : List ℕ) (i slot : ℕ) → i < length slots → slot ≡ get_or slots i slot → next ≡ record f { slots = changed_at f.slots slot change }
      → AllByRecursion (IsMovable f.slots) (drop i slots) → record f { slots = put (drop i slots) f.slots } ≡ first
      → AllByRecursion (IsMovable next.slots) (drop (i + 1) slots) × (record next { slots = put (drop (i + 1) slots) next.slots } ≡ first)
  step f next first slots i slot within at changed all told =
      let rest = drop (i + 1) slots in
      let list = drop_next slots i slot within at in
      let left = subst (AllByRecursion (IsMovable f.slots)) list all in
      let now = each_moved f.slots (changed_at f.slots slot change) (moved f.slots slot) rest left.1 in (
        subst (λ (g : Farm). AllByRecursion (IsMovable g.slots) rest) (sym changed) now,
        ap (λ (g : Farm). record g { slots = put rest g.slots }) changed
            ∙ (ap (λ (ss : List SlotRow). record f { slots = ss }) (sym (puts slot rest f.slots))
            ∙ (ap (λ (ns : List ℕ). record f { slots = put ns f.slots }) (sym list) ∙ told)),
      )

  -- the same of books
  books_step : (v next first : FarmBooks) (slots : List ℕ) (i slot : ℕ) → i < length slots → slot ≡ get_or slots i slot → next ≡ with_farm v (record v.farm { slots = changed_at v.farm.slots slot change })
      → AllByRecursion (IsMovable v.farm.slots) (drop i slots) → with_farm v (record v.farm { slots = put (drop i slots) v.farm.slots }) ≡ first
      → AllByRecursion (IsMovable next.farm.slots) (drop (i + 1) slots) × (with_farm next (record next.farm { slots = put (drop (i + 1) slots) next.farm.slots }) ≡ first)
  books_step v next first slots i slot within at changed all told =
      let rest = drop (i + 1) slots in
      let list = drop_next slots i slot within at in
      let left = subst (AllByRecursion (IsMovable v.farm.slots)) list all in
      let now = each_moved v.farm.slots (changed_at v.farm.slots slot change) (moved v.farm.slots slot) rest left.1 in (
        subst (λ (w : FarmBooks). AllByRecursion (IsMovable w.farm.slots) rest) (sym changed) now,
        ap (λ (w : FarmBooks). with_farm w (record w.farm { slots = put rest w.farm.slots })) changed
            ∙ (ap (λ (ss : List SlotRow). with_farm v (record v.farm { slots = ss })) (sym (puts slot rest v.farm.slots))
            ∙ (ap (λ (ns : List ℕ). with_farm v (record v.farm { slots = put ns v.farm.slots })) (sym list) ∙ told)),
      )

pub opened_step : (f next first : Farm) (slots : List ℕ) (i slot : ℕ) → i < length slots → slot ≡ get_or slots i slot → next ≡ record f { slots = changed_at f.slots slot (in_state frame_state.Waiting) }
    → AllByRecursion (IsMovable f.slots) (drop i slots) → record f { slots = put_opened (drop i slots) f.slots } ≡ first
    → AllByRecursion (IsMovable next.slots) (drop (i + 1) slots) × (record next { slots = put_opened (drop (i + 1) slots) next.slots } ≡ first)
opened_step = step put_opened (in_state frame_state.Waiting) (λ n ns slots. refl) movable_opened

pub blocked_step : (raises : Bool) (f next first : Farm) (slots : List ℕ) (i slot : ℕ) → i < length slots → slot ≡ get_or slots i slot → next ≡ record f { slots = changed_at f.slots slot (blocked_row (change_of raises)) }
    → AllByRecursion (IsMovable f.slots) (drop i slots) → record f { slots = put_blocked raises (drop i slots) f.slots } ≡ first
    → AllByRecursion (IsMovable next.slots) (drop (i + 1) slots) × (record next { slots = put_blocked raises (drop (i + 1) slots) next.slots } ≡ first)
blocked_step raises = step (put_blocked raises) (blocked_row (change_of raises)) (λ n ns slots. refl) (movable_blocked (change_of raises))

pub books_opened : (v next first : FarmBooks) (slots : List ℕ) (i slot : ℕ) → i < length slots → slot ≡ get_or slots i slot
    → next ≡ with_farm v (record v.farm { slots = changed_at v.farm.slots slot (in_state frame_state.Waiting) })
    → AllByRecursion (IsMovable v.farm.slots) (drop i slots) → with_farm v (record v.farm { slots = put_opened (drop i slots) v.farm.slots }) ≡ first
    → AllByRecursion (IsMovable next.farm.slots) (drop (i + 1) slots) × (with_farm next (record next.farm { slots = put_opened (drop (i + 1) slots) next.farm.slots }) ≡ first)
books_opened = books_step put_opened (in_state frame_state.Waiting) (λ n ns slots. refl) movable_opened

pub books_blocked : (raises : Bool) (v next first : FarmBooks) (slots : List ℕ) (i slot : ℕ) → i < length slots → slot ≡ get_or slots i slot
    → next ≡ with_farm v (record v.farm { slots = changed_at v.farm.slots slot (blocked_row (change_of raises)) })
    → AllByRecursion (IsMovable v.farm.slots) (drop i slots) → with_farm v (record v.farm { slots = put_blocked raises (drop i slots) v.farm.slots }) ≡ first
    → AllByRecursion (IsMovable next.farm.slots) (drop (i + 1) slots) × (with_farm next (record next.farm { slots = put_blocked raises (drop (i + 1) slots) next.farm.slots }) ≡ first)
books_blocked raises = books_step (put_blocked raises) (blocked_row (change_of raises)) (λ n ns slots. refl) (movable_blocked (change_of raises))

-- where frames opened, the others are movable still
pub still_movable : (now slots : List SlotRow) (opened blocked list : List ℕ) → now ≡ put_opened opened slots → list ≡ blocked → All (IsMovable slots) blocked → All (IsMovable now) list
still_movable now slots opened blocked list put same all =
    subst (λ (ns : List ℕ). All (IsMovable now) ns) (sym same)
    (subst (λ (ss : List SlotRow). All (IsMovable ss) blocked) (sym put)
    (All-weaker (IsMovable slots) (IsMovable (put_opened opened slots)) (movable_put_opened opened slots) blocked all))
