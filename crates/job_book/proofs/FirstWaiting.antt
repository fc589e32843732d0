-- The first marked position of a layer is that of its first waiting frame.
use Rattle.std.proofs.Common.{◌≡◌, ℕ, zero, suc, ◌+◌, ◌-◌, ◌<◌, ◌≤◌, Bool, true, false, List, [], ◌∷◌, map, drop, Option, Some, None, option_map, refl, sym, ap, ◌∙◌, arith}
use Rattle.std.specs.List.{slice_get}
use Rattle.std.specs.Option.{option_and_then}
use Rattle.std.proofs.lemmas.Option.{none-some, same_Some, slice_get-map}
use Rattle.farm_types.specs.Jobs.{JobLists}
use Rattle.place_set.specs.Places.{first_in, first_from}
use Rattle.job_book.specs.Index.{NoneWaits, WaitsFirst, slot_of, waits_in, where_waits}
use Rattle.job_book.specs.Layers.{KeepsLayers, KeepsWaiting, slots_of}
use Rattle.job_entries.specs.Entries.{layer_position}
use Rattle.job_index.specs.Places.{LayerPlaces, first_marked}

-- no position is marked
abbrev Unmarked : List Bool → ℕ → Type 0
Unmarked marks k = slice_get marks k ≡ Some true → ⊥

-- the first marked place at or behind one, where the marks are those from it on
abbrev IsFirst : ℕ → List Bool → Option ℕ → Type 0
IsFirst p marks None = (k : ℕ) → Unmarked marks k
IsFirst p marks (Some q) = (j : ℕ) × (q ≡ p + j) × (slice_get marks j ≡ Some true) × ((k : ℕ) → k < j → Unmarked marks k)

first_later : (p : ℕ) (marks : List Bool) (o : Option ℕ) → IsFirst (p + 1) marks o → IsFirst p (false ∷ marks) o
first_later p marks None none = λ k. by k
  where
    by : (k : ℕ) → Unmarked (false ∷ marks) k
    by zero h = cc
    by (suc k) h = none k h
first_later p marks (Some q) first = (suc first.0, omega (arith, first.1), first.2, λ k less. by k less)
  where
    by : (k : ℕ) → k < suc first.0 → Unmarked (false ∷ marks) k
    by zero less h = cc
    by (suc k) less h = first.3 k (omega (arith, less)) h

first_in_is : (p : ℕ) (marks : List Bool) → IsFirst p marks (first_in p marks)
first_in_is p [] = λ k h. none-some true h
first_in_is p (true ∷ marks) = (0, omega arith, refl, λ k less h. absurd (omega (arith, less)))
first_in_is p (false ∷ marks) = first_later p marks (first_in (p + 1) marks) (first_in_is (p + 1) marks)

slice_get-drop : (from k : ℕ) (marks : List Bool) → slice_get (drop from marks) k ≡ slice_get marks (from + k)
slice_get-drop zero k marks = let e : k ≡ 0 + k = omega arith in ap (slice_get marks) e
slice_get-drop (suc from) k [] = refl
slice_get-drop (suc from) k (m ∷ ms) = let e : suc from + k ≡ suc (from + k) = omega arith in slice_get-drop from k ms ∙ sym (ap (slice_get (m ∷ ms)) e)

module _ (b : JobLists) (index : List LayerPlaces) (keeps : KeepsLayers b.layers b.slots (map slots_of index)) (waiting : KeepsWaiting b.slots index) (job layer from : ℕ) where
  abbrev m : ℕ
  m = layer_position job layer b.layers

  -- where the layer isn't there
  nowhere : slice_get index m ≡ None → (k : ℕ) → NoneWaits b job layer k
  nowhere none k =
      let read : slice_get (map slots_of index) m ≡ None = slice_get-map slots_of index m ∙ ap (option_map slots_of) none in
      ap (where_waits b.slots) (keeps.found job layer k ∙ ap (option_and_then (λ (ns : List ℕ). slice_get ns k)) read)

  module _ (x : LayerPlaces) (at : slice_get index m ≡ Some x) where
    stands_at : (k : ℕ) → slot_of b job layer k ≡ slice_get x.slots k
    stands_at k =
        let read : slice_get (map slots_of index) m ≡ Some x.slots = slice_get-map slots_of index m ∙ ap (option_map slots_of) at in
        keeps.found job layer k ∙ ap (option_and_then (λ (ns : List ℕ). slice_get ns k)) read

    mark_at : (k : ℕ) → slice_get x.waiting k ≡ option_map (waits_in b.slots) (slice_get x.slots k)
    mark_at k = ap (λ (bs : List Bool). slice_get bs k) (waiting.marks m x at) ∙ slice_get-map (waits_in b.slots) x.slots k

    none_by : (o : Option ℕ) → (option_map (waits_in b.slots) o ≡ Some true → ⊥) → where_waits b.slots o ≡ None
    none_by None none = refl
    none_by (Some s) none = by (waits_in b.slots s) refl
      where
        by : (w : Bool) → waits_in b.slots s ≡ w → where_waits b.slots (Some s) ≡ None
        by true is = absurd (none (ap Some is))
        by false is = rw is refl

    none_at : (k : ℕ) → Unmarked x.waiting k → NoneWaits b job layer k
    none_at k none = ap (where_waits b.slots) (stands_at k) ∙ none_by (slice_get x.slots k) (λ h. none (mark_at k ∙ h))

    unmarked_at : (k : ℕ) → from ≤ k → Unmarked (drop from x.waiting) (k - from) → Unmarked x.waiting k
    unmarked_at k behind none h =
        let e : from + (k - from) ≡ k = omega (arith, behind) in
        none (slice_get-drop from (k - from) x.waiting ∙ ap (slice_get x.waiting) e ∙ h)

    some_by : (o : Option ℕ) (q : ℕ) → slice_get x.slots q ≡ o → option_map (waits_in b.slots) o ≡ Some true → from ≤ q → ((k : ℕ) → from ≤ k → k < q → NoneWaits b job layer k)
        → WaitsFirst b job layer from o
    some_by None q is marked there before = absurd (none-some true marked)
    some_by (Some s) q is marked there before =
        record { position = q; from_there = there; stands = stands_at q ∙ is; waits = same_Some (waits_in b.slots s) true marked; none_before = before }

    first_by : (o : Option ℕ) → IsFirst from (drop from x.waiting) o → WaitsFirst b job layer from (option_and_then (slice_get x.slots) o)
    first_by None none = λ k behind. none_at k (unmarked_at k behind (none (k - from)))
    first_by (Some q) first =
        let marked : slice_get x.waiting q ≡ Some true = ap (slice_get x.waiting) first.1 ∙ sym (slice_get-drop from first.0 x.waiting) ∙ first.2 in
        some_by (slice_get x.slots q) q refl (sym (mark_at q) ∙ marked) (omega (arith, first.1))
        (λ k behind less. none_at k (unmarked_at k behind (first.3 (k - from) (omega (arith, first.1, behind, less)))))

  waits_by : (o : Option LayerPlaces) → slice_get index m ≡ o → WaitsFirst b job layer from (option_and_then (first_marked from) o)
  waits_by None is = λ k behind. nowhere is k
  waits_by (Some x) is = first_by x is (first_from x.waiting from) (first_in_is from (drop from x.waiting))

  pub waits_first : WaitsFirst b job layer from (option_and_then (first_marked from) (slice_get index m))
  waits_first = waits_by (slice_get index m) refl
