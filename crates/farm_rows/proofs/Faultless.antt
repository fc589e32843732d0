-- What it says that nothing is found at fault: none passes a test, and where each number of each layer has its frame, the groups of a depend so far are
-- its groups.
use Rattle.std.proofs.Common.{◌≡◌, ◌<◌, ℕ, ℤ, suc, zero, ◌+◌, Bool, true, false, cond, not, eqb, List, [], ◌∷◌, map, length, Option, Some, None, refl, sym, subst, ap, arith, option_map}
use Rattle.std.specs.Prelude.{is_some, slice_get}
use Rattle.std.specs.List.{filter, find}
use Rattle.std.proofs.lemmas.Bool.{false≢true, or_parts}
use Rattle.std.proofs.lemmas.Option.{none-some, same_Some}
use Rattle.farm_types.specs.declared.depend.DependRow.{DependRow}
use Rattle.farm_types.specs.declared.limits.TheConstants.{SLOT_LIMIT}
use Rattle.farm_types.specs.declared.rows.LayerRow.{LayerRow}
use Rattle.farm_types.specs.declared.slot_row.SlotRow.{SlotRow}
use Rattle.farm_types.specs.DependActs.{or_else}
use Rattle.farm_types.specs.Depends.{groups_of, layer_shape, or_first, slots_placed}
use Rattle.farm_types.specs.Farm.{Farm, is_placed, layers_of, slot_from}
use Rattle.farm_types.specs.Groups.{groups_by, part_at}
use Rattle.farm_types.specs.Kept.{EachThere}
use Rattle.farm_types.specs.Ranges.{range_numbers}
use Rattle.farm_rows.specs.Recovery.{groups_so_far, lacks_number, lacks_slots, layer_so_far, slot_or, slots_so_far}

-- ---- nothing is found

pub neither : {X : Type 0} (first second : Option X) → or_else first second ≡ None → (first ≡ None) × (second ≡ None)
neither None second e = (refl, e)
neither (Some x) second e = absurd (none-some x (sym e))

pub first_fails : {X : Type 0} (b : Bool) (x : X) (later : Option X) → cond b (Some x) later ≡ None → (b ≡ false) × (later ≡ None)
first_fails true x later e = absurd (none-some x (sym e))
first_fails false x later e = (refl, e)

-- where none is found, none passes
none_passes : {X : Type 0} (test : X → Bool) (xs : List X) → find test xs ≡ None → (n : ℕ) (x : X) → slice_get xs n ≡ Some x → test x ≡ false
none_passes test [] e n x at = absurd (none-some x at)
none_passes test (y ∷ ys) e zero x at = subst (λ z. test z ≡ false) (same_Some y x at) (first_fails (test y) y (find test ys) e).0
none_passes test (y ∷ ys) e (suc n) x at = none_passes test ys (first_fails (test y) y (find test ys) e).1 n x at

none_mapped : {X Y : Type 0} (change : X → Y) (o : Option X) → option_map change o ≡ None → o ≡ None
none_mapped change None e = refl
none_mapped change (Some x) e = absurd (none-some (change x) (sym e))

-- the same of what is told of the one that is found
pub none_told : {X Y : Type 0} (change : X → Y) (test : X → Bool) (xs : List X) → option_map change (find test xs) ≡ None → (n : ℕ) (x : X) → slice_get xs n ≡ Some x → test x ≡ false
none_told change test xs e = none_passes test xs (none_mapped change (find test xs) e)

-- ---- each number has its frame

not_false : (b : Bool) → not b ≡ false → b ≡ true
not_false true e = refl
not_false false e = absurd (false≢true (sym e))

numbered : (f : Farm) (l : LayerRow) (position : ℕ) (ns : List ℤ) → lacks_number f l position ns ≡ false → (k : ℕ) → k < length ns → is_some (slot_from 0 (is_placed l.job l.place (position + k)) f.slots) ≡ true
numbered f l position [] none k below = absurd (omega (arith, below))
numbered f l position (n ∷ ns) none zero below =
    let here = not_false _ (or_parts (not (is_some (slot_from 0 (is_placed l.job l.place position) f.slots))) (lacks_number f l (position + 1) ns) none).0 in
    subst (λ (p : ℕ). is_some (slot_from 0 (is_placed l.job l.place p) f.slots) ≡ true) (omega arith) here
numbered f l position (n ∷ ns) none (suc k) below =
    let later = (or_parts (not (is_some (slot_from 0 (is_placed l.job l.place position) f.slots))) (lacks_number f l (position + 1) ns) none).1 in
    subst (λ (p : ℕ). is_some (slot_from 0 (is_placed l.job l.place p) f.slots) ≡ true) (omega arith) (numbered f l (position + 1) ns later k (omega (arith, below)))

pub each_there : (f : Farm) → ((n : ℕ) (l : LayerRow) → slice_get f.layers n ≡ Some l → lacks_slots f l ≡ false) → EachThere f.layers f.slots
each_there f none n l at position below =
    subst (λ (p : ℕ). is_some (slot_from 0 (is_placed l.job l.place p) f.slots) ≡ true) (omega arith) (numbered f l 0 (range_numbers l.range) (none n l at) position below)

-- ---- groups so far

stands : (none : ℕ) (o : Option ℕ) → is_some o ≡ true → slot_or none o ≡ or_first o
stands none None h = absurd (false≢true h)
stands none (Some slot) h = refl

slots_alike : (none : ℕ) (slots : List SlotRow) (l : LayerRow) (position : ℕ) (ns : List ℤ) → ((k : ℕ) → k < length ns → is_some (slot_from 0 (is_placed l.job l.place (position + k)) slots) ≡ true)
    → slots_so_far none slots l position ns ≡ slots_placed slots l.job l.place position ns
slots_alike none slots l position [] each = refl
slots_alike none slots l position (n ∷ ns) each =
    let first : is_some (slot_from 0 (is_placed l.job l.place position) slots) ≡ true = subst (λ (p : ℕ). is_some (slot_from 0 (is_placed l.job l.place p) slots) ≡ true) (omega arith) (each 0 (omega arith)) in
    let here = stands none (slot_from 0 (is_placed l.job l.place position) slots) first in
    let rest = slots_alike none slots l (position + 1) ns (λ k below. subst (λ (p : ℕ). is_some (slot_from 0 (is_placed l.job l.place p) slots) ≡ true) (omega arith) (each (suc k) (omega (arith, below)))) in
    λ i. here i ∷ rest i

filter_alike : {X Y : Type 0} (g h : X → Y) (test : X → Bool) (xs : List X) → ((n : ℕ) (x : X) → slice_get xs n ≡ Some x → g x ≡ h x) → map g (filter test xs) ≡ map h (filter test xs)
filter_alike g h test [] alike = refl
filter_alike g h test (x ∷ xs) alike = step (test x) (alike 0 x refl) (filter_alike g h test xs (λ n y at. alike (suc n) y at))
  where
    step : (b : Bool) → g x ≡ h x → map g (filter test xs) ≡ map h (filter test xs) → map g (cond b (x ∷ filter test xs) (filter test xs)) ≡ map h (cond b (x ∷ filter test xs) (filter test xs))
    step true here rest = λ i. here i ∷ rest i
    step false here rest = rest

layers_alike : (f : Farm) → EachThere f.layers f.slots → (none job : ℕ) → map (layer_so_far none f.slots) (layers_of f.layers job) ≡ map (layer_shape f.slots) (layers_of f.layers job)
layers_alike f there none job =
    filter_alike (layer_so_far none f.slots) (layer_shape f.slots) (λ (l : LayerRow). eqb l.job job) f.layers
    (λ n l at. ap (λ (slots : List ℕ). record { name = l.name; numbers = range_numbers l.range; slots = slots })
    (slots_alike none f.slots l 0 (range_numbers l.range) (λ k below. subst (λ (p : ℕ). is_some (slot_from 0 (is_placed l.job l.place p) f.slots) ≡ true) (omega arith) (there n l at k below))))

pub groups_alike : (f : Farm) → EachThere f.layers f.slots → (d : DependRow) → groups_so_far f d ≡ groups_of f d
unfolding groups_so_far groups_of
groups_alike f there d =
    let waiters = layers_alike f there SLOT_LIMIT d.waiter.job in
    let targets = layers_alike f there (SLOT_LIMIT + 1) d.target.job in
    λ i. groups_by d.kind d.any (part_at d.waiter) (part_at d.target) (record { layers = waiters i }) (record { layers = targets i })
