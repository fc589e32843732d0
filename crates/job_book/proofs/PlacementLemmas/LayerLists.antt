-- The lists of a job's layers, filled one after another, and what is read of them.
use Rattle.std.proofs.Common.{◌≡◌, ℕ, zero, suc, ◌+◌, ◌<◌, List, [], ◌∷◌, ◌++◌, length, map, take, get_or, option_map, refl, sym, ap, ◌∙◌, arith, append-nil}
use Rattle.std.proofs.Math.ListN.{set}
use Rattle.std.specs.List.{concat, slice_get}
use Rattle.std.specs.Option.{option_and_then}
use Rattle.std.proofs.lemmas.List.{take_more_set, map_push, length-replicate}
use Rattle.std.proofs.lemmas.List.Folds.{concat-append}
use Rattle.std.proofs.lemmas.Option.{slice_get-map}
use Rattle.farm_types.specs.declared.job.LayerSpec.{LayerSpec}
use Rattle.job_book.specs.Layers.{count_of, fresh_places, place_in, slots_of}
use Rattle.job_index.specs.Places.{LayerPlaces}

-- what is read of an item stays where the item at the place is set to one of which the same is read
pub map-set_kept : {X Y : Type 0} (f : X → Y) (xs : List X) (i : ℕ) (x y : X) → x ≡ get_or xs i x → f y ≡ f x → map f (set xs i y) ≡ map f xs
map-set_kept f [] i x y at same = refl
map-set_kept f (z ∷ zs) zero x y at same = ap (λ w. w ∷ map f zs) (same ∙ ap f at)
map-set_kept f (z ∷ zs) (suc i) x y at same = ap (λ ws. f z ∷ ws) (map-set_kept f zs i x y at same)

-- each list has a place for each frame of its layer
pub fresh_counts : (layers : List LayerSpec) → map count_of (map fresh_places layers) ≡ map (λ (l : LayerSpec). length l.numbers) layers
fresh_counts [] = refl
fresh_counts (l ∷ ls) = λ j. length-replicate {A = ℕ} (length l.numbers) 0 j ∷ fresh_counts ls j

pub count_at : (index : List LayerPlaces) (layers : List LayerSpec) (i : ℕ) (x : LayerPlaces) (l : LayerSpec) → map count_of index ≡ map (λ (k : LayerSpec). length k.numbers) layers
    → i < length layers → x ≡ get_or index i x → l ≡ get_or layers i l → length x.slots ≡ length l.numbers
count_at [] [] i x l same within at here = absurd (omega arith)
count_at [] (m ∷ ms) i x l same within at here = absurd (cc)
count_at (y ∷ ys) [] i x l same within at here = absurd (omega arith)
count_at (y ∷ ys) (m ∷ ms) zero x l same within at here =
    let first : length y.slots ≡ length m.numbers = cc in
    ap (λ (z : LayerPlaces). length z.slots) at ∙ first ∙ sym (ap (λ (k : LayerSpec). length k.numbers) here)
count_at (y ∷ ys) (m ∷ ms) (suc i) x l same within at here =
    let others : map count_of ys ≡ map (λ (k : LayerSpec). length k.numbers) ms = cc in
    count_at ys ms i x l others (omega arith) at here

-- one list more
pub concat-more : (index : List LayerPlaces) (i : ℕ) (y : LayerPlaces) → i < length index
    → concat (map slots_of (take (i + 1) (set index i y))) ≡ concat (map slots_of (take i index)) ++ y.slots
concat-more index i y within =
    ap (λ (xs : List LayerPlaces). concat (map slots_of xs)) (take_more_set index i y within) ∙ ap concat (map_push slots_of (take i index) y)
    ∙ concat-append (map slots_of (take i index)) (y.slots ∷ []) ∙ ap (λ ns. concat (map slots_of (take i index)) ++ ns) (append-nil y.slots)

-- the same layer of two lists has the same slots
pub place_read : (xs ys : List LayerPlaces) (m n position : ℕ) → slice_get xs m ≡ slice_get ys n → place_in (map slots_of xs) m position ≡ place_in (map slots_of ys) n position
place_read xs ys m n position same =
    ap (option_and_then (λ (ns : List ℕ). slice_get ns position)) (slice_get-map slots_of xs m ∙ ap (option_map slots_of) same ∙ sym (slice_get-map slots_of ys n))
