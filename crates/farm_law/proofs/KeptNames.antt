-- What is found by its name is there, and an item of a new name leaves the names of a list apart.
use Rattle.std.proofs.Common.{◌≡◌, ℕ, ◌+◌, ◌<◌, Bool, true, false, cond, List, [], ◌∷◌, ◌++◌, map, length, ltb, Option, Some, None, is_some, refl, sym, ◌∙◌, arith}
use Rattle.std.specs.Prelude.{bytes_eq}
use Rattle.std.specs.List.{list_any}
use Rattle.std.proofs.lemmas.Bool.{ltb-true, or_from}
use Rattle.std.proofs.lemmas.Cmp.{nat_list_eq_equiv}
use Rattle.std.proofs.lemmas.List.{map-append}
use Rattle.std.proofs.lemmas.Map.Keys.{IsDistinct-push}
use Rattle.std.proofs.lemmas.Option.{none-some, same_Some}
use Rattle.farm_types.specs.declared.refusal.Counted.{Counted}
use Rattle.farm_types.specs.declared.refusal.Refusal.{Refusal}
use Rattle.farm_types.specs.declared.refusal.Refusal.TheVariants.{Full}
use Rattle.farm_types.specs.Kept.{AllDiffer}
use Rattle.farm_types.specs.Step.{full_refusal, new_refusal}

-- The number of the first item of that name, counted from a place: with a label of shows, allocations or hosts it computes to the farm's own
-- search.
abbrev pub named_from : {X : Type 0} → (X → List ℕ) → ℕ → List ℕ → List X → Option ℕ
named_from label place name [] = None
named_from label place name (x ∷ xs) = cond (bytes_eq (label x) name) (Some place) (named_from label (place + 1) name xs)

-- ---- found

within_by : (b : Bool) (place count n : ℕ) (later : Option ℕ) → (later ≡ Some n → n < place + 1 + count) → cond b (Some place) later ≡ Some n → n < place + (count + 1)
within_by true place count n later rest e = omega (arith, same_Some place n e)
within_by false place count n later rest e = omega (arith, rest e)

within_from : {X : Type 0} (label : X → List ℕ) (place : ℕ) (name : List ℕ) (xs : List X) (n : ℕ) → named_from label place name xs ≡ Some n → n < place + length xs
within_from label place name [] n e = absurd (none-some n e)
within_from label place name (x ∷ xs) n e =
    let below = within_by (bytes_eq (label x) name) place (length xs) n (named_from label (place + 1) name xs) (within_from label (place + 1) name xs n) e in
    omega (arith, below)

-- what is found is there
pub named_within : {X : Type 0} (label : X → List ℕ) (name : List ℕ) (xs : List X) (n : ℕ) → named_from label 0 name xs ≡ Some n → n < length xs
named_within label name xs n e = omega (arith, within_from label 0 name xs n e)

-- ---- not found

unnamed_by : (b : Bool) (place : ℕ) (later : Option ℕ) → cond b (Some place) later ≡ None → (b ≡ false) × (later ≡ None)
unnamed_by true place later e = absurd (none-some place (sym e))
unnamed_by false place later e = (refl, e)

unnamed : {X : Type 0} (label : X → List ℕ) (place : ℕ) (name : List ℕ) (xs : List X) → named_from label place name xs ≡ None → list_any (bytes_eq name) (map label xs) ≡ false
unnamed label place name [] e = refl
unnamed label place name (x ∷ xs) e =
    let both = unnamed_by (bytes_eq (label x) name) place (named_from label (place + 1) name xs) e in
    or_from _ _ (nat_list_eq_equiv.symm name (label x) ∙ both.0) (unnamed label (place + 1) name xs both.1)

-- a name that isn't found is new
pub differ_more : {X : Type 0} (label : X → List ℕ) (xs : List X) (x : X) → named_from label 0 (label x) xs ≡ None → AllDiffer label xs → AllDiffer label (xs ++ x ∷ [])
differ_more label xs x e differ = rw (map-append label xs (x ∷ [])) (IsDistinct-push nat_list_eq_equiv (map label xs) (label x) differ (unnamed label 0 (label x) xs e))

-- ---- what no refusal says

full_by : (b : Bool) (refusal : Refusal) → cond b None (Some refusal) ≡ None → b ≡ true
full_by true refusal e = refl
full_by false refusal e = absurd (none-some refusal (sym e))

-- there is room for one more
pub room_left : (limit count : ℕ) (what : Counted) → full_refusal limit count what ≡ None → count < limit
room_left limit count what e = ltb-true count limit (full_by (ltb count limit) (Full limit what) e)

-- what is refused last isn't, where nothing is
pub accepted_by : (there : Bool) (rest : Option Refusal) (other : Refusal) → cond there rest (Some other) ≡ None → rest ≡ None
accepted_by true rest other e = e
accepted_by false rest other e = absurd (none-some other (sym e))

-- nothing has the name, and there is room
pub new_allowed : (name : List ℕ) (there : Option ℕ) (full : Option Refusal) → new_refusal name (is_some there) full ≡ None → (there ≡ None) × (full ≡ None)
new_allowed name None full e = (refl, e)
new_allowed name (Some n) full e = absurd (none-some _ (sym e))
