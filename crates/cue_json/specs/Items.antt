-- What a field's list of objects reads as, item by item.
use Rattle.std.specs.Prelude.{ℕ, List, [], ◌∷◌, ◌++◌, Result, Ok}
use Rattle.serde_json.specs.Data.{Data, Items, no_items, item, Members}
use Rattle.serde_json.specs.Find.{as_object}
use Rattle.cue_json.specs.Fields.{Fault, ◌>>=◌, of_kind, list_at}

-- an item of a list, an object; one of another kind is a fault of the list's field
abbrev pub item_at : {X : Type 0} → List ℕ → (Members → Result X Fault) → Data → Result X Fault
item_at field read d = of_kind field (as_object d) >>= read

abbrev pub items_at : {X : Type 0} → List ℕ → (Members → Result X Fault) → Items → Result (List X) Fault
items_at field read no_items = Ok []
items_at field read (item d ds) = item_at field read d >>= λ x. items_at field read ds >>= λ xs. Ok (x ∷ xs)

abbrev pub list_of : {X : Type 0} → List ℕ → (Members → Result X Fault) → Members → Result (List X) Fault
list_of field read ms = list_at field ms >>= items_at field read

-- what was read of a list's rest, behind what was read of its front
abbrev pub prepend : {X E : Type 0} → List X → Result (List X) E → Result (List X) E
prepend front rest = rest >>= λ xs. Ok (front ++ xs)
