-- Lists of objects fit, and are read back.
use Rattle.std.proofs.Common.{◌≡◌, ℕ, List, [], ◌∷◌, map, Result, Ok, refl, ap, ◌∙◌}
use Rattle.std.specs.List.{All}
use Rattle.std.proofs.lemmas.List.{map-id}
use Rattle.std.proofs.lemmas.List.Elements.{All-head, All-tail}
use Rattle.serde_json.specs.Data.{Data, Members}
use Rattle.serde_json.specs.View.{items_of}
use Rattle.cue_json.specs.Fields.{Fault}
use Rattle.cue_json.specs.Items.{item_at, items_at}
use Rattle.object_writer.proofs.DataBack.{Fits, ItemsFit}

module _ {X : Type 0} (spelled : X → Data) (P : X → Type 0) where
  pub items_fit : (n : ℕ) → ((x : X) → P x → Fits n (spelled x)) → (xs : List X) → All P xs → ItemsFit n (items_of (map spelled xs))
  items_fit n each [] h = tt
  items_fit n each (x ∷ xs) h = (each x (All-head P x xs h), items_fit n each xs (All-tail P x xs h))

  -- each is read as what is seen of it
  pub items_seen : {Y : Type 0} (view : X → Y) (field : List ℕ) (read : Members → Result Y Fault) → ((x : X) → P x → item_at field read (spelled x) ≡ Ok (view x)) → (xs : List X) → All P xs
      → items_at field read (items_of (map spelled xs)) ≡ Ok (map view xs)
  items_seen view field read each [] h = refl
  items_seen view field read each (x ∷ xs) h = rw (each x (All-head P x xs h), items_seen view field read each xs (All-tail P x xs h)) refl

  -- each is read back
  pub items_back : (field : List ℕ) (read : Members → Result X Fault) → ((x : X) → P x → item_at field read (spelled x) ≡ Ok x) → (xs : List X) → All P xs → items_at field read (items_of (map spelled xs)) ≡ Ok xs
  items_back field read each xs h = items_seen (λ x. x) field read each xs h ∙ ap Ok (map-id xs)
