-- Flags are cleared, one after the other.
use Rattle.std.proofs.Common.{◌≡◌, ℕ, Bool, true, false, ◌&&◌, ◌||◌, not, eqb, List, [], ◌∷◌, ◌++◌, Option, Some, None, refl, sym, ap, subst, ◌∙◌}
use Rattle.std.specs.List.{list_any, slice_get}
use Rattle.std.proofs.lemmas.List.{length-set}
use Rattle.std.proofs.lemmas.List.Folds.{list_any-append}
use Rattle.farm_types.specs.declared.rows.LayerRow.{LayerRow}
use Rattle.farm_types.specs.declared.slot_row.Frame.{Frame}
use Rattle.farm_types.specs.declared.slot_row.SlotRow.{SlotRow}
use Rattle.farm_types.specs.Farm.{for_some}
use Rattle.farm_types.proofs.Changed.{places}
use Rattle.depend_graph.specs.Graph.{is_flagged}
use Rattle.depend_book.specs.Book.{DependLists, IsBook, done_in}
use Rattle.farm_books.specs.Cleared.{is_listed}
use Rattle.depend_book.proofs.OneCleared.{and_one, cleared_is, flag_cleared}
use Rattle.depend_book.proofs.Zips.{or_none}
use Rattle.farm_books.specs.Cleared.{IsCleared, is_in_layer, is_in_layers}

pub cleared_one : (b : DependLists) (slot : ℕ) → IsBook b → IsCleared (λ n. eqb slot n) b (done_in b slot false)
cleared_one b slot book =
    subst (IsCleared (λ n. eqb slot n) b) (sym (cleared_is b slot book))
    (record { rest = refl; count = length-set b.graph.done slot false; flags = λ n. flag_cleared b.graph.done slot n (places n slot) })

pub cleared_none : (b : DependLists) → IsCleared (λ n. false) b b
cleared_none b = record { rest = refl; count = refl; flags = λ n. sym (and_one (is_flagged b.graph.done n)) }

both : (f t u : Bool) → ((f && not t) && not u) ≡ (f && not (t || u))
both true true u = refl
both true false u = refl
both false t u = refl

pub cleared_then : (t u v : ℕ → Bool) (a b c : DependLists) → IsCleared t a b → IsCleared u b c → ((n : ℕ) → v n ≡ (t n || u n)) → IsCleared v a c
cleared_then t u v a b c x y same =
    record {
      rest = y.rest ∙ ap (λ (d : DependLists). record d { graph = record d.graph { done = c.graph.done } }) x.rest;
      count = y.count ∙ x.count;
      flags =
          λ n.
          y.flags n
          ∙ (ap (λ (b : Bool). b && not (u n)) (x.flags n) ∙ (both (is_flagged a.graph.done n) (t n) (u n) ∙ ap (λ (b : Bool). is_flagged a.graph.done n && not b) (sym (same n))));
    }

pub cleared_as : (t u : ℕ → Bool) (a b : DependLists) → IsCleared t a b → ((n : ℕ) → u n ≡ t n) → IsCleared u a b
cleared_as t u a b x same =
    record { rest = x.rest; count = x.count; flags = λ n. x.flags n ∙ ap (λ (c : Bool). is_flagged a.graph.done n && not c) (sym (same n)) }

-- ---- slots

pub listed_more : (slots : List ℕ) (slot n : ℕ) → is_listed (slots ++ slot ∷ []) n ≡ (is_listed slots n || eqb slot n)
listed_more slots slot n = list_any-append (λ m. eqb m n) slots (slot ∷ []) ∙ ap (λ (b : Bool). is_listed slots n || b) (or_none (eqb slot n))

-- ---- layers

frame_more : (job : ℕ) (layers : List LayerRow) (layer : LayerRow) (o : Option Frame)
    → for_some o (λ (x : Frame). eqb x.job job && list_any (λ (l : LayerRow). eqb l.place x.layer) (layers ++ layer ∷ []))
    ≡ (for_some o (λ (x : Frame). eqb x.job job && list_any (λ (l : LayerRow). eqb l.place x.layer) layers) || for_some o (λ (x : Frame). eqb x.job job && eqb layer.place x.layer))
frame_more job layers layer None = refl
frame_more job layers layer (Some x) =
    ap (λ (b : Bool). eqb x.job job && b)
    (list_any-append (λ (l : LayerRow). eqb l.place x.layer) layers (layer ∷ []) ∙ ap (λ (b : Bool). list_any (λ (l : LayerRow). eqb l.place x.layer) layers || b) (or_none (eqb layer.place x.layer)))
    ∙ shared (eqb x.job job) (list_any (λ (l : LayerRow). eqb l.place x.layer) layers) (eqb layer.place x.layer)
  where
    shared : (a b c : Bool) → (a && (b || c)) ≡ ((a && b) || (a && c))
    shared true b c = refl
    shared false b c = refl

row_more : (job : ℕ) (layers : List LayerRow) (layer : LayerRow) (o : Option SlotRow)
    → for_some o (λ (s : SlotRow). for_some s.frame (λ (x : Frame). eqb x.job job && list_any (λ (l : LayerRow). eqb l.place x.layer) (layers ++ layer ∷ [])))
    ≡ (for_some o (λ (s : SlotRow). for_some s.frame (λ (x : Frame). eqb x.job job && list_any (λ (l : LayerRow). eqb l.place x.layer) layers))
    || for_some o (λ (s : SlotRow). for_some s.frame (λ (x : Frame). eqb x.job job && eqb layer.place x.layer)))
row_more job layers layer None = refl
row_more job layers layer (Some s) = frame_more job layers layer s.frame

pub layers_more : (slots : List SlotRow) (job : ℕ) (layers : List LayerRow) (layer : LayerRow) (n : ℕ) → is_in_layers slots job (layers ++ layer ∷ []) n ≡ (is_in_layers slots job layers n || is_in_layer slots job layer.place n)
layers_more slots job layers layer n = row_more job layers layer (slice_get slots n)

no_layer : (job : ℕ) (o : Option Frame) → for_some o (λ (x : Frame). eqb x.job job && false) ≡ false
no_layer job None = refl
no_layer job (Some x) = off (eqb x.job job) where
  off : (b : Bool) → (b && false) ≡ false
  off true = refl
  off false = refl

row_none : (job : ℕ) (o : Option SlotRow) → for_some o (λ (s : SlotRow). for_some s.frame (λ (x : Frame). eqb x.job job && false)) ≡ false
row_none job None = refl
row_none job (Some s) = no_layer job s.frame

pub layers_none : (slots : List SlotRow) (job n : ℕ) → is_in_layers slots job [] n ≡ false
layers_none slots job n = row_none job (slice_get slots n)
