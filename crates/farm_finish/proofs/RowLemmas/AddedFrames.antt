-- Frames that are added for one layer after the other.
use Rattle.std.proofs.Common.{◌≡◌, ℕ, Bool, false, ◌||◌, List, [], ◌∷◌, ◌++◌, map, Option, eqb, refl, sym, ap, ◌∙◌}
use Rattle.std.proofs.lemmas.List.{map-append}
use Rattle.std.proofs.lemmas.List.Folds.{list_any-append}
use Rattle.farm_types.specs.declared.slot_row.SlotRow.{SlotRow}
use Rattle.farm_rows.specs.declared.row_change.RowChange.{RowChange}
use Rattle.farm_finish.specs.Adding.{AddsFrames}
use Rattle.farm_finish.specs.Versions.{freed_by}

nothing_more : (xs : List RowChange) → xs ≡ xs ++ []
nothing_more [] = refl
nothing_more (x ∷ xs) = ap (λ (ys : List RowChange). x ∷ ys) (nothing_more xs)

together : (xs ys zs : List RowChange) → (xs ++ ys) ++ zs ≡ xs ++ (ys ++ zs)
together [] ys zs = refl
together (x ∷ xs) ys zs = ap (λ (ws : List RowChange). x ∷ ws) (together xs ys zs)

module _ (slots : List SlotRow) (over : ℕ → Option ℕ) where
  pub adds_none : (test : ℕ → Bool) (xs : List RowChange) → ((n : ℕ) → false ≡ test n) → AddsFrames slots over test xs xs
  adds_none test xs none = record { frames = []; frames_are = none; items = nothing_more xs }

  pub adds_as : (s t : ℕ → Bool) (xs ys : List RowChange) → AddsFrames slots over s xs ys → ((n : ℕ) → s n ≡ t n) → AddsFrames slots over t xs ys
  adds_as s t xs ys a same = record { frames = a.frames; frames_are = λ n. a.frames_are n ∙ same n; items = a.items }

  pub adds_then : (s t u : ℕ → Bool) (xs ys zs : List RowChange) → AddsFrames slots over s xs ys → AddsFrames slots over t ys zs → ((n : ℕ) → u n ≡ (s n || t n)) → AddsFrames slots over u xs zs
  adds_then s t u xs ys zs a b both =
      record {
        frames = a.frames ++ b.frames;
        frames_are = λ n. list_any-append (λ m. eqb m n) a.frames b.frames ∙ ((λ i. a.frames_are n i || b.frames_are n i) ∙ sym (both n));
        items = b.items ∙ (ap (λ (ws : List RowChange). ws ++ map (freed_by slots over) b.frames) a.items
            ∙ (together xs (map (freed_by slots over) a.frames) (map (freed_by slots over) b.frames) ∙ ap (λ (ws : List RowChange). xs ++ ws) (sym (map-append (freed_by slots over) a.frames b.frames))));
      }
