-- The frames of a job's layers listed in turn, layer by layer.
use Rattle.std.proofs.Common.{◌≡◌, ℕ, ◌+◌, ◌≤◌, List, ◌∷◌, length, length-append, drop, Some, sym, ap, subst, ◌∙◌, arith}
use Rattle.std.specs.Prelude.{flat_map}
use Rattle.std.specs.List.{slice_get}
use Rattle.std.proofs.lemmas.List.Sums.{fold-append}
use Rattle.farm_types.specs.declared.rows.LayerRow.{LayerRow}
use Rattle.farm_types.specs.Depends.{layer_shape}
use Rattle.farm_types.specs.Farm.{Farm}
use Rattle.farm_lines.specs.Lists.{frame_row, frames_in, slots_in}
use Rattle.cue_query.specs.declared.page.Page.{Page}
use Rattle.cue_query.specs.Pages.{offered, offered_all}
use Rattle.cue_query.proofs.OwnSlots.{slots_of}
use Rattle.cue_query.proofs.InTurn.{kept_within, seen_after, there}

-- there is room for those of the layers that are left, and with them it comes to all
pub record AreListed (f : Farm) (first page : Page) (left all : List LayerRow) : Type 0 where
  pub room : page.seen + length (slots_of f left) ≤ length (slots_of f all)
  pub all_is : offered_all page (flat_map (frames_in f) left) ≡ offered_all first (flat_map (frames_in f) all)

pub layer_listed : (f : Farm) (ls : List LayerRow) (first page new : Page) (n : ℕ) (l : LayerRow) (all : List LayerRow) → AreListed f first page (drop n ls) all → slice_get ls n ≡ Some l → new ≡ offered_all page (frames_in f l) → AreListed f first new (drop (n + 1) ls) all
layer_listed f ls first page new n l all listed at is =
    let left = drop (n + 1) ls in
    let here : AreListed f first page (l ∷ left) all = subst (λ (ks : List LayerRow). AreListed f first page ks all) (there ls n l at) listed in
    let rows = slots_in f l in
    let slots = (layer_shape f.slots l).slots in
    let count : new.seen ≡ page.seen + length (frames_in f l) = ap (λ (p : Page). p.seen) is ∙ seen_after page (frames_in f l) in
    record {
      room = omega (arith, count, here.room, length-append slots (slots_of f left), kept_within (frame_row l.name) rows, kept_within (slice_get f.slots) slots);
      all_is = ap (λ (p : Page). offered_all p (flat_map (frames_in f) left)) is ∙ sym (fold-append offered page (frames_in f l) (flat_map (frames_in f) left)) ∙ here.all_is;
    }
