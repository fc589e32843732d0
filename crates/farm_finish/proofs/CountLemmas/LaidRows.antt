-- Rows of slots that are put in one after the other, and the versions that are laid over the slots.
use Rattle.std.proofs.Common.{◌≡◌, ◌≢◌, ◌<◌, ℕ, Bool, cond, eqb, List, [], ◌∷◌, ◌++◌, length, Option, Some, refl, sym, ap, ◌∙◌, ◌⊎◌, inl, inr, arith}
use Rattle.std.specs.List.{slice_get, slice_set}
use Rattle.std.proofs.lemmas.Bool.{eq-eqb, ne_eqb}
use Rattle.farm_types.specs.declared.slot_row.SlotRow.{SlotRow}
use Rattle.farm_types.proofs.Changed.{places, slice_get-set_other, slice_get-set_same}
use Rattle.farm_types.proofs.Lists.{slice_get_below}
use Rattle.farm_draft.specs.declared.slot_change.SlotChange.{SlotChange}
use Rattle.farm_draft.specs.Rows.{put_slots}
use Rattle.farm_depends.proofs.CompletionLemmas.NewlyDone.{length-put_slots}
use Rattle.farm_finish.specs.Gone.{version_in}
use Rattle.farm_finish.specs.Versions.{AreLaid, version_or}

pub put_more : (slots : List SlotRow) (es : List SlotChange) (e : SlotChange) → put_slots slots (es ++ e ∷ []) ≡ slice_set (put_slots slots es) e.slot e.row
put_more slots [] e = refl
put_more slots (x ∷ xs) e = put_more (slice_set slots x.slot x.row) xs e

pub laid_more : (slots : List SlotRow) (es : List SlotChange) (e : SlotChange) (over next : ℕ → Option ℕ) → e.slot < length slots → AreLaid slots es over → ((n : ℕ) → next n ≡ cond (eqb n e.slot) (Some e.row.version) (over n)) → AreLaid slots (es ++ e ∷ []) next
laid_more slots es e over next within laid is n = by_place (places n e.slot) where
  by_place : (n ≡ e.slot) ⊎ (n ≢ e.slot) → version_or (next n) (slice_get slots n) ≡ version_in (slice_get (put_slots slots (es ++ e ∷ [])) n)
  by_place (inl same) =
      let old = slice_get_below (put_slots slots es) e.slot (omega (arith, within, length-put_slots slots es)) in
      ap (λ (o : Option ℕ). version_or o (slice_get slots n)) (is n ∙ ap (λ (b : Bool). cond b (Some e.row.version) (over n)) (eq-eqb n e.slot same))
      ∙ sym (ap version_in (ap (λ (ss : List SlotRow). slice_get ss n) (put_more slots es e) ∙ (ap (slice_get (slice_set (put_slots slots es) e.slot e.row)) same ∙ slice_get-set_same (put_slots slots es) e.slot old.0 e.row old.1)))
  by_place (inr apart) =
      ap (λ (o : Option ℕ). version_or o (slice_get slots n)) (is n ∙ ap (λ (b : Bool). cond b (Some e.row.version) (over n)) (ne_eqb n e.slot apart))
      ∙ (laid n ∙ sym (ap version_in (ap (λ (ss : List SlotRow). slice_get ss n) (put_more slots es e) ∙ slice_get-set_other (put_slots slots es) e.slot n e.row apart)))
