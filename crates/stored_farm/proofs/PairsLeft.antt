-- Nothing is left where one of two lists is at its end.
use Rattle.std.proofs.Common.{◌≡◌, ℕ, false, List, [], ◌∷◌, Option, None, ◌⊎◌, inl, inr, refl, subst, sym}
use Rattle.farm_types.specs.declared.depend.DependRow.{DependRow}
use Rattle.farm_types.specs.declared.depend.Group.{Group}
use Rattle.farm_types.specs.declared.depend.MetRow.{MetRow}
use Rattle.farm_types.specs.declared.slot_row.SlotRow.{SlotRow}
use Rattle.farm_rows.specs.Recovery.{StoredKey}
use Rattle.stored_farm.specs.Ends.{first_wrong, waits_unmet}

wrong_past : (met : List MetRow) (slots : List SlotRow) (ds : List DependRow) → ◌≡◌ {A = Option StoredKey} (first_wrong met slots ds []) None
wrong_past met slots [] = refl
wrong_past met slots (d ∷ ds) = refl

pub wrong_end : (met : List MetRow) (slots : List SlotRow) (ds : List DependRow) (gs : List (List Group)) → (ds ≡ []) ⊎ (gs ≡ []) → ◌≡◌ {A = Option StoredKey} (first_wrong met slots ds gs) None
wrong_end met slots ds gs (inl none) = subst (λ (xs : List DependRow). ◌≡◌ {A = Option StoredKey} (first_wrong met slots xs gs) None) (sym none) refl
wrong_end met slots ds gs (inr none) = subst (λ (xs : List (List Group)). ◌≡◌ {A = Option StoredKey} (first_wrong met slots ds xs) None) (sym none) (wrong_past met slots ds)

unmet_past : (met : List MetRow) (ds : List DependRow) (slot : ℕ) → waits_unmet met ds [] slot ≡ false
unmet_past met [] slot = refl
unmet_past met (d ∷ ds) slot = refl

pub unmet_end : (met : List MetRow) (ds : List DependRow) (gs : List (List Group)) (slot : ℕ) → (ds ≡ []) ⊎ (gs ≡ []) → waits_unmet met ds gs slot ≡ false
unmet_end met ds gs slot (inl none) = subst (λ (xs : List DependRow). waits_unmet met xs gs slot ≡ false) (sym none) refl
unmet_end met ds gs slot (inr none) = subst (λ (xs : List (List Group)). waits_unmet met ds xs slot ≡ false) (sym none) (unmet_past met ds slot)
