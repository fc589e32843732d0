-- No frame is left where one of the two lists is at its end.
use Rattle.std.proofs.Common.{◌≡◌, ℕ, ℤ, Bool, List, [], ◌∷◌, ◌⊎◌, inl, inr, refl, subst, sym}
use Rattle.farm_types.specs.declared.depend.Group.{Group}
use Rattle.farm_types.specs.Groups.{groups_in_step, slot_numbered}
use Rattle.depend_kinds.specs.Found.{groups_found}

numbered_past : (number : ℤ) (ns : List ℤ) → slot_numbered number ns [] ≡ []
numbered_past number [] = refl
numbered_past number (n ∷ ns) = refl

pub numbered_end : (number : ℤ) (ns : List ℤ) (ss : List ℕ) → (ns ≡ []) ⊎ (ss ≡ []) → slot_numbered number ns ss ≡ []
numbered_end number ns ss (inl none) = subst (λ (xs : List ℤ). slot_numbered number xs ss ≡ []) (sym none) refl
numbered_end number ns ss (inr none) = subst (λ (xs : List ℕ). slot_numbered number ns xs ≡ []) (sym none) (numbered_past number ns)

step_past : (position : ℕ) (any : Bool) (ss : List ℕ) → ◌≡◌ {A = List Group} (groups_in_step position any ss []) []
step_past position any [] = refl
step_past position any (s ∷ ss) = refl

pub step_end : (position : ℕ) (any : Bool) (ss ts : List ℕ) → (ss ≡ []) ⊎ (ts ≡ []) → ◌≡◌ {A = List Group} (groups_in_step position any ss ts) []
step_end position any ss ts (inl none) = subst (λ (xs : List ℕ). ◌≡◌ {A = List Group} (groups_in_step position any xs ts) []) (sym none) refl
step_end position any ss ts (inr none) = subst (λ (xs : List ℕ). ◌≡◌ {A = List Group} (groups_in_step position any ss xs) []) (sym none) (step_past position any ss)

module _ (look : ℤ → List ℕ) where
  found_past : (position : ℕ) (any : Bool) (ns : List ℤ) → ◌≡◌ {A = List Group} (groups_found look position any ns []) []
  found_past position any [] = refl
  found_past position any (n ∷ ns) = refl

  pub found_end : (position : ℕ) (any : Bool) (ns : List ℤ) (ss : List ℕ) → (ns ≡ []) ⊎ (ss ≡ []) → ◌≡◌ {A = List Group} (groups_found look position any ns ss) []
  found_end position any ns ss (inl none) = subst (λ (xs : List ℤ). ◌≡◌ {A = List Group} (groups_found look position any xs ss) []) (sym none) refl
  found_end position any ns ss (inr none) = subst (λ (xs : List ℕ). ◌≡◌ {A = List Group} (groups_found look position any ns xs) []) (sym none) (found_past position any ns)
