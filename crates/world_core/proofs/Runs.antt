-- One event more, behind those that happened.
use Rattle.std.proofs.Common.{◌≡◌, ◌∙◌, ℕ, ◌+◌, List, [], ◌∷◌, ◌++◌, Some, refl, sym, ap, subst, take}
use Rattle.std.specs.Prelude.{slice_get}
use Rattle.std.proofs.lemmas.List.{take_more}
use Rattle.std.proofs.lemmas.Option.{get_or_from_slice_get, slice_get_within}
use Rattle.world_law.specs.declared.event.Event.{Event}
use Rattle.world_law.specs.Happens.{Happen, Happens}
use Rattle.world_law.specs.World.{World}

happen_behind : (es : List Event) (e : Event) (w m n : World) → Happen w es m → Happens m e n → Happen w (es ++ e ∷ []) n
happen_behind [] e w m n all one = (n, subst (λ (v : World). Happens v e n) all one, refl)
happen_behind (x ∷ es) e w m n (next, happens, rest) one = (next, happens, happen_behind es e next m n rest one)

take_one : (es : List Event) (i : ℕ) (e : Event) → slice_get es i ≡ Some e → take (i + 1) es ≡ take i es ++ e ∷ []
take_one es i e there = take_more es i e (slice_get_within es i e there) ∙ ap (λ (x : Event). take i es ++ x ∷ []) (get_or_from_slice_get es i e e there)

-- so do the first ones, and one more
pub happen_more : (es : List Event) (i : ℕ) (e : Event) (w m n : World) → slice_get es i ≡ Some e → Happen w (take i es) m → Happens m e n
    → Happen w (take (i + 1) es) n
happen_more es i e w m n there all one =
    subst (λ (xs : List Event). Happen w xs n) (sym (take_one es i e there)) (happen_behind (take i es) e w m n all one)
