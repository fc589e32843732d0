-- What a source has left, where it tells it, and what a call takes of that.
use Rattle.std.specs.Prelude.{◌≡◌, ℕ, List, [], ◌++◌, Option, None, Some}
use Rattle.std.proofs.Common.{refl, sym, ap, ◌∙◌, append_assoc}

-- these bytes were taken from the front of what was left
abbrev pub Takes : Option (List ℕ) → Option (List ℕ) → List ℕ → Type 0
Takes None None took = Unit {0}
Takes None (Some new) took = ⊥
Takes (Some old) None took = ⊥
Takes (Some old) (Some new) took = old ≡ took ++ new

-- nothing is left
abbrev pub IsAtEnd : Option (List ℕ) → Type 0
IsAtEnd None = Unit {0}
IsAtEnd (Some left) = left ≡ []

-- a call that leaves all takes nothing
pub Takes-none : (left : Option (List ℕ)) → Takes left left []
Takes-none None = tt
Takes-none (Some left) = refl

-- what two calls take, one after the other
pub Takes-append : (old mid new : Option (List ℕ)) (first second : List ℕ) → Takes old mid first → Takes mid new second
    → Takes old new (first ++ second)
Takes-append None None None first second a b = tt
Takes-append None None (Some new) first second a b = b
Takes-append None (Some mid) new first second a b = absurd a
Takes-append (Some old) None new first second a b = absurd a
Takes-append (Some old) (Some mid) None first second a b = absurd b
Takes-append (Some old) (Some mid) (Some new) first second a b =
    a ∙ ap (λ left. first ++ left) b ∙ sym (append_assoc first second new)

-- a call that takes nothing leaves the end where it was
pub IsAtEnd-kept : (old new : Option (List ℕ)) → Takes old new [] → IsAtEnd old → IsAtEnd new
IsAtEnd-kept None None t e = tt
IsAtEnd-kept None (Some new) t e = absurd t
IsAtEnd-kept (Some old) None t e = tt
IsAtEnd-kept (Some old) (Some new) t e = sym t ∙ e
