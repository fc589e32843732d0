-- What a sink was given, where it tells it, and what a call adds to that.
use Rattle.std.specs.Prelude.{◌≡◌, ℕ, ◌<◌, List, [], ◌++◌, Option, None, Some, length, take}
use Rattle.std.proofs.Common.{sym, ap, ◌∙◌, append_assoc, append-nil}

-- these bytes were added at the end of what was written
abbrev pub Adds : Option (List ℕ) → Option (List ℕ) → List ℕ → Type 0
Adds None None added = Unit {0}
Adds None (Some new) added = ⊥
Adds (Some old) None added = ⊥
Adds (Some old) (Some new) added = new ≡ old ++ added

-- less than the whole piece was added, from its front
pub record AddsPart (old new : Option (List ℕ)) (piece : List ℕ) : Type 0 where
  pub count : ℕ
  pub cut : count < length piece
  pub adds : Adds old new (take count piece)

-- a call that changes nothing adds nothing
pub Adds-none : (written : Option (List ℕ)) → Adds written written []
Adds-none None = tt
Adds-none (Some written) = sym (append-nil written)

-- what two calls add, one after the other
pub Adds-append : (old mid new : Option (List ℕ)) (first second : List ℕ) → Adds old mid first → Adds mid new second
    → Adds old new (first ++ second)
Adds-append None None None first second a b = tt
Adds-append None None (Some new) first second a b = b
Adds-append None (Some mid) new first second a b = absurd a
Adds-append (Some old) None new first second a b = absurd a
Adds-append (Some old) (Some mid) None first second a b = absurd b
Adds-append (Some old) (Some mid) (Some new) first second a b =
    b ∙ ap (λ written. written ++ second) a ∙ append_assoc old first second
