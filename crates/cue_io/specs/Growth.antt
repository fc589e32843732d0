-- Lists that an object tells, or can't tell, and that grow at their end.
use Rattle.std.specs.Prelude.{◌≡◌, List, [], ◌++◌, Option, None, Some}
use Rattle.std.proofs.Common.{sym, ap, ◌∙◌, append_assoc, append-nil}

-- a list that is told grew by these at its end; what can't tell its list never does
abbrev pub Grows : {X : Type 0} → Option (List X) → Option (List X) → List X → Type 0
Grows None None more = Unit {0}
Grows None (Some new) more = ⊥
Grows (Some old) None more = ⊥
Grows (Some old) (Some new) more = new ≡ old ++ more

-- what stays has grown by nothing
pub Grows-none : {X : Type 0} (told : Option (List X)) → Grows told told []
Grows-none None = tt
Grows-none (Some told) = sym (append-nil told)

-- one growth after another
pub Grows-append : {X : Type 0} (old mid new : Option (List X)) (first second : List X) → Grows old mid first → Grows mid new second
    → Grows old new (first ++ second)
Grows-append None None None first second a b = tt
Grows-append None None (Some new) first second a b = b
Grows-append None (Some mid) new first second a b = absurd a
Grows-append (Some old) None new first second a b = absurd a
Grows-append (Some old) (Some mid) None first second a b = absurd b
Grows-append (Some old) (Some mid) (Some new) first second a b =
    b ∙ ap (λ told. told ++ second) a ∙ append_assoc old first second
