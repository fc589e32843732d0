-- A writer of many members, a step at a time.
use Rattle.std.proofs.Common.{◌≡◌, ℕ, List, [], ◌∷◌, ◌++◌, sym, ap, ◌∙◌}
use Rattle.std.specs.Prelude.{decimal}
use Rattle.json.specs.Token.{Token, number, string}
use Rattle.object_writer.specs.Tokens.{added}
use Rattle.object_writer.proofs.Printed.{added_append}

-- a member after what was written
pub next : (old middle new : List Token) (k v : Token) → middle ≡ old → new ≡ (middle ++ k ∷ []) ++ v ∷ [] → new ≡ (old ++ k ∷ []) ++ v ∷ []
next old middle new k v first member = member ∙ ap (λ m. (m ++ k ∷ []) ++ v ∷ []) first

-- a member that is a number, as a call gave it
pub next_number : (old middle new : List Token) (k : Token) (given n : ℕ) → given ≡ n → middle ≡ old → new ≡ (middle ++ k ∷ []) ++ number (decimal given) ∷ [] → new ≡ (old ++ k ∷ []) ++ number (decimal n) ∷ []
next_number old middle new k given n is first member = next old middle new k (number (decimal n)) first (member ∙ ap (λ m. (middle ++ k ∷ []) ++ number (decimal m) ∷ []) is)

-- a member that is a text, as a call gave it
pub next_text : (old middle new : List Token) (k : Token) (given text : List ℕ) → given ≡ text → middle ≡ old → new ≡ (middle ++ k ∷ []) ++ string given ∷ [] → new ≡ (old ++ k ∷ []) ++ string text ∷ []
next_text old middle new k given text is first member = next old middle new k (string text) first (member ∙ ap (λ t. (middle ++ k ∷ []) ++ string t ∷ []) is)

-- the end after what was written
pub last : (old middle new : List Token) (t : Token) → middle ≡ old → new ≡ middle ++ t ∷ [] → new ≡ old ++ t ∷ []
last old middle new t first end = end ∙ ap (λ m. m ++ t ∷ []) first

-- a member that is a list, and the end
pub last_list : (old middle list new : List Token) (k t : Token) (xs : List Token) → middle ≡ old → list ≡ added (middle ++ k ∷ []) xs → new ≡ list ++ t ∷ [] → new ≡ added (old ++ k ∷ []) (xs ++ t ∷ [])
last_list old middle list new k t xs first member end =
    end ∙ ap (λ m. m ++ t ∷ []) (member ∙ ap (λ m. added (m ++ k ∷ []) xs) first) ∙ sym (added_append (old ++ k ∷ []) xs (t ∷ []))

-- a member, and the members after it
pub before_rest : (old new : List Token) (k v : Token) (rest : List Token) → new ≡ (old ++ k ∷ []) ++ v ∷ [] → added new rest ≡ added old (k ∷ v ∷ rest)
before_rest old new k v rest member = ap (λ m. added m rest) member

-- the same of a text, as a call gave it
pub text_before_rest : (old new : List Token) (k : Token) (given text : List ℕ) (rest : List Token) → given ≡ text → new ≡ (old ++ k ∷ []) ++ string given ∷ [] → added new rest ≡ added old (k ∷ string text ∷ rest)
text_before_rest old new k given text rest is member = before_rest old new k (string text) rest (member ∙ ap (λ t. (old ++ k ∷ []) ++ string t ∷ []) is)
