-- What is written of members, one after the other, is what is written of the object.
use Rattle.std.proofs.Common.{◌≡◌, ℕ, ℤ, pos, negsuc, List, [], ◌∷◌, ◌++◌, refl, sym, ap, ◌∙◌}
use Rattle.std.specs.Fmt.{signed_decimal}
use Rattle.json.specs.Token.{Token, begin_object, key, number}
use Rattle.serde_json.specs.Data.{Data, object, Members, member}
use Rattle.farm_lines.specs.Words.{signed}
use Rattle.object_writer.specs.Tokens.{added, fields_tokens, tokens_of}
use Rattle.object_writer.proofs.Printed.{added_append}

pub signed_tokens : (z : ℤ) → tokens_of (signed z) ≡ number (signed_decimal z) ∷ []
signed_tokens (pos n) = refl
signed_tokens (negsuc n) = refl

-- a member, and what is written after it
pub member_rest : (old new : List Token) (k : List ℕ) (d : Data) (rest : Members) → new ≡ added old (key k ∷ tokens_of d) → added new (fields_tokens rest) ≡ added old (fields_tokens (member k d rest))
member_rest old new k d rest is = ap (λ m. added m (fields_tokens rest)) is ∙ sym (added_append old (key k ∷ tokens_of d) (fields_tokens rest))

-- the same from the end of what is written
pub and_then : (old new end : List Token) (k : List ℕ) (d : Data) (rest : Members) → new ≡ added old (key k ∷ tokens_of d) → end ≡ added new (fields_tokens rest) → end ≡ added old (fields_tokens (member k d rest))
and_then old new end k d rest is more = more ∙ member_rest old new k d rest is

-- an object, from its beginning
pub of_object : (old begun end : List Token) (ms : Members) → begun ≡ old ++ begin_object ∷ [] → end ≡ added begun (fields_tokens ms) → end ≡ added old (tokens_of (object ms))
of_object old begun end ms begin more = more ∙ ap (λ m. added m (fields_tokens ms)) begin

-- the same of a value that a call gave
pub and_as : {X : Type 0} (f : X → Data) (given x : X) (old new end : List Token) (k : List ℕ) (rest : Members) → given ≡ x → new ≡ added old (key k ∷ tokens_of (f given)) → end ≡ added new (fields_tokens rest)
    → end ≡ added old (fields_tokens (member k (f x) rest))
and_as f given x old new end k rest same is more = and_then old new end k (f x) rest (is ∙ ap (λ y. added old (key k ∷ tokens_of (f y))) same) more

-- a member that may be left out
pub and_if : (adds : Members → Members) (old new end : List Token) (rest : Members) → ((rest : Members) → added new (fields_tokens rest) ≡ added old (fields_tokens (adds rest))) → end ≡ added new (fields_tokens rest)
    → end ≡ added old (fields_tokens (adds rest))
and_if adds old new end rest is more = more ∙ is rest
