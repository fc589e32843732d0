-- The five tokens of a command, beside the rules' own words.
use Rattle.std.specs.Prelude.{◌≡◌, ℕ, ℤ, List, drop, length, true, false, Option, None, Some}
use Rattle.std.specs.Fmt.{signed_decimal}
use Rattle.farm_types.specs.Names.{four_places, frame_name, starts_with, token_at, Token as Replaced}
use Rattle.command_text.specs.declared.token.Token.{Token}
use Rattle.command_text.specs.declared.token.Token.TheVariants.{PlacedNumber, PlainNumber, Layer, Job, FrameName}
use denote.Ref.{Bor}

-- `#`, with which each token begins and ends
abbrev pub mark : ℕ
mark = 35

-- how many bytes a token has
abbrev pub size_of : Token → ℕ
size_of PlacedNumber = 8
size_of PlainNumber = 8
size_of Layer = 7
size_of Job = 5
size_of FrameName = 7

-- what stands in a token's place
abbrev pub meaning_of : List ℕ → List ℕ → ℤ → Token → List ℕ
meaning_of job layer number PlacedNumber = four_places number
meaning_of job layer number PlainNumber = signed_decimal number
meaning_of job layer number Layer = layer
meaning_of job layer number Job = job
meaning_of job layer number FrameName = frame_name number layer

-- both, as the rules say them
abbrev pub token_of : List ℕ → List ℕ → ℤ → Token → Replaced
token_of job layer number token = record { size = size_of token; text = meaning_of job layer number token }

-- the answer is the token at the front of the text, if any, with what follows it
abbrev pub Strips : List ℕ → Option (Token × Bor (List ℕ)) → Type 0
Strips text None = (job layer : List ℕ) (number : ℤ) → token_at job layer number text ≡ None
Strips text (Some found) = ((job layer : List ℕ) (number : ℤ) → token_at job layer number text ≡ Some (token_of job layer number found.0)) × (found.1.now ≡ drop (size_of found.0) text)

-- the text doesn't begin with the word
abbrev pub IsAbsent : List ℕ → List ℕ → Type 0
IsAbsent word text = starts_with word text ≡ false

-- the text begins with the word, and this follows it
abbrev pub IsAfter : List ℕ → List ℕ → List ℕ → Type 0
IsAfter word text rest = (starts_with word text ≡ true) × (rest ≡ drop (length word) text)
