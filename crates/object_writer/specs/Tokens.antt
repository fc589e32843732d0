-- What is written of a JSON value: its tokens, which json prints as serde_json's compact text.
use Rattle.std.specs.Prelude.{List, [], ◌∷◌, ◌++◌, fold}
use Rattle.json.specs.Token.{Token, begin_object}
use Rattle.json.specs.Tree.{json_tokens, members_tokens}
use Rattle.serde_json.specs.Data.{Data, Members}
use Rattle.serde_json.specs.Written.{members_outline, outline}

abbrev pub tokens_of : Data → List Token
tokens_of value = json_tokens (outline value)

-- the tokens of members, up to the object's end
abbrev pub fields_tokens : Members → List Token
fields_tokens fields = members_tokens (members_outline fields)

abbrev pub object_tokens : Members → List Token
object_tokens fields = begin_object ∷ fields_tokens fields

-- more tokens at the end, added one by one
abbrev pub added : List Token → List Token → List Token
added before more = fold (λ before token. before ++ token ∷ []) before more
