-- A value's tokens are printed as its text.
use Rattle.std.proofs.Common.{◌≡◌, List, [], ◌∷◌, ◌++◌, refl, sym, ap, ◌∙◌, append_assoc, append-nil}
use Rattle.json.specs.Print.{print}
use Rattle.json.specs.Token.{Token}
use Rattle.serde_json.specs.Data.{Data}
use Rattle.serde_json.specs.Written.{compact_text}
use Rattle.serde_json.proofs.Texts.{print-outline}
use Rattle.object_writer.specs.Tokens.{added, tokens_of}

added_is : (before more : List Token) → added before more ≡ before ++ more
added_is before [] = sym (append-nil before)
added_is before (t ∷ ts) = added_is (before ++ t ∷ []) ts ∙ append_assoc before (t ∷ []) ts

pub added_append : (before xs ys : List Token) → added before (xs ++ ys) ≡ added (added before xs) ys
added_append before [] ys = refl
added_append before (x ∷ xs) ys = added_append (before ++ x ∷ []) xs ys

pub data_printed : (d : Data) → print (added [] (tokens_of d)) ≡ compact_text d
data_printed d = ap print (added_is [] (tokens_of d)) ∙ print-outline d
