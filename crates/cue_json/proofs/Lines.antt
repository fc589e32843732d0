-- What a read of the bytes says of the object in them.
use Rattle.std.proofs.Common.{◌≡◌, ℕ, List, [], ◌∷◌, Bool, true, false, Option, Some, None, option_map, ok_or, option_and_then, cond, Err, IsUtf8, ap, sym, refl, ◌∙◌}
use Rattle.std.proofs.lemmas.Str.{IsUtf8-from_is_utf8, is_utf8-from_IsUtf8}
use Rattle.std.specs.Str.{is_utf8}
use Rattle.std.proofs.lemmas.Bool.{true≢false}
use Rattle.std.specs.Prelude.{MatchOption, is_some}
use Rattle.json.specs.Json.{Json, if_last, value}
use Rattle.json.specs.Lex.{tokens}
use Rattle.json.specs.Token.{Token}
use Rattle.serde_json.specs.Data.{Data, Members}
use Rattle.serde_json.specs.Find.{as_object}
use Rattle.serde_json.specs.Read.{max_depth, of_json, read}
use Rattle.cue_json.specs.Lines.{IsObjectIn, IsValueIn, object_in, whole}
use Rattle.cue_json.specs.declared.line.LineFault.{LineFault}
use Rattle.cue_json.specs.declared.line.LineFault.TheVariants.{NoMemory, NotAnObject}

-- an object that was found, or the fault in its place
pub given_or_none : {X : Type 0} (view : X → Members) (o : Option X) (found : Option Members) → option_map view o ≡ found → IsObjectIn view (ok_or o NotAnObject) found
given_or_none view None found e = sym e
given_or_none view (Some x) found e = sym e

none_in : (line : List ℕ) (b : Bool) → is_utf8 line ≡ b → ¬ IsUtf8 line → cond b (option_and_then as_object (read line)) None ≡ None
none_in line true is refused = absurd (refused (IsUtf8-from_is_utf8 line is))
none_in line false is refused = refl

pub object_in-refused : (line : List ℕ) → ¬ IsUtf8 line → object_in line ≡ None
unfolding object_in
object_in-refused line refused = none_in line (is_utf8 line) refl refused

-- a text in UTF-8 reads as the object that its value is, and other bytes as none
pub object_in-text : (line text : List ℕ) (found : Option Data) → text ≡ line → IsUtf8 line → read text ≡ found → object_in line ≡ option_and_then as_object found
unfolding object_in
object_in-text line text found same is reads = rw (is_utf8-from_IsUtf8 line is) refl ∙ ap (λ bytes. option_and_then as_object (read bytes)) (sym same) ∙ ap (option_and_then as_object) reads

-- the fault in the value's place
pub refused : {X Y : Type 0} (view : X → Data) (shown : Y → Members) (fault : LineFault) (line : List ℕ) (found : Option Data) → object_in line ≡ option_and_then as_object found
    → IsValueIn view (Err fault) found → IsObjectIn shown (Err fault) (object_in line)
refused view shown NotAnObject line found is told = is ∙ ap (option_and_then as_object) told
refused view shown NoMemory line found is told = tt

-- what follows the value, if anything does
pub more_left : {T : Type 0} (A : Type 0) (shown : T → Token) (after : Option T) (j : Json) (ts rest : List Token) → MatchOption after A (λ t. ts ≡ shown t ∷ rest) → true ≡ is_some after → whole j ts ≡ None
more_left A shown None j ts rest left is = absurd (true≢false is)
more_left A shown (Some t) j ts rest left is = ap (whole j) left

pub none_left : {T : Type 0} (A : Type 0) (B : T → Type 0) (after : Option T) (ts : List Token) → MatchOption after ((ts ≡ []) × A) B → false ≡ is_some after → ts ≡ []
none_left A B None ts left is = left.0
none_left A B (Some t) ts left is = absurd (true≢false (sym is))

-- how a first value reads
pub first_read : (text : List ℕ) (j : Json) (rest : List Token) → value max_depth (tokens text) ≡ Some (j, rest) → read text ≡ whole j rest
first_read text j rest is = ap (λ first. option_and_then of_json (option_and_then (λ p. if_last p.0 p.1) first)) is

pub none_read : (text : List ℕ) → value max_depth (tokens text) ≡ None → read text ≡ None
none_read text is = ap (λ first. option_and_then of_json (option_and_then (λ p. if_last p.0 p.1) first)) is
