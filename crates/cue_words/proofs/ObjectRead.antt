-- What a read of a text says of the object in it.
use Rattle.std.proofs.Common.{◌≡◌, ℕ, List, Bool, true, false, Option, Some, None, option_map, ok_or, option_and_then, cond, IsUtf8, sym, refl}
use Rattle.std.proofs.lemmas.Str.{IsUtf8-from_is_utf8, is_utf8-from_IsUtf8}
use Rattle.std.specs.Str.{is_utf8}
use Rattle.serde_json.specs.Data.{Data, Members}
use Rattle.serde_json.specs.Find.{as_object}
use Rattle.serde_json.specs.Read.{read}
use Rattle.cue_json.specs.Lines.{object_in, IsObjectIn}
use Rattle.cue_json.specs.declared.line.LineFault.TheVariants.{NotAnObject}

pub object_in-read : (line : List ℕ) (d : Data) → IsUtf8 line → read line ≡ Some d → as_object d ≡ object_in line
unfolding object_in
object_in-read line d text is = rw (is_utf8-from_IsUtf8 line text, is) refl

-- an object that was found, or the fault in its place
pub given_or_none : {X : Type 0} (view : X → Members) (o : Option X) (found : Option Members) → option_map view o ≡ found → IsObjectIn view (ok_or o NotAnObject) found
given_or_none view None found e = sym e
given_or_none view (Some x) found e = sym e

none_in : (line : List ℕ) (b : Bool) → is_utf8 line ≡ b → (IsUtf8 line → read line ≡ None) → cond b (option_and_then as_object (read line)) None ≡ None
none_in line true is refused = rw (refused (IsUtf8-from_is_utf8 line is)) refl
none_in line false is refused = refl

pub object_in-refused : (line : List ℕ) → (IsUtf8 line → read line ≡ None) → object_in line ≡ None
unfolding object_in
object_in-refused line refused = none_in line (is_utf8 line) refl refused
