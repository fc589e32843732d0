-- Which object a line's bytes are.
use Rattle.std.specs.Prelude.{◌≡◌, ℕ, List, Option, Some, None, option_and_then, Result, Ok, Err, if◌then◌else◌}
use Rattle.json.specs.Json.{Json, if_last}
use Rattle.json.specs.Token.{Token}
use Rattle.std.specs.Str.{is_utf8}
use Rattle.serde_json.specs.Data.{Data, Members}
use Rattle.serde_json.specs.Find.{as_object}
use Rattle.serde_json.specs.Read.{of_json, read}
use Rattle.cue_json.specs.declared.line.LineFault.{LineFault}
use Rattle.cue_json.specs.declared.line.LineFault.TheVariants as faults

-- the object that the line is, where its bytes are UTF-8 and the text of one
unfoldable pub object_in : List ℕ → Option Members
object_in line = if is_utf8 line then option_and_then as_object (read line) else None

-- what the call returned, seen by view, is the line's object
abbrev pub IsObjectIn : {X : Type 0} → (X → Members) → Result X LineFault → Option Members → Type 0
IsObjectIn view (Ok x) found = found ≡ Some (view x)
IsObjectIn view (Err faults.NotAnObject) found = found ≡ None
IsObjectIn view (Err faults.NoMemory) found = Unit {0}

-- the value that was read first, where no token is left
abbrev pub whole : Json → List Token → Option Data
whole j rest = option_and_then of_json (if_last j rest)

-- what the call returned, seen by view, is the value that was to be read
abbrev pub IsValueIn : {X : Type 0} → (X → Data) → Result X LineFault → Option Data → Type 0
IsValueIn view (Ok x) found = found ≡ Some (view x)
IsValueIn view (Err faults.NotAnObject) found = found ≡ None
IsValueIn view (Err faults.NoMemory) found = Unit {0}
