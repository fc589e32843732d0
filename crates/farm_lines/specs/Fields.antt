-- Fields that hold names, and fields that may be left out.
use Rattle.std.specs.Prelude.{ℕ, List, Option, None, Some, Result, Ok, Err, if◌then◌else◌}
use Rattle.serde_json.specs.Data.{Members}
use Rattle.cue_json.specs.Fields.{Fault, WrongKind, ◌>>=◌, text_at, whole_at, has_key}
use Rattle.farm_types.specs.Forms.{is_name_text}

-- a text that is a name
abbrev pub name_at : List ℕ → Members → Result (List ℕ) Fault
name_at field ms = text_at field ms >>= λ name. if is_name_text name then Ok name else Err (WrongKind field)

-- a number that may be left out
abbrev pub optional_whole_at : List ℕ → ℕ → ℕ → Members → Result (Option ℕ) Fault
optional_whole_at field least most ms = if has_key field ms then (whole_at field least most ms >>= λ n. Ok (Some n)) else Ok None

-- what is read of the field where it is there, and else its default
abbrev pub or_default : {X : Type 0} → X → (List ℕ → Members → Result X Fault) → List ℕ → Members → Result X Fault
or_default default read field ms = if has_key field ms then read field ms else Ok default
