-- What reading a spec answers.
use Rattle.std.specs.Prelude.{◌≡◌, ℕ, List, Result, Ok, Err}
use Rattle.cue_json.specs.Fields.{Missing, WrongKind, Unknown}
use Rattle.cue_json.specs.declared.fault.FieldFault.{FieldFault}
use Rattle.cue_json.specs.declared.fault.FieldFault.TheVariants as field_fault
use Rattle.frame_range.specs.declared.fault.RangeFault.{RangeFault}
use Rattle.frame_range.specs.declared.fault.RangeFault.TheVariants as range_fault
use Rattle.farm_lines.specs.declared.request.RequestFault.{RequestFault}
use Rattle.farm_lines.specs.declared.request.RequestFault.TheVariants as request_fault
use Rattle.farm_lines.specs.FieldFaults.{of_field}
use Rattle.farm_lines.specs.Spec.{SpecError, Field, Range, Amount}
use Rattle.job_spec.specs.declared.fault.SpecFault.{SpecFault}
use Rattle.job_spec.specs.declared.fault.SpecFault.TheVariants as spec_fault

-- the fault of a field, as the error of the spec; it isn't that memory ran out
abbrev pub FailsField : {X : Type 0} → FieldFault → Result X SpecError → Type 0
FailsField (field_fault.Missing field) read = read ≡ Err (Field (Missing field))
FailsField (field_fault.WrongKind field) read = read ≡ Err (Field (WrongKind field))
FailsField (field_fault.Unknown field) read = read ≡ Err (Field (Unknown field))
FailsField field_fault.NoMemory read = ⊥

-- the fault of a layer's range, as the error of the spec; it isn't that memory ran out
abbrev pub FailsRange : {X : Type 0} → List ℕ → RangeFault → Result X SpecError → Type 0
FailsRange layer (range_fault.Syntax n) read = read ≡ Err (Range layer (range_fault.Syntax n))
FailsRange layer (range_fault.OutOfRange n) read = read ≡ Err (Range layer (range_fault.OutOfRange n))
FailsRange layer (range_fault.ZeroStep n) read = read ≡ Err (Range layer (range_fault.ZeroStep n))
FailsRange layer (range_fault.WrongWay n) read = read ≡ Err (Range layer (range_fault.WrongWay n))
FailsRange layer (range_fault.Empty n) read = read ≡ Err (Range layer (range_fault.Empty n))
FailsRange layer (range_fault.TooMany n) read = read ≡ Err (Range layer (range_fault.TooMany n))
FailsRange layer range_fault.NoMemory read = ⊥

-- the fault of the call is the error that was to be read, unless memory ran out
abbrev pub Fails : {X : Type 0} → SpecFault → Result X SpecError → Type 0
Fails spec_fault.NoMemory read = Unit {0}
Fails (spec_fault.Field fault) read = FailsField fault read
Fails (spec_fault.Range layer fault) read = FailsRange layer fault read
Fails (spec_fault.Amount field) read = read ≡ Err (Amount field)

-- what the call returned is what was to be read, unless memory ran out
abbrev pub GivesSpec : {X : Type 0} → Result X SpecFault → Result X SpecError → Type 0
GivesSpec (Ok x) read = read ≡ Ok x
GivesSpec (Err fault) read = Fails fault read

-- a field's fault as the spec's; that memory ran out stands alone
abbrev pub with_field : FieldFault → SpecFault
with_field field_fault.NoMemory = spec_fault.NoMemory
with_field fault = spec_fault.Field fault

-- a spec's fault, as the fault of the line that asks for the job
abbrev pub of_spec : SpecFault → RequestFault
of_spec (spec_fault.Field fault) = of_field fault
of_spec (spec_fault.Range layer fault) = request_fault.BadRange layer fault
of_spec (spec_fault.Amount field) = request_fault.BadAmount field
of_spec spec_fault.NoMemory = request_fault.NoMemory

-- the fault says that the amount of the field is outside its limits, or that memory ran out
abbrev pub IsAmount : List ℕ → SpecFault → Type 0
IsAmount field spec_fault.NoMemory = Unit {0}
IsAmount field (spec_fault.Amount named) = named ≡ field
IsAmount field _ = ⊥
