-- The faults of fields, as the faults of a line.
use Rattle.cue_json.specs.declared.fault.FieldFault.{FieldFault}
use Rattle.cue_json.specs.declared.fault.FieldFault.TheVariants as field_fault
use Rattle.farm_lines.specs.declared.request.RequestFault.{RequestFault}
use Rattle.farm_lines.specs.declared.request.RequestFault.TheVariants.{BadLine, NoMemory}

-- a field's fault names its field
abbrev pub of_field : FieldFault → RequestFault
of_field (field_fault.Missing field) = BadLine field
of_field (field_fault.WrongKind field) = BadLine field
of_field (field_fault.Unknown field) = BadLine field
of_field field_fault.NoMemory = NoMemory
