-- Faults of fields and of lines, as faults of rows.
use Rattle.cue_json.specs.declared.fault.FieldFault.{FieldFault}
use Rattle.cue_json.specs.declared.fault.FieldFault.TheVariants as field_fault
use Rattle.cue_json.specs.declared.line.LineFault.{LineFault}
use Rattle.cue_json.specs.declared.line.LineFault.TheVariants as line_fault
use Rattle.row_codec.specs.declared.fault.ReadFault.{ReadFault}
use Rattle.row_codec.specs.declared.fault.ReadFault.TheVariants.{NoRow, NoMemory}

abbrev pub of_field : FieldFault → ReadFault
of_field field_fault.NoMemory = NoMemory
of_field other = NoRow

abbrev pub of_line : LineFault → ReadFault
of_line line_fault.NotAnObject = NoRow
of_line line_fault.NoMemory = NoMemory
