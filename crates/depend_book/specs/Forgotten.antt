-- What is left where depends are forgotten.
use Rattle.std.specs.Prelude.{List}
use Rattle.farm_types.specs.Finish.{marks_of}
use Rattle.farm_types.specs.declared.depend.DependRow.{DependRow}
use Rattle.farm_types.specs.declared.depend.MetRow.{MetRow}

-- of marks those of these depends
abbrev pub marks_among : List DependRow → List MetRow → List MetRow
marks_among depends met = marks_of depends met
