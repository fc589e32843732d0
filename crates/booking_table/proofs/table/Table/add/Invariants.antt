use Rattle.booking_table.specs.Steps.{tells_of}
use Rattle.booking_table.proofs.table.Table.add.Given as goal

-- what the step at hand tells
abbrev pub ghosts-add_as : goal.ghosts-add_as
ghosts-add_as a = record { tells = tells_of a.doing }
