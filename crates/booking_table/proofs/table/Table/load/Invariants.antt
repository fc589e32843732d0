use Rattle.booking_table.specs.Steps.{tells_of}
use Rattle.booking_table.proofs.table.Table.load.Given as goal

-- what the step at hand tells
abbrev pub ghosts-load_as : goal.ghosts-load_as
ghosts-load_as a = record { tells = tells_of a.doing }
