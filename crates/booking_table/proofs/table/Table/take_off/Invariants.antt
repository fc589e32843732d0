use Rattle.booking_table.specs.Steps.{tells_of}
use Rattle.booking_table.proofs.table.Table.take_off.Given as goal

-- what the step at hand tells
abbrev pub ghosts-take_off_as : goal.ghosts-take_off_as
ghosts-take_off_as a = record { tells = tells_of a.doing }
