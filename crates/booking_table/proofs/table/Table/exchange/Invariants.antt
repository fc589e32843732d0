use Rattle.booking_table.specs.Steps.{tells_of}
use Rattle.booking_table.proofs.table.Table.exchange.Given as goal

-- what the step at hand tells
abbrev pub ghosts-exchange_as : goal.ghosts-exchange_as
ghosts-exchange_as a = record { tells = tells_of a.doing }
